-- The tokens at the places of a tree, said without counting: a place is right where the token with that
-- number spells what stands there. Words of the grammar that keep no place aren't looked at.
use Rattle.std.specs.Prelude.{◌≡◌, ℕ, List, Some, All, IfSome, codes, slice_get, ⊤}
use Prim.Native.String.{String}
use Rattle.aql_lexer.specs.Kinds.{Kind}
use Rattle.aql_lexer.specs.Kinds as k
use Rattle.aql_syntax.specs.Spellings.{free, SpellsKeyword, SpellsName, SpellsDictionary}
use Rattle.aql_syntax.specs.Trees.{Name, Number, Term, int, str, regex, column, bare, call, star, Terms, no_terms, more_terms, Item, Cons, Clauses, Tail, Range, one, two, Group, Spec, pattern, dict, blocks, Query, select, extract, union, minus, Queries, no_queries, more_queries, Source, view, nested, Sources, no_sources, more_sources, Statement, module_, require, export, dictionary, create, output}

-- in a program with these tokens
module _ (tokens : List Kind) where
  -- the token with this number, from 0, is that one
  abbrev pub IsAt : ℕ → Kind → Type 0
  IsAt at kind = slice_get tokens at ≡ Some kind

  -- the keyword stands there, in any case
  abbrev pub IsKeywordAt : ℕ → String → Type 0
  IsKeywordAt at keyword = (word : List ℕ) × IsAt at (k.word word) × SpellsKeyword free (codes keyword) word

  -- the token with a name's number spells the name
  abbrev pub IsSpelledName : Name → Type 0
  IsSpelledName name = (kind : Kind) × IsAt name.at kind × SpellsName free name.text kind

  -- the same of a dictionary's name, which a string may spell, of a pattern, and of a policy, which is a string
  abbrev pub IsSpelledDictionary : Name → Type 0
  IsSpelledDictionary name = (kind : Kind) × IsAt name.at kind × SpellsDictionary free name.text kind

  abbrev pub IsSpelledPattern : Name → Type 0
  IsSpelledPattern text = IsAt text.at (k.regex text.text)

  abbrev pub IsSpelledPolicy : Name → Type 0
  IsSpelledPolicy policy = IsAt policy.at (k.str policy.text)

  -- the same of an integer
  abbrev pub IsSpelledNumber : Number → Type 0
  IsSpelledNumber number = IsAt number.at (k.int number.value)

  -- the token with an expression's number is its value, its name, or the word of the call
  abbrev mutual
    pub IsSpelledTerm : Term → Type 0
    IsSpelledTerm (int at value) = IsAt at (k.int value)
    IsSpelledTerm (str at text) = IsAt at (k.str text)
    IsSpelledTerm (regex at text) = IsAt at (k.regex text)
    IsSpelledTerm (column at alias name) = (at ≡ alias.at) × IsSpelledName alias × IsSpelledName name
    IsSpelledTerm (bare at name) = (at ≡ name.at) × IsSpelledName name
    IsSpelledTerm (call at word args) = IsAt at (k.word word) × AreSpelledArgs args
    IsSpelledTerm (star at word) = IsAt at (k.word word)

    pub AreSpelledArgs : Terms → Type 0
    AreSpelledArgs no_terms = ⊤
    AreSpelledArgs (more_terms arg args) = IsSpelledTerm arg × AreSpelledArgs args

  abbrev pub IsSpelledItem : Item → Type 0
  IsSpelledItem item = IsSpelledTerm item.expr × IfSome item.name IsSpelledName

  abbrev pub IsSpelledRange : Range → Type 0
  IsSpelledRange (one number) = IsSpelledNumber number
  IsSpelledRange (two low high) = IsSpelledNumber low × IsSpelledNumber high

  abbrev pub IsSpelledGroup : Group → Type 0
  IsSpelledGroup group = IfSome group.number IsSpelledNumber × IsSpelledName group.name

  abbrev pub IsSpelledSpec : Spec → Type 0
  IsSpelledSpec (pattern text bound alias name groups) =
      IsSpelledPattern text × IfSome bound IsSpelledRange × IsSpelledName alias × IsSpelledName name × All IsSpelledGroup groups
  IsSpelledSpec (dict table flag alias name out) =
      IsSpelledDictionary table × IsSpelledName alias × IsSpelledName name × IsSpelledName out
  IsSpelledSpec (blocks count gap counts_tokens alias name out) =
      IsSpelledRange count × IsSpelledRange gap × IsSpelledName alias × IsSpelledName name × IsSpelledName out

  abbrev pub IsSpelledCons : Cons → Type 0
  IsSpelledCons cons = IsSpelledTerm cons.target × IfSome cons.policy IsSpelledPolicy

  abbrev pub AreSpelledClauses : Clauses → Type 0
  AreSpelledClauses clauses =
      All IsSpelledTerm clauses.conds × IfSome clauses.cons IsSpelledCons × All IsSpelledTerm clauses.group ×
      All IsSpelledTerm clauses.order × IfSome clauses.limit IsSpelledNumber

  abbrev pub IsSpelledTail : Tail → Type 0
  IsSpelledTail tail =
      All IsSpelledTerm tail.conds × IfSome tail.cons IsSpelledCons × IfSome tail.limit IsSpelledNumber

  -- the token with the number of a selection is its `select`, with that of an extraction its `extract`
  abbrev mutual
    pub IsSpelledQuery : Query → Type 0
    IsSpelledQuery (select at items sources clauses) =
        IsKeywordAt at "select" × All IsSpelledItem items × AreSpelledSources sources × AreSpelledClauses clauses
    IsSpelledQuery (extract at items spec source tail) =
        IsKeywordAt at "extract" × All IsSpelledItem items × IsSpelledSpec spec × IsSpelledSource source × IsSpelledTail tail
    IsSpelledQuery (union sides) = AreSpelledSides sides
    IsSpelledQuery (minus left right) = IsSpelledQuery left × IsSpelledQuery right

    pub AreSpelledSides : Queries → Type 0
    AreSpelledSides no_queries = ⊤
    AreSpelledSides (more_queries side sides) = IsSpelledQuery side × AreSpelledSides sides

    pub IsSpelledSource : Source → Type 0
    IsSpelledSource (view name alias) = IsSpelledName name × IfSome alias IsSpelledName
    IsSpelledSource (nested query alias) = IsSpelledQuery query × IsSpelledName alias

    pub AreSpelledSources : Sources → Type 0
    AreSpelledSources no_sources = ⊤
    AreSpelledSources (more_sources source sources) = IsSpelledSource source × AreSpelledSources sources

  -- each name, number, value, call, `select` and `extract` of a statement has the number of the token that spells it
  abbrev pub IsSpelled : Statement → Type 0
  IsSpelled (module_ name) = IsSpelledName name
  IsSpelled require = ⊤
  IsSpelled (export name) = IsSpelledName name
  IsSpelled (dictionary name entries) = IsSpelledName name
  IsSpelled (create name query) = IsSpelledName name × IsSpelledQuery query
  IsSpelled (output name alias) = IsSpelledName name
