-- The tokens of queries and of their parts.
use Rattle.std.specs.Prelude.{List, [], ◌∷◌}
use Rattle.aql_lexer.specs.Kinds as k
use Rattle.aql_syntax.specs.Spellings.{Spelling}
use Rattle.aql_syntax.specs.Parts.{Part, ◌▸◌, Nothing, Nowhere, Token, Symbol, InParens, Keyword, IsName, IsInt, Optional, Each, Separated, Clause}
use Rattle.aql_syntax.specs.Grammar.Expressions.{IsTerm, IsItem}
use Rattle.aql_syntax.specs.Grammar.Extractions.{IsPattern, IsDict, IsBlocks}
use Rattle.aql_syntax.specs.Trees.{Name, Number, Term, Item, Cons, Clauses, Tail, Spec, pattern, dict, blocks, Query, select, extract, union, minus, Queries, no_queries, more_queries, Source, view, nested, Sources, no_sources, more_sources}

module _ (spelling : Spelling) where
  -- conds = expr { "and" expr }
  abbrev pub AreConds : Part → List Term → Part
  AreConds begin conds = Clause begin (Keyword spelling "and") (IsTerm spelling) conds

  -- cons = "consolidate" "on" expr [ "using" Str ]
  abbrev pub IsPolicy : Name → Part
  IsPolicy policy = Keyword spelling "using" ▸ Token (k.str policy.text)

  abbrev pub IsCons : Cons → Part
  IsCons cons =
      Keyword spelling "consolidate" ▸ Keyword spelling "on" ▸ IsTerm spelling cons.target ▸ Optional IsPolicy cons.policy

  -- "limit" Int
  abbrev pub IsLimit : Number → Part
  IsLimit number = Keyword spelling "limit" ▸ IsInt number

  -- "group" "by" expr { "," expr }, and the same of "order"
  abbrev pub AreKeys : Part → List Term → Part
  AreKeys keyword keys = Clause (keyword ▸ Keyword spelling "by") (Symbol ",") (IsTerm spelling) keys

  -- [ "where" conds ] [ cons ] [ "group" "by" expr { "," expr } ] [ "order" "by" expr { "," expr } ]
  -- [ "limit" Int ]
  abbrev pub AreClauses : Clauses → Part
  AreClauses clauses =
      AreConds (Keyword spelling "where") clauses.conds ▸ Optional IsCons clauses.cons ▸
      AreKeys (Keyword spelling "group") clauses.group ▸ AreKeys (Keyword spelling "order") clauses.order ▸
      Optional IsLimit clauses.limit

  -- tail = [ "having" conds ] [ cons ] [ "limit" Int ]
  abbrev pub IsTail : Tail → Part
  IsTail tail =
      AreConds (Keyword spelling "having") tail.conds ▸ Optional IsCons tail.cons ▸ Optional IsLimit tail.limit

  -- { item "," }
  abbrev pub AreItemsBefore : List Item → Part
  AreItemsBefore items = Each (λ item. IsItem spelling item ▸ Symbol ",") items

  -- { item "," } ( regex | dict ) | blocks
  abbrev pub IsExtracted : List Item → Spec → Part
  IsExtracted items (pattern text bound alias name groups) =
      AreItemsBefore items ▸ IsPattern spelling text bound alias name groups
  IsExtracted items (dict dictionary flag alias name out) =
      AreItemsBefore items ▸ IsDict spelling dictionary flag alias name out
  IsExtracted [] (blocks count gap tokens alias name out) = IsBlocks spelling count gap tokens alias name out
  IsExtracted (item ∷ items) (blocks count gap tokens alias name out) = Nowhere

  -- query = select | extract
  --       | "(" query ")" "union" "all" "(" query ")" { "union" "all" "(" query ")" }
  --       | "(" query ")" "minus" "(" query ")"
  -- select = "select" item { "," item } "from" source { "," source } and the clauses above
  -- extract = "extract" { item "," } ( regex | dict ) "from" source tail
  --         | "extract" blocks "from" source tail
  abbrev mutual
    pub IsQuery : Query → Part
    IsQuery (select at items sources clauses) =
        Keyword spelling "select" ▸ Separated (Symbol ",") (IsItem spelling) items ▸
        Keyword spelling "from" ▸ AreSources sources ▸ AreClauses clauses
    IsQuery (extract at items spec source tail) =
        Keyword spelling "extract" ▸ IsExtracted items spec ▸ Keyword spelling "from" ▸ IsSource source ▸ IsTail tail
    IsQuery (union sides) = AreSides sides
    IsQuery (minus left right) = InParens (IsQuery left) ▸ Keyword spelling "minus" ▸ InParens (IsQuery right)

    -- the sides of a union: two or more
    pub AreSides : Queries → Part
    AreSides no_queries = Nowhere
    AreSides (more_queries side sides) = InParens (IsQuery side) ▸ AreOtherSides sides

    pub AreOtherSides : Queries → Part
    AreOtherSides no_queries = Nowhere
    AreOtherSides (more_queries side sides) =
        Keyword spelling "union" ▸ Keyword spelling "all" ▸ InParens (IsQuery side) ▸ AreLaterSides sides

    pub AreLaterSides : Queries → Part
    AreLaterSides no_queries = Nothing
    AreLaterSides (more_queries side sides) =
        Keyword spelling "union" ▸ Keyword spelling "all" ▸ InParens (IsQuery side) ▸ AreLaterSides sides

    -- source = name [ name ] | "(" query ")" name
    pub IsSource : Source → Part
    IsSource (view name alias) = IsName spelling name ▸ Optional (IsName spelling) alias
    IsSource (nested query alias) = InParens (IsQuery query) ▸ IsName spelling alias

    pub AreSources : Sources → Part
    AreSources no_sources = Nowhere
    AreSources (more_sources source sources) = IsSource source ▸ AreLaterSources sources

    pub AreLaterSources : Sources → Part
    AreLaterSources no_sources = Nothing
    AreLaterSources (more_sources source sources) = Symbol "," ▸ IsSource source ▸ AreLaterSources sources
