-- A statement that has the shape of one has tokens: the shape asks no more than the grammar does.
use Rattle.std.proofs.Common.{◌≡◌, ◌⊎◌, inr, ℕ, Bool, List, [], ◌∷◌, ◌++◌, Option, Some, None, All, refl, codes, append_assoc}
use Rattle.std.proofs.lemmas.List.{append-nil}
use Rattle.std.proofs.lemmas.List.Elements.{All-head, All-tail}
use Rattle.std.specs.Str.{byte}
use Prim.Native.String.{String}
use Rattle.aql_lexer.specs.Kinds.{Kind}
use Rattle.aql_lexer.specs.Kinds as k
use Rattle.aql_syntax.specs.Spellings.{free}
use Rattle.aql_syntax.specs.Parts.{Part, ◌▸◌, Nothing, Token, Symbol, InParens, Keyword, IsName, IsDictionaryName, Optional, Each, Separated, Clause}
use Rattle.aql_syntax.specs.Trees.{Name, Number, Term, int, str, regex, column, bare, call, star, Terms, no_terms, more_terms, Item, Cons, Clauses, Tail, Range, one, two, Group, Flag, Spec, pattern, dict, blocks, Query, select, extract, union, minus, Queries, no_queries, more_queries, Source, view, nested, Sources, no_sources, more_sources, Statement, module_, require, export, dictionary, create, output}
use Rattle.aql_syntax.specs.Grammar.Expressions.{IsColumn, IsTerm, AreArgs, AreLaterArgs, IsNamed, IsItem}
use Rattle.aql_syntax.specs.Grammar.Extractions.{IsRange, IsBound, IsOutput, IsNumbered, IsOnlyGroup, AreGroups, IsPattern, flag_text, IsFlag, IsDict, unit_of, IsBlocks}
use Rattle.aql_syntax.specs.Grammar.Queries.{AreConds, IsPolicy, IsCons, IsLimit, AreKeys, AreClauses, IsTail, AreItemsBefore, IsExtracted, IsQuery, AreSides, AreLaterSides, IsSource, AreSources, AreLaterSources}
use Rattle.aql_syntax.specs.Grammar.Statements.{IsText, IsStatement}
use Rattle.aql_syntax.specs.Lists.{queries_in, sources_in}
use Rattle.aql_syntax.specs.Shapes.{HasOne, HasTwo, HasName, IsFormedItem, IsGiven, HasNumber, AreFormedGroups, IsFormedSpec, IsFormedQuery, AreFormedQueries, IsFormedSource, AreFormedSources, IsFormed}
use Rattle.aql_syntax.proofs.Prints.{same_word_refl}

-- the part has tokens
record Has (P : Part) : Type 0 where
  kinds : List Kind
  tokens : (rest : List Kind) → P (kinds ++ rest) rest

has_nothing : Has Nothing
has_nothing = record { kinds = []; tokens = λ rest. refl }

has_token : (kind : Kind) → Has (Token kind)
has_token kind = record { kinds = kind ∷ []; tokens = λ rest. refl }

has_symbol : (s : String) → Has (Symbol s)
has_symbol s = has_token (k.symbol (byte s))

has_then : {P Q : Part} → Has P → Has Q → Has (P ▸ Q)
has_then {P} {Q} p q = record {
  kinds = p.kinds ++ q.kinds;
  tokens = λ rest. rw append_assoc (q.kinds ++ rest, p.tokens (q.kinds ++ rest), q.tokens rest);
}

has_keyword : (w : String) → Has (Keyword free w)
has_keyword w = record { kinds = k.word (codes w) ∷ []; tokens = λ rest. (codes w, refl, same_word_refl (codes w)) }

has_name : (name : Name) → Has (IsName free name)
has_name name = record { kinds = k.name name.text ∷ []; tokens = λ rest. (k.name name.text, refl, (refl, tt)) }

has_dictionary : (name : Name) → Has (IsDictionaryName free name)
has_dictionary name = record { kinds = k.name name.text ∷ []; tokens = λ rest. (k.name name.text, refl, (refl, tt)) }

has_parens : {P : Part} → Has P → Has (InParens P)
has_parens h = has_then (has_symbol "(") (has_then h (has_symbol ")"))

module _ {A : Type 0} (P : A → Part) (each : (x : A) → Has (P x)) where
  has_optional : (o : Option A) → Has (Optional P o)
  has_optional None = has_nothing
  has_optional (Some x) = each x

  has_each : (xs : List A) → Has (Each P xs)
  has_each [] = has_nothing
  has_each (x ∷ xs) = has_then (each x) (has_each xs)

module _ {A : Type 0} (S : Part) (separator : Has S) (P : A → Part) (each : (x : A) → Has (P x)) where
  has_separated : (xs : List A) → HasOne xs → Has (Separated S P xs)
  has_separated [] h = absurd h
  has_separated (x ∷ xs) h = has_then (each x) (has_each (λ y. S ▸ P y) (λ y. has_then separator (each y)) xs)

  has_clause : (B : Part) → Has B → (xs : List A) → Has (Clause B S P xs)
  has_clause B begin [] = has_nothing
  has_clause B begin (x ∷ xs) = has_then begin (has_separated (x ∷ xs) tt)

has_column : (alias name : Name) → Has (IsColumn free alias name)
has_column alias name = has_then (has_name alias) (has_then (has_symbol ".") (has_name name))

mutual
  has_term : (t : Term) → Has (IsTerm free t)
  has_term (int at value) = has_token (k.int value)
  has_term (str at text) = has_token (k.str text)
  has_term (regex at text) = has_token (k.regex text)
  has_term (column at alias name) = has_column alias name
  has_term (bare at name) = has_name name
  has_term (call at word args) = has_then (has_token (k.word word)) (has_then (has_symbol "(") (has_then (has_args args) (has_symbol ")")))
  has_term (star at word) = has_then (has_token (k.word word)) (has_then (has_symbol "(") (has_then (has_symbol "*") (has_symbol ")")))

  has_args : (ts : Terms) → Has (AreArgs free ts)
  has_args no_terms = has_nothing
  has_args (more_terms t ts) = has_then (has_term t) (has_later_args ts)

  has_later_args : (ts : Terms) → Has (AreLaterArgs free ts)
  has_later_args no_terms = has_nothing
  has_later_args (more_terms t ts) = has_then (has_symbol ",") (has_then (has_term t) (has_later_args ts))

has_output : (name : Name) → Has (IsOutput free name)
has_output name = has_then (has_keyword "as") (has_name name)

has_named : (expr : Term) (name : Option Name) → HasName name expr → Has (IsNamed free expr name)
has_named expr (Some name) h = has_then (has_term expr) (has_output name)
has_named (column at alias name) None h = has_column alias name
has_named expr None h = absurd h

has_item : (item : Item) → IsFormedItem item → Has (IsItem free item)
has_item item h = has_named item.expr item.name h

has_later_items : (items : List Item) → All IsFormedItem items → Has (Each (λ item. Symbol "," ▸ IsItem free item) items)
has_later_items [] h = has_nothing
has_later_items (item ∷ items) h =
    has_then (has_then (has_symbol ",") (has_item item (All-head IsFormedItem item items h))) (has_later_items items (All-tail IsFormedItem item items h))

has_items : (items : List Item) → HasOne items → All IsFormedItem items → Has (Separated (Symbol ",") (IsItem free) items)
has_items [] some h = absurd some
has_items (item ∷ items) some h = has_then (has_item item (All-head IsFormedItem item items h)) (has_later_items items (All-tail IsFormedItem item items h))

has_items_before : (items : List Item) → All IsFormedItem items → Has (AreItemsBefore free items)
has_items_before [] h = has_nothing
has_items_before (item ∷ items) h =
    has_then (has_then (has_item item (All-head IsFormedItem item items h)) (has_symbol ",")) (has_items_before items (All-tail IsFormedItem item items h))

has_int : (number : Number) → Has (Token (k.int number.value))
has_int number = has_token (k.int number.value)

has_range : (range : Range) → Has (IsRange free range)
has_range (one number) = has_int number
has_range (two low high) = has_then (has_keyword "between") (has_then (has_int low) (has_then (has_keyword "and") (has_int high)))

has_count_word : Has (λ ks rest. (Keyword free "token" ks rest) ⊎ (Keyword free "tokens" ks rest))
has_count_word = let word = has_keyword "tokens" in record { kinds = word.kinds; tokens = λ rest. inr (word.tokens rest) }

has_bound : (range : Range) → Has (IsBound free range)
has_bound range = has_then (has_range range) (has_then has_count_word (has_keyword "in"))

has_numbered : (number : Option Number) (name : Name) → IsGiven number → Has (IsNumbered free number name)
has_numbered None name h = absurd h
has_numbered (Some number) name h = has_then (has_keyword "group") (has_then (has_int number) (has_output name))

has_only_group : (number : Option Number) (name : Name) → Has (IsOnlyGroup free number name)
has_only_group None name = has_output name
has_only_group (Some number) name = has_then (has_keyword "return") (has_numbered (Some number) name tt)

has_later_numbered : (groups : List Group) → All HasNumber groups → Has (Each (λ group. Keyword free "and" ▸ IsNumbered free group.number group.name) groups)
has_later_numbered [] h = has_nothing
has_later_numbered (group ∷ groups) h =
    has_then (has_then (has_keyword "and") (has_numbered group.number group.name (All-head HasNumber group groups h)))
    (has_later_numbered groups (All-tail HasNumber group groups h))

has_groups : (groups : List Group) → AreFormedGroups groups → Has (AreGroups free groups)
has_groups [] h = absurd h
has_groups (group ∷ []) h = has_only_group group.number group.name
has_groups (group ∷ other ∷ groups) h =
    has_then (has_keyword "return")
    (has_then (has_numbered group.number group.name (All-head HasNumber group (other ∷ groups) h))
    (has_later_numbered (other ∷ groups) (All-tail HasNumber group (other ∷ groups) h)))

has_flag : (flag : Flag) → Has (IsFlag free flag)
has_flag flag = has_then (has_keyword "with") (has_then (has_keyword "flags") (has_token (k.str (flag_text flag))))

has_pattern : (text : Name) (bound : Option Range) (alias name : Name) (groups : List Group) → AreFormedGroups groups → Has (IsPattern free text bound alias name groups)
has_pattern text bound alias name groups h =
    has_then (has_keyword "regex") (has_then (has_token (k.regex text.text)) (has_then (has_keyword "on")
    (has_then (has_optional (IsBound free) has_bound bound) (has_then (has_column alias name) (has_groups groups h)))))

has_dict : (table : Name) (flag : Option Flag) (alias name out : Name) → Has (IsDict free table flag alias name out)
has_dict table flag alias name out =
    has_then (has_keyword "dictionary") (has_then (has_dictionary table) (has_then (has_optional (IsFlag free) has_flag flag)
    (has_then (has_keyword "on") (has_then (has_column alias name) (has_output out)))))

has_blocks : (count gap : Range) (tokens : Bool) (alias name out : Name) → Has (IsBlocks free count gap tokens alias name out)
has_blocks count gap tokens alias name out =
    has_then (has_keyword "blocks") (has_then (has_keyword "with") (has_then (has_keyword "count") (has_then (has_range count)
    (has_then (has_keyword "and") (has_then (has_keyword "separation") (has_then (has_range gap) (has_then (has_keyword (unit_of tokens))
    (has_then (has_keyword "on") (has_then (has_column alias name) (has_output out))))))))))

has_extracted : (items : List Item) (spec : Spec) → All IsFormedItem items → IsFormedSpec items spec → Has (IsExtracted free items spec)
has_extracted items (pattern text bound alias name groups) h formed = has_then (has_items_before items h) (has_pattern text bound alias name groups formed)
has_extracted items (dict table flag alias name out) h formed = has_then (has_items_before items h) (has_dict table flag alias name out)
has_extracted [] (blocks count gap tokens alias name out) h formed = has_blocks count gap tokens alias name out
has_extracted (item ∷ items) (blocks count gap tokens alias name out) h formed = absurd (some item items formed)
  where
    some : (item : Item) (items : List Item) → item ∷ items ≡ [] → ⊥
    some item items e = cc

has_conds : (w : String) (conds : List Term) → Has (AreConds free (Keyword free w) conds)
has_conds w conds = has_clause (Keyword free "and") (has_keyword "and") (IsTerm free) has_term (Keyword free w) (has_keyword w) conds

has_keys : (w : String) (keys : List Term) → Has (AreKeys free (Keyword free w) keys)
has_keys w keys = has_clause (Symbol ",") (has_symbol ",") (IsTerm free) has_term (Keyword free w ▸ Keyword free "by") (has_then (has_keyword w) (has_keyword "by")) keys

has_policy : (policy : Name) → Has (IsPolicy free policy)
has_policy policy = has_then (has_keyword "using") (has_token (k.str policy.text))

has_cons : (cons : Cons) → Has (IsCons free cons)
has_cons cons =
    has_then (has_keyword "consolidate") (has_then (has_keyword "on") (has_then (has_term cons.target) (has_optional (IsPolicy free) has_policy cons.policy)))

has_limit : (number : Number) → Has (IsLimit free number)
has_limit number = has_then (has_keyword "limit") (has_int number)

has_clauses : (clauses : Clauses) → Has (AreClauses free clauses)
has_clauses clauses =
    has_then (has_conds "where" clauses.conds) (has_then (has_optional (IsCons free) has_cons clauses.cons)
    (has_then (has_keys "group" clauses.group) (has_then (has_keys "order" clauses.order)
    (has_optional (IsLimit free) has_limit clauses.limit))))

has_tail : (tail : Tail) → Has (IsTail free tail)
has_tail tail =
    has_then (has_conds "having" tail.conds) (has_then (has_optional (IsCons free) has_cons tail.cons)
    (has_optional (IsLimit free) has_limit tail.limit))

mutual
  has_query : (q : Query) → IsFormedQuery q → Has (IsQuery free q)
  has_query (select at items sources clauses) h =
      has_then (has_keyword "select") (has_then (has_items items h.0 h.1) (has_then (has_keyword "from")
      (has_then (has_sources sources h.2 h.3) (has_clauses clauses))))
  has_query (extract at items spec source tail) h =
      has_then (has_keyword "extract") (has_then (has_extracted items spec h.0 h.1) (has_then (has_keyword "from")
      (has_then (has_source source h.2) (has_tail tail))))
  has_query (union sides) h = has_sides sides h.0 h.1
  has_query (minus left right) h =
      has_then (has_parens (has_query left h.0)) (has_then (has_keyword "minus") (has_parens (has_query right h.1)))

  has_sides : (qs : Queries) → HasTwo (queries_in qs) → AreFormedQueries qs → Has (AreSides free qs)
  has_sides no_queries several h = absurd several
  has_sides (more_queries q no_queries) several h = absurd several
  has_sides (more_queries q (more_queries r qs)) several h =
      has_then (has_parens (has_query q h.0)) (has_then (has_keyword "union") (has_then (has_keyword "all")
      (has_then (has_parens (has_query r h.1.0)) (has_later_sides qs h.1.1))))

  has_later_sides : (qs : Queries) → AreFormedQueries qs → Has (AreLaterSides free qs)
  has_later_sides no_queries h = has_nothing
  has_later_sides (more_queries q qs) h =
      has_then (has_keyword "union") (has_then (has_keyword "all") (has_then (has_parens (has_query q h.0)) (has_later_sides qs h.1)))

  has_source : (source : Source) → IsFormedSource source → Has (IsSource free source)
  has_source (view name alias) h = has_then (has_name name) (has_optional (IsName free) has_name alias)
  has_source (nested query alias) h = has_then (has_parens (has_query query h)) (has_name alias)

  has_sources : (ss : Sources) → HasOne (sources_in ss) → AreFormedSources ss → Has (AreSources free ss)
  has_sources no_sources some h = absurd some
  has_sources (more_sources source ss) some h = has_then (has_source source h.0) (has_later_sources ss h.1)

  has_later_sources : (ss : Sources) → AreFormedSources ss → Has (AreLaterSources free ss)
  has_later_sources no_sources h = has_nothing
  has_later_sources (more_sources source ss) h = has_then (has_symbol ",") (has_then (has_source source h.0) (has_later_sources ss h.1))

has_text : (text : List ℕ) → Has (IsText free text)
has_text text = has_token (k.str text)

has_statement : (s : Statement) → IsFormed s → Has (IsStatement free s)
has_statement (module_ name) h = has_then (has_keyword "module") (has_then (has_name name) (has_symbol ";"))
has_statement require h =
    has_then (has_keyword "require") (has_then (has_keyword "document") (has_then (has_keyword "with") (has_then (has_keyword "columns")
    (has_then (has_token (k.word (codes "text"))) (has_then (has_token (k.word (codes "Text"))) (has_symbol ";"))))))
has_statement (export name) h = has_then (has_keyword "export") (has_then (has_keyword "view") (has_then (has_name name) (has_symbol ";")))
has_statement (dictionary name entries) h =
    has_then (has_keyword "create") (has_then (has_keyword "dictionary") (has_then (has_name name) (has_then (has_keyword "as")
    (has_then (has_parens (has_separated (Symbol ",") (has_symbol ",") (IsText free) has_text entries h)) (has_symbol ";")))))
has_statement (create name query) h =
    has_then (has_keyword "create") (has_then (has_keyword "view") (has_then (has_name name) (has_then (has_keyword "as")
    (has_then (has_query query h) (has_symbol ";")))))
has_statement (output name alias) h =
    has_then (has_keyword "output") (has_then (has_keyword "view") (has_then (has_name name)
    (has_then (has_optional (λ text. Keyword free "as" ▸ IsText free text) (λ text. has_then (has_keyword "as") (has_text text)) alias) (has_symbol ";"))))

-- a statement with the shape of one has tokens
pub statement_has_tokens : (s : Statement) → IsFormed s → (kinds : List Kind) × IsStatement free s kinds []
statement_has_tokens s h = let found = has_statement s h in (found.kinds, rw append-nil at (found.tokens []))
