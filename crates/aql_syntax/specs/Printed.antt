-- The tokens that `print` writes for each part of a tree. In no public clause.
use Rattle.std.specs.Prelude.{ℕ, ◌+◌, ◌==◌, Bool, if◌then◌else◌, List, [], ◌∷◌, ◌++◌, Option, Some, None, codes}
use Rattle.std.specs.Str.{byte}
use Prim.Native.String.{String}
use Rattle.aql_lexer.specs.Kinds.{Kind}
use Rattle.aql_lexer.specs.Kinds as k
use Rattle.aql_syntax.specs.Spellings.{can_be_word, can_be_name}
use Rattle.aql_syntax.specs.Grammar.Extractions.{flag_text, unit_of}
use Rattle.aql_syntax.specs.Trees.{Name, Number, Term, int, str, regex, column, bare, call, star, Terms, no_terms, more_terms, Item, Cons, Clauses, Tail, Range, one, two, Group, Flag, Spec, pattern, dict, blocks, Query, select, extract, union, minus, Queries, no_queries, more_queries, Source, view, nested, Sources, no_sources, more_sources, Statement, module_, require, export, dictionary, create, output}

abbrev pub word : String → Kind
word keyword = k.word (codes keyword)

abbrev pub sign : String → Kind
sign symbol = k.symbol (byte symbol)

unfoldable pub printed_name : List ℕ → Kind
printed_name text = if can_be_word text then k.word text else k.name text

unfoldable pub printed_dictionary : List ℕ → Kind
printed_dictionary text =
    if can_be_word text then k.word text else (if can_be_name text then k.name text else k.str text)

abbrev pub printed_optional : {A : Type 0} → (A → List Kind) → Option A → List Kind
printed_optional print None = []
printed_optional print (Some x) = print x

abbrev pub printed_each : {A : Type 0} → (A → List Kind) → List A → List Kind
printed_each print [] = []
printed_each print (x ∷ xs) = print x ++ printed_each print xs

-- what stands before the part with the number i
abbrev pub printed_before : ℕ → List Kind → List Kind
printed_before i separator = if i == 0 then [] else separator

-- the parts from the number i on, with the separator before each but part 0
abbrev pub printed_from : {A : Type 0} → ℕ → List Kind → (A → List Kind) → List A → List Kind
printed_from i separator print [] = []
printed_from i separator print (x ∷ xs) =
    printed_before i separator ++ (print x ++ printed_from (i + 1) separator print xs)

abbrev pub printed_separated : {A : Type 0} → List Kind → (A → List Kind) → List A → List Kind
printed_separated separator print xs = printed_from 0 separator print xs

abbrev pub comma : List Kind
comma = sign "," ∷ []

abbrev pub and : List Kind
and = word "and" ∷ []

abbrev pub union_all : List Kind
union_all = word "union" ∷ word "all" ∷ []

abbrev pub printed_clause : {A : Type 0} → List Kind → List Kind → (A → List Kind) → List A → List Kind
printed_clause begin separator print [] = []
printed_clause begin separator print (x ∷ xs) = begin ++ printed_separated separator print (x ∷ xs)

abbrev pub printed_column : Name → Name → List Kind
printed_column alias name = printed_name alias.text ∷ sign "." ∷ printed_name name.text ∷ []

abbrev mutual
  pub printed_term : Term → List Kind
  printed_term (int at value) = k.int value ∷ []
  printed_term (str at text) = k.str text ∷ []
  printed_term (regex at text) = k.regex text ∷ []
  printed_term (column at alias name) = printed_column alias name
  printed_term (bare at name) = printed_name name.text ∷ []
  printed_term (call at word args) = k.word word ∷ sign "(" ∷ (printed_args 0 args ++ (sign ")" ∷ []))
  printed_term (star at word) = k.word word ∷ sign "(" ∷ sign "*" ∷ sign ")" ∷ []

  pub printed_args : ℕ → Terms → List Kind
  printed_args i no_terms = []
  printed_args i (more_terms arg args) = printed_before i comma ++ (printed_term arg ++ printed_args (i + 1) args)

-- a call, with its arguments as a list
abbrev pub printed_call : List ℕ → List Term → List Kind
printed_call name args =
    k.word name ∷ sign "(" ∷ (printed_separated comma printed_term args ++ (sign ")" ∷ []))

abbrev pub printed_output : Name → List Kind
printed_output name = word "as" ∷ printed_name name.text ∷ []

abbrev pub printed_item : Item → List Kind
printed_item item = printed_term item.expr ++ printed_optional printed_output item.name

abbrev pub printed_range : Range → List Kind
printed_range (one number) = k.int number.value ∷ []
printed_range (two low high) = word "between" ∷ k.int low.value ∷ word "and" ∷ k.int high.value ∷ []

abbrev pub printed_bound : Range → List Kind
printed_bound range = printed_range range ++ (word "tokens" ∷ word "in" ∷ [])

abbrev pub printed_number : Number → List Kind
printed_number number = word "group" ∷ k.int number.value ∷ []

abbrev pub printed_numbered : Group → List Kind
printed_numbered group = printed_optional printed_number group.number ++ printed_output group.name

-- "return", where the first group has a number
abbrev pub printed_begin : List Group → List Kind
printed_begin [] = []
printed_begin (group ∷ groups) = printed_optional (λ number. word "return" ∷ []) group.number

abbrev pub printed_groups : List Group → List Kind
printed_groups groups = printed_begin groups ++ printed_separated and printed_numbered groups

abbrev pub printed_flag : Flag → List Kind
printed_flag flag = word "with" ∷ word "flags" ∷ k.str (flag_text flag) ∷ []

abbrev pub printed_separation : Range → Bool → List Kind
printed_separation gap tokens =
    word "and" ∷ word "separation" ∷ (printed_range gap ++ (word (unit_of tokens) ∷ []))

abbrev pub printed_on : Name → Name → Name → List Kind
printed_on alias name out = word "on" ∷ (printed_column alias name ++ printed_output out)

abbrev pub printed_spec : Spec → List Kind
printed_spec (pattern text bound alias name groups) =
    word "regex" ∷ k.regex text.text ∷ word "on" ∷
    (printed_optional printed_bound bound ++ (printed_column alias name ++ printed_groups groups))
printed_spec (dict table flag alias name out) =
    word "dictionary" ∷ printed_dictionary table.text ∷
    (printed_optional printed_flag flag ++ printed_on alias name out)
printed_spec (blocks count gap tokens alias name out) =
    word "blocks" ∷ word "with" ∷ word "count" ∷
    (printed_range count ++ (printed_separation gap tokens ++ printed_on alias name out))

abbrev pub printed_policy : Name → List Kind
printed_policy policy = word "using" ∷ k.str policy.text ∷ []

abbrev pub printed_cons : Cons → List Kind
printed_cons cons =
    word "consolidate" ∷ word "on" ∷ (printed_term cons.target ++ printed_optional printed_policy cons.policy)

abbrev pub printed_limit : Number → List Kind
printed_limit number = word "limit" ∷ k.int number.value ∷ []

abbrev pub printed_conds : String → List Term → List Kind
printed_conds begin conds = printed_clause (word begin ∷ []) and printed_term conds

abbrev pub printed_keys : String → List Term → List Kind
printed_keys begin keys = printed_clause (word begin ∷ word "by" ∷ []) comma printed_term keys

abbrev pub printed_clauses : Clauses → List Kind
printed_clauses clauses =
    printed_conds "where" clauses.conds ++ (printed_optional printed_cons clauses.cons ++
    (printed_keys "group" clauses.group ++ (printed_keys "order" clauses.order ++
    printed_optional printed_limit clauses.limit)))

abbrev pub printed_tail : Tail → List Kind
printed_tail tail =
    printed_conds "having" tail.conds ++ (printed_optional printed_cons tail.cons ++
    printed_optional printed_limit tail.limit)

abbrev pub printed_item_before : Item → List Kind
printed_item_before item = printed_item item ++ (sign "," ∷ [])

abbrev mutual
  pub printed_query : Query → List Kind
  printed_query (select at items sources clauses) =
      word "select" ∷ (printed_separated comma printed_item items ++
      (word "from" ∷ (printed_sources 0 sources ++ printed_clauses clauses)))
  printed_query (extract at items spec source tail) =
      word "extract" ∷ (printed_each printed_item_before items ++ (printed_spec spec ++
      (word "from" ∷ (printed_source source ++ printed_tail tail))))
  printed_query (union sides) = printed_sides 0 sides
  printed_query (minus left right) =
      (sign "(" ∷ (printed_query left ++ (sign ")" ∷ []))) ++ (word "minus" ∷ (sign "(" ∷ (printed_query right ++ (sign ")" ∷ []))))

  pub printed_sides : ℕ → Queries → List Kind
  printed_sides i no_queries = []
  printed_sides i (more_queries side sides) =
      printed_before i union_all ++ ((sign "(" ∷ (printed_query side ++ (sign ")" ∷ []))) ++ printed_sides (i + 1) sides)

  pub printed_source : Source → List Kind
  printed_source (view name alias) =
      printed_name name.text ∷ printed_optional (λ other. printed_name other.text ∷ []) alias
  printed_source (nested query alias) =
      (sign "(" ∷ (printed_query query ++ (sign ")" ∷ []))) ++ (printed_name alias.text ∷ [])

  pub printed_sources : ℕ → Sources → List Kind
  printed_sources i no_sources = []
  printed_sources i (more_sources source sources) =
      printed_before i comma ++ (printed_source source ++ printed_sources (i + 1) sources)

-- the same by lists
abbrev pub printed_select : List Item → List Source → Clauses → List Kind
printed_select items sources clauses =
    word "select" ∷ (printed_separated comma printed_item items ++
    (word "from" ∷ (printed_separated comma printed_source sources ++ printed_clauses clauses)))

abbrev pub printed_extract : List Item → Spec → Source → Tail → List Kind
printed_extract items spec source tail =
    word "extract" ∷ (printed_each printed_item_before items ++ (printed_spec spec ++
    (word "from" ∷ (printed_source source ++ printed_tail tail))))

abbrev pub printed_nested : Query → List Kind
printed_nested query = sign "(" ∷ (printed_query query ++ (sign ")" ∷ []))

abbrev pub printed_union : List Query → List Kind
printed_union sides = printed_separated union_all printed_nested sides

abbrev pub printed_text : List ℕ → List Kind
printed_text text = k.str text ∷ []

-- "create" what name "as"
abbrev pub printed_created : List ℕ → Name → List Kind
printed_created what name = word "create" ∷ k.word what ∷ printed_name name.text ∷ word "as" ∷ []

abbrev pub printed_columns : List Kind
printed_columns = word "columns" ∷ word "text" ∷ word "Text" ∷ sign ";" ∷ []

abbrev pub printed_alias : List ℕ → List Kind
printed_alias alias = word "as" ∷ k.str alias ∷ []

abbrev pub printed_statement : Statement → List Kind
printed_statement (module_ name) = word "module" ∷ printed_name name.text ∷ sign ";" ∷ []
printed_statement require = word "require" ∷ word "document" ∷ word "with" ∷ printed_columns
printed_statement (export name) = word "export" ∷ word "view" ∷ printed_name name.text ∷ sign ";" ∷ []
printed_statement (dictionary name entries) =
    printed_created (codes "dictionary") name ++
    (sign "(" ∷ (printed_separated comma printed_text entries ++ (sign ")" ∷ sign ";" ∷ [])))
printed_statement (create name query) =
    printed_created (codes "view") name ++ (printed_query query ++ (sign ";" ∷ []))
printed_statement (output name alias) =
    word "output" ∷ word "view" ∷ printed_name name.text ∷ (printed_optional printed_alias alias ++ (sign ";" ∷ []))
