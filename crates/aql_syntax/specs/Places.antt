-- The places of a tree: every `at` is the number of its node's first token.
-- Each function takes the number of a part's first token, and gives the part with its places and
-- the number of the token after it. A part that is left out has no token.
use Rattle.std.specs.Prelude.{ℕ, ◌+◌, List, [], ◌∷◌, Option, Some, None}
use Rattle.aql_syntax.specs.Trees.{Name, Number, Term, int, str, regex, column, bare, call, star, Terms, no_terms, more_terms, Item, Cons, Clauses, Tail, Range, one, two, Group, Flag, Spec, pattern, dict, blocks, Query, select, extract, union, minus, Queries, no_queries, more_queries, Source, view, nested, Sources, no_sources, more_sources, Statement, module_, require, export, dictionary, create, output}

abbrev pub Placing : Type 0 → Type 0
Placing A = ℕ → A → A × ℕ

-- a name, a text or an integer is one token
abbrev pub placed_name : Placing Name
placed_name n name = (record { text = name.text; at = n }, n + 1)

abbrev pub placed_number : Placing Number
placed_number n number = (record { value = number.value; at = n }, n + 1)

abbrev pub placed_optional : {A : Type 0} → Placing A → Placing (Option A)
placed_optional place n None = (None, n)
placed_optional place n (Some x) = let x' = place n x in (Some x'.0, x'.1)

-- one part after another
abbrev pub placed_each : {A : Type 0} → Placing A → Placing (List A)
placed_each place n [] = ([], n)
placed_each place n (x ∷ xs) =
    let x' = place n x in let xs' = placed_each place x'.1 xs in (x'.0 ∷ xs'.0, xs'.1)

-- parts with one token between two
abbrev pub placed_separated : {A : Type 0} → Placing A → Placing (List A)
placed_separated place n [] = ([], n)
placed_separated place n (x ∷ xs) =
    let x' = place n x in let xs' = placed_each (λ m. place (m + 1)) x'.1 xs in (x'.0 ∷ xs'.0, xs'.1)

-- a clause, whose first part has the number `first` where there is one
abbrev pub placed_clause : {A : Type 0} → Placing A → ℕ → Placing (List A)
placed_clause place first n [] = ([], n)
placed_clause place first n (x ∷ xs) = placed_separated place first (x ∷ xs)

abbrev mutual
  pub placed_term : Placing Term
  placed_term n (int at value) = (int n value, n + 1)
  placed_term n (str at text) = (str n text, n + 1)
  placed_term n (regex at text) = (regex n text, n + 1)
  placed_term n (column at alias name) =
      (column n (placed_name n alias).0 (placed_name (n + 1 + 1) name).0, n + 1 + 1 + 1)
  placed_term n (bare at name) = (bare n (placed_name n name).0, n + 1)
  placed_term n (call at word args) =
      let args' = placed_args (n + 1 + 1) args in (call n word args'.0, args'.1 + 1)
  placed_term n (star at word) = (star n word, n + 1 + 1 + 1 + 1)

  pub placed_args : Placing Terms
  placed_args n no_terms = (no_terms, n)
  placed_args n (more_terms arg args) =
      let arg' = placed_term n arg in let args' = placed_later_args arg'.1 args in (more_terms arg'.0 args'.0, args'.1)

  pub placed_later_args : Placing Terms
  placed_later_args n no_terms = (no_terms, n)
  placed_later_args n (more_terms arg args) =
      let arg' = placed_term (n + 1) arg in let args' = placed_later_args arg'.1 args in (more_terms arg'.0 args'.0, args'.1)

-- "as" name
abbrev pub placed_output : Placing Name
placed_output n name = placed_name (n + 1) name

abbrev pub placed_item : Placing Item
placed_item n item =
    let expr' = placed_term n item.expr in
    let name' = placed_optional placed_output expr'.1 item.name in
    (record { expr = expr'.0; name = name'.0 }, name'.1)

abbrev pub placed_range : Placing Range
placed_range n (one number) = (one (placed_number n number).0, n + 1)
placed_range n (two low high) =
    (two (placed_number (n + 1) low).0 (placed_number (n + 1 + 1 + 1) high).0, n + 1 + 1 + 1 + 1)

-- "group" Int "as" name
abbrev pub placed_numbered : Placing Group
placed_numbered n group =
    let number' = placed_optional placed_number (n + 1) group.number in
    (record { number = number'.0; name = (placed_name (number'.1 + 1) group.name).0 }, number'.1 + 1 + 1)

-- "as" name, or "return" and the groups
abbrev pub placed_only_group : ℕ → Option Number → Name → Group × ℕ
placed_only_group n None name = (record { number = None; name = (placed_output n name).0 }, n + 1 + 1)
placed_only_group n (Some number) name = placed_numbered (n + 1) (record { number = Some number; name = name })

abbrev pub placed_groups : Placing (List Group)
placed_groups n [] = ([], n)
placed_groups n (group ∷ []) =
    let group' = placed_only_group n group.number group.name in (group'.0 ∷ [], group'.1)
placed_groups n (group ∷ other ∷ groups) = placed_separated placed_numbered (n + 1) (group ∷ other ∷ groups)

-- range ( "token" | "tokens" ) "in"
abbrev pub placed_bound : Placing Range
placed_bound n range = let range' = placed_range n range in (range'.0, range'.1 + 1 + 1)

-- "with" "flags" flag
abbrev pub after_flag : ℕ → Option Flag → ℕ
after_flag n None = n
after_flag n (Some flag) = n + 1 + 1 + 1

abbrev pub placed_spec : Placing Spec
placed_spec n (pattern text bound alias name groups) =
    let bound' = placed_optional placed_bound (n + 1 + 1 + 1) bound in
    let groups' = placed_groups (bound'.1 + 1 + 1 + 1) groups in (
      pattern (placed_name (n + 1) text).0 bound'.0 (placed_name bound'.1 alias).0
          (placed_name (bound'.1 + 1 + 1) name).0 groups'.0,
      groups'.1,
    )
placed_spec n (dict table flag alias name out) =
    let m = after_flag (n + 1 + 1) flag in (
      dict (placed_name (n + 1) table).0 flag (placed_name (m + 1) alias).0
          (placed_name (m + 1 + 1 + 1) name).0 (placed_output (m + 1 + 1 + 1 + 1) out).0,
      m + 1 + 1 + 1 + 1 + 1 + 1,
    )
placed_spec n (blocks count gap tokens alias name out) =
    let count' = placed_range (n + 1 + 1 + 1) count in
    let gap' = placed_range (count'.1 + 1 + 1) gap in (
      blocks count'.0 gap'.0 tokens (placed_name (gap'.1 + 1 + 1) alias).0
          (placed_name (gap'.1 + 1 + 1 + 1 + 1) name).0 (placed_output (gap'.1 + 1 + 1 + 1 + 1 + 1) out).0,
      gap'.1 + 1 + 1 + 1 + 1 + 1 + 1 + 1,
    )

-- "consolidate" "on" expr [ "using" Str ]
abbrev pub placed_cons : Placing Cons
placed_cons n cons =
    let target' = placed_term (n + 1 + 1) cons.target in
    let policy' = placed_optional placed_output target'.1 cons.policy in
    (record { target = target'.0; policy = policy'.0 }, policy'.1)

-- "limit" Int
abbrev pub placed_limit : Placing Number
placed_limit n number = placed_number (n + 1) number

abbrev pub placed_clauses : Placing Clauses
placed_clauses n clauses =
    let conds' = placed_clause placed_term (n + 1) n clauses.conds in
    let cons' = placed_optional placed_cons conds'.1 clauses.cons in
    let group' = placed_clause placed_term (cons'.1 + 1 + 1) cons'.1 clauses.group in
    let order' = placed_clause placed_term (group'.1 + 1 + 1) group'.1 clauses.order in
    let limit' = placed_optional placed_limit order'.1 clauses.limit in
    (record { conds = conds'.0; cons = cons'.0; group = group'.0; order = order'.0; limit = limit'.0 }, limit'.1)

abbrev pub placed_tail : Placing Tail
placed_tail n tail =
    let conds' = placed_clause placed_term (n + 1) n tail.conds in
    let cons' = placed_optional placed_cons conds'.1 tail.cons in
    let limit' = placed_optional placed_limit cons'.1 tail.limit in
    (record { conds = conds'.0; cons = cons'.0; limit = limit'.0 }, limit'.1)

-- item ","
abbrev pub placed_item_before : Placing Item
placed_item_before n item = let item' = placed_item n item in (item'.0, item'.1 + 1)

abbrev mutual
  pub placed_query : Placing Query
  placed_query n (select at items sources clauses) =
      let items' = placed_separated placed_item (n + 1) items in
      let sources' = placed_sources (items'.1 + 1) sources in
      let clauses' = placed_clauses sources'.1 clauses in
      (select n items'.0 sources'.0 clauses'.0, clauses'.1)
  placed_query n (extract at items spec source tail) =
      let items' = placed_each placed_item_before (n + 1) items in
      let spec' = placed_spec items'.1 spec in
      let source' = placed_source (spec'.1 + 1) source in
      let tail' = placed_tail source'.1 tail in
      (extract n items'.0 spec'.0 source'.0 tail'.0, tail'.1)
  placed_query n (union sides) = let sides' = placed_sides n sides in (union sides'.0, sides'.1)
  placed_query n (minus left right) =
      let left' = placed_query (n + 1) left in
      let right' = placed_query (left'.1 + 1 + 1 + 1) right in
      (minus left'.0 right'.0, right'.1 + 1)

  -- "(" query ")", and then "union" "all" "(" query ")" as often as there are sides left
  pub placed_sides : Placing Queries
  placed_sides n no_queries = (no_queries, n)
  placed_sides n (more_queries side sides) =
      let side' = placed_query (n + 1) side in
      let sides' = placed_later_sides (side'.1 + 1) sides in
      (more_queries side'.0 sides'.0, sides'.1)

  pub placed_later_sides : Placing Queries
  placed_later_sides n no_queries = (no_queries, n)
  placed_later_sides n (more_queries side sides) =
      let side' = placed_query (n + 1 + 1 + 1) side in
      let sides' = placed_later_sides (side'.1 + 1) sides in
      (more_queries side'.0 sides'.0, sides'.1)

  pub placed_source : Placing Source
  placed_source n (view name alias) =
      let alias' = placed_optional placed_name (n + 1) alias in (view (placed_name n name).0 alias'.0, alias'.1)
  placed_source n (nested query alias) =
      let query' = placed_query (n + 1) query in
      (nested query'.0 (placed_name (query'.1 + 1) alias).0, query'.1 + 1 + 1)

  pub placed_sources : Placing Sources
  placed_sources n no_sources = (no_sources, n)
  placed_sources n (more_sources source sources) =
      let source' = placed_source n source in
      let sources' = placed_later_sources source'.1 sources in
      (more_sources source'.0 sources'.0, sources'.1)

  pub placed_later_sources : Placing Sources
  placed_later_sources n no_sources = (no_sources, n)
  placed_later_sources n (more_sources source sources) =
      let source' = placed_source (n + 1) source in
      let sources' = placed_later_sources source'.1 sources in
      (more_sources source'.0 sources'.0, sources'.1)

-- a statement whose first token has this number
abbrev pub placed_statement : ℕ → Statement → Statement
placed_statement n (module_ name) = module_ (placed_name (n + 1) name).0
placed_statement n require = require
placed_statement n (export name) = export (placed_name (n + 1 + 1) name).0
placed_statement n (dictionary name entries) = dictionary (placed_name (n + 1 + 1) name).0 entries
placed_statement n (create name query) =
    create (placed_name (n + 1 + 1) name).0 (placed_query (n + 1 + 1 + 1 + 1) query).0
placed_statement n (output name alias) = output (placed_name (n + 1 + 1) name).0 alias
