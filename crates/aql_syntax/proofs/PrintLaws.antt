-- What is written for each line of the grammar is tokens of it.
use Rattle.std.proofs.Common.{◌≡◌, ℕ, Bool, true, false, List, [], ◌∷◌, ◌++◌, Option, Some, None, ◌+◌, refl, codes, append_assoc}
use Rattle.std.proofs.lemmas.List.{append-nil}
use Prim.Native.String.{String}
use Rattle.std.specs.Str.{byte}
use Rattle.aql_lexer.specs.Kinds.{Kind}
use Rattle.aql_lexer.specs.Kinds as k
use Rattle.aql_syntax.specs.Spellings.{free, plain, is_word}
use Rattle.aql_syntax.specs.Parts.{Part, ◌▸◌, Symbol, InParens, Keyword, IsInt, IsName, Clause}
use Rattle.aql_syntax.specs.Grammar.Expressions.{IsColumn, IsTerm, AreArgs, AreLaterArgs, IsNamed, IsItem}
use Rattle.aql_syntax.specs.Grammar.Extractions.{IsRange, IsBound, IsOutput, IsNumbered, AreNumbered, IsOnlyGroup, AreGroups, IsPattern, flag_text, IsFlag, IsDict, unit_of, IsBlocks}
use Rattle.aql_syntax.specs.Grammar.Queries.{IsPolicy, IsCons, IsLimit, AreKeys, AreClauses, IsTail, IsExtracted, IsQuery, AreSides, AreOtherSides, AreLaterSides, IsSource, AreSources, AreLaterSources}
use Rattle.aql_syntax.specs.Grammar.Statements.{IsText, IsStatement}
use Rattle.aql_syntax.specs.Trees.{Name, Number, Term, int, str, regex, column, bare, call, star, Terms, no_terms, more_terms, Item, Cons, Clauses, Tail, Range, one, two, Group, Flag, Spec, pattern, dict, blocks, Query, select, extract, union, minus, Queries, no_queries, more_queries, Source, view, nested, Sources, no_sources, more_sources, Statement, module_, require, export, dictionary, create, output}
use Rattle.aql_syntax.specs.Printing.{CanBePrinted, IsPrinted}
use Rattle.aql_syntax.specs.Printed.{word, sign, comma, printed_name, union_all, printed_column, printed_each, printed_term, printed_args, printed_output, printed_item, printed_item_before, printed_range, printed_bound, printed_numbered, printed_groups, printed_flag, printed_on, printed_spec, printed_policy, printed_cons, printed_limit, printed_clause, printed_keys, printed_clauses, printed_tail, printed_query, printed_sides, printed_source, printed_sources, printed_alias, printed_text, printed_statement}
use Rattle.aql_syntax.proofs.Prints.{Prints, prints_nothing, prints_nowhere, prints_token, prints_then, prints_keyword, prints_name, prints_dictionary, prints_either, prints_optional, prints_each, prints_separated, prints_clause, printed_later}

prints_symbol : (s : String) → Prints (Symbol s) (Symbol s) (sign s ∷ [])
prints_symbol s = prints_token (k.symbol (byte s))

pub prints_column : (alias name : Name) → Prints (IsColumn free alias name) (IsColumn plain alias name) (printed_column alias name)
prints_column alias name = prints_then (prints_name alias) (prints_then (prints_symbol ".") (prints_name name))

mutual
  pub prints_term : (t : Term) → Prints (IsTerm free t) (IsTerm plain t) (printed_term t)
  prints_term (int at value) = prints_token (k.int value)
  prints_term (str at text) = prints_token (k.str text)
  prints_term (regex at text) = prints_token (k.regex text)
  prints_term (column at alias name) = prints_column alias name
  prints_term (bare at name) = prints_name name
  prints_term (call at name args) =
      prints_then (prints_token (k.word name)) (prints_then (prints_symbol "(") (prints_then (prints_args args) (prints_symbol ")")))
  prints_term (star at name) =
      prints_then (prints_token (k.word name)) (prints_then (prints_symbol "(") (prints_then (prints_symbol "*") (prints_symbol ")")))

  prints_args : (ts : Terms) → Prints (AreArgs free ts) (AreArgs plain ts) (printed_args 0 ts)
  prints_args no_terms = prints_nothing
  prints_args (more_terms t ts) = prints_then (prints_term t) (prints_later_args 0 ts)

  prints_later_args : (i : ℕ) (ts : Terms) → Prints (AreLaterArgs free ts) (AreLaterArgs plain ts) (printed_args (i + 1) ts)
  prints_later_args i no_terms = prints_nothing
  prints_later_args i (more_terms t ts) =
      rw (printed_later i comma)
      (prints_then (prints_symbol ",") (prints_then (prints_term t) (prints_later_args (i + 1) ts)))

pub prints_output : (name : Name) → Prints (Keyword free "as" ▸ IsName free name) (Keyword plain "as" ▸ IsName plain name) (printed_output name)
unfolding is_word
prints_output name = prints_then (prints_keyword "as" refl) (prints_name name)

prints_named : (t : Term) (name : Option Name) → Prints (IsNamed free t name) (IsNamed plain t name) (printed_item (record { expr = t; name = name }))
prints_named t (Some name) = prints_then (prints_term t) (prints_output name)
prints_named (column at alias name) None = prints_column alias name
prints_named (int at value) None = prints_nowhere
prints_named (str at text) None = prints_nowhere
prints_named (regex at text) None = prints_nowhere
prints_named (bare at name) None = prints_nowhere
prints_named (call at name args) None = prints_nowhere
prints_named (star at name) None = prints_nowhere

pub prints_item : (item : Item) → Prints (IsItem free item) (IsItem plain item) (printed_item item)
prints_item item = prints_named item.expr item.name

prints_int : (number : Number) → Prints (IsInt number) (IsInt number) (k.int number.value ∷ [])
prints_int number = prints_token (k.int number.value)

prints_range : (range : Range) → Prints (IsRange free range) (IsRange plain range) (printed_range range)
unfolding is_word
prints_range (one number) = prints_int number
prints_range (two low high) =
    prints_then (prints_keyword "between" refl) (prints_then (prints_int low) (prints_then (prints_keyword "and" refl) (prints_int high)))

prints_bound : (range : Range) → Prints (IsBound free range) (IsBound plain range) (printed_bound range)
unfolding is_word
prints_bound range = prints_then (prints_range range) (prints_then (prints_either "token" "tokens" refl) (prints_keyword "in" refl))

prints_numbered : (number : Option Number) (name : Name) → Prints (IsNumbered free number name) (IsNumbered plain number name) (printed_numbered (record { number = number; name = name }))
unfolding is_word
prints_numbered None name = prints_nowhere
prints_numbered (Some number) name =
    prints_then (prints_keyword "group" refl) (prints_then (prints_int number) (prints_output name))

prints_only_group : (number : Option Number) (name : Name) → Prints (IsOnlyGroup free number name) (IsOnlyGroup plain number name) (printed_groups (record { number = number; name = name } ∷ []))
unfolding is_word
prints_only_group None name = prints_output name
prints_only_group (Some number) name = prints_then (prints_keyword "return" refl) (prints_numbered (Some number) name)

prints_many_groups : (number : Option Number) (name : Name) (other : Group) (groups : List Group) → Prints (AreNumbered free (record { number = number; name = name } ∷ other ∷ groups)) (AreNumbered plain (record { number = number; name = name } ∷ other ∷ groups)) (printed_groups (record { number = number; name = name } ∷ other ∷ groups))
unfolding is_word
prints_many_groups None name other groups = record { prints = λ ks rest h all. absurd h.2.1 }
prints_many_groups (Some number) name other groups =
    prints_then (prints_keyword "return" refl)
    (prints_separated _ _ _ _ _ printed_numbered (prints_keyword "and" refl) (λ group. prints_numbered group.number group.name) (record { number = Some number; name = name } ∷ other ∷ groups))

prints_groups : (groups : List Group) → Prints (AreGroups free groups) (AreGroups plain groups) (printed_groups groups)
prints_groups [] = prints_nowhere
prints_groups (group ∷ []) = prints_only_group group.number group.name
prints_groups (group ∷ other ∷ groups) = prints_many_groups group.number group.name other groups

prints_flag : (flag : Flag) → Prints (IsFlag free flag) (IsFlag plain flag) (printed_flag flag)
unfolding is_word
prints_flag flag = prints_then (prints_keyword "with" refl) (prints_then (prints_keyword "flags" refl) (prints_token (k.str (flag_text flag))))

prints_on : (alias name out : Name) → Prints (Keyword free "on" ▸ IsColumn free alias name ▸ IsOutput free out) (Keyword plain "on" ▸ IsColumn plain alias name ▸ IsOutput plain out) (printed_on alias name out)
unfolding is_word
prints_on alias name out = prints_then (prints_keyword "on" refl) (prints_then (prints_column alias name) (prints_output out))

prints_pattern : (text : Name) (bound : Option Range) (alias name : Name) (groups : List Group) → Prints (IsPattern free text bound alias name groups) (IsPattern plain text bound alias name groups) (printed_spec (pattern text bound alias name groups))
unfolding is_word
prints_pattern text bound alias name groups =
    prints_then (prints_keyword "regex" refl) (prints_then (prints_token (k.regex text.text)) (prints_then (prints_keyword "on" refl)
    (prints_then (prints_optional _ _ printed_bound prints_bound bound) (prints_then (prints_column alias name) (prints_groups groups)))))

prints_dict : (table : Name) (flag : Option Flag) (alias name out : Name) → Prints (IsDict free table flag alias name out) (IsDict plain table flag alias name out) (printed_spec (dict table flag alias name out))
unfolding is_word
prints_dict table flag alias name out =
    prints_then (prints_keyword "dictionary" refl) (prints_then (prints_dictionary table)
    (prints_then (prints_optional _ _ printed_flag prints_flag flag) (prints_on alias name out)))

prints_unit : (tokens : Bool) → Prints (Keyword free (unit_of tokens)) (Keyword plain (unit_of tokens)) (word (unit_of tokens) ∷ [])
unfolding is_word
prints_unit true = prints_keyword "tokens" refl
prints_unit false = prints_keyword "characters" refl

prints_blocks : (count gap : Range) (tokens : Bool) (alias name out : Name) → Prints (IsBlocks free count gap tokens alias name out) (IsBlocks plain count gap tokens alias name out) (printed_spec (blocks count gap tokens alias name out))
unfolding is_word
prints_blocks count gap tokens alias name out =
    let separation = prints_then (prints_keyword "and" refl) (prints_then (prints_keyword "separation" refl) (prints_then (prints_range gap) (prints_then (prints_unit tokens) (prints_on alias name out)))) in
    let blocks = prints_then (prints_keyword "blocks" refl) (prints_then (prints_keyword "with" refl) (prints_then (prints_keyword "count" refl) (prints_then (prints_range count) separation))) in
    rw append_assoc blocks

prints_term_list : (separator : String) → Prints (Keyword free separator) (Keyword plain separator) (word separator ∷ []) → (begin : String) → Prints (Keyword free begin) (Keyword plain begin) (word begin ∷ []) → (ts : List Term) → Prints (Clause (Keyword free begin) (Keyword free separator) (IsTerm free) ts) (Clause (Keyword plain begin) (Keyword plain separator) (IsTerm plain) ts) (printed_clause (word begin ∷ []) (word separator ∷ []) printed_term ts)
prints_term_list separator separates begin begins ts =
    prints_clause _ _ _ _ _ printed_term separates prints_term _ _ _ begins ts

prints_keys : (begin : String) → is_word (codes begin) ≡ true → (keys : List Term) → Prints (AreKeys free (Keyword free begin) keys) (AreKeys plain (Keyword plain begin) keys) (printed_keys begin keys)
unfolding is_word
prints_keys begin begins keys =
    prints_clause _ _ _ _ _ printed_term (prints_symbol ",") prints_term _ _ _ (prints_then (prints_keyword begin begins) (prints_keyword "by" refl)) keys

prints_policy : (policy : Name) → Prints (IsPolicy free policy) (IsPolicy plain policy) (printed_policy policy)
unfolding is_word
prints_policy policy = prints_then (prints_keyword "using" refl) (prints_token (k.str policy.text))

prints_cons : (cons : Cons) → Prints (IsCons free cons) (IsCons plain cons) (printed_cons cons)
unfolding is_word
prints_cons cons =
    prints_then (prints_keyword "consolidate" refl) (prints_then (prints_keyword "on" refl)
    (prints_then (prints_term cons.target) (prints_optional _ _ printed_policy prints_policy cons.policy)))

prints_limit : (limit : Number) → Prints (IsLimit free limit) (IsLimit plain limit) (printed_limit limit)
unfolding is_word
prints_limit limit = prints_then (prints_keyword "limit" refl) (prints_int limit)

prints_clauses : (clauses : Clauses) → Prints (AreClauses free clauses) (AreClauses plain clauses) (printed_clauses clauses)
unfolding is_word
prints_clauses clauses =
    prints_then (prints_term_list "and" (prints_keyword "and" refl) "where" (prints_keyword "where" refl) clauses.conds)
    (prints_then (prints_optional _ _ printed_cons prints_cons clauses.cons)
    (prints_then (prints_keys "group" refl clauses.group) (prints_then (prints_keys "order" refl clauses.order)
    (prints_optional _ _ printed_limit prints_limit clauses.limit))))

prints_tail : (tail : Tail) → Prints (IsTail free tail) (IsTail plain tail) (printed_tail tail)
unfolding is_word
prints_tail tail =
    prints_then (prints_term_list "and" (prints_keyword "and" refl) "having" (prints_keyword "having" refl) tail.conds)
    (prints_then (prints_optional _ _ printed_cons prints_cons tail.cons)
    (prints_optional _ _ printed_limit prints_limit tail.limit))

prints_item_before : (item : Item) → Prints (IsItem free item ▸ Symbol ",") (IsItem plain item ▸ Symbol ",") (printed_item_before item)
prints_item_before item = prints_then (prints_item item) (prints_symbol ",")

prints_extracted : (items : List Item) (spec : Spec) → Prints (IsExtracted free items spec) (IsExtracted plain items spec) (printed_each printed_item_before items ++ printed_spec spec)
prints_extracted items (pattern text bound alias name groups) =
    prints_then (prints_each _ _ printed_item_before prints_item_before items) (prints_pattern text bound alias name groups)
prints_extracted items (dict table flag alias name out) =
    prints_then (prints_each _ _ printed_item_before prints_item_before items) (prints_dict table flag alias name out)
prints_extracted [] (blocks count gap tokens alias name out) = prints_blocks count gap tokens alias name out
prints_extracted (item ∷ items) (blocks count gap tokens alias name out) = prints_nowhere

prints_in_parens : {P P' : Part} {p : List Kind} → Prints P P' p → Prints (InParens P) (InParens P') (sign "(" ∷ (p ++ (sign ")" ∷ [])))
prints_in_parens inner = prints_then (prints_symbol "(") (prints_then inner (prints_symbol ")"))

mutual
  unfolding is_word

  pub prints_query : (q : Query) → Prints (IsQuery free q) (IsQuery plain q) (printed_query q)
  prints_query (select at items sources clauses) =
      prints_then (prints_keyword "select" refl) (prints_then (prints_separated _ _ comma _ _ printed_item (prints_symbol ",") prints_item items)
      (prints_then (prints_keyword "from" refl) (prints_then (prints_sources sources) (prints_clauses clauses))))
  prints_query (extract at items spec source tail) =
      let after = prints_then (prints_keyword "from" refl) (prints_then (prints_source source) (prints_tail tail)) in
      rw append_assoc at (prints_then (prints_keyword "extract" refl) (prints_then (prints_extracted items spec) after))
  prints_query (union sides) = prints_sides sides
  prints_query (minus left right) =
      prints_then (prints_in_parens (prints_query left)) (prints_then (prints_keyword "minus" refl) (prints_in_parens (prints_query right)))

  prints_sides : (qs : Queries) → Prints (AreSides free qs) (AreSides plain qs) (printed_sides 0 qs)
  prints_sides no_queries = prints_nowhere
  prints_sides (more_queries side sides) = prints_then (prints_in_parens (prints_query side)) (prints_other_sides 0 sides)

  prints_other_sides : (i : ℕ) (qs : Queries) → Prints (AreOtherSides free qs) (AreOtherSides plain qs) (printed_sides (i + 1) qs)
  prints_other_sides i no_queries = prints_nowhere
  prints_other_sides i (more_queries side sides) =
      rw (printed_later i union_all)
      (prints_then (prints_keyword "union" refl) (prints_then (prints_keyword "all" refl)
      (prints_then (prints_in_parens (prints_query side)) (prints_later_sides (i + 1) sides))))

  prints_later_sides : (i : ℕ) (qs : Queries) → Prints (AreLaterSides free qs) (AreLaterSides plain qs) (printed_sides (i + 1) qs)
  prints_later_sides i no_queries = prints_nothing
  prints_later_sides i (more_queries side sides) =
      rw (printed_later i union_all)
      (prints_then (prints_keyword "union" refl) (prints_then (prints_keyword "all" refl)
      (prints_then (prints_in_parens (prints_query side)) (prints_later_sides (i + 1) sides))))

  prints_source : (s : Source) → Prints (IsSource free s) (IsSource plain s) (printed_source s)
  prints_source (view name alias) =
      prints_then (prints_name name) (prints_optional _ _ (λ other. printed_name other.text ∷ []) prints_name alias)
  prints_source (nested query alias) = prints_then (prints_in_parens (prints_query query)) (prints_name alias)

  prints_sources : (ss : Sources) → Prints (AreSources free ss) (AreSources plain ss) (printed_sources 0 ss)
  prints_sources no_sources = prints_nowhere
  prints_sources (more_sources source sources) = prints_then (prints_source source) (prints_later_sources 0 sources)

  prints_later_sources : (i : ℕ) (ss : Sources) → Prints (AreLaterSources free ss) (AreLaterSources plain ss) (printed_sources (i + 1) ss)
  prints_later_sources i no_sources = prints_nothing
  prints_later_sources i (more_sources source sources) =
      rw (printed_later i comma)
      (prints_then (prints_symbol ",") (prints_then (prints_source source) (prints_later_sources (i + 1) sources)))

prints_text : (text : List ℕ) → Prints (IsText free text) (IsText plain text) (printed_text text)
prints_text text = prints_token (k.str text)

prints_alias : (text : List ℕ) → Prints (Keyword free "as" ▸ IsText free text) (Keyword plain "as" ▸ IsText plain text) (printed_alias text)
unfolding is_word
prints_alias text = prints_then (prints_keyword "as" refl) (prints_text text)

prints_end : Prints (Symbol ";") (Symbol ";") (sign ";" ∷ [])
prints_end = prints_symbol ";"

pub prints_statement : (s : Statement) → Prints (IsStatement free s) (IsStatement plain s) (printed_statement s)
unfolding is_word
prints_statement (module_ name) = prints_then (prints_keyword "module" refl) (prints_then (prints_name name) prints_end)
prints_statement require =
    prints_then (prints_keyword "require" refl) (prints_then (prints_keyword "document" refl) (prints_then (prints_keyword "with" refl)
    (prints_then (prints_keyword "columns" refl) (prints_then (prints_token (word "text")) (prints_then (prints_token (word "Text")) prints_end)))))
prints_statement (export name) =
    prints_then (prints_keyword "export" refl) (prints_then (prints_keyword "view" refl) (prints_then (prints_name name) prints_end))
prints_statement (dictionary name entries) =
    rw append_assoc at (prints_then (prints_keyword "create" refl) (prints_then (prints_keyword "dictionary" refl) (prints_then (prints_name name)
    (prints_then (prints_keyword "as" refl)
    (prints_then (prints_in_parens (prints_separated _ _ comma _ _ printed_text (prints_symbol ",") prints_text entries)) prints_end)))))
prints_statement (create name query) =
    prints_then (prints_keyword "create" refl) (prints_then (prints_keyword "view" refl) (prints_then (prints_name name)
    (prints_then (prints_keyword "as" refl) (prints_then (prints_query query) prints_end))))
prints_statement (output name alias) =
    prints_then (prints_keyword "output" refl) (prints_then (prints_keyword "view" refl) (prints_then (prints_name name)
    (prints_then (prints_optional _ _ printed_alias prints_alias alias) prints_end)))

-- what is written of a statement is printed, where the statement can be printed
pub is_printed : (s : Statement) → CanBePrinted s → IsPrinted s (printed_statement s)
is_printed s can =
    let printed = (prints_statement s).prints can.kinds [] can.tokens can.standing in
    record {
      tokens = rw append-nil at (printed.freely []);
      plainly = rw append-nil at (printed.plainly []);
      standing = printed.standing;
    }
