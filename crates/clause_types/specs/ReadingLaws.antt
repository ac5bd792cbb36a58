-- What an expression stands for reads columns that a look-up gave: numbers of the columns of its scope.
use Rattle.std.proofs.Common.{◌+◌, ◌-◌, ◌<◌, ◌≤◌, ℕ, suc, Bool, true, false, cond, if◌then◌else◌, Option, Some, None, List, [], ◌∷◌, map, length, All, arith}
use Rattle.std.specs.Str.{bytes_eq}
use Rattle.std.proofs.lemmas.List.Elements.{All-nil, All-cons, All-head, All-tail, All-append, All-map, All-take, All-drop}
use Rattle.aql_syntax.specs.Trees.{Name, Term, int, str, regex, column, bare, call, star, Terms, no_terms, more_terms, Item, Cons}
use Rattle.aql_typed.specs.Fitting.{TargetReads}
use Rattle.aql_typed.specs.declared.tree.Column.{Column}
use Rattle.scalar_ops.specs.Expressions as expressed
use Rattle.scalar_ops.specs.Expressions.{columns_of, columns_in, terms, ReadsBelow}
use Rattle.clause_types.specs.declared.function.Aggregate.{Aggregate}
use Rattle.clause_types.specs.declared.function.Function.{Function}
use Rattle.clause_types.specs.declared.function.Function.TheVariants as function
use Rattle.clause_types.specs.Calls.{operands, meant_by_call}
use Rattle.clause_types.specs.Clauses.{terms_of, consolidation_of}
use Rattle.clause_types.specs.Expressions.{typing, typings}
use Rattle.clause_types.specs.Faults.{first}
use Rattle.clause_types.specs.Functions.{function_named, aggregate_named}
use Rattle.clause_types.specs.Items.{output_name, told, item_of_call, item_of_expr, select_item, extract_item}
use Rattle.clause_types.specs.Known.{Known}
use Rattle.clause_types.specs.Scopes.{Visible, Names, no_names, names_of_items, names_of_columns, Scope, column_named, source_named, found_or_unknown, column_in, typing_of_content, item_or_unknown, item_named, typing_of_name}
use Rattle.clause_types.specs.Typings.{Meant, Typing, term_meant, Content, expression, row_count, aggregated, ItemTyping}

-- the number of columns of some sources
abbrev pub row_width : List Visible → ℕ
row_width [] = 0
row_width (source ∷ sources) = length source.columns + row_width sources

module _ (width : ℕ) where
  abbrev pub IsColumn : ℕ → Type 0
  IsColumn n = n < width

  -- what is meant reads columns below a width
  abbrev pub MeantReads : Meant → Type 0
  MeantReads meant = ReadsBelow width (term_meant meant)

  abbrev pub TypingReads : Typing → Type 0
  TypingReads t = MeantReads t.meant

  -- the value of an item, or the argument of its aggregate, does
  abbrev pub ContentReads : Content → Type 0
  ContentReads (expression meant) = MeantReads meant
  ContentReads row_count = Unit {0}
  ContentReads (aggregated a meant) = MeantReads meant

  abbrev pub ItemReads : ItemTyping → Type 0
  ItemReads item = ContentReads item.content

  abbrev pub NamesRead : Names → Type 0
  NamesRead no_names = Unit {0}
  NamesRead (names_of_items items) = All ItemReads items
  NamesRead (names_of_columns columns) = length columns ≤ width

  -- names stand for columns below a width
  pub record ScopeReads (scope : Scope) : Type 0 where
    pub sources : row_width scope.sources ≤ width
    pub names : NamesRead scope.names

  no_column : All IsColumn []
  no_column = All-nil IsColumn

  -- ---- look-ups

  found_reads : (at : ℕ) (name : List ℕ) (start : ℕ) (columns : List Column) → start + length columns ≤ width
      → TypingReads (found_or_unknown at name (column_named name start columns))
  found_reads at name start [] h = no_column
  found_reads at name start (c ∷ columns) h = by (bytes_eq c.name name) (found_reads at name (suc start) columns (omega (arith, h)))
    where
      by : (b : Bool) → TypingReads (found_or_unknown at name (column_named name (suc start) columns))
          → TypingReads (found_or_unknown at name (if b then Some (record { number = start; kind = c.kind }) else column_named name (suc start) columns))
      by true later = All-cons IsColumn start [] (omega (arith, h)) no_column
      by false later = later

  pub column_reads : (at : ℕ) (alias name : Name) (start : ℕ) (sources : List Visible) → start + row_width sources ≤ width
      → TypingReads (column_in at alias name (source_named alias.text start sources))
  column_reads at alias name start [] h = no_column
  column_reads at alias name start (s ∷ sources) h =
      by (bytes_eq s.alias alias.text) (column_reads at alias name (start + length s.columns) sources (omega (arith, h)))
    where
      by : (b : Bool) → TypingReads (column_in at alias name (source_named alias.text (start + length s.columns) sources))
          → TypingReads (column_in at alias name (if b then Some (record { start = start; columns = s.columns }) else source_named alias.text (start + length s.columns) sources))
      by true later = found_reads at name.text start s.columns (omega (arith, h))
      by false later = later

  content_reads : (at : ℕ) (item : ItemTyping) (content : Content) → ContentReads content → TypingReads (typing_of_content at item content)
  content_reads at item (expression meant) h = h
  content_reads at item row_count h = no_column
  content_reads at item (aggregated a meant) h = no_column

  item_reads : (at : ℕ) (name : List ℕ) (items : List ItemTyping) → All ItemReads items → TypingReads (item_or_unknown at name (item_named name items))
  item_reads at name [] h = no_column
  item_reads at name (item ∷ items) h = by (bytes_eq item.name.text name) (item_reads at name items (All-tail ItemReads item items h))
    where
      by : (b : Bool) → TypingReads (item_or_unknown at name (item_named name items))
          → TypingReads (item_or_unknown at name (cond b (Some item) (item_named name items)))
      by true later = content_reads at item item.content (All-head ItemReads item items h)
      by false later = later

  name_reads : (names : Names) (at : ℕ) (name : List ℕ) → NamesRead names → TypingReads (typing_of_name names at name)
  name_reads no_names at name h = no_column
  name_reads (names_of_items items) at name h = item_reads at name items h
  name_reads (names_of_columns columns) at name h = found_reads at name 0 columns (omega (arith, h))

  -- ---- calls

  args_read : (args : List expressed.Term) → All (ReadsBelow width) args → All IsColumn (columns_in (terms args))
  args_read [] h = no_column
  args_read (arg ∷ args) h =
      All-append IsColumn (columns_of arg) (columns_in (terms args))
      (All-head (ReadsBelow width) arg args h)
      (args_read args (All-tail (ReadsBelow width) arg args h))

  operands_read : (f : Function) (args : List Typing) → All TypingReads args → All TypingReads (operands f args)
  operands_read function.Follows args h = All-take TypingReads 2 args h
  operands_read function.FollowsTok args h = All-take TypingReads 2 args h
  operands_read function.ContainsRegex args h = All-drop TypingReads 1 args h
  operands_read function.MatchesRegex args h = All-drop TypingReads 1 args h
  operands_read function.ContainsDict args h = All-drop TypingReads (length args - 1) args h
  operands_read function.MatchesDict args h = All-drop TypingReads (length args - 1) args h
  operands_read f args h = h

  call_reads : (known : Known) (f : Option Function) (args : List Typing) → All TypingReads args → MeantReads (meant_by_call known f args)
  call_reads known None args h = no_column
  call_reads known (Some f) args h =
      args_read (map (λ t. term_meant t.meant) (operands f args))
      (All-map (ReadsBelow width) (λ (t : Typing). term_meant t.meant) (operands f args) (operands_read f args h))

  told_reads : (name : Name) (at : ℕ) (a : Aggregate) (args : List Typing) → All TypingReads args → ItemReads (told name at a (first args))
  told_reads name at a [] h = tt
  told_reads name at a (arg ∷ args) h = All-head TypingReads arg args h

  module _ (known : Known) (scope : Scope) (reads : ScopeReads scope) where
    mutual
      -- an expression reads columns of its scope; what has a fault reads none
      pub typing_reads : (t : Term) → TypingReads (typing known scope t)
      typing_reads (int at n) = no_column
      typing_reads (str at text) = no_column
      typing_reads (regex at text) = no_column
      typing_reads (column at alias name) = column_reads at alias name 0 scope.sources (omega (arith, reads.sources))
      typing_reads (bare at name) = name_reads scope.names at name.text reads.names
      typing_reads (call at name args) = call_reads known (function_named name) (typings known scope args) (typings_read args)
      typing_reads (star at name) = no_column

      typings_read : (ts : Terms) → All TypingReads (typings known scope ts)
      typings_read no_terms = All-nil TypingReads
      typings_read (more_terms t ts) = All-cons TypingReads (typing known scope t) (typings known scope ts) (typing_reads t) (typings_read ts)

    -- so do the expressions of a clause
    pub terms_read : (exprs : List Term) → All (ReadsBelow width) (terms_of known scope exprs)
    terms_read [] = All-nil (ReadsBelow width)
    terms_read (t ∷ exprs) =
        All-cons (ReadsBelow width) (term_meant (typing known scope t).meant) (terms_of known scope exprs) (typing_reads t) (terms_read exprs)

    pub target_reads : (cons : Option Cons) → TargetReads width (consolidation_of known scope cons)
    target_reads None = tt
    target_reads (Some cons) = typing_reads cons.target

    call_item_reads : (name : Name) (at : ℕ) (word : List ℕ) (args : List Typing) (whole : Typing) (a : Option Aggregate) → All TypingReads args → TypingReads whole
        → ItemReads (item_of_call known scope name at word args whole a)
    call_item_reads name at word args whole None h own = own
    call_item_reads name at word args whole (Some a) h own = told_reads name at a args h

    expr_item_reads : (name : Name) (t : Term) → ItemReads (item_of_expr known scope name t)
    expr_item_reads name (call at word args) =
        call_item_reads name at word (typings known scope args) (typing known scope (call at word args)) (aggregate_named word) (typings_read args) (typing_reads (call at word args))
    expr_item_reads name (star at word) = tt
    expr_item_reads name t = typing_reads t

    -- and items
    pub select_items_read : (items : List Item) → All ItemReads (map (select_item known scope) items)
    select_items_read [] = All-nil ItemReads
    select_items_read (item ∷ items) =
        All-cons ItemReads (select_item known scope item) (map (select_item known scope) items) (expr_item_reads (output_name item) item.expr) (select_items_read items)

    pub extract_items_read : (items : List Item) → All ItemReads (map (extract_item known scope) items)
    extract_items_read [] = All-nil ItemReads
    extract_items_read (item ∷ items) =
        All-cons ItemReads (extract_item known scope item) (map (extract_item known scope) items) (typing_reads item.expr) (extract_items_read items)
