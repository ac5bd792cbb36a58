-- A call that is made of a `Vec` is seen through its elements.
use Rattle.std.proofs.Common.{◌≡◌, ◌∙◌, ◌<◌, ◌≤◌, ℕ, List, [], ◌∷◌, Bool, map, length, refl, ap, sym, arith}
use Rattle.std.specs.declared.vec.Vec.{Vec}
use Rattle.std.specs.declared.alloc.Global.{Global}
use mathlib.Core.Former.{Count}
use Rattle.span_token.specs.Documents.{Doc}
use Rattle.row_values.specs.Datums.{Datum}
use Rattle.scalar_ops.specs.declared.op.Op.{Op}
use Rattle.scalar_ops.specs.declared.expr.Expr.{Expr, Row_of-Expr, end_of-Expr, more_of-Expr, items-the_row-Expr, items_hidden-the_row-Expr-0}
use Rattle.scalar_ops.specs.declared.expr.Expr.TheVariants as expr
use Rattle.scalar_ops.specs.Expressions.{Term, call, more, terms, does_read_below}
use Rattle.scalar_ops.specs.Tables.{Lists}
use Rattle.scalar_ops.specs.Values.{applied, value, values, holding}
use Rattle.scalar_ops.specs.ReadingLaws.{does_read_below-terms}
use Rattle.scalar_ops.specs.ValueLaws.{list_all-map as holding-map}
use Rattle.std.proofs.lemmas.List.Folds.{list_all-map}
use Rattle.scalar_ops.specs.Operators.{is_true}
use Rattle.std.specs.List.{list_all}
use Rattle.scalar_ops.specs.Views.{term_of, terms_of}

args_view : (n : Count) (row : Row_of-Expr n) → terms_of row ≡ terms (map term_of (items-the_row-Expr n row))
args_view n end_of-Expr = refl
args_view n (more_of-Expr arg rest) = ap (more (term_of arg)) (args_view _ rest)

abbrev args_of : Expr → (n : Count) × Row_of-Expr n
args_of (expr.Call' op shape row) = (_, row)
args_of _ = (_, end_of-Expr)

-- a call is seen through the list of its arguments
pub call_view : (op : Op) (args : Vec Expr Global) → term_of (expr.Call op args) ≡ call op (terms (map term_of args.items))
call_view op args =
    let row = args_of (expr.Call op args) in
    ap (call op) (args_view row.0 row.1 ∙ ap (λ (xs : List Expr). terms (map term_of xs)) (items_hidden-the_row-Expr-0 args))

-- a call reads below a width where each argument does
pub read_below_call : (width : ℕ) (e : Expr) (op : Op) (args : Vec Expr Global) (found : Bool) → e ≡ expr.Call op args
    → found ≡ list_all (λ e. does_read_below width (term_of e)) args.items → found ≡ does_read_below width (term_of e)
read_below_call width e op args found is by_arguments =
    by_arguments
    ∙ (sym (list_all-map (does_read_below width) term_of args.items)
    ∙ (sym (does_read_below-terms width (map term_of args.items))
    ∙ (ap (does_read_below width) (sym (call_view op args))
    ∙ ap (λ x. does_read_below width (term_of x)) (sym is))))

module _ (lists : Lists) (doc : Doc) (row : List Datum) where
  -- the values of arguments, one by one
  pub values-terms : (exprs : List Expr) → values lists doc row (terms (map term_of exprs)) ≡ map (λ e. value lists doc row (term_of e)) exprs
  values-terms [] = refl
  values-terms (e ∷ es) = ap (λ vs. value lists doc row (term_of e) ∷ vs) (values-terms es)

  -- what a call is worth
  pub value-call : (op : Op) (args : Vec Expr Global) → value lists doc row (term_of (expr.Call op args)) ≡ applied lists doc op (map (λ e. value lists doc row (term_of e)) args.items)
  value-call op args =
      ap (λ (t : Term). value lists doc row t) (call_view op args) ∙ ap (applied lists doc op) (values-terms args.items)

  map_terms : (exprs : List Expr) → map (value lists doc row) (map term_of exprs) ≡ map (λ e. value lists doc row (term_of e)) exprs
  map_terms [] = refl
  map_terms (e ∷ es) = ap (λ vs. value lists doc row (term_of e) ∷ vs) (map_terms es)

  -- what is given for a call, in words of its arguments
  pub found_of_call : (e : Expr) (op : Op) (args : Vec Expr Global) (found : Datum) → e ≡ expr.Call op args
      → found ≡ applied lists doc op (map (λ e. value lists doc row (term_of e)) args.items) → found ≡ value lists doc row (term_of e)
  found_of_call e op args found is by_values =
      by_values ∙ (sym (value-call op args) ∙ sym (ap (λ x. value lists doc row (term_of x)) is))

  -- conditions of the code hold as their terms do
  pub holding_of_exprs : (exprs : List Expr) (found : Bool) → found ≡ list_all is_true (map (λ e. value lists doc row (term_of e)) exprs)
      → found ≡ holding lists doc (map term_of exprs) row
  holding_of_exprs exprs found by_values = by_values ∙ (ap (list_all is_true) (sym (map_terms exprs)) ∙ holding-map lists doc row (map term_of exprs))

-- what holds of no values holds of the values of no arguments
pub few_none : {X Y : Type 0} (P : List Y → Type 0) (f : X → Y) (xs : List X) → length xs < 1 → P [] → P (map f xs)
few_none P f [] short holds = holds
few_none P f (x ∷ xs) short holds = absurd (omega arith)

-- what holds of three values or more holds of those of three arguments or more
pub few_many : {X Y : Type 0} (P : List Y → Type 0) (f : X → Y) (xs : List X) → 3 ≤ length xs
    → ((x y z : Y) (rest : List Y) → P (x ∷ y ∷ z ∷ rest)) → P (map f xs)
few_many P f [] long many = absurd (omega arith)
few_many P f (x ∷ []) long many = absurd (omega arith)
few_many P f (x ∷ y ∷ []) long many = absurd (omega arith)
few_many P f (x ∷ y ∷ z ∷ xs) long many = many (f x) (f y) (f z) (map f xs)
