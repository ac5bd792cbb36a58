-- A selection over a product, one of whose conditions a join stands for, is a selection by the others over the join.
use Rattle.std.proofs.Common.{◌≡◌, ◌∙◌, ℕ, ◌+◌, ◌<◌, Bool, true, false, cond, ◌&&◌, List, [], ◌∷◌, ◌++◌, map, length, get_or, take, drop, refl, sym, ap}
use Rattle.std.specs.List.{filter}
use Rattle.std.proofs.lemmas.List.{take-append-drop, drop_more, map-append}
use Rattle.std.proofs.lemmas.List.Elements.{filter_agree}
use Rattle.span_token.specs.Documents.{Doc as Document}
use Rattle.row_values.specs.Datums.{Datum}
use Rattle.row_values.specs.Rows.{span_in, product}
use Rattle.span_joins.specs.Joins.{holds, joined_where}
use Rattle.span_joins.specs.JoinLaws.{joined_where-product}
use Rattle.scalar_ops.specs.declared.expr.Expr.{Expr}
use Rattle.scalar_ops.specs.Expressions.{Term}
use Rattle.scalar_ops.specs.Operators.{is_true}
use Rattle.scalar_ops.specs.Tables.{Lists}
use Rattle.scalar_ops.specs.Values.{value, holding}
use Rattle.scalar_ops.specs.Views.{term_of}
use Rattle.aql_typed.specs.Meaning.{Rows, selected}
use Rattle.algebra.specs.Operators.{does_join}
use Rattle.algebra.specs.SelectionLaws.{selected-append}
use Rattle.algebra.specs.WidthLaws.{AreWide}
use Rattle.push_select.specs.declared.join.Join.{Join}
use Rattle.push_select.proofs.JoinViews.{JoinForm, join-left, join-means}

and_later : (a b c : Bool) → (a && (b && c)) ≡ (b && (a && c))
and_later true b c = refl
and_later false true c = refl
and_later false false c = refl

-- no condition holds of all rows
pub filter-all : {X : Type 0} (p : X → Bool) → ((x : X) → p x ≡ true) → (xs : List X) → filter p xs ≡ xs
filter-all p passes [] = refl
filter-all p passes (x ∷ xs) = ap (λ (b : Bool). cond b (x ∷ filter p xs) (filter p xs)) (passes x) ∙ ap (λ rest. x ∷ rest) (filter-all p passes xs)

module _ (lists : Lists) (doc : Document) where
  pub selected-none : (rows : Rows) → selected lists doc [] rows ≡ rows
  selected-none rows = filter-all (holding lists doc []) (λ row. refl) rows

  -- conditions that hold of the same rows select the same
  pub selected-same : (cs ds : List Term) → ((row : List Datum) → holding lists doc cs row ≡ holding lists doc ds row) → (rows : Rows) → selected lists doc cs rows ≡ selected lists doc ds rows
  selected-same cs ds same rows = filter_agree (holding lists doc cs) (holding lists doc ds) same rows

  holding-out : (xs ys : List Term) (c : Term) (row : List Datum) → holding lists doc (xs ++ c ∷ ys) row ≡ holding lists doc (c ∷ (xs ++ ys)) row
  holding-out [] ys c row = refl
  holding-out (x ∷ xs) ys c row =
      ap (λ (b : Bool). is_true (value lists doc row x) && b) (holding-out xs ys c row)
      ∙ and_later (is_true (value lists doc row x)) (is_true (value lists doc row c)) (holding lists doc (xs ++ ys) row)

  -- one of some conditions may be applied before the others
  pub selected-out : (xs ys : List Term) (c : Term) (rows : Rows) → selected lists doc (xs ++ c ∷ ys) rows ≡ selected lists doc (xs ++ ys) (selected lists doc (c ∷ []) rows)
  selected-out xs ys c rows =
      selected-same (xs ++ c ∷ ys) (c ∷ (xs ++ ys)) (λ row. holding-out xs ys c row) rows ∙ selected-append lists doc (c ∷ []) (xs ++ ys) rows

  -- a selection by a condition that a join stands for is that join
  pub selected-join : (width : ℕ) (c : Term) (j : Join) → JoinForm width c j → (left right : Rows) → AreWide width left
      → selected lists doc (c ∷ []) (product left right) ≡ joined_where (does_join doc j.kind) left j.lc right j.rc
  selected-join width c j form left right wide =
      filter_agree (holding lists doc (c ∷ [])) (λ row. holds (does_join doc j.kind) (span_in j.lc row) (span_in (width + j.rc) row))
      (λ row. join-means lists doc width c j form row) (product left right)
      ∙ sym (joined_where-product (does_join doc j.kind) j.lc j.rc width (join-left width c j form) left right wide)

  -- and the others stay above it
  pub selected-joined_out : (width : ℕ) (xs ys : List Term) (c : Term) (j : Join) → JoinForm width c j → (left right : Rows) → AreWide width left
      → selected lists doc (xs ++ c ∷ ys) (product left right) ≡ selected lists doc (xs ++ ys) (joined_where (does_join doc j.kind) left j.lc right j.rc)
  selected-joined_out width xs ys c j form left right wide =
      selected-out xs ys c (product left right) ∙ ap (selected lists doc (xs ++ ys)) (selected-join width c j form left right wide)

-- the condition with a number, and those in front of it and behind it
pub terms_split : (conds : List Expr) (number : ℕ) (cond : Expr) → number < length conds → cond ≡ get_or conds number cond
    → map term_of conds ≡ map term_of (take number conds) ++ term_of cond ∷ map term_of (drop (number + 1) conds)
terms_split conds number cond below at =
    ap (λ (es : List Expr). map term_of es) (sym (take-append-drop number conds)
    ∙ ap (λ (rest : List Expr). take number conds ++ rest) (drop_more conds number cond below ∙ ap (λ (e : Expr). e ∷ drop (number + 1) conds) (sym at)))
    ∙ map-append term_of (take number conds) (cond ∷ drop (number + 1) conds)

pub terms_left : (conds others : List Expr) (number : ℕ) → others ≡ take number conds ++ drop (number + 1) conds
    → map term_of others ≡ map term_of (take number conds) ++ map term_of (drop (number + 1) conds)
terms_left conds others number are = ap (λ (es : List Expr). map term_of es) are ∙ map-append term_of (take number conds) (drop (number + 1) conds)
