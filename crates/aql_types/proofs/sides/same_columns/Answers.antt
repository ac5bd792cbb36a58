use Rattle.std.proofs.Common.{◌≡◌, ◌∙◌, ◌&&◌, Bool, true, false, List, [], ◌∷◌, length, refl, ap, sym, arith}
use Rattle.aql_typed.specs.declared.tree.Column.{Column}
use Rattle.aql_types.specs.Queries.{same_column, same_columns}
use Rattle.aql_types.proofs.sides.same_columns.Goals as goal

and_false : (b : Bool) → (b && false) ≡ false
and_false true = refl
and_false false = refl

not_as_many : (xs ys : List Column) → (length xs ≡ length ys → ⊥) → same_columns xs ys ≡ false
not_as_many [] [] h = absurd (h refl)
not_as_many [] (y ∷ ys) h = refl
not_as_many (x ∷ xs) [] h = refl
not_as_many (x ∷ xs) (y ∷ ys) h =
    ap (λ z. same_column x y && z) (not_as_many xs ys (λ e. h (omega (arith, e)))) ∙ and_false (same_column x y)

pub returns-then-columns-others : goal.returns-then-columns-others
returns-then-columns-others c = sym (not_as_many c.args.columns.now c.args.others.now c.if-columns-others.true)
