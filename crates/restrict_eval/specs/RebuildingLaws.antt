-- Laws of plans whose joins are restricted: what a node of the new plan is.
use Rattle.std.proofs.Common.{◌≡◌, ◌∙◌, ℕ, List, map, get_or, sym, ap, subst, arith, Some}
use Rattle.std.specs.Prelude.{slice_get}
use Rattle.std.proofs.lemmas.Option.{same_Some, slice_get_within, slice_get-get_or}
use Rattle.scalar_ops.specs.Expressions.{column}
use Rattle.algebra.specs.declared.node.Node.{Node}
use Rattle.algebra.specs.declared.node.Node.TheVariants.{Doc, Project}
use Rattle.algebra.specs.Mapping.{new_number}
use Rattle.restrict_eval.specs.Rebuilding.{taken_over, IsNearJoin, IsStood, IsFor, IsRestrictedFrom}
use Rattle.restrict_eval.specs.Rebuilding as words

module _ (old : List Node) (outputs : List ℕ) (new : List Node) (to : List ℕ) (restricted : IsRestrictedFrom old outputs new to) where
  -- node m of the new plan is a node of the old one, taken over, or a join that looks near its left rows, or columns of such
  -- a join
  pub data IsFrom (m : ℕ) (x : Node) : Type 0 where
    taken : (i : ℕ) (y : Node) → slice_get old i ≡ Some y → m ≡ new_number to i → x ≡ taken_over old outputs new to y → IsFrom m x
    near : (j : ℕ) → IsNearJoin old outputs new to j m → IsFrom m x
    shown : (j n : ℕ) (columns : List ℕ) → IsNearJoin old outputs new to j n → x ≡ Project n (map column columns) → IsFrom m x

  from_stood : (m : ℕ) (x : Node) → slice_get new m ≡ Some x → (i : ℕ) (y : Node) → slice_get old i ≡ Some y → m ≡ new_number to i → IsStood old outputs new to i y → IsFrom m x
  from_stood m x is i y is_y same (words.same left stands) = taken i y is_y same (same_Some x (taken_over old outputs new to y) (sym is ∙ (ap (slice_get new) same ∙ stands)))
  from_stood m x is i y is_y same (words.near join) = near i (subst (λ (k : ℕ). IsNearJoin old outputs new to i k) (sym same) join)
  from_stood m x is i y is_y same (words.shown n columns join above stands) =
      shown i n columns join (same_Some x (Project n (map column columns)) (sym is ∙ (ap (slice_get new) same ∙ stands)))

  from_number : (m : ℕ) (x : Node) → slice_get new m ≡ Some x → IsFor old outputs new to m → IsFrom m x
  from_number m x is (words.itself i below same) =
      let there : slice_get old i ≡ Some (get_or old i Doc) = slice_get-get_or old i Doc (omega (arith, below, restricted.mapped.long)) in
      from_stood m x is i (get_or old i Doc) there same (restricted.stood i (get_or old i Doc) there)
  from_number m x is (words.below i columns below join above stands) = near i join

  pub node-from : (m : ℕ) (x : Node) → slice_get new m ≡ Some x → IsFrom m x
  node-from m x is = from_number m x is (restricted.from m (slice_get_within new m x is))
