-- The test that `same_term` computes decides whether two expressions are equal but for places.
use Rattle.std.specs.Prelude.{◌≡◌, false, List, length}
use Rattle.std.specs.Bool.{Decides}
use Rattle.aql_syntax.specs.Trees.{Term, as_terms}
use Rattle.aql_syntax.specs.Sameness.{AreSame, is_same, are_same}
use Rattle.aql_syntax.specs.LawProofs.SameTerms as terms

-- it holds exactly of expressions that are equal but for places
pub decides : (a b : Term) → Decides (is_same a b) (AreSame a b)
decides = terms.decides

-- lists of different lengths are not the same
pub not_as_long : (xs ys : List Term) → (length xs ≡ length ys → ⊥) → are_same (as_terms xs) (as_terms ys) ≡ false
not_as_long = terms.not_as_long
