-- Which side of a product stands on its left.
use Rattle.std.specs.Prelude.{ℕ, ◌≡◌, ◌⊎◌, Bool, List, [], ◌∷◌, ◌++◌, map, Some, slice_get}
use Rattle.scalar_ops.specs.Expressions.{Term, column}
use Rattle.algebra.specs.declared.node.Node.{Node}
use Rattle.algebra.specs.declared.node.Node.TheVariants.{Doc, TokenRegex, Project, Cross}
use Rattle.algebra.specs.ExtractionLaws.{columns_from}

-- node t has the matches of a token-bounded pattern in the document
pub record HasRuns (nodes : List Node) (t : ℕ) : Type 0 where
  pub source : ℕ
  pub column : ℕ
  pub low : ℕ
  pub high : ℕ
  pub pattern : ℕ
  pub is : slice_get nodes t ≡ Some (TokenRegex source column low high pattern (0 ∷ []))
  pub document : slice_get nodes source ≡ Some Doc

-- node n has them, or plain columns of them
pub record HasMatches (nodes : List Node) (n : ℕ) : Type 0 where
  pub t : ℕ
  pub runs : HasRuns nodes t
  pub shows : (n ≡ t) ⊎ ((columns : List ℕ) × (slice_get nodes n ≡ Some (Project t (map column columns))))

-- no product has them on its left alone
abbrev pub AreTurned : List Node → Type 0
AreTurned nodes = (k left right : ℕ) (conditional : Bool) → slice_get nodes k ≡ Some (Cross left right conditional) → HasMatches nodes left → HasMatches nodes right

-- so many columns behind the first ones, then these
abbrev pub turned_back : ℕ → ℕ → List Term
turned_back width count = columns_from width count ++ columns_from 0 width
