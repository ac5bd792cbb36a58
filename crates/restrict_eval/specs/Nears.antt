-- What is looked for near the left rows of a join, in place of its right input.
use Rattle.std.specs.Prelude.{ℕ, ◌≡◌, ◌<◌, ◌⊎◌, Bool, List, [], ◌∷◌, length, map, Option, Some, None, Contains, slice_get, slice_index_or}
use Rattle.std.specs.Option.{option_map}
use Rattle.scalar_ops.specs.Expressions.{Term, column, number, string, call}
use Rattle.algebra.specs.declared.node.JoinKind.{JoinKind}
use Rattle.algebra.specs.declared.node.Node.{Node}
use Rattle.algebra.specs.declared.node.Node.TheVariants.{Doc, Project, SpanJoin}
use Rattle.restrict_eval.specs.declared.nearness.Near.{Near}
use Rattle.restrict_eval.specs.Restricting.{Reads, IsLive, Finds, IsRestrictable}

-- the numbers of plain columns, where all are
abbrev pub plain_columns : List Term → Option (List ℕ)
plain_columns [] = Some []
plain_columns (column n ∷ terms) = option_map (λ ns. n ∷ ns) (plain_columns terms)
plain_columns (number n ∷ terms) = None
plain_columns (string t ∷ terms) = None
plain_columns (call o args ∷ terms) = None

-- column rc of node r is the match of node t: r is t, or these columns of it
abbrev pub ShowsBy : List Node → ℕ → ℕ → ℕ → Option (List ℕ) → Type 0
ShowsBy nodes t r rc None = (r ≡ t) × (rc ≡ 1)
ShowsBy nodes t r rc (Some columns) = (slice_get nodes r ≡ Some (Project t (map column columns))) × (slice_get columns rc ≡ Some 1)

-- column rc of node r is the match of what can be looked for
pub record IsNear (nodes : List Node) (r rc : ℕ) (near : Near) : Type 0 where
  pub finds : Finds nodes near.base near.source near.sought
  pub document : slice_get nodes near.source ≡ Some Doc
  pub shows : ShowsBy nodes near.base r rc near.columns

-- of node j, a live join, the right input can be looked for, and nobody else needs it
pub record IsRestriction (nodes : List Node) (outputs : List ℕ) (j : ℕ) (near : Near) : Type 0 where
  pub left : ℕ
  pub right : ℕ
  pub kind : JoinKind
  pub lc : ℕ
  pub rc : ℕ
  pub conditional : Bool
  pub is : slice_get nodes j ≡ Some (SpanJoin left right kind lc rc conditional)
  pub is_near : IsNear nodes right rc near
  pub live : IsLive nodes outputs j
  pub unshown : (Contains outputs right → ⊥) × (Contains outputs near.base → ⊥)
  pub alone : (k : ℕ) (node : Node) → slice_get nodes k ≡ Some node → IsLive nodes outputs k → Reads node right ⊎ Reads node near.base → (k ≡ j) ⊎ (k ≡ right)

-- what is looked for in place of the right input of node j, or that it isn't a live join of which that can be
abbrev pub IsFate : List Node → List ℕ → ℕ → Option Near → Type 0
IsFate nodes outputs j (Some near) = IsRestriction nodes outputs j near
IsFate nodes outputs j None =
    (left right lc rc : ℕ) (kind : JoinKind) (conditional : Bool) → slice_get nodes j ≡ Some (SpanJoin left right kind lc rc conditional) → IsLive nodes outputs j
    → IsRestrictable nodes outputs j right rc → ⊥

-- of each node
pub record AreFates (nodes : List Node) (outputs : List ℕ) (found : List (Option Near)) : Type 0 where
  pub long : length found ≡ length nodes
  pub each : (j : ℕ) → j < length nodes → IsFate nodes outputs j (slice_index_or found j None)
