-- Who reads the nodes of a plan.
use Rattle.std.specs.Prelude.{ℕ, ◌≡◌, ◌≤◌, ◌↔◌, ◌⊎◌, Bool, true, false, List, [], ◌∷◌, ◌++◌, length, Option, Some, None, Contains, slice_get, slice_index_or, set}
use Rattle.algebra.specs.declared.node.Node.{Node}
use Rattle.restrict_eval.specs.Restricting.{Reads, IsLive}

-- whether an output shows node n
abbrev pub is_shown : List Bool → ℕ → Bool
is_shown shown n = slice_index_or shown n false

-- the readers of node n
abbrev pub readers_in : List (List ℕ) → ℕ → List ℕ
readers_in lists n = slice_index_or lists n []

-- the lists, where a node reads this input
abbrev pub noted : Option ℕ → ℕ → List (List ℕ) → List (List ℕ)
noted None reader lists = lists
noted (Some i) reader lists = set lists i (readers_in lists i ++ reader ∷ [])

-- those are marked that outputs show
abbrev pub AreShown : List ℕ → List Bool → Type 0
AreShown outputs shown = (n : ℕ) → (is_shown shown n ≡ true) ↔ Contains outputs n

-- node k, from this one on, is live and reads node n
pub record IsReader (nodes : List Node) (outputs : List ℕ) (from n k : ℕ) : Type 0 where
  pub node : Node
  pub behind : from ≤ k
  pub is : slice_get nodes k ≡ Some node
  pub reads : Reads node n
  pub live : IsLive nodes outputs k

-- each node from this one on that is live is noted with what it reads
pub record AreReaders (nodes : List Node) (outputs : List ℕ) (from : ℕ) (shown : List Bool) (lists : List (List ℕ)) : Type 0 where
  pub shown_long : length shown ≡ length nodes
  pub lists_long : length lists ≡ length nodes
  pub shown_are : AreShown outputs shown
  pub lists_are : (n k : ℕ) → Contains (readers_in lists n) k ↔ IsReader nodes outputs from n k

-- no output shows node n, and no live node but these two reads it
pub record IsOnly (nodes : List Node) (outputs : List ℕ) (n a b : ℕ) : Type 0 where
  pub unshown : Contains outputs n → ⊥
  pub alone : (k : ℕ) (node : Node) → slice_get nodes k ≡ Some node → IsLive nodes outputs k → Reads node n → (k ≡ a) ⊎ (k ≡ b)
