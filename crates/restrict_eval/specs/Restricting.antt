-- Plans in which a join asks for its right input only where its left one has a row, and looks for the matches of a
-- token-bounded pattern or of a dictionary near its left rows where nobody else needs them.
use Rattle.std.specs.Prelude.{ℕ, ◌≡◌, ◌⊎◌, Bool, true, List, [], ◌∷◌, map, Some, All, Contains, slice_get}
use Rattle.scalar_ops.specs.Expressions.{column}
use Rattle.algebra.specs.declared.node.JoinKind.{JoinKind}
use Rattle.algebra.specs.declared.node.Local.{Local}
use Rattle.algebra.specs.declared.node.Local.TheVariants as sought
use Rattle.algebra.specs.declared.node.Node.{Node}
use Rattle.algebra.specs.declared.node.Node.TheVariants.{Doc, TokenRegex, Dict, DictPart, Project, Cross, SpanJoin}
use Rattle.algebra.specs.Inputs.{left_input, right_input}

-- a join asks for its right input only where its left one has a row
abbrev pub IsConditional : Node → Type 0
IsConditional (Cross left right conditional) = conditional ≡ true
IsConditional (SpanJoin left right kind lc rc conditional) = conditional ≡ true
IsConditional node = Unit {0}

-- every join does
abbrev pub AreConditional : List Node → Type 0
AreConditional nodes = All IsConditional nodes

-- the node reads node i
abbrev pub Reads : Node → ℕ → Type 0
Reads node i = (left_input node ≡ Some i) ⊎ (right_input node ≡ Some i)

module _ (nodes : List Node) where
  -- nodes of outputs are live, and what live nodes read
  pub data IsLive (outputs : List ℕ) : ℕ → Type 0 where
    output : (i : ℕ) → Contains outputs i → IsLive outputs i
    input : (k i : ℕ) (node : Node) → slice_get nodes k ≡ Some node → Reads node i → IsLive outputs k → IsLive outputs i

  -- node t has the matches in node source of what is looked for: of a token-bounded pattern, or of a dictionary that is the only
  -- one of its `Dict` node
  abbrev pub Finds : ℕ → ℕ → Local → Type 0
  Finds t source (sought.TokenRegex low high pattern) = (c : ℕ) × (slice_get nodes t ≡ Some (TokenRegex source c low high pattern (0 ∷ [])))
  Finds t source (sought.Dict d) = (n c : ℕ) × (slice_get nodes t ≡ Some (DictPart n 0)) × (slice_get nodes n ≡ Some (Dict source c (d ∷ [])))

  -- node t has the matches of something in the document: columns of the document's span and of the match
  pub record HasFound (t : ℕ) : Type 0 where
    pub source : ℕ
    pub part : Local
    pub finds : Finds t source part
    pub document : slice_get nodes source ≡ Some Doc

  -- column rc of node r is the match of node t: r is t, or plain columns of it
  abbrev pub ShowsMatch : ℕ → ℕ → ℕ → Type 0
  ShowsMatch t r rc =
      ((r ≡ t) × (rc ≡ 1)) ⊎ ((columns : List ℕ) × (slice_get nodes r ≡ Some (Project t (map column columns))) × (slice_get columns rc ≡ Some 1))

  -- column rc of node r, the right input of join j, is such a match, and nobody but the join needs it: no output shows r or t,
  -- and no live node but j and r reads one of them
  pub record IsRestrictable (outputs : List ℕ) (j r rc : ℕ) : Type 0 where
    pub t : ℕ
    pub found : HasFound t
    pub match : ShowsMatch t r rc
    pub unshown : (Contains outputs r → ⊥) × (Contains outputs t → ⊥)
    pub alone : (k : ℕ) (node : Node) → slice_get nodes k ≡ Some node → IsLive outputs k → Reads node r ⊎ Reads node t → (k ≡ j) ⊎ (k ≡ r)

  -- no live join has a right input that only it needs and that can be looked for near its left rows
  abbrev pub AreRestricted : List ℕ → Type 0
  AreRestricted outputs =
      (j left right lc rc : ℕ) (kind : JoinKind) (conditional : Bool) → slice_get nodes j ≡ Some (SpanJoin left right kind lc rc conditional) → IsLive outputs j
      → IsRestrictable outputs j right rc → ⊥
