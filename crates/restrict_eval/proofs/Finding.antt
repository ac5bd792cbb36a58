-- Nodes of different kinds, and the node that has what is found.
use Rattle.std.proofs.Common.{◌≡◌, ◌∙◌, ℕ, List, [], ◌∷◌, refl, sym, ap, Some}
use Rattle.std.specs.Prelude.{slice_get}
use Rattle.std.proofs.lemmas.Option.{same_Some}
use Rattle.algebra.specs.declared.node.Local.{Local}
use Rattle.algebra.specs.declared.node.Local.TheVariants as sought
use Rattle.algebra.specs.declared.node.Node.{Node}
use Rattle.algebra.specs.declared.node.Node.TheVariants.{Doc, TokenRegex, Dict, DictPart, Project, SpanJoin, Restricted}
use Rattle.restrict_eval.specs.Restricting.{Finds, HasFound}

-- what tells a node that may have what is found from others
abbrev pub tag : Node → ℕ
tag Doc = 0
tag (TokenRegex i c low high p groups) = 1
tag (DictPart i number) = 1
tag (Project i items) = 2
tag (SpanJoin l r kind lc rc conditional) = 3
tag (Restricted o s kind lc part) = 4
tag node = 5

-- nodes of two kinds aren't the same
pub apart : (x y : Node) → x ≡ y → (tag x ≡ tag y → ⊥) → ⊥
apart x y same other = other (ap tag same)

-- there is one node at an index
pub one_node : (nodes : List Node) (m k : ℕ) (x y : Node) → m ≡ k → slice_get nodes m ≡ Some x → slice_get nodes k ≡ Some y → x ≡ y
one_node nodes m k x y same at_m at_k = same_Some x y (sym at_m ∙ (ap (slice_get nodes) same ∙ at_k))

-- a `Dict` node of one dictionary on this source
abbrev pub IsDictOn : List Node → ℕ → ℕ → Type 0
IsDictOn nodes source i = (c d : ℕ) × (slice_get nodes i ≡ Some (Dict source c (d ∷ [])))

-- the node that has what is found
pub record IsFinder (nodes : List Node) (t : ℕ) : Type 0 where
  pub node : Node
  pub is : slice_get nodes t ≡ Some node
  pub kind : tag node ≡ 1

finder_by : (nodes : List Node) (t source : ℕ) (part : Local) → Finds nodes t source part → IsFinder nodes t
finder_by nodes t source (sought.TokenRegex low high pattern) finds = record { node = TokenRegex source finds.0 low high pattern (0 ∷ []); is = finds.1; kind = refl }
finder_by nodes t source (sought.Dict d) finds = record { node = DictPart finds.0 0; is = finds.2; kind = refl }

pub finder : (nodes : List Node) (t : ℕ) → HasFound nodes t → IsFinder nodes t
finder nodes t found = finder_by nodes t found.source found.part found.finds

-- it is of no other kind
pub finds_other : (nodes : List Node) (t m : ℕ) (x : Node) → HasFound nodes t → t ≡ m → slice_get nodes m ≡ Some x → (tag x ≡ 1 → ⊥) → ⊥
finds_other nodes t m x found same at other =
    let f = finder nodes t found in
    other (sym (ap tag (one_node nodes t m f.node x same f.is at)) ∙ f.kind)
