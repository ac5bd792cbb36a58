-- Kinds of nodes, and what nodes of each kind may read.
use Rattle.std.proofs.Common.{◌≡◌, ℕ, ◌<◌, List, length, get_or, refl, sym, subst}
use Rattle.algebra.specs.declared.node.Node.{Node}
use Rattle.algebra.specs.declared.node.Node.TheVariants.{Doc, Regex, TokenRegex, Dict, DictPart, Blocks, Select, Project, Cross, SpanJoin, Restricted, Union, Minus, Consolidate, Group, OrderLimit}
use Rattle.algebra.specs.declared.shape.Shape.{Shape}
use Rattle.algebra.specs.Inputs.{with_inputs}
use Rattle.algebra.specs.Mapping.{KeepsInputs}
use Rattle.algebra.specs.Nodes.{IsNode}
use Rattle.algebra.specs.Shapes.{shape_by, no_shape, IsOpen, HasDictNumberForm}
use Rattle.share_plan.specs.declared.kind.Kind.{Kind}
use Rattle.share_plan.specs.declared.kind.Kind.TheVariants.{Source, Part, Plain}
use Rattle.share_plan.specs.Kinds.{kind_of}

-- what a node of a kind is
abbrev pub IsOfKind : Kind → Node → Type 0
IsOfKind Source node = (input column : ℕ) × (dicts : List ℕ) × (node ≡ Dict input column dicts)
IsOfKind (Part input number) node = node ≡ DictPart input number
IsOfKind Plain node = Unit {0}

of_kind : (node : Node) → IsOfKind (kind_of node) node
of_kind Doc = tt
of_kind (Regex i c p groups) = tt
of_kind (TokenRegex i c l h p groups) = tt
of_kind (Dict i c dicts) = (i, c, dicts, refl)
of_kind (DictPart i p) = refl
of_kind (Blocks i c l h from upto tokens) = tt
of_kind (Select i conds) = tt
of_kind (Project i items) = tt
of_kind (Cross l r conditional) = tt
of_kind (SpanJoin l r join lc rc conditional) = tt
of_kind (Restricted o s join lc part) = tt
of_kind (Union l r) = tt
of_kind (Minus l r) = tt
of_kind (Consolidate i policy target) = tt
of_kind (Group i keys aggs) = tt
of_kind (OrderLimit i keys limit) = tt

pub is_of_kind : (node : Node) (kind : Kind) → kind_of node ≡ kind → IsOfKind kind node
is_of_kind node kind e = subst (λ (k : Kind). IsOfKind k node) e (of_kind node)

-- with other numbers of inputs it is of the same kind
abbrev pub renamed_kind : (ℕ → ℕ) → Kind → Kind
renamed_kind to (Part input number) = Part (to input) number
renamed_kind to kind = kind

pub kind-renamed : (to : ℕ → ℕ) (node : Node) → kind_of (with_inputs to node) ≡ renamed_kind to (kind_of node)
kind-renamed to Doc = refl
kind-renamed to (Regex i c p groups) = refl
kind-renamed to (TokenRegex i c l h p groups) = refl
kind-renamed to (Dict i c dicts) = refl
kind-renamed to (DictPart i p) = refl
kind-renamed to (Blocks i c l h from upto tokens) = refl
kind-renamed to (Select i conds) = refl
kind-renamed to (Project i items) = refl
kind-renamed to (Cross l r conditional) = refl
kind-renamed to (SpanJoin l r join lc rc conditional) = refl
kind-renamed to (Restricted o s join lc part) = refl
kind-renamed to (Union l r) = refl
kind-renamed to (Minus l r) = refl
kind-renamed to (Consolidate i policy target) = refl
kind-renamed to (Group i keys aggs) = refl
kind-renamed to (OrderLimit i keys limit) = refl

-- only a `Dict` node has numbers of dictionaries
module _ (s t : Shape) (number : ℕ) where
  abbrev IsListed : Node → Type 0
  IsListed node = (input column : ℕ) × (dicts : List ℕ) × (node ≡ Dict input column dicts) × (number < length dicts)

  pub has_numbers : (node : Node) → HasDictNumberForm (shape_by node s t).form number → IsListed node
  has_numbers Doc listed = absurd listed
  has_numbers (Regex i c p groups) listed = absurd listed
  has_numbers (TokenRegex i c l h p groups) listed = absurd listed
  has_numbers (Dict i c dicts) listed = (i, c, dicts, refl, listed)
  has_numbers (DictPart i p) listed = absurd listed
  has_numbers (Blocks i c l h from upto tokens) listed = absurd listed
  has_numbers (Select i conds) listed = absurd listed
  has_numbers (Project i items) listed = absurd listed
  has_numbers (Cross l r conditional) listed = absurd listed
  has_numbers (SpanJoin l r join lc rc conditional) listed = absurd listed
  has_numbers (Restricted o s join lc part) listed = absurd listed
  has_numbers (Union l r) listed = absurd listed
  has_numbers (Minus l r) listed = absurd listed
  has_numbers (Consolidate i policy target) listed = absurd listed
  has_numbers (Group i keys aggs) listed = absurd listed
  has_numbers (OrderLimit i keys limit) listed = absurd listed

-- no kind is another
abbrev IsPlain : Kind → Type 0
IsPlain Plain = Unit {0}
IsPlain kind = ⊥

abbrev IsSource : Kind → Type 0
IsSource Source = Unit {0}
IsSource kind = ⊥

pub plain-source : Plain ≡ Source → ⊥
plain-source e = subst IsPlain e tt

pub plain-part : (i p : ℕ) → Plain ≡ Part i p → ⊥
plain-part i p e = subst IsPlain e tt

pub source-part : (i p : ℕ) → Source ≡ Part i p → ⊥
source-part i p e = subst IsSource e tt

-- any node may read the rows of any other node
pub open_shape : (node : Node) → kind_of node ≡ Plain → (s t : Shape) → IsOpen (shape_by node s t)
open_shape (Dict i c dicts) plain s t = absurd (plain-source (sym plain))
open_shape node plain s t = tt

-- every node but a part reads rows that any node may read
abbrev pub HasOpenInputs : List Shape → Kind → Node → Type 0
HasOpenInputs shapes (Part input number) node = Unit {0}
HasOpenInputs shapes kind node = KeepsInputs (λ i. IsOpen (get_or shapes i no_shape)) node

module _ (shapes : List Shape) where
  open_by : (node : Node) → IsNode shapes node → HasOpenInputs shapes (kind_of node) node
  open_by Doc valid = record { left = tt; right = tt }
  open_by (Regex i c p groups) valid = record { left = valid.made.0; right = tt }
  open_by (TokenRegex i c l h p groups) valid = record { left = valid.made.0; right = tt }
  open_by (Dict i c dicts) valid = record { left = valid.made.0; right = tt }
  open_by (DictPart i p) valid = tt
  open_by (Blocks i c l h from upto tokens) valid = record { left = valid.made.0; right = tt }
  open_by (Select i conds) valid = record { left = valid.made.0; right = tt }
  open_by (Project i items) valid = record { left = valid.made.0; right = tt }
  open_by (Cross l r conditional) valid = record { left = valid.made.0; right = valid.made.1 }
  open_by (SpanJoin l r join lc rc conditional) valid = record { left = valid.made.0; right = valid.made.1 }
  open_by (Restricted o s join lc part) valid =
      record { left = valid.made.0; right = subst (λ (shape : Shape). IsOpen shape) (sym valid.made.1) tt }
  open_by (Union l r) valid = record { left = valid.made.0; right = valid.made.1 }
  open_by (Minus l r) valid = record { left = valid.made.0; right = valid.made.1 }
  open_by (Consolidate i policy target) valid = record { left = valid.made.0; right = tt }
  open_by (Group i keys aggs) valid = record { left = valid.made.0; right = tt }
  open_by (OrderLimit i keys limit) valid = record { left = valid.made.0; right = tt }

  pub open_inputs : (node : Node) (kind : Kind) → kind_of node ≡ kind → IsNode shapes node → HasOpenInputs shapes kind node
  open_inputs node kind e valid = subst (λ (k : Kind). HasOpenInputs shapes k node) e (open_by node valid)
