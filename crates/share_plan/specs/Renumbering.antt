-- Plans whose nodes are nodes of another plan, under other numbers.
use Rattle.std.specs.Prelude.{ℕ, ◌≡◌, ◌<◌, ◌⊎◌, Option, Some, List, length, slice_get, slice_index_or, IfSome}
use Rattle.algebra.specs.declared.node.Node.{Node}
use Rattle.algebra.specs.declared.node.Node.TheVariants.{Dict, DictPart}
use Rattle.algebra.specs.Inputs.{left_input, right_input, with_inputs}
use Rattle.algebra.specs.Shapes.{no_shape, shapes_of}

-- a part of a `Dict` node
abbrev pub IsPart : Node → Type 0
IsPart (DictPart input number) = Unit {0}
IsPart node = ⊥

-- neither a `Dict` node nor a part of one
abbrev pub IsPlain : Node → Type 0
IsPlain (Dict input column dicts) = ⊥
IsPlain (DictPart input number) = ⊥
IsPlain node = Unit {0}

-- the second node is the first one, which reads its inputs by their new numbers
pub record IsMoved (to : ℕ → Option ℕ) (before after : Node) : Type 0 where
  pub number : ℕ → ℕ
  pub same : after ≡ with_inputs number before
  pub left : IfSome (left_input before) (λ i. to i ≡ Some (number i))
  pub right : IfSome (right_input before) (λ i. to i ≡ Some (number i))

-- node i of the old plan has the new number `to i`, if any: the new plan has no node of its own, but for `Dict` nodes and
-- their parts
pub record IsRenumbered (old new : List Node) : Type 0 where
  pub to : ℕ → Option ℕ
  pub there : (i n : ℕ) → to i ≡ Some n → i < length old
  pub shaped : (i n : ℕ) → to i ≡ Some n → slice_index_or (shapes_of new) n no_shape ≡ slice_index_or (shapes_of old) i no_shape
  pub moved : (i n : ℕ) (before : Node) → to i ≡ Some n → slice_get old i ≡ Some before
      → (after : Node) × (slice_get new n ≡ Some after) × (IsMoved to before after ⊎ (IsPart before × IsPart after))
  pub from : (n : ℕ) (after : Node) → slice_get new n ≡ Some after → IsPlain after → (i : ℕ) × (to i ≡ Some n)
