-- Joins ask for both of their inputs, as they did, when the nodes of a plan get other numbers.
use Rattle.std.proofs.Common.{◌≡◌, ◌∙◌, ℕ, ◌<◌, ◌⊎◌, inl, inr, List, get_or, length, refl, sym, subst, Option, Some}
use Rattle.std.specs.Prelude.{slice_get}
use Rattle.std.proofs.lemmas.Option.{same_Some, slice_get-get_or}
use Rattle.algebra.specs.declared.node.Node.{Node}
use Rattle.algebra.specs.declared.node.Node.TheVariants.{Doc, Dict, DictPart, Cross, SpanJoin, Restricted}
use Rattle.algebra.specs.Inputs.{with_inputs}
use Rattle.push_select.specs.Pushed.{IsUnrestricted, AreUnrestricted}
use Rattle.restrict_eval.specs.Keeping as keeping
use Rattle.share_plan.specs.Renumbering.{IsPart, IsPlain, IsMoved, IsRenumbered}

-- a join with other inputs
asks_moved : (number : ℕ → ℕ) (node : Node) → IsUnrestricted node → IsUnrestricted (with_inputs number node)
asks_moved number (Cross left right conditional) asks = asks
asks_moved number (SpanJoin left right join lc rc conditional) asks = asks
asks_moved number (Restricted outer source join lc sought) asks = asks
asks_moved number node asks = tt

-- a `Dict` node and a part of one are no joins
part_asks : (node : Node) → IsPart node → IsUnrestricted node
part_asks (DictPart input number) part = tt
part_asks node part = absurd part

plain_asks : (node : Node) → (IsPlain node → IsUnrestricted node) → IsUnrestricted node
plain_asks (Dict input column dicts) plain = tt
plain_asks (DictPart input number) plain = tt
plain_asks node plain = plain tt

module _ (old new : List Node) (renumbered : IsRenumbered old new) (all : AreUnrestricted old) where
  asks_after : (before after : Node) → IsMoved renumbered.to before after ⊎ (IsPart before × IsPart after) → IsUnrestricted before → IsUnrestricted after
  asks_after before after (inl moved) asks = subst IsUnrestricted (sym moved.same) (asks_moved moved.number before asks)
  asks_after before after (inr parts) asks = part_asks after parts.1

  asks_at : (n : ℕ) (after : Node) → slice_get new n ≡ Some after → IsPlain after → IsUnrestricted after
  asks_at n after at plain =
      let from = renumbered.from n after at plain in
      let below : from.0 < length old = renumbered.there from.0 n from.1 in
      let moved = renumbered.moved from.0 n (get_or old from.0 Doc) from.1 (slice_get-get_or old from.0 Doc below) in
      subst IsUnrestricted (same_Some moved.0 after (sym moved.1 ∙ at)) (asks_after (get_or old from.0 Doc) moved.0 moved.2 (all from.0 Doc below))

  pub unrestricted-again : AreUnrestricted new
  unrestricted-again n d below = plain_asks (get_or new n d) (asks_at n (get_or new n d) (slice_get-get_or new n d below))

-- so `restrict` makes no two nodes equal
asks_both : (node : Node) → IsUnrestricted node → keeping.IsUnrestricted node
asks_both (Cross left right conditional) asks = asks
asks_both (SpanJoin left right join lc rc conditional) asks = asks
asks_both (Restricted outer source join lc sought) asks = asks
asks_both node asks = tt

pub ask-both : (nodes : List Node) → AreUnrestricted nodes → keeping.AreUnrestricted nodes
ask-both nodes all n d below = asks_both (get_or nodes n d) (all n d below)
