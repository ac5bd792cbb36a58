use Rattle.std.proofs.Common.{rules, ◌≡◌}
use Rattle.std.proofs.lemmas.List.Elements.{All-push}
use Rattle.window_lines.proofs.hands.hands_for.Goals as goal

pub loop-preserved : goal.loop-preserved
loop-preserved c = (
  search rules,
  rw c.in_ok-push.ensures.items (All-push (λ hand. hand.value.tools ≡ c.args.tables.now) c.loop.hands.items _ c.loop.invariant.1 c.in_ok-hand_for.ensures),
)
