use Rattle.std.proofs.Common.{rules, ◌∙◌, length, ◌≤◌, drop, arith, length-drop}
use Rattle.std.proofs.lemmas.List.{take_rest}
use Rattle.line_parts.specs.SinkLaws.{appends_next}
use Rattle.line_parts.proofs.send.put.Goals as goal

pub loop-written-preserved : goal.loop-written-preserved
loop-written-preserved g c =
    let h = c.in_ok-taken.ensures in
    let before = c.loop-written.invariant in
    let bound : c.in_ok-taken.taken ≤ length (drop c.loop-written.written c.args.piece.now) = rw take_rest at h.bound in (
      omega (arith, length-drop c.loop-written.written c.args.piece.now),
      appends_next _ _ _ c.args.piece.now c.loop-written.written c.in_ok-taken.taken before.1 h.bytes,
      search rules,
      search rules,
      h.cause.stands ∙ before.4,
    )
