use Rattle.std.proofs.Common.{rules, ◌≡◌, Global, IfOk, sym, length, subst, arith}
use Rattle.std.proofs.lemmas.Iterator.Adapters.{YieldsList-from_vec}
use Rattle.std.proofs.lemmas.Iterator.Consumers.{YieldsList-turn}
use Rattle.std.specs.Fork.{slice_chunk}
use Rattle.std.specs.List.{flat_map}
use Rattle.run_pool.specs.Lines.{line_from}
use Rattle.window_lines.proofs.Stretches.{joined-turn}
use Rattle.window_lines.proofs.lines.append_parts.Goals as goal

pub loop-part-preserved : goal.loop-part-preserved
loop-part-preserved g c =
    let list = YieldsList-from_vec {Z = Global} c.args.parts.items (search rules) (search rules) in
    let turn = YieldsList-turn list c.loop-part.yielded c.loop-part.part-iterator c.loop-part.yielded_by c.next.result c.next.new.self c.in-Some.part c.in-Some.is c.next.ensures.steps in
    let told : IfOk c.in-Some.part (λ lines. lines.items ≡ flat_map (line_from (g.P.Pool.means c.args.pool.now) c.args.plan.now) (slice_chunk c.args.docs.now c.args.size (length c.loop-part.yielded))) =
    subst (λ part. IfOk part (λ lines. lines.items ≡ flat_map (line_from (g.P.Pool.means c.args.pool.now) c.args.plan.now) (slice_chunk c.args.docs.now c.args.size (length c.loop-part.yielded)))) (sym turn.1) (c.requires.each (length c.loop-part.yielded) c.in-Some.part (omega (arith, turn.0, c.args.parts.ok.0))) in
    joined-turn (line_from (g.P.Pool.means c.args.pool.now) c.args.plan.now) c.args.docs.now c.args.size c.loop-part.yielded c.in-Some.part c.args.pending.now c.loop-part.pending c.in_ok-lines.lines.items c.take_text.new.self
    c.loop-part.invariant (search rules) (search rules)
