use Rattle.std.proofs.Common.{rules, Global}
use Rattle.std.proofs.lemmas.Iterator.Adapters.{YieldsList-from_vec}
use Rattle.std.proofs.lemmas.Iterator.Consumers.{YieldsList-turn, YieldsList-so_far, YieldsList-end}
use Rattle.std.specs.Arc.{arc_value}
use Rattle.run_core.proofs.Replaying.{next_legal, next_board, reached_all}
use Rattle.run_core.proofs.board.replay.Goals as goal

pub step-requires : goal.step-requires
step-requires c =
    let list = YieldsList-from_vec {Z = Global} c.args.events.items (search rules) (search rules) in
    let turn = YieldsList-turn list c.loop-event.yielded c.loop-event.event-iterator c.loop-event.yielded_by c.next.result c.next.new.self (c.in-Some.event, c.in-Some.rows) c.in-Some.is c.next.ensures.steps in
    let so_far = YieldsList-so_far list c.loop-event.yielded c.loop-event.event-iterator c.loop-event.yielded_by in
    record { legal = next_legal arc_value c.args.plan.now c.args.docs.now c.loop-event.yielded c.loop-event.board c.loop-event.invariant.so_far c.args.events.items c.in-Some.event c.in-Some.rows c.requires.legal so_far turn }

pub loop-event-preserved : goal.loop-event-preserved
loop-event-preserved c =
    record { so_far = next_board arc_value c.args.plan.now c.args.docs.now c.loop-event.yielded c.loop-event.board c.loop-event.invariant.so_far c.in-Some.event c.in-Some.rows c.step.new.self c.step.ensures.after; sound = c.step.ensures.sound }

pub returns-clause-reached : goal.returns-clause-reached
returns-clause-reached c =
    let list = YieldsList-from_vec {Z = Global} c.args.events.items (search rules) (search rules) in
    let end = YieldsList-end list c.loop-event.yielded c.loop-event.event-iterator c.loop-event.yielded_by c.next.result c.next.new.self c.in-None.is c.next.ensures.steps in
    reached_all arc_value c.args.plan.now c.args.docs.now c.loop-event.yielded c.loop-event.board c.loop-event.invariant.so_far c.args.events.items end.0 c.requires.legal
