use Rattle.std.proofs.Common.{rules, ◌<◌, ◌≤◌, length}
use Rattle.restrict_eval.proofs.Reading.{shown_step, shown_all}
use Rattle.restrict_eval.proofs.readers.mark_shown.Goals as goal

pub loop-out-preserved : goal.loop-out-preserved
loop-out-preserved c =
    let there : c.out-item.result.node < length c.loop-out.shown.items = search rules in
    record {
      long = c.loop-out.invariant.long;
      shown = shown_step c.args.outputs.now c.loop-out.out-index c.out-item.result c.loop-out.shown.items c.loop-out-test.true c.out-item.is there c.loop-out.invariant.shown;
    }

pub returns-clause-shown : goal.returns-clause-shown
returns-clause-shown c =
    let past : length c.args.outputs.now ≤ c.loop-out.out-index = search rules in
    shown_all c.args.outputs.now c.loop-out.out-index c.loop-out.shown.items past c.loop-out.invariant.shown
