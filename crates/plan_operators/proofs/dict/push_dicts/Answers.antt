use Rattle.std.proofs.Common.{rules, map}
use Rattle.dict_match.specs.Rows.{dict_and_extent}
use Rattle.plan_operators.proofs.DictNumbering.{numbered-next}
use Rattle.plan_operators.proofs.dict.push_dicts.Goals as goal

pub loop-number-preserved : goal.loop-number-preserved
loop-number-preserved c =
    numbered-next c.args.row.now (map dict_and_extent c.args.found.now) c.args.dicts.now c.loop-number.number _ c.args.into.now c.loop-number.into c.push_dict.new.into
    (search rules) (search rules) c.loop-number.invariant c.in_ok-push_dict.ensures
