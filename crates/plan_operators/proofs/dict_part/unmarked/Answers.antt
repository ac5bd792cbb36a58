use Rattle.plan_operators.proofs.DictNumbering.{unmarked-is}
use Rattle.plan_operators.proofs.dict_part.unmarked.Goals as goal

pub returns : goal.returns
returns c = unmarked-is c.values-values.result.now c.args.row.now c.in_ok-out.out c.extend.new.self c.values-values.ensures c.in_ok-out.ensures c.in_ok-extend.ensures.ok
