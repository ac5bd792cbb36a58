use Rattle.std.proofs.Common.{◌≡◌, length, arith}
use Rattle.group_agg.specs.Limits.{number_kept}
use Rattle.group_agg.specs.LawProofs.Functions.{IsLimited-only, only_from}
use Rattle.group_agg.specs.LawProofs.LimitLaws.{IsLimited-all}
use Rattle.group_agg.proofs.first_rows.order_limit.Goals as goal

all : goal.returns-then-number_kept-len-clause-rows
all c =
    let kept : number_kept c.args.limit (length c.args.rows.rows) ≡ length c.args.rows.rows = omega (arith, c.number_kept.ensures.number, c.len.ensures) in
    IsLimited-all c.args.keys.now c.args.limit c.args.rows kept

pub returns-then-number_kept-len-clause-rows : goal.returns-then-number_kept-len-clause-rows
returns-then-number_kept-len-clause-rows c = all c

pub returns-then-number_kept-len-clause-bag : goal.returns-then-number_kept-len-clause-bag
returns-then-number_kept-len-clause-bag c = IsLimited-only c.args.keys.now c.args.limit c.args.rows c.args.rows (all c)

pub returns-then-number_kept-len-clause-only : goal.returns-then-number_kept-len-clause-only
returns-then-number_kept-len-clause-only c = only_from c.args.keys.now c.args.limit c.args.rows c.args.rows (all c)
