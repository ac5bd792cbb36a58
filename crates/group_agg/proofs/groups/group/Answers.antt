use Rattle.std.proofs.Common.{◌≡◌, length, map, subst, ◌∙◌, ap, arith}
use Rattle.group_agg.specs.Tallies.{finished_at, AreKeys, AreTallied}
use Rattle.group_agg.specs.LawProofs.Aggregates.{IsGrouped-made}
use Rattle.group_agg.specs.LawProofs.Functions.{IsGrouped-only, IsGrouped-among}
use Rattle.group_agg.proofs.GroupKeys.{rows_are}
use Rattle.group_agg.specs.LawProofs.SameInput.{IsGrouped-SameBag}
use Rattle.group_agg.specs.LawProofs.Unique.{IsGrouped-once}
use Rattle.group_agg.proofs.groups.group.Goals as goal

grouped : goal.returns-clause-rows
grouped c =
    let keys = c.args.keys.now in
    let aggs = c.args.aggs.now in
    let rows = c.args.rows.now.rows in
    let group_keys = c.in_ok-group_keys.group_keys.keys in
    let columns = c.in_ok-group_keys.columns.items in
    let out = c.in_ok-out.out.items in
    let each_once : AreKeys keys rows group_keys = subst (λ rs. AreKeys keys rs group_keys) c.as_slice.ensures c.in_ok-group_keys.ensures.keys in
    let tallied : AreTallied keys aggs rows group_keys columns = subst (λ rs. AreTallied keys aggs rs group_keys columns) c.as_slice.ensures c.in_ok-group_keys.ensures.tallies in
    let same : length out ≡ length group_keys = omega (arith, c.in_ok-out.ensures.len, c.len.ensures.len) in
    let are = rows_are keys aggs rows group_keys out columns tallied same (λ g below. c.in_ok-out.ensures.rows g (omega (arith, same, below, c.in_ok-out.ensures.len)) ∙ ap (map (finished_at g)) c.as_slice-2.ensures.value) in
    IsGrouped-made keys aggs rows group_keys c.from_vec.result.rows (omega arith) each_once (ap (λ r. r.rows) c.from_vec.ensures ∙ are)

pub returns-clause-rows : goal.returns-clause-rows
returns-clause-rows c = grouped c

pub returns-clause-bag : goal.returns-clause-bag
returns-clause-bag c = IsGrouped-only c.args.keys.now c.args.aggs.now c.args.rows.now.rows c.from_vec.result.rows (grouped c)

pub returns-clause-only : goal.returns-clause-only
returns-clause-only c = λ same other bag g. IsGrouped-once c.args.keys.now c.args.aggs.now c.args.rows.now.rows other c.from_vec.result.rows (IsGrouped-SameBag c.args.keys.now c.args.aggs.now same c.args.rows.now.rows other bag g) (grouped c)

pub returns-clause-among : goal.returns-clause-among
returns-clause-among c = IsGrouped-among c.args.rows.now.rows c.args.keys.now c.args.aggs.now c.from_vec.result.rows (grouped c)
