use Rattle.std.proofs.Common.{◌≤◌, true, length, sym, subst, arith}
use Rattle.group_agg.specs.Candidates.{IsHeld}
use Rattle.group_agg.specs.LawProofs.Pairs.{IsHeld-settle}
use Rattle.group_agg.proofs.first_rows.settle_if_many.Goals as goal

pub returns : goal.returns
returns c = λ keys seen h.
    let n = c.args.n in
    let enough : n ≤ length c.args.held.now.items = omega arith in
    subst (λ xs. IsHeld keys n seen xs true) (sym c.settle.ensures) (IsHeld-settle keys n seen c.args.held.now.items c.args.settled c.requires enough h)
