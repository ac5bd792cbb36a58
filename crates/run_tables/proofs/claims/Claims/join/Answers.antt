use Rattle.std.proofs.Common.{◌≤◌, rules, sym, subst}
use Rattle.run_tables.specs.declared.rule.View.{View}
use Rattle.run_tables.specs.ClaimWords.{times}
use Rattle.run_tables.proofs.Steps.{joins, counts_allowed}
use Rattle.run_tables.proofs.claims.Claims.join.Goals as goal

pub join_seat-requires : goal.join_seat-requires
join_seat-requires c = (search rules, search rules, search rules, search rules, joins _ _ _ _ _ c.into.invariant.2)

pub load-requires : goal.load-requires
load-requires c = (search rules, search rules, counts_allowed _ _ _ _ _)

pub returns-clause-distinct : goal.returns-clause-distinct
returns-clause-distinct c =
    let looked = c.load.ensures.2 in
    λ item. subst (λ (view : View). times item view.won ≤ 1) (sym looked.0) (looked.1 item)
