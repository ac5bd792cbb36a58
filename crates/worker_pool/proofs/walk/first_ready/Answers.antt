use Rattle.std.proofs.Common.{rules, sym, subst}
use Rattle.std.proofs.lemmas.List.Elements.{All-push}
use Rattle.run_core.specs.Wanted.{IsWanted}
use Rattle.run_core.specs.WantedLaws.{wanted-below}
use Rattle.worker_pool.specs.Pages.{rows_on, AreWaiting}
use Rattle.worker_pool.proofs.Paging.{missing-wanted}
use Rattle.worker_pool.proofs.walk.first_ready.Goals as goal

pub missing-requires-clause-there : goal.missing-requires-clause-there
missing-requires-clause-there g c =
    wanted-below c.args.plan.now c.told_of.ensures.planned (rows_on c.args.page.now.items) c.told_of.ensures.outputs c.down.n c.down.invariant.wanted

pub down-preserved : goal.down-preserved
down-preserved g c =
    let plan = c.args.plan.now in
    let known = c.args.page.now.items in
    let there = wanted-below plan c.told_of.ensures.planned (rows_on known) c.told_of.ensures.outputs c.down.n c.down.invariant.wanted in
    record {
      waiting = subst (AreWaiting plan known) (sym c.in_ok-push.ensures.items) (All-push (IsWanted plan (rows_on known)) c.down.path.items c.down.n c.down.invariant.waiting c.down.invariant.wanted);
      wanted = missing-wanted plan known c.down.n c.in-Some.i there c.down.invariant.wanted c.in-Some.ensures.missing;
      unseen = c.in-Some.ensures.missing.unseen;
    }

pub returns-clause-next : goal.returns-clause-next
returns-clause-next g c = record {
  there = wanted-below c.args.plan.now c.told_of.ensures.planned (rows_on c.args.page.now.items) c.told_of.ensures.outputs c.down.n c.down.invariant.wanted;
  wanted = c.down.invariant.wanted;
  unseen = c.down.invariant.unseen;
  ready = search rules;
}
