use Rattle.std.proofs.Common.{rules, ◌≡◌, ◌*◌, List, length, replicate, sym, subst}
use Rattle.run_core.specs.Boards.{Standing, untouched, fresh}
use Rattle.run_core.specs.HistoryLaws.{sound-holding}
use Rattle.run_core.specs.Promises.{IsSound}
use Rattle.run_core.specs.StepLaws.{holds-fresh}
use Rattle.run_core.proofs.board.Board.new.Goals as goal

pub returns-clause-sound : goal.returns-clause-sound
returns-clause-sound c =
    let plan = c.args.plan.now in
    let docs = c.args.docs.now in
    let are : c.in_ok-spots.spots.items ≡ replicate (length docs * length plan.nodes) untouched = search rules in
    subst (λ (items : List Standing). IsSound (record { plan = plan; docs = docs; items = items })) (sym are)
    (sound-holding (fresh plan docs) c.nodes_of.ensures.planned c.nodes_of.ensures.outputs (holds-fresh plan docs))
