use Rattle.std.proofs.Common.{ℕ, List, ◌++◌, ◌∷◌, [], sym, arith}
use Rattle.std.proofs.lemmas.List.Elements.{All-same, All-contains, Contains-push}
use Rattle.run_core.specs.Wanted.{IsWanted}
use Rattle.run_core.specs.WantedLaws.{wanted-below}
use Rattle.worker_pool.specs.Pages.{rows_on}
use Rattle.worker_pool.proofs.walk.last_waiting.Goals as goal

pub has-requires : goal.has-requires
has-requires g c =
    let plan = c.args.plan.now in
    let known = c.args.page.now.items in
    let n = c.in-Some.n in
    let rest = c.pop.new.self.items in
    let all = All-same (IsWanted plan (rows_on known)) (rest ++ n ∷ []) c.path.path.items (sym {A = List ℕ} c.in-Some.ensures.items) c.path.invariant in
    let wanted = All-contains (IsWanted plan (rows_on known)) (rest ++ n ∷ []) n all (Contains-push rest n) in
    record { there = omega (arith, wanted-below plan c.told_of.ensures.planned (rows_on known) c.told_of.ensures.outputs n wanted, c.requires.sized) }
