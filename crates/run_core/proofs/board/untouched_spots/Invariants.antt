use Rattle.std.proofs.Common.{◌≡◌, replicate}
use Rattle.run_core.specs.Boards.{untouched}
use Rattle.run_core.proofs.board.untouched_spots.Given as goal

abbrev pub invariant-loop : goal.invariant-loop
invariant-loop l = l.spots.items ≡ replicate l.counter untouched
