use Rattle.std.proofs.Common.{◌≡◌, map}
use Rattle.std.specs.Arc.{arc_value}
use Rattle.run_core.specs.Boards.{fresh}
use Rattle.run_core.specs.Histories.{after_all, happening}
use Rattle.run_core.specs.Promises.{IsSound}
use Rattle.run_core.proofs.board.replay.Given as goal

abbrev pub invariant-loop-event : goal.invariant-loop-event
invariant-loop-event l = record {
  so_far : l.board ≡ after_all (fresh l.plan l.docs) (map (happening arc_value) l.yielded);
  sound : IsSound l.board;
}
