use Rattle.std.proofs.Common.{◌≡◌, All, None, take}
use Rattle.std.specs.Prelude.{slice_index_or, IsSome}
use Rattle.plan_operators.specs.Filling.{IsStanding}
use Rattle.plan_operators.proofs.board.evaluate.Given as goal

abbrev pub invariant-loop-out : goal.invariant-loop-out
invariant-loop-out l = record {
  stands : IsStanding l.doc l.plan l.board.items l.readers.items;
  there : All (λ out. IsSome (slice_index_or l.board.items out.node None)) (take l.out-index l.outputs);
  same : l.tools ≡ l.fn.tools;
}
