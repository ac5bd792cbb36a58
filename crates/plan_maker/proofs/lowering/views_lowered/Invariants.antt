use Rattle.std.proofs.Common.{◌+◌, ◌*◌, ◌≤◌, length, map, drop}
use Rattle.std.specs.List.{All, sum_by}
use Rattle.aql_typed.specs.Views.{body_of}
use Rattle.plan_maker.specs.Lowered.{IsLoweredForm, query_size}
use Rattle.plan_maker.proofs.Bases.{IsPart}
use Rattle.plan_maker.proofs.lowering.views_lowered.Given as goal

abbrev pub invariant-loop-view : goal.invariant-loop-view
invariant-loop-view l = record {
  forms : All IsLoweredForm l.fn.nodes → All IsLoweredForm l.nodes;
  few : length l.nodes + 8 * sum_by query_size (map body_of (drop l.view-index l.views)) ≤ length l.fn.nodes + 1 + 8 * sum_by query_size (map body_of l.views);
  part : IsPart l.nodes l.below (map body_of l.views) (map body_of (drop l.view-index l.views));
}
