use Rattle.std.proofs.Common.{◌≡◌, ◌+◌, drop}
use Rattle.std.specs.List.{prefix_len}
use Rattle.std.specs.Ordering.{is_lt}
use Rattle.aql_types.specs.Programs.{by_name}
use Rattle.aql_types.proofs.outputs.outputs_before.Given as goal

abbrev pub invariant-loop-index : goal.invariant-loop-index
invariant-loop-index l =
    l.index + prefix_len (λ other. is_lt (by_name other l.output)) (drop l.index l.outputs) ≡ prefix_len (λ other. is_lt (by_name other l.output)) l.outputs
