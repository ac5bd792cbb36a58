use Rattle.std.proofs.Common.{◌≡◌, vec_len}
use Rattle.aql_base.specs.Sorting.{sorted_by}
use Rattle.aql_types.specs.Programs.{by_name}
use Rattle.aql_types.proofs.Sorting.{put_all}
use Rattle.aql_types.proofs.outputs.sorted.Given as goal

abbrev pub invariant-loop-output : goal.invariant-loop-output
invariant-loop-output l = put_all by_name l.rest.items l.outputs.items ≡ sorted_by by_name l.fn.listed.items

abbrev pub decreases-loop-output : goal.decreases-loop-output
decreases-loop-output l = vec_len l.rest
