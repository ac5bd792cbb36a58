use Rattle.std.proofs.Common.{◌≡◌, drop}
use Rattle.aql_types.specs.Queries.{same_columns}
use Rattle.aql_types.proofs.sides.same_columns.Given as goal

abbrev pub invariant-loop-index : goal.invariant-loop-index
invariant-loop-index l = same_columns (drop l.index l.columns) (drop l.index l.others) ≡ same_columns l.columns l.others
