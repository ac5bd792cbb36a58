use Rattle.std.proofs.Common.{length}
use Rattle.row_values.specs.Outputs.{HasDistinctNames}
use Rattle.row_values.proofs.output.has_distinct_names.Given as goal

abbrev pub invariant-loop-first : goal.invariant-loop-first
invariant-loop-first l = record {
  enough : HasDistinctNames l.rest → HasDistinctNames l.columns;
  needed : HasDistinctNames l.columns → HasDistinctNames l.rest;
}

abbrev pub decreases-loop-first : goal.decreases-loop-first
decreases-loop-first l = length l.rest
