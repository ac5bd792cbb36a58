use Rattle.std.proofs.Common.{◌≡◌, ◌++◌, map, take}
use Rattle.clause_types.specs.Extractions.{span_columns}
use Rattle.clause_types.specs.Views.{label_of}
use Rattle.clause_types.proofs.extraction.append_spans.Given as goal

abbrev pub invariant-loop-label : goal.invariant-loop-label
invariant-loop-label l = l.columns.items ≡ l.initial.columns.items ++ span_columns (map label_of (take l.label-index l.labels))
