use Rattle.std.proofs.Common.{◌≡◌, ◌++◌, All}
use Rattle.span_token.specs.Extents.{Extent}
use Rattle.aql_regex_extract.specs.Matches.{extents_of, extents_of_rows, IsInside}
use Rattle.aql_regex_extract.specs.Steps.{cut_rows}
use Rattle.aql_regex_extract.proofs.cut.cut.Given as goal

abbrev pub invariant-cuts : goal.invariant-cuts
invariant-cuts l = record {
  rows : extents_of_rows l.rows.items ++ cut_rows l.left l.width (extents_of l.rest) ≡ cut_rows l.number l.width (extents_of l.flat);
  within : (source : Extent) → All (IsInside source) l.flat → All (λ row. All (IsInside source) row.items) l.rows.items × All (IsInside source) l.rest;
}

abbrev pub decreases-cuts : goal.decreases-cuts
decreases-cuts l = l.left
