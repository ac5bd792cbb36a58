use Rattle.std.proofs.Common.{◌≡◌, ◌++◌, ◌*◌, map, length, All}
use Rattle.row_values.specs.Rows.{RowsLieIn}
use Rattle.aql_regex_extract.specs.Matches.{extents_of}
use Rattle.aql_regex_extract.specs.Steps.{cut_rows}
use Rattle.scalar_ops.specs.Views.{term_of}
use Rattle.aql_typed.specs.Meaning.{group_value, row_of}
use Rattle.row_operators.specs.Searches.{IsFoundIn}
use Rattle.row_operators.proofs.found.push_cut_values.Given as goal

abbrev pub invariant-cuts : goal.invariant-cuts
invariant-cuts l = record {
  rows : l.into.rows ++ map (λ groups. row_of l.fn.tools l.doc (map term_of l.items) (l.lead ++ map group_value groups)) (cut_rows l.left l.width (extents_of l.rest))
      ≡ l.fn.into.rows ++ map (λ groups. row_of l.fn.tools l.doc (map term_of l.items) (l.lead ++ map group_value groups)) (cut_rows l.number l.width (extents_of l.found));
  width : l.into.width ≡ l.fn.into.width;
  whole : length l.rest ≡ l.left * l.width;
  found : All (IsFoundIn l.doc) l.rest;
  lies : RowsLieIn l.doc l.fn.into.rows → RowsLieIn l.doc l.into.rows;
  same : l.tools ≡ l.fn.tools;
}

abbrev pub decreases-cuts : goal.decreases-cuts
decreases-cuts l = l.left
