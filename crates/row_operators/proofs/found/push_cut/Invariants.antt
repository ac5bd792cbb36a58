use Rattle.std.proofs.Common.{◌≡◌, ◌++◌, ◌*◌, map, length}
use Rattle.aql_regex_extract.specs.Matches.{extents_of}
use Rattle.aql_regex_extract.specs.Steps.{cut_rows}
use Rattle.aql_typed.specs.Meaning.{group_value}
use Rattle.row_operators.proofs.found.push_cut.Given as goal

abbrev pub invariant-cuts : goal.invariant-cuts
invariant-cuts l = record {
  rows : l.into.rows ++ map (λ groups. l.lead ++ map group_value groups) (cut_rows l.left l.width (extents_of l.rest))
      ≡ l.fn.into.rows ++ map (λ groups. l.lead ++ map group_value groups) (cut_rows l.number l.width (extents_of l.found));
  width : l.into.width ≡ l.fn.into.width;
  whole : length l.rest ≡ l.left * l.width;
}

abbrev pub decreases-cuts : goal.decreases-cuts
decreases-cuts l = l.left
