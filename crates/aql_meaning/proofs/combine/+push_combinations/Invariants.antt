use Rattle.std.proofs.Common.{◌≡◌, ◌++◌, map, take, length}
use Rattle.row_values.specs.Rows.{RowsLieIn, product}
use Rattle.aql_typed.specs.Meaning.{selected}
use Rattle.aql_meaning.specs.Sources.{products}
use Rattle.aql_meaning.specs.Nests.{all_conds, terms_lent}
use Rattle.aql_meaning.proofs.combine.+push_combinations.Given as goal

abbrev pub invariant-loop-row : goal.invariant-loop-row
invariant-loop-row l = record {
  rows : l.into.rows ≡ l.fn.into.rows
      ++ selected l.fn.tools l.doc (all_conds l.rest (terms_lent l.last)) (map (λ row. l.fn.lead ++ row) (product (take l.row-index l.row-items) (products (map (λ level. level.source.now.rows) l.rest))));
  width : l.into.width ≡ l.fn.into.width;
  lies : RowsLieIn l.doc l.fn.into.rows → RowsLieIn l.doc l.into.rows;
  same : l.tools ≡ l.fn.tools;
}

abbrev pub decreases-push_combinations : goal.decreases-push_combinations
decreases-push_combinations l = length l.levels.now
