use Rattle.std.proofs.Common.{◌≡◌, map, drop}
use Rattle.aql_typed.specs.Meaning.{meanings_from, meanings}
use Rattle.aql_typed.specs.Views.{body_of}
use Rattle.aql_meaning.specs.RowLists.{rows_in, widths_in, AllLieIn}
use Rattle.aql_typed.specs.Fitting.{AllFit, widths_from, widths_of}
use Rattle.aql_meaning.proofs.meanings.slow.Given as goal

-- the views that are left stand on those that are there
abbrev pub invariant-loop-view : goal.invariant-loop-view
invariant-loop-view l = record {
  rows : meanings_from l.fn.tools l.doc (rows_in l.rows.items) (map body_of (drop l.view-index l.view-items)) ≡ meanings l.fn.tools l.doc (map body_of l.view-items);
  widths : widths_from (widths_in l.rows.items) (map body_of (drop l.view-index l.view-items)) ≡ widths_of (map body_of l.view-items);
  fit : AllFit (widths_in l.rows.items) (map body_of (drop l.view-index l.view-items));
  lies : AllLieIn l.doc l.rows.items;
  same : l.tools ≡ l.fn.tools;
}
