use Rattle.std.proofs.Common.{◌≡◌, ◌∙◌, ◌++◌, List, [], map, ap, ap₂, sym, subst}
use Rattle.aql_syntax.specs.Views.{item_of, clauses_of}
use Rattle.aql_typed.specs.Trees as tree
use Rattle.aql_typed.specs.Views.{select_clauses_of}
use Rattle.std.specs.declared.vec.Vec.{Vec}
use Rattle.std.specs.declared.alloc.Global.{Global}
use Rattle.aql_typed.specs.declared.tree.Column.{Column}
use Rattle.aql_types.specs.declared.source.CheckedSource.{CheckedSource}
use Rattle.clause_types.specs.Items.{columns_of_items}
use Rattle.clause_types.specs.Knowns.{known_of}
use Rattle.clause_types.specs.Selections.{rows_clauses, rows_faults, items_typed}
use Rattle.aql_types.specs.QueryTypings.{row_of, bodies_of, selected, duplicate_aliases, faults_of_sources}
use Rattle.aql_types.specs.Sources.{source_seen}
use Rattle.clause_types.specs.FaultLaws.{all_faultless}
use Rattle.aql_types.proofs.QueryParts.{query_is}
use Rattle.aql_types.proofs.SourceFaults.{sources_faultless}
use Rattle.aql_types.proofs.source.select.Goals as goal

pub returns-clause-ok : goal.returns-clause-ok
returns-clause-ok c =
    let known = known_of c.args.known.now in
    let items = map item_of c.args.query.now.items.items in
    let clauses = clauses_of c.args.query.now in
    let sources = map source_seen c.args.sources.items in
    let rows = c.in_ok-rows.rows in
    let q = c.selected.result in
    let no_names : duplicate_aliases sources ≡ [] =
    subst (λ (xs : List CheckedSource). duplicate_aliases (map source_seen xs) ≡ []) c.deref.ensures.value c.in_ok-refuse_same.ensures.ok in
    let no_rows : rows_faults known (row_of sources) items clauses ≡ [] =
    subst (λ (xs : List CheckedSource). rows_faults known (row_of (map source_seen xs)) items clauses ≡ []) c.deref-2.ensures.value c.in_ok-rows.ensures.none in
    let same_columns : rows.columns.items ≡ columns_of_items (items_typed known (row_of sources) items clauses) =
    subst (λ (xs : List CheckedSource). rows.columns.items ≡ columns_of_items (items_typed known (row_of (map source_seen xs)) items clauses)) c.deref-2.ensures.value c.in_ok-rows.ensures.columns in
    let same_clauses : select_clauses_of rows.clauses ≡ rows_clauses known (row_of sources) items clauses =
    subst (λ (xs : List CheckedSource). select_clauses_of rows.clauses ≡ rows_clauses known (row_of (map source_seen xs)) items clauses) c.deref-2.ensures.value c.in_ok-rows.ensures.ok in
    query_is c.args.query.now.at (faults_of_sources sources ++ (duplicate_aliases sources ++ rows_faults known (row_of sources) items clauses))
    (columns_of_items (items_typed known (row_of sources) items clauses)) (selected (bodies_of sources) (rows_clauses known (row_of sources) items clauses)) q
    (sym c.selected.ensures.at)
    (all_faultless (faults_of_sources sources) (duplicate_aliases sources ++ rows_faults known (row_of sources) items clauses) (sources_faultless c.args.sources.items)
    (all_faultless (duplicate_aliases sources) (rows_faults known (row_of sources) items clauses) no_names no_rows))
    (sym same_columns ∙ ap (λ (cs : Vec Column Global). cs.items) (sym c.selected.ensures.columns))
    (sym (c.selected.ensures.body ∙ ap₂ (λ (ss : List tree.Source) (cs : tree.SelectClauses). selected ss cs) c.in_ok-sources.ensures same_clauses))
