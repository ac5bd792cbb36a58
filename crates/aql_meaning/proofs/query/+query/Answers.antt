use Rattle.std.proofs.Common.{rules, ◌≡◌, ◌∙◌, List, map, ap, sym, subst}
use Rattle.std.specs.List.{All, AllZip}
use Rattle.std.proofs.lemmas.List.Elements.{All-append}
use Rattle.row_values.specs.Datums.{Datum, IsOfDocument}
use Rattle.row_values.specs.Rows.{RowList, RowsLieIn}
use Rattle.scalar_ops.specs.Tables.{Lists}
use Rattle.aql_typed.specs.declared.tree.TypedQuery.{TypedQuery, the_lemmas}
use Rattle.aql_typed.specs.declared.tree.TypedSource.{TypedSource}
use Rattle.aql_typed.specs.Fitting.{Fits, SourceFits, width_of, first_width}
use Rattle.aql_typed.specs.Meaning.{meaning_of, all_sides, document_rows}
use Rattle.aql_typed.specs.Trees.{as_queries}
use Rattle.aql_typed.specs.Views.{query_of, source_of}
use Rattle.aql_meaning.specs.RowLists.{rows_in, widths_in}
use Rattle.aql_meaning.specs.Sources.{IsOwnOf}
use Rattle.aql_meaning.proofs.Queries.{sources_fit, sides_fit, sides_wide, union_width, union_means, side_more}
use Rattle.aql_meaning.proofs.Combining.{all_rest}
use Rattle.aql_meaning.proofs.Lending.{pairs_more, one_more_lies, at_item, list_is}
use Rattle.aql_meaning.proofs.query.+query.Goals as goal

pub own_rows-returns-in_ok-out-in-Document-clause-own : goal.own_rows-returns-in_ok-out-in-Document-clause-own
own_rows-returns-in_ok-out-in-Document-clause-own t c =
    let out = c.in_ok-out-in-Document.out in
    let P : TypedSource → Type 0 = λ s. IsOwnOf c.args.tools.now c.args.doc.now c.args.below.now (source_of s) out in
    subst P (sym c.in-Document.is)
    (list_is out 1 (document_rows c.args.tools.now c.args.doc.now) c.in_ok-out-in-Document.ensures.width (c.in_ok-out-in-Document.ensures.rows c.args.tools.now))

pub own_sources-loop-source-preserved : goal.own_sources-loop-source-preserved
own_sources-loop-source-preserved t c =
    let R : Lists → TypedSource → RowList → Type 0 = λ lists source own. IsOwnOf lists c.args.doc.now c.args.below.now (source_of source) own in
    record {
      own = pairs_more (R c.args.tools.now) c.args.sources.now c.loop-source.own.items c.push.new.self.items c.loop-source.source-index c.source-item.result c.in_ok-rows.rows
          c.loop-source-test.true c.source-item.is c.in_ok-push.ensures.items c.loop-source.invariant.own
          (subst (λ (lists : Lists). R lists c.source-item.result c.in_ok-rows.rows) c.loop-source.invariant.same c.in_ok-rows.ensures.own);
      lies = one_more_lies (λ list. list) c.args.doc.now c.loop-source.own.items c.push.new.self.items c.in_ok-rows.rows c.in_ok-push.ensures.items c.loop-source.invariant.lies c.in_ok-rows.ensures.lies;
      same = c.in_ok-rows.ensures.same ∙ c.loop-source.invariant.same;
    }

pub slow_query-own_sources-requires : goal.slow_query-own_sources-requires
slow_query-own_sources-requires t c =
    let widths = widths_in c.args.below.now in
    let fits = subst (λ (q : TypedQuery). Fits widths (query_of q)) c.in-Select.is c.requires.fits in (
      search (rules, the_lemmas),
      (
        c.requires.in_document,
        subst (All (λ (source : TypedSource). SourceFits widths (source_of source))) (sym c.as_slice.ensures.value) (sources_fit widths c.in-Select.select fits),
      ),
    )

pub slow_query-selection_of-requires-clause-own : goal.slow_query-selection_of-requires-clause-own
slow_query-selection_of-requires-clause-own t c =
    let P : Lists → List TypedSource → List RowList → Type 0 = λ lists sources own. AllZip (λ source own. IsOwnOf lists c.args.doc.now c.args.below.now (source_of source) own) sources own in
    subst (λ (lists : Lists). P lists c.in-Select.select.sources.items c.as_slice-in-Select.result.now) (sym c.in_ok-own-in-Select.ensures.same)
    (subst (λ (own : List RowList). P c.args.tools.now c.in-Select.select.sources.items own) (sym c.as_slice-in-Select.ensures.value)
    (subst (λ (sources : List TypedSource). P c.args.tools.now sources c.in_ok-own-in-Select.own.items) c.as_slice.ensures.value c.in_ok-own-in-Select.ensures.own))

pub slow_query-union-requires : goal.slow_query-union-requires
slow_query-union-requires t c =
    let widths = widths_in c.args.below.now in
    let fits = subst (λ (q : TypedQuery). Fits widths (query_of q)) c.in-Union.is c.requires.fits in (
      search (rules, the_lemmas),
      (
        c.requires.in_document,
        (
          subst (All (λ (q : TypedQuery). Fits widths (query_of q))) (sym c.as_slice-in-Union.ensures.value) (sides_fit widths c.in-Union.sides fits),
          subst (λ (qs : List TypedQuery). All (λ q. width_of widths (query_of q) ≡ first_width widths (as_queries (map query_of qs))) qs) (sym c.as_slice-in-Union.ensures.value)
              (sides_wide widths c.in-Union.sides fits),
        ),
      ),
    )

pub slow_query-returns-in_ok-out-in-Union-clause-rows : goal.slow_query-returns-in_ok-out-in-Union-clause-rows
slow_query-returns-in_ok-out-in-Union-clause-rows t c =
    c.in_ok-out-in-Union.ensures.rows
    ∙ (ap (λ (qs : List TypedQuery). all_sides c.args.tools.now c.args.doc.now (rows_in c.args.below.now) (as_queries (map query_of qs))) c.as_slice-in-Union.ensures.value
    ∙ (sym (union_means c.args.tools.now c.args.doc.now c.args.below.now c.in-Union.sides)
    ∙ ap (λ (q : TypedQuery). meaning_of c.args.tools.now c.args.doc.now (rows_in c.args.below.now) (query_of q)) (sym c.in-Union.is)))

pub slow_query-returns-in_ok-out-in-Union-clause-width : goal.slow_query-returns-in_ok-out-in-Union-clause-width
slow_query-returns-in_ok-out-in-Union-clause-width t c =
    c.in_ok-out-in-Union.ensures.width
    ∙ (ap (λ (qs : List TypedQuery). first_width (widths_in c.args.below.now) (as_queries (map query_of qs))) c.as_slice-in-Union.ensures.value
    ∙ (sym (union_width (widths_in c.args.below.now) c.in-Union.sides)
    ∙ ap (λ (q : TypedQuery). width_of (widths_in c.args.below.now) (query_of q)) (sym c.in-Union.is)))

pub slow_query-returns-in_ok-out-in-Minus-clause-lies : goal.slow_query-returns-in_ok-out-in-Minus-clause-lies
slow_query-returns-in_ok-out-in-Minus-clause-lies t c = c.in_ok-out-in-Minus.ensures.lies c.args.doc.now c.in_ok-left-in-Minus.ensures.lies

pub union-slow_query-requires-in-loop-side : goal.union-slow_query-requires-in-loop-side
union-slow_query-requires-in-loop-side t c =
    let P : TypedQuery → Type 0 = λ q. Fits (widths_in c.args.below.now) (query_of q) in (
      search (rules, the_lemmas),
      (
        c.requires.in_document,
        at_item P c.in-Some.rest.now c.loop-side.side-index c.side-item.result c.loop-side-test.true c.side-item.is
            (all_rest P c.args.sides.now c.in-Some.rest.now c.in-Some.first.now c.in-Some.ensures.cases.0 c.requires.fit),
      ),
    )

pub union-append_rows-requires : goal.union-append_rows-requires
union-append_rows-requires t c =
    let widths = widths_in c.args.below.now in
    let P : TypedQuery → Type 0 = λ q. width_of widths (query_of q) ≡ first_width widths (as_queries (map query_of c.args.sides.now)) in
    record {
      width = c.in_ok-rows.ensures.width
          ∙ (at_item P c.in-Some.rest.now c.loop-side.side-index c.side-item.result c.loop-side-test.true c.side-item.is
          (all_rest P c.args.sides.now c.in-Some.rest.now c.in-Some.first.now c.in-Some.ensures.cases.0 c.requires.same_width)
          ∙ sym c.loop-side.invariant.width);
    }

pub union-loop-side-preserved : goal.union-loop-side-preserved
union-loop-side-preserved t c =
    let means = c.in_ok-rows.ensures.rows
    ∙ ap (λ (lists : Lists). meaning_of lists c.args.doc.now (rows_in c.args.below.now) (query_of c.side-item.result)) c.loop-side.invariant.same in
    let put = ap (λ (list : RowList). list.rows) c.in_ok-append_rows.ensures in
    record {
      rows = side_more c.args.tools.now c.args.doc.now c.args.below.now c.in-Some.rest.now c.loop-side.side-index c.side-item.result c.in_ok-rows.rows.rows c.loop-side.out.rows c.append_rows.new.into.rows
          (all_sides c.args.tools.now c.args.doc.now (rows_in c.args.below.now) (as_queries (map query_of c.args.sides.now)))
          c.loop-side-test.true c.side-item.is means put c.loop-side.invariant.rows;
      width = ap (λ (list : RowList). list.width) c.in_ok-append_rows.ensures ∙ c.loop-side.invariant.width;
      lies = subst (λ (rows : List (List Datum)). RowsLieIn c.args.doc.now rows) (sym put)
          (All-append (All (IsOfDocument c.args.doc.now)) c.loop-side.out.rows c.in_ok-rows.rows.rows c.loop-side.invariant.lies c.in_ok-rows.ensures.lies);
      same = c.in_ok-rows.ensures.same ∙ c.loop-side.invariant.same;
    }
