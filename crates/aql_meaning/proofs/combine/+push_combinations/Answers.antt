use Rattle.std.proofs.Common.{rules, ◌≡◌, ◌∙◌, ◌++◌, ◌<◌, true, false, List, map, length, ap, sym, Bor}
use Rattle.std.proofs.lemmas.List.{take_all}
use Rattle.scalar_ops.specs.declared.expr.Expr.{Expr}
use Rattle.scalar_ops.specs.Values.{holding}
use Rattle.row_values.specs.Rows.{product}
use Rattle.aql_typed.specs.Meaning.{selected}
use Rattle.std.specs.List.{All}
use Rattle.row_values.specs.Datums.{Datum, IsOfDocument}
use Rattle.row_values.specs.Rows.{RowsLieIn}
use Rattle.aql_meaning.specs.Sources.{products}
use Rattle.aql_meaning.specs.Nests.{all_conds, terms_lent}
use Rattle.aql_meaning.proofs.Combining.{all_first, all_rest, shorter, at_row, longer_lies, widths_left, none_yet, one_more}
use Rattle.aql_meaning.proofs.Nesting.{rest_early, where_it_fails, where_it_holds}
use Rattle.aql_meaning.proofs.combine.+push_combinations.Goals as goal

pub loop-row-init : goal.loop-row-init
loop-row-init t c = record {
  rows = none_yet c.args.tools.now c.args.doc.now (all_conds c.in-Some.rest.now (terms_lent c.args.last.now)) c.args.lead (products (map (λ level. level.source.now.rows) c.in-Some.rest.now)) c.args.into.now.rows;
  width = search rules;
  lies = λ lies. lies;
  same = search rules;
}

pub push_combinations-requires : goal.push_combinations-requires
push_combinations-requires t c =
    let first = c.in-Some.first.now in
    let cases = c.in-Some.ensures.cases.0 in
    let less : length c.in-Some.rest.now < t = shorter c.args.levels.now c.in-Some.rest.now first t cases c.decreases in
    let long : c.in_ok-longer.longer ≡ c.args.lead ++ c.row-item.result = c.in_ok-longer.ensures ∙ ap (λ (values : List Datum). c.args.lead ++ values) c.values.ensures in
    let all = all_first (λ level. RowsLieIn c.args.doc.now level.source.now.rows) c.args.levels.now c.in-Some.rest.now first cases c.requires.in_document in
    let lies = at_row (All (IsOfDocument c.args.doc.now)) first.source.now.rows c.as_slice-row-items.result.now c.loop-row.row-index c.row-item.result c.as_slice-row-items.ensures (search rules) c.row-item.is all in
    let wide = at_row (λ row. length row ≡ first.source.now.width) first.source.now.rows c.as_slice-row-items.result.now c.loop-row.row-index c.row-item.result c.as_slice-row-items.ensures (search rules) c.row-item.is c.width-width.ensures.each_row in (
      less,
      (
        longer_lies c.args.doc.now c.args.lead c.row-item.result c.in_ok-longer.longer long c.requires.lead_in_document lies,
        (
          all_rest (λ level. RowsLieIn c.args.doc.now level.source.now.rows) c.args.levels.now c.in-Some.rest.now first cases c.requires.in_document,
          (
            rest_early c.args.levels.now c.in-Some.rest.now first c.args.lead cases c.requires.early c.row-item.result c.in_ok-longer.longer long wide,
            widths_left (λ level. level.source.now) c.args.levels.now c.in-Some.rest.now first c.args.lead c.row-item.result c.in_ok-longer.longer c.loop-row.into.width cases long wide
                (c.requires.width ∙ sym c.loop-row.invariant.width),
          ),
        ),
      ),
    )

pub loop-row-preserved : goal.loop-row-preserved
loop-row-preserved t c =
    let long : c.in_ok-longer.longer ≡ c.args.lead ++ c.row-item.result = c.in_ok-longer.ensures ∙ ap (λ (values : List Datum). c.args.lead ++ values) c.values.ensures in
    record {
      rows = one_more c.args.tools.now c.args.doc.now (all_conds c.in-Some.rest.now (terms_lent c.args.last.now)) c.args.lead (products (map (λ level. level.source.now.rows) c.in-Some.rest.now))
          c.args.into.now.rows c.loop-row.into.rows c.push_combinations.new.into.rows c.as_slice-row-items.result.now c.row-item.result c.in_ok-longer.longer c.loop-row.row-index c.loop-row.tools
          c.loop-row.invariant.same long (search rules) c.row-item.is c.loop-row.invariant.rows c.in_ok-push_combinations.ensures.rows;
      width = search rules;
      lies = search rules;
      same = search rules;
    }

pub returns-then-not-branch-clause-rows : goal.returns-then-not-branch-clause-rows
returns-then-not-branch-clause-rows t c =
    let lists = c.args.tools.now in
    let doc = c.args.doc.now in
    let fails : c.in_ok-all_hold.field-0 ≡ false = search rules in
    let is = c.in_ok-all_hold.ensures.found ∙ ap (λ (conds : List (Bor Expr)). holding lists doc (terms_lent conds) c.args.lead) c.as_slice.ensures.value in
    where_it_fails lists doc c.args.levels.now c.in-Some.rest.now c.in-Some.first.now (terms_lent c.args.last.now) c.args.lead c.args.into.now.rows c.in-Some.ensures.cases.0 c.requires.early
    c.in_ok-all_hold.field-0 is fails

pub returns-clause-rows : goal.returns-clause-rows
returns-clause-rows t c =
    let lists = c.args.tools.now in
    let doc = c.args.doc.now in
    let rest = c.in-Some.rest.now in
    let items = c.as_slice-row-items.result.now in
    let holds : c.in_ok-all_hold.field-0 ≡ true = search rules in
    let is = c.in_ok-all_hold.ensures.found ∙ ap (λ (conds : List (Bor Expr)). holding lists doc (terms_lent conds) c.args.lead) c.as_slice.ensures.value in
    let put = c.loop-row.invariant.rows ∙ ap (λ (rows : List (List Datum)). c.args.into.now.rows
    ++ selected lists doc (all_conds rest (terms_lent c.args.last.now)) (map (λ r. c.args.lead ++ r) (product rows (products (map (λ level. level.source.now.rows) rest)))))
    (take_all c.loop-row.row-index items c.loop-row-test.false ∙ c.as_slice-row-items.ensures) in
    where_it_holds lists doc c.args.levels.now rest c.in-Some.first.now (terms_lent c.args.last.now) c.args.lead c.args.into.now.rows c.in-Some.ensures.cases.0 c.requires.early
    c.in_ok-all_hold.field-0 c.loop-row.into.rows is holds put
