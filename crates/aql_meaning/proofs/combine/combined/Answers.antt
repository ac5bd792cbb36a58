use Rattle.std.proofs.Common.{◌≡◌, ◌∙◌, ℕ, List, map, ap, ap₂, sym, subst, length, Bor, arith}
use Rattle.std.specs.List.{All, sum_by}
use Rattle.std.proofs.lemmas.List.Elements.{All-nil, All-map}
use Rattle.std.proofs.lemmas.Simd.{map-map}
use Rattle.row_values.specs.Datums.{Datum, IsOfDocument}
use Rattle.row_values.specs.Rows.{RowList, RowsLieIn}
use Rattle.scalar_ops.specs.declared.expr.Expr.{Expr}
use Rattle.scalar_ops.specs.Expressions.{Term}
use Rattle.scalar_ops.specs.Views.{term_of}
use Rattle.aql_typed.specs.Meaning.{selected}
use Rattle.aql_meaning.specs.declared.nest.Level.{Level}
use Rattle.aql_meaning.specs.Sources.{products}
use Rattle.aql_meaning.specs.Nests.{AreEarly, all_conds, terms_lent}
use Rattle.aql_meaning.proofs.Combining.{all_combined}
use Rattle.aql_meaning.proofs.Nesting.{levels_lie, levels_wide, nest_selects}
use Rattle.aql_meaning.proofs.combine.combined.Goals as goal

pub push_combinations-requires : goal.push_combinations-requires
push_combinations-requires c =
    let doc = c.args.doc.now in
    let nest = c.in_ok-nest.nest in
    let sources = map (λ source. source.now) c.args.sources.now in
    let conds = map term_of c.as_slice.result.now in
    let last = terms_lent nest.last.items in
    let none : length c.empty-lead.result ≡ 0 = ap length c.empty-lead.ensures in
    let sum : sum_by (λ (level : Level). level.source.now.width) c.as_slice-levels.result.now ≡ nest.width =
    ap (sum_by (λ (level : Level). level.source.now.width)) c.as_slice-levels.ensures.value ∙ levels_wide sources conds nest.levels.items last nest.width c.in_ok-nest.ensures in
    let wide : c.new-out.result.width ≡ nest.width = ap (λ (list : RowList). list.width) c.new-out.ensures in
    record {
      lead_in_document = subst (All (IsOfDocument doc)) (sym c.empty-lead.ensures) (All-nil (IsOfDocument doc));
      in_document = subst (All (λ (level : Level). RowsLieIn doc level.source.now.rows)) (sym c.as_slice-levels.ensures.value)
          (levels_lie sources conds nest.levels.items last nest.width c.in_ok-nest.ensures doc (All-map (λ (list : RowList). RowsLieIn doc list.rows) (λ source. source.now) c.args.sources.now c.requires.in_document));
      early = subst (λ (n : ℕ). AreEarly n c.as_slice-levels.result.now) (sym none) (subst (AreEarly 0) (sym c.as_slice-levels.ensures.value) c.in_ok-nest.ensures.early);
      width = omega (arith, none, sum, wide);
    }

pub returns-clause-rows : goal.returns-clause-rows
returns-clause-rows c =
    let lists = c.args.tools.now in
    let doc = c.args.doc.now in
    let nest = c.in_ok-nest.nest in
    let sources = map (λ source. source.now) c.args.sources.now in
    let conds = map term_of c.as_slice.result.now in
    let last = terms_lent nest.last.items in
    let rows = λ (levels : List Level). products (map (λ level. level.source.now.rows) levels) in
    all_combined lists doc (all_conds c.as_slice-levels.result.now (terms_lent c.as_slice-last.result.now)) (all_conds nest.levels.items last) c.empty-lead.result (rows c.as_slice-levels.result.now)
    c.new-out.result.rows c.push_combinations.new.into.rows
    (ap₂ (λ (levels : List Level) (last : List (Bor Expr)). all_conds levels (terms_lent last)) c.as_slice-levels.ensures.value c.as_slice-last.ensures.value) c.empty-lead.ensures
    (ap (λ (list : RowList). list.rows) c.new-out.ensures) c.in_ok-push_combinations.ensures.rows
    ∙ (ap (λ (levels : List Level). selected lists doc (all_conds nest.levels.items last) (rows levels)) c.as_slice-levels.ensures.value
    ∙ (nest_selects sources conds nest.levels.items last nest.width c.in_ok-nest.ensures lists doc
    ∙ ap₂ (λ (conds : List Term) (each : List (List (List Datum))). selected lists doc conds (products each)) c.as_slice.ensures (map-map (λ (list : RowList). list.rows) (λ source. source.now) c.args.sources.now)))
