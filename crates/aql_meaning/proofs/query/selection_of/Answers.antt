use Rattle.std.proofs.Common.{◌∙◌, List, map, length, ap, sym, subst}
use Rattle.std.specs.List.{All}
use Rattle.aql_typed.specs.declared.tree.TypedSource.{TypedSource}
use Rattle.aql_typed.specs.Fitting.{SourceFits}
use Rattle.aql_typed.specs.Meaning.{select_rows}
use Rattle.aql_typed.specs.Views.{select_clauses_of, source_of}
use Rattle.aql_meaning.specs.RowLists.{widths_in}
use Rattle.aql_meaning.specs.Sources.{products, source_list, IsOwnOf}
use Rattle.aql_meaning.proofs.Lending.{pair_length}
use Rattle.aql_meaning.proofs.Queries.{sources_fit, selection_means}
use Rattle.aql_meaning.proofs.query.selection_of.Goals as goal

pub selection-requires-clause-there : goal.selection-requires-clause-there
selection-requires-clause-there c =
    subst (All (λ (source : TypedSource). SourceFits (widths_in c.args.below.now) (source_of source))) (sym c.as_slice-sources.ensures.value)
    (sources_fit (widths_in c.args.below.now) c.args.select.now c.requires.fits)

pub selection-requires-clause-one_each : goal.selection-requires-clause-one_each
selection-requires-clause-one_each c =
    pair_length (λ source own. IsOwnOf c.args.tools.now c.args.doc.now c.args.below.now (source_of source) own) c.args.select.now.sources.items c.args.own.now c.requires.own
    ∙ ap length (sym c.as_slice-sources.ensures.value)

pub returns-clause-rows : goal.returns-clause-rows
returns-clause-rows c =
    c.in_ok-out.ensures.rows
    ∙ (ap (λ (sources : List TypedSource). select_rows c.args.tools.now c.args.doc.now (select_clauses_of c.args.select.now.clauses)
    (products (map (λ list. list.rows) (map (λ source. source_list c.args.tools.now c.args.doc.now c.args.below.now (source_of source)) sources)))) c.as_slice-sources.ensures.value
    ∙ sym (selection_means c.args.tools.now c.args.doc.now c.args.below.now c.args.select.now))
