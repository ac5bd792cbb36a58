use Rattle.std.proofs.Common.{◌≡◌, ◌∙◌, ◌++◌, ◌∷◌, [], List, length, map, sym, ap, subst}
use Rattle.std.proofs.lemmas.List.{length-map}
use Rattle.std.proofs.lemmas.Simd.{map-map}
use Rattle.row_values.specs.Rows.{RowList}
use Rattle.row_values.specs.Outputs.{OutputNames}
use Rattle.algebra.specs.declared.output.PlanOut.{PlanOut}
use Rattle.demo_corpus.specs.Totals.{Answer, answer_of, tally_of}
use Rattle.run_pool.specs.Lines.{names_in}
use Rattle.aqlx_top.proofs.Planning.{tally_alike}
use Rattle.aqlx_top.proofs.demonstration.count.Goals as goal

pub returns : goal.returns
returns g c =
    let rows = c.args.rows.now in
    let lists : List RowList = map (λ list. list.now) rows in
    let outs : List PlanOut = c.args.plan.now.outputs in
    let means = g.P.Pool.means c.args.pool.now in
    let are : answer_of rows ≡ map (λ (list : RowList). list.rows) lists = sym (map-map (λ (list : RowList). list.rows) (λ list. list.now) rows) in
    let wide : length lists ≡ length (names_in c.args.plan.now) =
    sym (length-map lists (λ (list : RowList). list.width)) ∙ ap length c.requires.rows.wide ∙ length-map (names_in c.args.plan.now) (λ (output : OutputNames). length output.columns) in
    let many : length rows ≡ length outs = sym (length-map rows (λ list. list.now)) ∙ wide ∙ length-map outs (λ (out : PlanOut). out.names) in
    record {
      counted = λ answers is.
          subst (λ n. c.args.totals.now ≡ tally_of n answers → c.add.new.self ≡ tally_of n (answers ++ answer_of rows ∷ [])) many (c.add.ensures.counted answers) is
          ∙ ap (λ (answer : Answer). tally_of (length outs) (answers ++ answer ∷ [])) are
          ∙ tally_alike (length outs) answers (map (λ (list : RowList). list.rows) lists) (means c.args.plan.now c.args.document.now) c.requires.rows.bags;
      documents = c.add.ensures.documents;
      as_many = c.add.ensures.outputs;
    }
