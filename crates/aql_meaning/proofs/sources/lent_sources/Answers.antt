use Rattle.std.proofs.Common.{rules, arith, subst, sym}
use Rattle.row_values.specs.Rows.{RowList, RowsLieIn}
use Rattle.aql_typed.specs.Views.{source_of}
use Rattle.aql_meaning.specs.Sources.{IsOwnOf, source_list}
use Rattle.aql_meaning.proofs.Lending.{lent_more, lent_all, one_more_lies}
use Rattle.aql_meaning.proofs.sources.lent_sources.Goals as goal

pub loop-i-preserved : goal.loop-i-preserved
loop-i-preserved c = record {
  lists = λ lists doc each. lent_more (λ list. list.now) (λ source. source_list lists doc c.args.below.now (source_of source)) (λ source own. IsOwnOf lists doc c.args.below.now (source_of source) own)
      c.args.sources.now c.args.own.now c.loop-i.lists.items c.push.new.self.items c.loop-i.i c.index-sources-i.result c.index-own-i.result c.lent.result (c.lent.ensures.list lists doc) c.index-sources-i.is c.index-own-i.is c.loop-i-test.true c.in_ok-push.ensures.items each
      (c.loop-i.invariant.lists lists doc each);
  lies = λ doc below own. one_more_lies (λ list. list.now) doc c.loop-i.lists.items c.push.new.self.items c.lent.result c.in_ok-push.ensures.items (c.loop-i.invariant.lies doc below own)
      (c.lent.ensures.lies doc below (subst (λ (list : RowList). RowsLieIn doc list.rows) (sym c.index-own-i.is) (own c.loop-i.i c.index-own-i.result (omega (arith, c.loop-i-test.true, c.requires.one_each)))));
}

pub returns-clause-lists : goal.returns-clause-lists
returns-clause-lists c = λ lists doc each.
    lent_all (λ list. list.now) (λ source. source_list lists doc c.args.below.now (source_of source)) (λ source own. IsOwnOf lists doc c.args.below.now (source_of source) own)
    c.args.sources.now c.loop-i.lists.items c.loop-i.i (search rules) (c.loop-i.invariant.lists lists doc each)
