use Rattle.std.proofs.Common.{rules, ◌∙◌, map, ap, refl}
use Rattle.scalar_ops.specs.Views.{term_of}
use Rattle.scalar_ops.specs.SideLaws.{left_conditions}
use Rattle.aql_meaning.specs.Nests.{terms_lent}
use Rattle.aql_meaning.proofs.Nesting.{no_level, level_put}
use Rattle.aql_meaning.proofs.nest.nest_of.Goals as goal

pub loop-source-init : goal.loop-source-init
loop-source-init c = no_level c.args.conds.now c.in_ok-last.last.items c.new-levels.result.items (c.in_ok-last.ensures) c.new-levels.ensures.items

pub loop-source-preserved : goal.loop-source-preserved
loop-source-preserved c =
    let lent = c.loop-source.last.items in
    level_put (λ source. source.now) c.args.sources.now c.loop-source.source-index c.source-item.result (map term_of c.args.conds.now) c.loop-source.levels.items c.push.new.self.items
    (terms_lent lent) (terms_lent c.later-last.result.items) c.loop-source.width c.in-Some.wider _ c.loop-source-test.true c.source-item.is c.loop-source.invariant c.in_ok-push.ensures.items refl
    (c.in_ok-conds.ensures ∙ ap (λ conds. left_conditions c.loop-source.width (terms_lent conds)) c.as_slice.ensures.value) c.later-last.ensures (search rules)
