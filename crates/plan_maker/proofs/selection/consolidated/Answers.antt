use Rattle.std.proofs.Common.{◌∙◌, Option, subst, option_map}
use Rattle.scalar_ops.specs.Views.{term_of}
use Rattle.aql_typed.specs.declared.tree.Consolidate.{Consolidate}
use Rattle.aql_typed.specs.Views.{consolidation_of}
use Rattle.plan_maker.specs.Grounds.{TargetFits}
use Rattle.plan_maker.proofs.Giving.{valid-consolidate, gives-consolidate}
use Rattle.plan_maker.proofs.selection.consolidated.Goals as goal

pub add-requires : goal.add-requires
add-requires c = record {
  valid = valid-consolidate _ _ _ _ c.requires.can.gives _ _ (term_of c.in-Some.consolidate.target) (c.from-target.ensures ∙ c.in_ok-copied.ensures)
      (subst (λ (o : Option Consolidate). TargetFits (option_map consolidation_of o) c.requires.can.width) c.in-Some.is c.requires.can.wanted);
}

pub returns-clause-gives : goal.returns-clause-gives
returns-clause-gives c =
    rw c.in-Some.is (λ can. gives-consolidate _ _ _ _ can.gives _ _ (term_of c.in-Some.consolidate.target) (c.from-target.ensures ∙ c.in_ok-copied.ensures) _ _ c.in_ok-n.ensures.stands)
