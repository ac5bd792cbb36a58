use Rattle.std.proofs.Common.{rules, arith, ◌∙◌, List, map, drop, ap, refl}
use Rattle.std.proofs.lemmas.Grind.{common_steps}
use Rattle.std.proofs.lemmas.List.{drop_all}
use Rattle.aql_typed.specs.Views.{body_of}
use Rattle.plan_maker.proofs.Bases.{part-none, part-next, part-all, bodies_left}
use Rattle.plan_maker.proofs.Giving.{gives-doc}
use Rattle.plan_maker.proofs.Sizes.{forms_push, bodies_more}
use Rattle.plan_maker.proofs.lowering.views_lowered.Goals as goal

pub loop-view-init : goal.loop-view-init
loop-view-init c = record {
  forms = forms_push _ _ _ c.in_ok-document.ensures.ok.1 tt;
  few = grind (arith, common_steps, c.in_ok-document.ensures.ok.1);
  part = part-none _ _ _ c.new.ensures.items (gives-doc _ _ _ c.in_ok-document.ensures.stands) c.requires.fit;
}

pub loop-view-preserved : goal.loop-view-preserved
loop-view-preserved c =
    let left = bodies_left c.args.views.now c.loop-view.view-index c.view-item.result c.loop-view-test.true c.view-item.is in
    record {
      forms = λ olds. c.in_ok-n.ensures.forms (c.loop-view.invariant.forms olds);
      few = omega (arith, bodies_more _ _ _ left, c.loop-view.invariant.few, c.in_ok-n.ensures.few);
      part = part-next _ _ _ _ _ _ left c.loop-view.invariant.part _ _ _ c.in_ok-n.ensures.grows refl c.in_ok-push.ensures.items c.in_ok-n.ensures.gives;
    }

pub returns-clause-base : goal.returns-clause-base
returns-clause-base c = part-all _ _ _ _ (ap (map body_of) (drop_all c.loop-view.view-index c.args.views.now (search rules))) c.loop-view.invariant.part
