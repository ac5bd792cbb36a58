-- A plan that keeps the outputs of one that shows what the program means shows it too.
use Rattle.std.proofs.Common.{◌≡◌, ◌∙◌, List, [], ◌∷◌}
use Rattle.std.specs.List.{AllZip}
use Rattle.aql_base.specs.BagLaws.{SameBag-trans}
use Rattle.aql_typed.specs.declared.tree.Output.{Output}
use Rattle.algebra.specs.declared.output.PlanOut.{PlanOut}
use Rattle.algebra.specs.Plans.{Parts, KeepsOutput, KeepsOutputs}
use Rattle.plan_maker.specs.Lowered.{Program, ShowsOutput, IsLowered}
use Rattle.plan_maker.specs.Shown.{ShowsProgram}

module _ (program : Program) (old new : Parts) where
  shown_again : (out : Output) (before after : PlanOut) → ShowsOutput program old out before → KeepsOutput old new before after → ShowsOutput program new out after
  shown_again out before after shows keeps = record {
    names = keeps.names ∙ shows.names;
    rows = λ doc. SameBag-trans _ _ _ (keeps.rows doc) (shows.rows doc);
  }

  all_again : (outs : List Output) (before after : List PlanOut) → AllZip (ShowsOutput program old) outs before → AllZip (KeepsOutput old new) before after → AllZip (ShowsOutput program new) outs after
  all_again [] [] [] shows keeps = tt
  all_again [] [] (a ∷ after) shows keeps = absurd keeps
  all_again [] (b ∷ before) after shows keeps = absurd shows
  all_again (o ∷ outs) [] after shows keeps = absurd shows
  all_again (o ∷ outs) (b ∷ before) [] shows keeps = absurd keeps
  all_again (o ∷ outs) (b ∷ before) (a ∷ after) shows keeps = (shown_again o b a shows.0 keeps.0, all_again outs before after shows.1 keeps.1)

  pub made : ShowsProgram program old → KeepsOutputs old new → ShowsProgram program new
  made shows keeps = record {
    lists = keeps.lists ∙ shows.lists;
    outputs = all_again program.1.1 old.outputs new.outputs shows.outputs keeps.outputs;
  }

-- a lowered plan shows it
pub lowered-shows : (program : Program) (plan : Parts) → IsLowered program plan → ShowsProgram program plan
lowered-shows program plan lowered = record { lists = lowered.lists; outputs = lowered.outputs }
