use Rattle.std.proofs.Common.{◌≡◌, ◌∙◌, ◌++◌, List, length, ap, ap₂, sym, arith}
use Rattle.std.specs.List.{range_with_len}
use Rattle.std.proofs.lemmas.List.{length-append, length-map}
use Rattle.scalar_ops.specs.Expressions.{Term}
use Rattle.scalar_ops.specs.Views.{term_of}
use Rattle.plan_maker.proofs.Giving.{valid-project, gives-project, group-valid, group-gives}
use Rattle.plan_maker.proofs.selection.grouped.Goals as goal

pub add-requires : goal.add-requires
add-requires c = record {
  valid = valid-project _ _ _ _ c.requires.can.gives _ (c.args.keys.now ++ c.args.arguments.now)
      (c.in_ok-items.ensures ∙ ap₂ (λ (a b : List Term). a ++ b) c.as_slice.ensures c.as_slice-2.ensures) c.requires.can.wanted;
}

pub add-requires-2 : goal.add-requires-2
add-requires-2 c =
    let items = c.in_ok-items.ensures ∙ ap₂ (λ (a b : List Term). a ++ b) c.as_slice.ensures c.as_slice-2.ensures in
    let keys = c.in_ok-keys.ensures ∙ ap (range_with_len 0) (sym (length-map c.as_slice-3.result.now term_of) ∙ ap length c.as_slice-3.ensures) in
    record {
      valid = group-valid _ _ _ _ (gives-project _ _ _ _ c.requires.can.gives _ (c.args.keys.now ++ c.args.arguments.now) items _ _ c.in_ok-columns.ensures.stands)
          (length c.args.keys.now) _ _ c.args.aggs.now keys c.in_ok-aggs.ensures (omega (arith, length-append c.args.keys.now c.args.arguments.now)) c.requires.keys_there c.requires.columns_there;
    }

pub returns-clause-gives : goal.returns-clause-gives
returns-clause-gives c = λ can.
    let items = c.in_ok-items.ensures ∙ ap₂ (λ (a b : List Term). a ++ b) c.as_slice.ensures c.as_slice-2.ensures in
    let keys = c.in_ok-keys.ensures ∙ ap (range_with_len 0) (sym (length-map c.as_slice-3.result.now term_of) ∙ ap length c.as_slice-3.ensures) in
    group-gives _ _ _ _ (gives-project _ _ _ _ can.gives _ (c.args.keys.now ++ c.args.arguments.now) items _ _ c.in_ok-columns.ensures.stands)
    (length c.args.keys.now) _ _ c.args.aggs.now keys c.in_ok-aggs.ensures _ _ c.in_ok-n.ensures.stands
