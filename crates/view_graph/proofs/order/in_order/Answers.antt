use Rattle.std.proofs.Common.{◌∙◌, ◌+◌, ◌<◌, ap, sym, subst, List, ℕ, map, length, get_or, All, arith}
use Rattle.std.proofs.lemmas.List.{take_all, length-map}
use Rattle.std.proofs.lemmas.List.Sorted.{All-permutation}
use Rattle.aql_syntax.specs.Views.{statement_of}
use Rattle.view_graph.proofs.Ranking.{ranked_within}
use Rattle.view_graph.proofs.order.in_order.Goals as goal

pub overflow_add-view : goal.overflow_add-view
overflow_add-view c =
    let program = map statement_of c.args.statements.now in
    let within : (get_or c.deref-view-items.result.now c.loop-view.view-index (0, 0)).1 < length program =
    subst (λ (views : List (ℕ × ℕ)). All (λ view. view.1 < length program) views) (sym c.deref-view-items.ensures.value)
    (All-permutation (λ view. view.1 < length program) c.in_ok-views.views.items c.sort.new.self.items c.in_ok-sort.ensures.permutation (ranked_within program c.args.marks.now c.in_ok-views.views.items c.in_ok-views.ensures))
    c.loop-view.view-index (0, 0) c.loop-view-test.true in
    omega (arith, within, length-map c.args.statements.now statement_of, c.requires.short)

pub returns : goal.returns
returns c = record {
  with_ranks = c.in_ok-views.views.items;
  sorted = c.sort.new.self.items;
  are_ranked = c.in_ok-views.ensures;
  permuted = c.in_ok-sort.ensures.permutation;
  in_order = c.in_ok-sort.ensures.sorted;
  numbers = c.loop-view.invariant
      ∙ ap (λ (views : List (ℕ × ℕ)). map (λ view. view.1 + 1) views) (take_all c.loop-view.view-index c.deref-view-items.result.now (omega (arith, c.loop-view-test.false)) ∙ c.deref-view-items.ensures.value);
}
