use Rattle.std.proofs.Common.{◌≡◌, ◌∙◌, ap, sym, subst, List, ℕ, map, drop}
use Rattle.std.proofs.lemmas.Option.{MatchOption-at_some}
use Rattle.view_graph.specs.declared.search.Frame.{Frame}
use Rattle.view_graph.specs.Names.{AllDiffer}
use Rattle.view_graph.specs.Graphs.{IsClosed}
use Rattle.view_graph.specs.Search.{Edge, GoesOn, IsCircle}
use Rattle.view_graph.proofs.Walking.{started, circle_closed, circle_distinct}
use Rattle.view_graph.proofs.search.descend.Goals as goal

pub loop-frame-init : goal.loop-frame-init
loop-frame-init c =
    started c.args.uses.now c.args.marks.now c.requires.search c.args.view c.requires.within c.requires.fresh c.new-stack.result.items c.new-stack.ensures.items
    c.enter.new.marks c.enter.new.stack.items c.in_ok-enter.ensures.marks c.in_ok-enter.ensures.stack

pub returns-in-Some-2 : goal.returns-in-Some-2
returns-in-Some-2 c =
    let circle = MatchOption-at_some (GoesOn c.args.uses.now c.loop-frame.marks c.step.new.marks c.pop.new.self.items c.step.new.stack.items) (IsCircle c.args.uses.now c.step.new.marks c.step.new.stack.items)
    c.in-Some-2.depth c.in-Some-2.is c.in_ok-depth.ensures in
    let views_are : c.in_ok-way_from.field-0.items ≡ map (λ f. f.view) (drop c.in-Some-2.depth c.step.new.stack.items) =
    c.in_ok-way_from.ensures ∙ ap (λ (way : List Frame). map (λ (f : Frame). f.view) (drop c.in-Some-2.depth way)) c.deref.ensures.value in (
      subst (λ (views : List ℕ). IsClosed (Edge c.args.uses.now) views) (sym views_are) (circle_closed c.args.uses.now c.step.new.marks c.step.new.stack.items c.in-Some-2.depth circle),
      subst (λ (views : List ℕ). AllDiffer views) (sym views_are) (circle_distinct c.args.uses.now c.step.new.marks c.step.new.stack.items c.in-Some-2.depth circle),
    )
