use Rattle.std.proofs.Common.{◌≡◌, ◌∙◌, ◌<◌, ℕ, List, Option, None, All, length, map, take, refl, sym, ap, subst, arith}
use Rattle.std.specs.Prelude.{slice_index_or, Contains, IsSome}
use Rattle.std.proofs.lemmas.List.{take_all}
use Rattle.row_values.specs.Rows.{RowList}
use Rattle.algebra.specs.declared.node.Node.{Node}
use Rattle.algebra.specs.declared.output.PlanOut.{PlanOut}
use Rattle.algebra.specs.Plans.{Parts}
use Rattle.plan_operators.specs.Filling.{IsStanding}
use Rattle.plan_operators.specs.Readers.{IsScheduled}
use Rattle.plan_operators.proofs.Boards.{all-held, there-more}
use Rattle.plan_operators.proofs.Standing.{standing-empty}
use Rattle.plan_operators.proofs.board.evaluate.Goals as goal

pub loop-out-init : goal.loop-out-init
loop-out-init c =
    let plan = c.plan-plan.result.now in
    let board : List (Option RowList) = c.in_ok-board.board.items in
    let readers : List ℕ = c.in_ok-readers.readers.items in
    let is : IsScheduled plan readers =
    subst (IsScheduled plan) (sym c.in_ok-readers.ensures) (subst (λ (parts : Parts). IsScheduled parts c.readers.result.now) (sym c.plan-plan.ensures) c.readers.ensures) in
    let long : length board ≡ length plan.nodes =
    sym c.in_ok-board.board.ok.0 ∙ (c.in_ok-board.ensures.long ∙ (c.len.ensures ∙ ap (λ (ns : List Node). length ns) c.nodes.ensures)) in
    record {
      stands = standing-empty c.args.doc.now plan board readers long c.in_ok-board.ensures.none is.long is.counted;
      there = λ k d below. absurd (omega (arith, below));
      same = refl;
    }

pub loop-out-preserved : goal.loop-out-preserved
loop-out-preserved c =
    let plan = c.plan-plan.result.now in
    let outs : List PlanOut = c.outputs-outputs.result.now in
    record {
      stands = c.in_ok-fill.ensures.stands;
      there = there-more outs c.loop-out.out-index c.out-item.result c.loop-out.board.items c.fill.new.board.items c.loop-out-test.true c.out-item.is
          (λ m listed. c.in_ok-fill.ensures.kept m (subst (λ (os : List PlanOut). Contains (map (λ (out : PlanOut). out.node) os) m) c.outputs-outputs.ensures.outputs listed)) c.in_ok-fill.ensures.there
          c.loop-out.invariant.there;
      same = c.in_ok-fill.ensures.same ∙ c.loop-out.invariant.same;
    }

pub returns-clause-board : goal.returns-clause-board
returns-clause-board c =
    let board : List (Option RowList) = c.loop-out.board.items in
    let stands : IsStanding c.args.doc.now c.args.schedule.now board c.loop-out.readers.items =
    subst (λ (p : Parts). IsStanding c.args.doc.now p board c.loop-out.readers.items) c.plan-plan.ensures c.loop-out.invariant.stands in
    stands.has

pub returns-clause-shown : goal.returns-clause-shown
returns-clause-shown c =
    let parts = c.args.schedule.now in
    let board : List (Option RowList) = c.loop-out.board.items in
    let outs : List PlanOut = c.outputs-outputs.result.now in
    let stands : IsStanding c.args.doc.now parts board c.loop-out.readers.items =
    subst (λ (p : Parts). IsStanding c.args.doc.now p board c.loop-out.readers.items) c.plan-plan.ensures c.loop-out.invariant.stands in
    let all : take c.loop-out.out-index outs ≡ parts.outputs = take_all c.loop-out.out-index outs c.loop-out-test.false ∙ (c.outputs-outputs.ensures.outputs ∙ ap (λ (p : Parts). p.outputs) c.plan-plan.ensures) in
    let some : All (λ (out : PlanOut). IsSome (slice_index_or board out.node None)) parts.outputs =
    subst (All (λ (out : PlanOut). IsSome (slice_index_or board out.node None))) all c.loop-out.invariant.there in
    let there : All (λ (out : PlanOut). out.node < length board) parts.outputs = λ k d below. let at = c.readers.ensures.there k d below in omega (arith, at, stands.long) in
    all-held parts.lists c.args.doc.now parts.nodes board parts.outputs stands.has there some
