use Rattle.std.proofs.Common.{◌≡◌, ◌<◌, ◌∙◌, ℕ, length, map, arith, subst}
use Rattle.std.specs.Arc.{arc_value}
use Rattle.algebra.specs.Items.{item_at}
use Rattle.worker_pool.specs.Filling.{IsFilledTo}
use Rattle.worker_pool.proofs.Answering.{answers-pushed, all-answered}
use Rattle.worker_pool.proofs.fill.fill.Goals as goal

pub each-preserved : goal.each-preserved
each-preserved g c =
    let below : c.each.d < length g.W.Work.docs = omega arith in
    record {
      filled = c.in_ok-rows.ensures.filled;
      answers = answers-pushed g.W.Work.plan g.W.Work.docs c.each.docs.items c.push.new.self.items c.in_ok-rows.rows (λ rows. map arc_value rows.items) c.each.d below c.in_ok-push.ensures.items
          c.each.invariant.answers c.in_ok-rows.ensures.rows;
      same = c.fill_document.ensures.same ∙ c.each.invariant.same;
    }

pub completed-requires : goal.completed-requires
completed-requires g c =
    let all : c.each.d ≡ length g.W.Work.docs = omega arith in
    record {
      filled = subst (λ (n : ℕ). IsFilledTo g.W.Work.plan g.W.Work.docs n (item_at g.W.Work.plan n 0) c.each.board) all c.each.invariant.filled;
      answers = all-answered g.W.Work.plan g.W.Work.docs c.each.d _ all c.each.invariant.answers;
    }
