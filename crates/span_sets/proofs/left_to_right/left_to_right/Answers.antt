use Rattle.std.proofs.Common.{◌≡◌, ◌<◌, ◌↔◌, Bool, true}
use Rattle.span_token.specs.Relations.{Overlaps}
use Rattle.span_sets.specs.Candidates.{extent_at, IsClear}
use Rattle.span_sets.specs.LawProofs.Sweeps.{both_true, first_false, decided, IsSwept-kept, IsSwept-dropped}
use Rattle.span_sets.proofs.left_to_right.left_to_right.Goals as goal
use Rattle.span_sets.proofs.left_to_right.left_to_right.Goals.{then-is_clear_of, else-is_clear_of, then-stays, else-stays}

pub loop-i-preserved : goal.loop-i-preserved
loop-i-preserved c =
    let sorted = c.args.sorted.now in
    let x : Bool = c.if-is_clear_of.stays in
    let swept = c.loop-i.invariant in
    let is : (x ≡ true) ↔ ((0 < c.loop-i.i → ¬ (Overlaps (extent_at sorted c.loop-i.farthest) (extent_at sorted c.loop-i.i))) × (0 < c.loop-i.i → ¬ (Overlaps (extent_at sorted c.loop-i.last) (extent_at sorted c.loop-i.i)))) =
    elim c.if-is_clear_of.branch [
      | then-is_clear_of w ↦ both_true x c.is_clear_of.result w.is_clear_of-stays.result w.stays-is w.if-is_clear_of.true c.is_clear_of.ensures w.is_clear_of-stays.ensures
      | else-is_clear_of w ↦ first_false x c.is_clear_of.result w.stays-is w.if-is_clear_of.false c.is_clear_of.ensures
    ] in
    let right : (x ≡ true) ↔ IsClear sorted c.loop-i.answers.items c.loop-i.i =
    decided sorted c.requires.sorted c.requires.ordered c.loop-i.answers.items c.loop-i.i c.loop-i.farthest c.loop-i.last c.loop-i-test.true swept x is in
    elim c.if-stays.branch [
      | then-stays w ↦ rw (c.in_ok-push.ensures.items, w.farthest-is, w.last-is)
          (IsSwept-kept sorted c.requires.sorted c.requires.ordered c.loop-i.answers.items c.loop-i.i c.loop-i.farthest c.loop-i.last c.loop-i-test.true swept x right
          w.farther-farthest.result w.if-stays.true w.farther-farthest.ensures.either w.farther-farthest.ensures.beyond_a w.farther-farthest.ensures.beyond_b)
      | else-stays w ↦ rw (c.in_ok-push.ensures.items, w.farthest-is, w.last-is)
          (IsSwept-dropped sorted c.requires.sorted c.requires.ordered c.loop-i.answers.items c.loop-i.i c.loop-i.farthest c.loop-i.last c.loop-i-test.true swept x right w.if-stays.false)
    ]
