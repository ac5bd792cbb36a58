use Rattle.std.proofs.Common.{◌≡◌, ◌∙◌, ◌-◌, ◌+◌, ◌<◌, ℕ, length, sym, subst, arith}
use Rattle.std.proofs.lemmas.List.{get_or_default}
use Rattle.plan_operators.specs.Readers.{number_of_readers, AreCountedFrom}
use Rattle.plan_operators.proofs.Scheduling.{counted-read, counted-unread}
use Rattle.plan_operators.proofs.readers.count_from_last.Goals as goal

pub nodes-preserved-then-index-gt0 : goal.nodes-preserved-then-index-gt0
nodes-preserved-then-index-gt0 c =
    let n = c.nodes.rest - 1 in
    let before : c.nodes.rest ≡ c.nodes.rest - 1 + 1 = omega (arith, c.nodes-test.true) in
    record {
      long = omega (arith, c.count_inputs.ensures.long, c.nodes.invariant.long);
      short = c.nodes.invariant.short;
      within = omega (arith, c.nodes.invariant.within);
      few = λ k.
          let few = c.nodes.invariant.few k in
          let more = c.count_inputs.ensures.more k in
          let most = c.count_inputs.ensures.most k in
          omega (arith, few, more, most, c.nodes-test.true);
      counted = λ outs was.
          counted-read c.args.nodes.now outs n c.nodes.readers.items (subst (λ (m : ℕ). AreCountedFrom m c.args.nodes.now outs c.nodes.readers.items) before (c.nodes.invariant.counted outs was))
          c.count_inputs.new.readers.items c.count_inputs.ensures.more c.count_inputs.ensures.below;
    }

pub nodes-preserved : goal.nodes-preserved
nodes-preserved c =
    let n = c.nodes.rest - 1 in
    let before : c.nodes.rest ≡ c.nodes.rest - 1 + 1 = omega (arith, c.nodes-test.true) in
    let there : n < length c.nodes.readers.items = omega (arith, c.nodes.invariant.long, c.nodes.invariant.within, c.nodes.readers.ok.0, c.nodes-test.true) in
    let same : number_of_readers c.nodes.readers.items n ≡ c.index.result.now = get_or_default c.nodes.readers.items n 0 c.index.result.now there ∙ sym c.index.ensures in
    let unread : number_of_readers c.nodes.readers.items n ≡ 0 = omega (arith, same, c.if-index-gt0.false) in
    record {
      long = c.nodes.invariant.long;
      short = c.nodes.invariant.short;
      within = omega (arith, c.nodes.invariant.within);
      few = λ k. let few = c.nodes.invariant.few k in omega (arith, few);
      counted = λ outs was.
          counted-unread c.args.nodes.now outs n c.nodes.readers.items (subst (λ (m : ℕ). AreCountedFrom m c.args.nodes.now outs c.nodes.readers.items) before (c.nodes.invariant.counted outs was)) unread;
    }
