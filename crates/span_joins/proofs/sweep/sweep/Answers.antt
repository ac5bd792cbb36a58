use Rattle.std.proofs.Common.{◌≡◌, ◌≤◌, ◌<◌, ℕ, ◌+◌, Option, Some, None, List, ◌++◌, length, take, get_or, refl, sym, ap, ap₂, ◌∙◌, append-nil, append_assoc, length-append, arith}
use Rattle.std.proofs.lemmas.List.{get_or_default}
use Rattle.span_token.specs.Extents.{Extent, extent_of}
use Rattle.row_values.specs.Datums.{Datum}
use Rattle.row_values.specs.Rows.{RowList}
use Rattle.span_joins.specs.declared.rule.By.{By}
use Rattle.span_joins.specs.Joins.{rank}
use Rattle.span_joins.specs.Answers.{number_of, order_of, other_order_of}
use Rattle.span_joins.specs.Sweeps.{Entry, entries_of, entry_at, no_entry, pairs_with, pairs_from, all_pairs, AreBefore, AreInOrder, IsRankBefore}
use Rattle.span_joins.proofs.OrderLaws.{none_of, in_order-next, proper-next}
use Rattle.span_joins.proofs.SweepLaws.{none_too_near, all_pairs_none, AreBefore-later, all_pairs_more, all_pairs_room, all_pairs_within}
use Rattle.span_joins.proofs.sweep.sweep.Goals as goal
use Rattle.span_joins.proofs.sweep.sweep.Goals.{in-Some+in_ok-from, in_default}

-- a later row with a span has a rank that is no less
later : (by : By) (firsts : List Entry) → AreInOrder by firsts → (i k : ℕ) (d : Entry) (a b : Extent) → i ≤ k → k < length firsts → (get_or firsts i no_entry).span ≡ Some a → (get_or firsts k d).span ≡ Some b → number_of by a ≤ number_of by b
later by firsts up i k d a b low high at is_b =
    let there = up i k d low high in
    let same : (get_or firsts i d).span ≡ Some a = ap (λ (e : Entry). e.span) (get_or_default firsts i d no_entry (omega arith)) ∙ at in
    let one = ap (rank (number_of by)) same in
    let two = ap (rank (number_of by)) is_b in
    omega (arith, there, one, two)

pub loop-i-init : goal.loop-i-init
loop-i-init g c =
    let nothing = all_pairs_none c.args.rule (entries_of c.args.firsts) (entries_of c.args.others) in
    record {
      last_first = (λ _. refl, λ low. absurd (omega arith));
      last_other = (λ _. refl, λ low. absurd (omega arith));
      before = λ rise rises k d a low high is. none_too_near c.args.rule a (entries_of c.args.others);
      pairs = λ rise rises. sym (append-nil c.args.out.now.rows) ∙ ap (λ (rows : List (List Datum)). c.args.out.now.rows ++ rows) (sym nothing);
      firsts_seen = λ i j d low high. absurd (omega arith);
      others_seen = λ i j d low high. absurd (omega arith);
      proper = λ k d low. absurd (omega arith);
      in_list = omega arith;
      width = refl;
      spent = λ exact. omega arith;
      counted = omega arith;
      grows = omega arith;
    }

pub returns-then-not-rises_at-clause-bound : goal.returns-then-not-rises_at-clause-bound
returns-then-not-rises_at-clause-bound g c exact =
    omega (arith, c.loop-i.invariant.spent exact, c.loop-i.invariant.in_list, c.loop-i-test.true, c.len-i-end.ensures, all_pairs_within c.args.rule (entries_of c.args.firsts) (entries_of c.args.others) c.loop-i.i)

pub returns-in_err-from-clause-bound : goal.returns-in_err-from-clause-bound
returns-in_err-from-clause-bound g c exact =
    let rule = c.args.rule in
    let firsts = entries_of c.args.firsts in
    let others = entries_of c.args.others in
    let i = c.loop-i.i in
    let first : Entry = entry_at c.args.firsts i in
    let below : i < length firsts = omega (arith, c.loop-i-test.true, c.len-i-end.ensures) in
    let room = all_pairs_room rule firsts others i first below (get_or_default firsts i no_entry first below) in
    let pairs : pairs_from rule first.span first.values others ≡ pairs_with rule (extent_of c.in-Some.first) c.row-row.result.now others =
    ap₂ (λ o row. pairs_from rule o row others) (sym c.in-Some.ensures.span) (sym c.row-row.ensures) in
    omega (arith, c.loop-i.invariant.spent exact, c.push_pairs.ensures.bound exact, below, room, ap length pairs)

pub loop-i-preserved : goal.loop-i-preserved
loop-i-preserved g c =
    let rule = c.args.rule in
    let firsts = entries_of c.args.firsts in
    let others = entries_of c.args.others in
    let old = c.args.out.now.rows in
    let i = c.loop-i.i in
    let first : Entry = entry_at c.args.firsts i in
    let below : i < length firsts = omega (arith, c.loop-i-test.true, c.len-i-end.ensures) in
    let is = get_or_default firsts i no_entry first below in
    let so_far = c.loop-i.invariant in
    let more = all_pairs_more rule firsts others i first below is in
    let firsts_seen = in_order-next firsts i (order_of rule) so_far.firsts_seen (λ low. rw (← c.order.ensures) (c.rises_at-rises.ensures.yes c.if-not-rises.false low)) in
    let others_seen = in_order-next others i (other_order_of rule) so_far.others_seen (λ low. rw (← c.other_order.ensures) (c.rises_at.ensures.yes c.if-not-rises_at.false low)) in
    let last_other : IsRankBefore (other_order_of rule) others (i + 1) c.rises_at.new.last = rw (← c.other_order.ensures) c.rises_at.ensures.last in
    let last_first : IsRankBefore (order_of rule) firsts (i + 1) c.rises_at-rises.new.last = rw (← c.order.ensures) c.rises_at-rises.ensures.last in
    let proper = proper-next others i so_far.proper c.rises_at.ensures.proper in
    elim c.match-span.branch [
      | in-Some+in_ok-from w ↦
          let a = extent_of w.in-Some.first in
          let at : first.span ≡ Some a = sym w.in-Some.ensures.span in
          let pairs : pairs_from rule first.span first.values others ≡ pairs_with rule a w.row-row.result.now others =
          ap₂ (λ o row. pairs_from rule o row others) at (sym w.row-row.ensures) in
          let both = more ∙ ap (λ (rows : List (List Datum)). all_pairs rule (take i firsts) others ++ rows) pairs in
          let known : AreInOrder (order_of rule) firsts → AreInOrder (other_order_of rule) others → AreBefore rule a others c.loop-i.from = λ up rise. so_far.before up rise i no_entry a (omega arith) below at in
          record {
            last_first = last_first;
            last_other = last_other;
            before = λ up rise k d b low high is_b.
                rw w.from-is (AreBefore-later rule a b others w.in_ok-from.from
                (later (order_of rule) firsts up i k d a b (omega arith) high at is_b)
                (w.in_ok-from.ensures.before rise (known up rise)));
            pairs = λ up rise. ap (λ (r : RowList). r.rows) w.out-is ∙ w.in_ok-from.ensures.pairs rise (known up rise)
                ∙ ap (λ (rows : List (List Datum)). rows ++ pairs_with rule a w.row-row.result.now others) (so_far.pairs up rise)
                ∙ append_assoc old (all_pairs rule (take i firsts) others) (pairs_with rule a w.row-row.result.now others)
                ∙ ap (λ (rows : List (List Datum)). old ++ rows) (sym both);
            firsts_seen = firsts_seen;
            others_seen = others_seen;
            proper = proper;
            in_list = rw w.from-is w.in_ok-from.ensures.in_list;
            width = ap (λ (r : RowList). r.width) w.out-is ∙ w.in_ok-from.ensures.width ∙ so_far.width;
            spent = λ exact. omega (arith, w.steps-is, w.from-is, so_far.spent exact, w.in_ok-from.ensures.spent exact, ap length both, length-append (all_pairs rule (take i firsts) others) (pairs_with rule a w.row-row.result.now others));
            counted = omega (arith, w.steps-is, so_far.counted, w.in_ok-from.ensures.counted, ap (λ (r : RowList). length r.rows) w.out-is);
            grows = omega (arith, w.steps-is, so_far.grows, w.in_ok-from.ensures.grows);
          }
      | in_default w ↦
          let at : first.span ≡ None = sym c.span.ensures.span ∙ none_of c.span.result w.in_default.not-Some in
          let same : all_pairs rule (take (i + 1) firsts) others ≡ all_pairs rule (take i firsts) others =
          more ∙ ap (λ (o : Option Extent). all_pairs rule (take i firsts) others ++ pairs_from rule o first.values others) at ∙ append-nil _ in
          record {
            last_first = last_first;
            last_other = last_other;
            before = λ up rise k d b low high is_b. rw w.from-is (so_far.before up rise k d b (omega arith) high is_b);
            pairs = λ up rise. ap (λ (r : RowList). r.rows) w.out-is ∙ so_far.pairs up rise ∙ ap (λ (rows : List (List Datum)). old ++ rows) (sym same);
            firsts_seen = firsts_seen;
            others_seen = others_seen;
            proper = proper;
            in_list = rw w.from-is so_far.in_list;
            width = ap (λ (r : RowList). r.width) w.out-is ∙ so_far.width;
            spent = λ exact. omega (arith, w.steps-is, w.from-is, so_far.spent exact, ap length same);
            counted = omega (arith, w.steps-is, so_far.counted, ap (λ (r : RowList). length r.rows) w.out-is);
            grows = omega (arith, w.steps-is, so_far.grows);
          }
    ]
