use Rattle.std.proofs.Common.{◌≡◌, ℕ, ◌+◌, ◌<◌, ◌≤◌, Some, List, [], ◌++◌, length, take, get_or, refl, sym, ap, ap₂, subst, ◌∙◌, append-nil, append_assoc, arith, true≢false}
use Rattle.std.proofs.lemmas.List.{get_or_default}
use Rattle.aql_base.specs.Bags.{SameBag}
use Rattle.aql_base.specs.BagLaws.{SameBag-refl, SameBag-is, SameBag-trans, SameBag-append, SameBag-exchange}
use Rattle.span_token.specs.Extents.{Extent}
use Rattle.row_values.specs.Datums.{Datum}
use Rattle.span_joins.specs.declared.rule.By.TheVariants.{Begin}
use Rattle.span_joins.specs.declared.rule.Rule.TheVariants.{OverlapsFromLeft, OverlapsFromRight}
use Rattle.span_joins.specs.declared.rule.Answer.TheVariants.{Before}
use Rattle.span_joins.specs.Joins.{rank}
use Rattle.span_joins.specs.Answers.{number_of}
use Rattle.span_joins.specs.Sweeps.{Entry, entries_of, entry_at, no_entry, all_pairs, answer_at, AreBefore, AreInOrder}
use Rattle.span_joins.proofs.OrderLaws.{in_order-next, proper-next}
use Rattle.span_joins.proofs.SweepLaws.{all_pairs_none, all_pairs_more, from_left-before, from_right-before, from_left-never}
use Rattle.span_joins.proofs.meet.meet.Goals as goal

-- after the pairs of one left row more, or of one right row more, it is still that bag
add_left : (old a b p rows more : List (List Datum)) → SameBag rows (old ++ (a ++ b)) → more ≡ rows ++ p → SameBag more (old ++ ((a ++ p) ++ b))
add_left old a b p rows more h e =
    let moved : SameBag ((old ++ (a ++ b)) ++ p) (old ++ ((a ++ p) ++ b)) =
    SameBag-trans _ _ _ (SameBag-is _ _ (append_assoc old (a ++ b) p ∙ ap (λ (xs : List (List Datum)). old ++ xs) (append_assoc a b p)))
    (SameBag-append old old _ _ (SameBag-refl old)
    (SameBag-trans _ _ _ (SameBag-append a a (b ++ p) (p ++ b) (SameBag-refl a) (swap b p)) (SameBag-is _ _ (sym (append_assoc a p b)))))
    in
    SameBag-trans _ _ _ (SameBag-is _ _ e) (SameBag-trans _ _ _ (SameBag-append rows (old ++ (a ++ b)) p p h (SameBag-refl p)) moved)
  where
    swap : (xs ys : List (List Datum)) → SameBag (xs ++ ys) (ys ++ xs)
    swap xs ys = SameBag-trans _ _ _ (SameBag-is _ _ (ap (λ (zs : List (List Datum)). xs ++ zs) (sym (append-nil ys)))) (SameBag-trans _ _ _ (SameBag-exchange xs ys []) (SameBag-is _ _ (ap (λ (zs : List (List Datum)). ys ++ zs) (append-nil xs))))

add_right : (old a b p rows more : List (List Datum)) → SameBag rows (old ++ (a ++ b)) → more ≡ rows ++ p → SameBag more (old ++ (a ++ (b ++ p)))
add_right old a b p rows more h e =
    SameBag-trans _ _ _ (SameBag-is _ _ e) (SameBag-trans _ _ _ (SameBag-append rows (old ++ (a ++ b)) p p h (SameBag-refl p))
    (SameBag-is _ _ (append_assoc old (a ++ b) p ∙ ap (λ (xs : List (List Datum)). old ++ xs) (append_assoc a b p))))

-- the left rows that were taken begin no later than the right ones that weren't, and the other way round
no_later : (lefts rights : List Entry) (i j : ℕ) → i < length lefts → AreInOrder Begin lefts → AreInOrder Begin rights
    → (j < length rights → rank (number_of Begin) (get_or lefts i no_entry).span ≤ rank (number_of Begin) (get_or rights j no_entry).span)
    → (k m : ℕ) → k < i + 1 → j ≤ m → m < length rights → rank (number_of Begin) (get_or lefts k no_entry).span ≤ rank (number_of Begin) (get_or rights m no_entry).span
no_later lefts rights i j below up rise h k m low high inside = omega (arith, up k i no_entry (omega arith) below, h (omega arith), rise j m no_entry high inside)

later : (lefts rights : List Entry) (i j : ℕ) → j < length rights → AreInOrder Begin lefts → AreInOrder Begin rights
    → (i < length lefts → rank (number_of Begin) (get_or rights j no_entry).span < rank (number_of Begin) (get_or lefts i no_entry).span)
    → (k m : ℕ) → k < j + 1 → i ≤ m → m < length lefts → rank (number_of Begin) (get_or rights k no_entry).span < rank (number_of Begin) (get_or lefts m no_entry).span
later lefts rights i j below up rise h k m low high inside = omega (arith, rise k j no_entry (omega arith) below, h (omega arith), up i m no_entry high inside)

-- so the right ones are too near for the next left row, and the left ones for the next right row
rights_near : (lefts rights : List Entry) (i j : ℕ) → j ≤ length rights
    → ((k : ℕ) → k < j → rank (number_of Begin) (get_or rights k no_entry).span < rank (number_of Begin) (get_or lefts i no_entry).span)
    → (a : Extent) → (get_or lefts i no_entry).span ≡ Some a → AreBefore OverlapsFromLeft a rights j
rights_near lefts rights i j inside h a at = from_left-before a rights j inside (λ k low. subst (λ o. rank (number_of Begin) (get_or rights k no_entry).span < rank (number_of Begin) o) at (h k low))

lefts_near : (lefts rights : List Entry) (i j : ℕ) → i ≤ length lefts
    → ((k : ℕ) → k < i → rank (number_of Begin) (get_or lefts k no_entry).span ≤ rank (number_of Begin) (get_or rights j no_entry).span)
    → (a : Extent) → (get_or rights j no_entry).span ≡ Some a → AreBefore OverlapsFromRight a lefts i
lefts_near lefts rights i j inside h a at = from_right-before a lefts i inside (λ k low. subst (λ o. rank (number_of Begin) (get_or lefts k no_entry).span ≤ rank (number_of Begin) o) at (h k low))

pub loop-i-init : goal.loop-i-init
loop-i-init g c = record {
  in_lefts = omega arith;
  in_rights = omega arith;
  last_left = (λ _. refl, λ low. absurd (omega arith));
  last_right = (λ _. refl, λ low. absurd (omega arith));
  lefts_seen = λ i j d low high. absurd (omega arith);
  rights_seen = λ i j d low high. absurd (omega arith);
  proper = λ k d low. absurd (omega arith);
  lefts_before = λ up rise k m low high inside. absurd (omega arith);
  rights_before = λ up rise k m low high inside. absurd (omega arith);
  pairs = λ up rise. SameBag-is _ _ (sym (append-nil c.args.out.now.rows)
      ∙ ap (λ (rows : List (List Datum)). c.args.out.now.rows ++ rows) (ap₂ (λ (xs ys : List (List Datum)). xs ++ ys) (sym (all_pairs_none OverlapsFromLeft (entries_of c.args.lefts) (entries_of c.args.rights))) (sym (all_pairs_none OverlapsFromRight (entries_of c.args.rights) (entries_of c.args.lefts)))));
  width = refl;
  counted = omega arith;
  grows = omega arith;
}

pub loop-i-preserved-in-Left : goal.loop-i-preserved-in-Left
loop-i-preserved-in-Left g c =
    let lefts = entries_of c.args.lefts in
    let rights = entries_of c.args.rights in
    let i = c.loop-i.i in
    let j = c.loop-i.j in
    let left : Entry = entry_at c.args.lefts i in
    let below : i < length lefts = c.in-Left.ensures.left refl in
    let so_far = c.loop-i.invariant in
    let done = c.in_ok-push_next-in-Left.ensures in
    let rises = c.if-not-branch.false in
    let more = all_pairs_more OverlapsFromLeft lefts rights i left below (get_or_default lefts i no_entry left below) in
    record {
      in_lefts = omega (arith, below);
      in_rights = so_far.in_rights;
      last_left = done.last;
      last_right = so_far.last_right;
      lefts_seen = in_order-next lefts i Begin so_far.lefts_seen (λ low. done.yes rises);
      rights_seen = so_far.rights_seen;
      proper = so_far.proper;
      lefts_before = λ up rise. no_later lefts rights i j below up rise (c.in-Left.ensures.left_no_later refl);
      rights_before = λ up rise k m low high inside. so_far.rights_before up rise k m low (omega arith) inside;
      pairs = λ up rise.
          let near = rights_near lefts rights i j so_far.in_rights (λ k low. so_far.rights_before up rise k i low (omega arith) below) in
          subst (λ rows. SameBag c.push_next.new.out.rows (c.args.out.now.rows ++ (rows ++ all_pairs OverlapsFromRight (take j rights) lefts))) (sym more)
          (add_left c.args.out.now.rows _ _ _ c.loop-i.out.rows c.push_next.new.out.rows (so_far.pairs up rise) (done.pairs rise near rises));
      width = done.width ∙ so_far.width;
      counted = omega (arith, so_far.counted, done.counted, c.next_turn.ensures.grows);
      grows = omega (arith, so_far.grows, done.grows, c.next_turn.ensures.grows);
    }

pub loop-i-preserved-in-LeftAlone : goal.loop-i-preserved-in-LeftAlone
loop-i-preserved-in-LeftAlone g c =
    let lefts = entries_of c.args.lefts in
    let rights = entries_of c.args.rights in
    let i = c.loop-i.i in
    let j = c.loop-i.j in
    let left : Entry = entry_at c.args.lefts i in
    let below : i < length lefts = c.in-LeftAlone.ensures.alone refl in
    let so_far = c.loop-i.invariant in
    let more = all_pairs_more OverlapsFromLeft lefts rights i left below (get_or_default lefts i no_entry left below) in
    record {
      in_lefts = omega (arith, below);
      in_rights = so_far.in_rights;
      last_left = c.rises_at.ensures.last;
      last_right = so_far.last_right;
      lefts_seen = in_order-next lefts i Begin so_far.lefts_seen (λ low. c.rises_at.ensures.yes c.if-not-rises_at.false low);
      rights_seen = so_far.rights_seen;
      proper = so_far.proper;
      lefts_before = λ up rise. no_later lefts rights i j below up rise (c.in-LeftAlone.ensures.alone_no_later refl);
      rights_before = λ up rise k m low high inside. so_far.rights_before up rise k m low (omega arith) inside;
      pairs = λ up rise.
          let near = rights_near lefts rights i j so_far.in_rights (λ k low. so_far.rights_before up rise k i low (omega arith) below) in
          subst (λ rows. SameBag c.loop-i.out.rows (c.args.out.now.rows ++ (rows ++ all_pairs OverlapsFromRight (take j rights) lefts))) (sym more)
          (add_left c.args.out.now.rows _ _ _ c.loop-i.out.rows c.loop-i.out.rows (so_far.pairs up rise) (sym (ap (λ (rows : List (List Datum)). c.loop-i.out.rows ++ rows) (c.in-LeftAlone.ensures.alone_pairs refl rise near) ∙ append-nil c.loop-i.out.rows)));
      width = so_far.width;
      counted = omega (arith, so_far.counted, c.next_turn.ensures.grows);
      grows = omega (arith, so_far.grows, c.next_turn.ensures.grows);
    }

pub loop-i-preserved : goal.loop-i-preserved
loop-i-preserved g c =
    let lefts = entries_of c.args.lefts in
    let rights = entries_of c.args.rights in
    let i = c.loop-i.i in
    let j = c.loop-i.j in
    let right : Entry = entry_at c.args.rights j in
    let below : j < length rights = c.in-Right.ensures.right refl in
    let so_far = c.loop-i.invariant in
    let done = c.in_ok-push_next-in-Right.ensures in
    let rises = c.if-not-branch-2.false in
    let more = all_pairs_more OverlapsFromRight rights lefts j right below (get_or_default rights j no_entry right below) in
    record {
      in_lefts = so_far.in_lefts;
      in_rights = omega (arith, below);
      last_left = so_far.last_left;
      last_right = done.last;
      lefts_seen = so_far.lefts_seen;
      rights_seen = in_order-next rights j Begin so_far.rights_seen (λ low. done.yes rises);
      proper = proper-next rights j so_far.proper (λ low. done.proper rises);
      lefts_before = λ up rise k m low high inside. so_far.lefts_before up rise k m low (omega arith) inside;
      rights_before = λ up rise. later lefts rights i j below up rise (c.in-Right.ensures.right_later refl);
      pairs = λ up rise.
          let near = lefts_near lefts rights i j so_far.in_lefts (λ k low. so_far.lefts_before up rise k j low (omega arith) below) in
          subst (λ rows. SameBag c.push_next-in-Right.new.out.rows (c.args.out.now.rows ++ (all_pairs OverlapsFromLeft (take i lefts) rights ++ rows))) (sym more)
          (add_right c.args.out.now.rows _ _ _ c.loop-i.out.rows c.push_next-in-Right.new.out.rows (so_far.pairs up rise) (done.pairs up near rises));
      width = done.width ∙ so_far.width;
      counted = omega (arith, so_far.counted, done.counted, c.next_turn.ensures.grows);
      grows = omega (arith, so_far.grows, done.grows, c.next_turn.ensures.grows);
    }

-- no right row from j on begins before left row i
none_before : (lefts rights : List Entry) (i j : ℕ) → AreInOrder Begin rights
    → (j < length rights → rank (number_of Begin) (get_or lefts i no_entry).span ≤ rank (number_of Begin) (get_or rights j no_entry).span)
    → (a : Extent) (k : ℕ) → (get_or lefts i no_entry).span ≡ Some a → j ≤ k → k < length rights → answer_at OverlapsFromLeft a (get_or rights k no_entry).span ≡ Before → ⊥
none_before lefts rights i j rise h a k at low high e =
    from_left-never a (get_or rights k no_entry).span (omega (arith, h (omega arith), rise j k no_entry low high, ap (rank (number_of Begin)) at)) e

pub returns-then-not-branch-clause-in_order : goal.returns-then-not-branch-clause-in_order
returns-then-not-branch-clause-in_order g c up rise =
    sym c.if-not-branch.true
    ∙ c.in_ok-push_next-in-Left.ensures.always up (none_before (entries_of c.args.lefts) (entries_of c.args.rights) c.loop-i.i c.loop-i.j rise (c.in-Left.ensures.left_no_later refl))

pub returns-then-not-branch-clause-pairs : goal.returns-then-not-branch-clause-pairs
returns-then-not-branch-clause-pairs g c up rise =
    absurd (true≢false (sym (sym c.if-not-branch.true
    ∙ c.in_ok-push_next-in-Left.ensures.always up (none_before (entries_of c.args.lefts) (entries_of c.args.rights) c.loop-i.i c.loop-i.j rise (c.in-Left.ensures.left_no_later refl)))))
