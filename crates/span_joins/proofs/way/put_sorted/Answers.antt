use Rattle.std.proofs.Common.{◌≡◌, List, All, map, subst, sym, arith}
use Rattle.std.specs.List.Sorted.{IsPermutation}
use Rattle.std.proofs.lemmas.List.Sorted.{All-permutation, length_permutation}
use Rattle.aql_base.specs.BagLaws.{SameBag-append, SameBag-refl, SameBag-sym, SameBag-trans}
use Rattle.span_joins.specs.declared.rule.By.{By}
use Rattle.span_joins.specs.declared.side.Key.{Key}
use Rattle.span_joins.specs.Answers.{is_back, test_by}
use Rattle.span_joins.specs.Sweeps.{Entry, entries_of, entry_of, pairs_of, AreInOrder, IsProper, MayMeetAny}
use Rattle.span_joins.proofs.PairLaws.{have_width-sorted, pairs_of-SameBag, pairs_of-length}
use Rattle.span_joins.proofs.way.put_sorted.Goals as goal

-- keys in a slice are the same rows
borrowed : (entries : List Entry) (keys ks : List Key) → ks ≡ keys → IsPermutation entries (map entry_of keys) → IsPermutation entries (map entry_of ks)
borrowed entries keys ks p same = subst (λ (xs : List Key). IsPermutation entries (map entry_of xs)) (sym p) same

pub put_in_order-requires-clause-widths : goal.put_in_order-requires-clause-widths
put_in_order-requires-clause-widths g c =
    have_width-sorted c.args.out.now.width (entries_of c.args.firsts) (map entry_of c.as_slice.result.now) (entries_of c.args.others) (map entry_of c.as_slice-2.result.now)
    (borrowed (entries_of c.args.firsts) c.in_ok-first_keys.first_keys.items c.as_slice.result.now c.as_slice.ensures.value c.in_ok-first_keys.ensures.same)
    (borrowed (entries_of c.args.others) c.in_ok-other_keys.other_keys.items c.as_slice-2.result.now c.as_slice-2.ensures.value c.in_ok-other_keys.ensures.same) c.requires.widths

pub put_in_order-requires-clause-firsts_within : goal.put_in_order-requires-clause-firsts_within
put_in_order-requires-clause-firsts_within g c =
    All-permutation (λ (first : Entry). MayMeetAny c.args.way first.span) (entries_of c.args.firsts) (map entry_of c.as_slice.result.now)
    (borrowed (entries_of c.args.firsts) c.in_ok-first_keys.first_keys.items c.as_slice.result.now c.as_slice.ensures.value c.in_ok-first_keys.ensures.same) c.requires.firsts_within

pub put_in_order-requires-clause-others_within : goal.put_in_order-requires-clause-others_within
put_in_order-requires-clause-others_within g c =
    All-permutation (λ (other : Entry). MayMeetAny c.args.way other.span) (entries_of c.args.others) (map entry_of c.as_slice-2.result.now)
    (borrowed (entries_of c.args.others) c.in_ok-other_keys.other_keys.items c.as_slice-2.result.now c.as_slice-2.ensures.value c.in_ok-other_keys.ensures.same) c.requires.others_within

pub returns-in_err-put_in_order-clause-bound : goal.returns-in_err-put_in_order-clause-bound
returns-in_err-put_in_order-clause-bound g c bounded =
    let lefts = borrowed (entries_of c.args.firsts) c.in_ok-first_keys.first_keys.items c.as_slice.result.now c.as_slice.ensures.value c.in_ok-first_keys.ensures.same in
    let rights = borrowed (entries_of c.args.others) c.in_ok-other_keys.other_keys.items c.as_slice-2.result.now c.as_slice-2.ensures.value c.in_ok-other_keys.ensures.same in
    omega (
      arith,
      c.in_err-put_in_order.ensures.bound bounded,
      length_permutation _ _ lefts,
      length_permutation _ _ rights,
      pairs_of-length (test_by c.args.way) (is_back c.args.way) (entries_of c.args.firsts) (map entry_of c.as_slice.result.now) (entries_of c.args.others) (map entry_of c.as_slice-2.result.now) lefts rights,
    )

pub returns-clause-pairs : goal.returns-clause-pairs
returns-clause-pairs g c =
    let old = c.args.out.now.rows in
    let test = test_by c.args.way in
    let turned = is_back c.args.way in
    let ls = entries_of c.args.firsts in
    let rs = entries_of c.args.others in
    let ls' : List Entry = map entry_of c.as_slice.result.now in
    let rs' : List Entry = map entry_of c.as_slice-2.result.now in
    let lefts = borrowed ls c.in_ok-first_keys.first_keys.items c.as_slice.result.now c.as_slice.ensures.value c.in_ok-first_keys.ensures.same in
    let rights = borrowed rs c.in_ok-other_keys.other_keys.items c.as_slice-2.result.now c.as_slice-2.ensures.value c.in_ok-other_keys.ensures.same in
    let up = subst (λ (xs : List Key). AreInOrder c.order.result (map entry_of xs)) (sym c.as_slice.ensures.value) c.in_ok-first_keys.ensures.sorted in
    let rise = subst (λ (xs : List Key). AreInOrder c.other_order.result (map entry_of xs)) (sym c.as_slice-2.ensures.value) c.in_ok-other_keys.ensures.sorted in
    let proper = subst (λ (xs : List Key). All (λ (e : Entry). IsProper e.span) (map entry_of xs)) (sym c.as_slice-2.ensures.value) c.in_ok-other_keys.ensures.proper in
    SameBag-trans _ _ _ (c.in_ok-put_in_order.ensures.pairs (subst (λ (by : By). AreInOrder by ls') c.order.ensures up) (subst (λ (by : By). AreInOrder by rs') c.other_order.ensures rise) proper)
    (SameBag-append old old _ _ (SameBag-refl old) (SameBag-sym (pairs_of test turned ls rs) (pairs_of test turned ls' rs') (pairs_of-SameBag test turned ls ls' rs rs' lefts rights)))

pub returns-clause-bound : goal.returns-clause-bound
returns-clause-bound g c bounded =
    let lefts = borrowed (entries_of c.args.firsts) c.in_ok-first_keys.first_keys.items c.as_slice.result.now c.as_slice.ensures.value c.in_ok-first_keys.ensures.same in
    let rights = borrowed (entries_of c.args.others) c.in_ok-other_keys.other_keys.items c.as_slice-2.result.now c.as_slice-2.ensures.value c.in_ok-other_keys.ensures.same in
    omega (
      arith,
      c.in_ok-put_in_order.ensures.bound bounded,
      length_permutation _ _ lefts,
      length_permutation _ _ rights,
      pairs_of-length (test_by c.args.way) (is_back c.args.way) (entries_of c.args.firsts) (map entry_of c.as_slice.result.now) (entries_of c.args.others) (map entry_of c.as_slice-2.result.now) lefts rights,
    )
