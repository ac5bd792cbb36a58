-- What stands where, as bytes are looked at.
use Rattle.std.proofs.Common.{◌≡◌, ℕ, zero, suc, ◌+◌, ◌-◌, ◌<◌, ◌≤◌, Bool, true, false, List, [], ◌∷◌, ◌++◌, length, take, drop, refl, sym, ap, ap₂, subst, ◌∙◌, arith, append_assoc, length-append, Option, Some, None, IfSome, slice_range, take-append-drop, take-take}
use Rattle.std.proofs.Math.Seq.{drop-append-add, take-add, take-append_seam}
use Rattle.std.proofs.lemmas.List.{drop-drop, drop-take, length-drop, length-take-le}
use Rattle.std.proofs.lemmas.List.Elements.{All-append}
use Rattle.corpus_json.specs.Lines.{FirstLfAt, HasNoLf, IsNotLf}
use Rattle.line_sight.specs.Seen.{seen_by, Sees, Shown, StandIn, StandsAt}
use Rattle.line_sight.specs.SeenLaws.{if_told, stands-append, stands-none}

-- what a source shows is seen behind what is ready
pub left_seen : (looks : Bool) (ready : List ℕ) (left : Option (List ℕ)) (at n : ℕ) (new : List ℕ) → length ready ≤ at → (0 < n → looks ≡ true)
    → IfSome left (λ bytes. take n (drop (at - length ready) bytes) ≡ take n new) → IfSome (seen_by looks ready left) (λ whole. take n (drop at whole) ≡ take n new)
left_seen true ready None at n new behind able is = tt
left_seen true ready (Some left) at n new behind able is =
    ap (λ (k : ℕ). take n (drop k (ready ++ left))) (omega (arith, behind)) ∙ ap (take n) (drop-append-add ready left (at - length ready)) ∙ is
left_seen false ready left at zero new behind able is = refl
left_seen false ready left at (suc n) new behind able is = absurd (let e : false ≡ true = able (omega arith) in cc)

-- the first bytes of what was copied
pub front_copied : (ready new : List ℕ) (at n : ℕ) → take n new ≡ take n (drop at ready) → (k : ℕ) → k ≤ n → take k (drop at ready) ≡ take k new
front_copied ready new at n is k few = sym (take-take k n (drop at ready) few) ∙ ap (take k) (sym is) ∙ take-take k n new few

-- nothing is ready there
pub front_none : (ready new : List ℕ) (at k : ℕ) → length ready ≤ at → at + k ≤ length ready → take k (drop at ready) ≡ take k new
front_none ready new at k behind inside = let none : k ≡ 0 = omega (arith, behind, inside) in ap (λ (i : ℕ). take i (drop at ready)) none ∙ sym (ap (λ (i : ℕ). take i new) none)

-- what is left of a part behind its first bytes
pub range-behind : (bytes : List ℕ) (from to n : ℕ) → from + n ≤ to → drop n (slice_range bytes from to) ≡ slice_range bytes (from + n) to
range-behind bytes from to n within =
    ap (λ (k : ℕ). drop n (take k (drop from bytes))) (let e : to - from ≡ n + (to - (from + n)) = omega (arith, within) in e)
    ∙ drop-take n (to - (from + n)) (drop from bytes)
    ∙ ap (take (to - (from + n))) (drop-drop n from bytes)

-- a part of the first bytes that stayed
pub kept-range : (new old : List ℕ) (from to : ℕ) → from ≤ to → take to new ≡ take to old → slice_range new from to ≡ slice_range old from to
kept-range new old from to order kept =
    let whole : from + (to - from) ≡ to = omega (arith, order) in
    sym (drop-take from (to - from) new)
    ∙ ap (λ (k : ℕ). drop from (take k new)) whole ∙ ap (drop from) kept ∙ sym (ap (λ (k : ℕ). drop from (take k old)) whole)
    ∙ drop-take from (to - from) old

-- the first LF behind bytes that have none
pub first-behind : (bytes : List ℕ) (k n : ℕ) → k ≤ length bytes → HasNoLf (take k bytes) → FirstLfAt (drop k bytes) n → FirstLfAt bytes (k + n)
first-behind bytes k n within none lf =
    let front = take-add k n bytes in
    record {
      within = omega (arith, within, lf.within, length-drop k bytes);
      no_lf = subst HasNoLf (sym front) (All-append IsNotLf (take k bytes) (take n (drop k bytes)) none lf.no_lf);
      split =
          sym (take-append-drop k bytes)
          ∙ ap (λ (b : List ℕ). take k bytes ++ b) (lf.split ∙ ap (λ (b : List ℕ). take n (drop k bytes) ++ 10 ∷ b) (drop-drop (n + 1) k bytes ∙ ap (λ (i : ℕ). drop i bytes) (omega arith)))
          ∙ sym (append_assoc (take k bytes) (take n (drop k bytes)) (10 ∷ drop (k + n + 1) bytes))
          ∙ ap (λ (b : List ℕ). b ++ 10 ∷ drop (k + n + 1) bytes) (sym front);
    }

-- bytes have no LF where neither their first ones have one nor those behind
pub none-behind : (bytes : List ℕ) (k : ℕ) → HasNoLf (take k bytes) → HasNoLf (drop k bytes) → HasNoLf bytes
none-behind bytes k front back = subst HasNoLf (take-append-drop k bytes) (All-append IsNotLf (take k bytes) (drop k bytes) front back)

-- nothing is seen at each place
pub sees-none : (shown : Shown) (at : ℕ) → at ≤ shown.most → Sees shown record { at = at; bytes = [] }
sees-none shown at within = record { within = omega (arith, within); stands = subst (λ (k : ℕ). StandsAt shown at k []) (let e : at ≡ at + 0 = omega arith in e) (stands-none shown at) }

-- what stands behind the first bytes
stands-behind : (at n : ℕ) (bytes : List ℕ) → n ≤ length bytes → (whole : List ℕ) → StandIn whole at bytes → StandIn whole (at + n) (drop n bytes)
stands-behind at n bytes few whole there =
    ap (λ (k : ℕ). take k (drop (at + n) whole)) (length-drop n bytes)
    ∙ ap (take (length bytes - n)) (sym (drop-drop n at whole))
    ∙ sym (drop-take n (length bytes - n) (drop at whole))
    ∙ ap (λ (k : ℕ). drop n (take k (drop at whole))) (omega (arith, few))
    ∙ ap (drop n) there

-- what is seen behind the first bytes
pub sees-behind : (shown : Shown) (at n : ℕ) (bytes : List ℕ) → n ≤ length bytes → Sees shown record { at = at; bytes = bytes } → Sees shown record { at = at + n; bytes = drop n bytes }
sees-behind shown at n bytes few sees =
    let within = sees.within in
    let size = length-drop n bytes in
    record {
      within = omega (arith, within, few, size);
      stands = record {
        long = refl;
        front = λ k inside fits.
            ap (take k) (sym (drop-drop n at shown.ready))
            ∙ sym (drop-take n k (drop at shown.ready))
            ∙ ap (drop n) (sees.stands.front (n + k) (omega (arith, inside, few, size)) (omega (arith, fits)))
            ∙ drop-take n k bytes;
        there = if_told (λ whole. StandIn whole at bytes) (λ whole. StandIn whole (at + n) (drop n bytes)) (stands-behind at n bytes few) shown.all sees.stands.there;
      };
    }

-- a part goes on by some bytes
range-more : (bytes : List ℕ) (from to n : ℕ) → from ≤ to → slice_range bytes from (to + n) ≡ slice_range bytes from to ++ take n (drop to bytes)
range-more bytes from to n order =
    let size : to + n - from ≡ (to - from) + n = omega (arith, order) in
    ap (λ (k : ℕ). take k (drop from bytes)) size
    ∙ take-add (to - from) n (drop from bytes)
    ∙ ap (λ (b : List ℕ). slice_range bytes from to ++ take n b) (drop-drop (to - from) from bytes ∙ ap (λ (k : ℕ). drop k bytes) (omega (arith, order)))

module _ (old new : List ℕ) (from to n : ℕ) (order : from ≤ to) (within : to ≤ length old) (behind : to + n ≤ length new) (kept : take to new ≡ take to old) where
  -- the bytes with those behind them
  pub longer-range : slice_range new from (to + n) ≡ slice_range old from to ++ take n (drop to new)
  longer-range = range-more new from to n order ∙ ap (λ (b : List ℕ). b ++ take n (drop to new)) (kept-range new old from to order kept)

  size-before : length (slice_range old from to) ≡ to - from
  size-before = length-take-le (to - from) (drop from old) (omega (arith, within, order, length-drop from old))

  size-more : length (take n (drop to new)) ≡ n
  size-more = length-take-le n (drop to new) (omega (arith, behind, length-drop to new))

  size-after : length (slice_range new from (to + n)) ≡ (to - from) + n
  size-after = ap length longer-range ∙ length-append (slice_range old from to) (take n (drop to new)) ∙ ap₂ (λ (i j : ℕ). i + j) size-before size-more

  -- those that were there are the first ones
  pub kept-first : take (length (slice_range old from to)) (slice_range new from (to + n)) ≡ slice_range old from to
  kept-first = ap (take (length (slice_range old from to))) longer-range ∙ take-append_seam (slice_range old from to) (take n (drop to new))

  -- there are more
  pub more-than : 0 < n → length (slice_range old from to) < length (slice_range new from (to + n))
  more-than some = omega (arith, size-before, size-after, some)

  -- and all of them stand there
  pub sees-more : (shown : Shown) (at : ℕ) → Sees shown record { at = at; bytes = slice_range old from to } → at + (to - from) + n ≤ shown.most
      → ((k : ℕ) → k ≤ n → at + (to - from) + k ≤ length shown.ready → take k (drop (at + (to - from)) shown.ready) ≡ take k (drop to new))
      → IfSome shown.all (λ whole. take n (drop (at + (to - from)) whole) ≡ take n (drop to new)) → Sees shown record { at = at; bytes = slice_range new from (to + n) }
  sees-more shown at sees most front is =
      let place = at + length (slice_range old from to) in
      let here : place ≡ at + (to - from) = omega (arith, size-before) in
      let tail : StandsAt shown place (place + n) (take n (drop to new)) = record {
        long = omega (arith, size-more);
        front = λ k few fits.
            ap (λ (i : ℕ). take k (drop i shown.ready)) here ∙ front k (omega (arith, few, size-more)) (omega (arith, fits, here))
            ∙ sym (take-take k n (drop to new) (omega (arith, few, size-more)));
        there = if_told (λ whole. take n (drop (at + (to - from)) whole) ≡ take n (drop to new)) (λ whole. StandIn whole place (take n (drop to new)))
            (λ whole same. ap₂ (λ (i k : ℕ). take i (drop k whole)) size-more here ∙ same) shown.all is;
      } in
      record {
        within = omega (arith, size-after, most);
        stands =
            subst (λ (b : List ℕ). StandsAt shown at (at + length b) b) (sym longer-range)
            (subst (λ (k : ℕ). StandsAt shown at k (slice_range old from to ++ take n (drop to new))) (omega (arith, size-more, length-append (slice_range old from to) (take n (drop to new))))
            (stands-append shown at place (place + n) (slice_range old from to) (take n (drop to new)) sees.stands tail));
      }
