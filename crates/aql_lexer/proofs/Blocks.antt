-- The first `*/` of a text.
use Rattle.std.proofs.Common.{◌≡◌, ◌≢◌, ℕ, ◌+◌, Bool, true, false, cond, ◌&&◌, ◌==◌, List, [], ◌∷◌, ◌++◌, length, drop, slice_index, Some, refl, sym, ap, arith, add-zero}
use Rattle.std.proofs.lemmas.Bool.{both_ways, and_parts, and_right, eqb-true, false_from_ne_true}
use Rattle.std.proofs.lemmas.Option.{none-some}
use Rattle.aql_lexer.specs.Scanning.{block_end_from}

-- no `*/` stands in the bytes
abbrev pub HasNoEnd : List ℕ → Type 0
HasNoEnd inner = (front back : List ℕ) → inner ≢ front ++ (42 ∷ 47 ∷ back)

-- the first `*/` of a text that begins at `at` has this place
pub record EndsAt (at : ℕ) (z : List ℕ) (place : ℕ) : Type 0 where
  pub inner : List ℕ
  pub back : List ℕ
  pub split : z ≡ inner ++ (42 ∷ 47 ∷ back)
  pub at_place : place ≡ at + length inner
  pub first : HasNoEnd inner

no_end_in_nil : HasNoEnd []
no_end_in_nil [] back e = cc
no_end_in_nil (b ∷ bs) back e = cc

-- both bytes of `*/` stand at the front
ends_here : (b : ℕ) (bs : List ℕ) → (b == 42 && slice_index bs 0 == 47) ≡ true → (b ≡ 42) × (bs ≡ 47 ∷ drop 1 bs)
ends_here b [] h = absurd (both_ways _ (and_right (b == 42) false refl) h)
ends_here b (c ∷ cs) h =
    let parts = and_parts (b == 42) (c == 47) h in
    (eqb-true b 42 parts.0, ap (λ x. x ∷ cs) (eqb-true c 47 parts.1))

-- the first byte and the next are no end
no_end_more : (b : ℕ) (bs inner back : List ℕ) → (b == 42 && slice_index bs 0 == 47) ≡ false → bs ≡ inner ++ (42 ∷ 47 ∷ back) → HasNoEnd inner → HasNoEnd (b ∷ inner)
no_end_more b bs inner back other e h [] rest same =
    let front : b ≡ 42 = cc in
    let tail : inner ≡ 47 ∷ rest = cc in
    let next : slice_index bs 0 ≡ 47 = rw (e, tail) in
    both_ways _ other (rw (front, next))
no_end_more b bs inner back other e h (c ∷ cs) rest same = h cs rest (cc)

found_step : (at b : ℕ) (bs : List ℕ) (place : ℕ) (t : Bool) → (b == 42 && slice_index bs 0 == 47) ≡ t → (block_end_from (at + 1) bs ≡ Some place → EndsAt (at + 1) bs place) → cond t (Some at) (block_end_from (at + 1) bs) ≡ Some place → EndsAt at (b ∷ bs) place
found_step at b bs place true here rest h =
    let parts = ends_here b bs here in
    let is : at ≡ place = cc in
    record { inner = []; back = drop 1 bs; split = rw (parts.0, ← parts.1); at_place = omega arith; first = no_end_in_nil }
found_step at b bs place false other rest h =
    let r = rest h in
    record {
      inner = b ∷ r.inner;
      back = r.back;
      split = ap (λ xs. b ∷ xs) r.split;
      at_place = omega (arith, r.at_place);
      first = no_end_more b bs r.inner r.back other r.split r.first;
    }

-- what is found is the first end
pub block_found : (at : ℕ) (z : List ℕ) (place : ℕ) → block_end_from at z ≡ Some place → EndsAt at z place
block_found at [] place h = absurd (none-some place h)
block_found at (b ∷ bs) place h = found_step at b bs place _ refl (block_found (at + 1) bs place) h

other_here : (b : ℕ) (inner back : List ℕ) → HasNoEnd (b ∷ inner) → (b == 42 && slice_index (inner ++ (42 ∷ 47 ∷ back)) 0 == 47) ≡ false
other_here b [] back first = and_right (b == 42) false refl
other_here b (c ∷ cs) back first = false_from_ne_true _ (λ h.
    let parts = and_parts (b == 42) (c == 47) h in
    let e : b ∷ c ∷ cs ≡ 42 ∷ 47 ∷ cs = rw (eqb-true b 42 parts.0, eqb-true c 47 parts.1) in
    first [] cs e)

-- where the bytes hold no end, the end behind them is found
pub block_close : (at : ℕ) (inner back : List ℕ) → HasNoEnd inner → block_end_from at (inner ++ (42 ∷ 47 ∷ back)) ≡ Some (at + length inner)
block_close at [] back first = ap Some (sym (add-zero at))
block_close at (b ∷ bs) back first =
    let rest = block_close (at + 1) bs back (λ front after e. first (b ∷ front) after (ap (λ xs. b ∷ xs) e)) in
    let e : at + 1 + length bs ≡ at + length (b ∷ bs) = omega arith in
    rw (other_here b bs back first, rest, e)
