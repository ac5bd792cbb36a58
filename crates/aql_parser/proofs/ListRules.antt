-- Readers of lists read lists of the grammar.
use Rattle.std.proofs.Common.{◌≡◌, ◌⊎◌, ⊎_elim, ℕ, zero, suc, ◌+◌, ◌<◌, Bool, true, false, List, [], ◌∷◌, ◌++◌, length, Option, Some, None, refl, ap, arith}
use Rattle.aql_lexer.specs.Kinds.{Kind}
use Rattle.aql_syntax.specs.Parts.{Part, ◌▸◌, Each, Separated, Clause}
use Rattle.aql_syntax.specs.Places.{Placing, placed_each, placed_separated, placed_clause}
use Rattle.aql_parser.specs.Nesting.{IsWithin}
use Rattle.aql_parser.specs.Readers.{Reader, ◌▷◌, listed, prefixed, separated, until, repeated, clause, after, take_if}
use Rattle.aql_parser.proofs.Rules.{Found, Reads, Always, Takes, within_after, bind, none_some, some_parts, chosen, carried, eaten_true}

prefixed_some : {A : Type 0} (front : List A) (r : Option (List A × ℕ × List Kind)) (xs : List A) (m : ℕ) (rest : List Kind) → prefixed front r ≡ Some (xs, m, rest) → (ys : List A) × (l : ℕ) × (left : List Kind) × (r ≡ Some (ys, l, left)) × (front ++ ys ≡ xs) × (left ≡ rest)
prefixed_some front None xs m rest h = absurd (none_some _ h)
prefixed_some front (Some r) xs m rest h = let same = some_parts _ _ _ _ _ _ h in (r.0, r.1, r.2, refl, same.0, same.2)

joined : {A : Type 0} (Sep : Part) (P : A → Part) (x : A) (ys : List A) (ks mid next left : List Kind) → P x ks mid → Sep mid next → Separated Sep P ys next left → Separated Sep P (x ∷ ys) ks left
joined Sep P x [] ks mid next left hx s h = absurd h
joined Sep P x (y ∷ ys) ks mid next left hx s h = (mid, hx, (h.0, (next, s, h.1), h.2))

module _ {A : Type 0} (sep : List Kind → Bool) {Sep : Part} {item : Reader A} {P : A → Part} {place : Placing A} {S : List Kind → Type 0} (d : ℕ) (takes : Takes sep Sep) (reader : Reads item P place d S) (stops_at : (ks : List Kind) → sep ks ≡ true → S ks) where
  listed_sound : (turns n : ℕ) (ks : List Kind) (xs : List A) (m : ℕ) (rest : List Kind) → listed sep item turns n ks ≡ Some (xs, m, rest) → Separated Sep P xs ks rest
  listed_sound zero n ks xs m rest h = absurd (none_some _ h)
  listed_sound (suc turns) n ks xs m rest h =
      let one = bind (item n ks) _ _ h in
      let first = reader.sound n ks one.0 one.1 one.2 one.3 in
      ⊎_elim
      (λ c.
      let more = prefixed_some (one.0 ∷ []) _ xs m rest c.1 in
      let others = listed_sound turns (one.1 + 1) (after one.2) more.0 more.1 more.2 more.3 in
      carried (Separated Sep P) (one.0 ∷ more.0) xs ks more.2 rest more.4 more.5
      (joined Sep P one.0 more.0 ks one.2 (after one.2) more.2 first (takes.found one.2 c.0) others))
      (λ c.
      let same = some_parts _ _ _ _ _ _ c.1 in
      carried (Separated Sep P) (one.0 ∷ []) xs ks one.2 rest same.0 same.2 (one.2, first, refl))
      (chosen (sep one.2) _ _ _ one.4)

  listed_complete : (x : A) (xs : List A) (turns n : ℕ) (ks rest : List Kind) → length ks < turns → S rest → sep rest ≡ false → IsWithin d ks → Separated Sep P (x ∷ xs) ks rest → Found (listed sep item turns) (placed_separated place) d n ks (x ∷ xs) rest
  listed_complete x xs zero n ks rest few stops ends within h = absurd (omega arith)
  listed_complete x [] (suc turns) n ks rest few stops ends within h =
      let here : P x ks rest = rw h.2 at h.1 in
      let one = reader.complete n ks x rest stops within here in
      record {
        reads = rw (one.reads, ends) refl;
        within = one.within;
        shorter = one.shorter;
      }
  listed_complete x (y ∷ ys) (suc turns) n ks rest few stops ends within h =
      let token = takes.tested h.0 h.2.1.0 h.2.1.1 in
      let one = reader.complete n ks x h.0 (stops_at h.0 token.0) within h.1 in
      let there : IsWithin d (token.1 ∷ h.2.1.0) = rw token.2 at one.within in
      let left : IsWithin d h.2.1.0 = within_after d token.1 h.2.1.0 token.3 token.4 there in
      let shorter : length h.0 ≡ suc (length h.2.1.0) = ap length token.2 in
      let two = listed_complete y ys turns ((place n x).1 + 1) h.2.1.0 rest (omega (arith, one.shorter, shorter)) stops ends left (h.2.0, h.2.1.2, h.2.2) in
      let next : after h.0 ≡ h.2.1.0 = ap after token.2 in
      record {
        reads = rw (one.reads, token.0, next, two.reads) refl;
        within = two.within;
        shorter = omega (arith, one.shorter, shorter, two.shorter);
      }

  pub reads_separated : Reads (separated sep item) (Separated Sep P) (placed_separated place) d (λ ks. S ks × (sep ks ≡ false))
  unfolding separated
  reads_separated = record {
    sound = λ n ks xs m rest h. listed_sound (length ks + 1) n ks xs m rest h;
    complete = separated_complete;
  }
    where
      separated_complete : (n : ℕ) (ks : List Kind) (xs : List A) (rest : List Kind) → S rest × (sep rest ≡ false) → IsWithin d ks → Separated Sep P xs ks rest → Found (separated sep item) (placed_separated place) d n ks xs rest
      separated_complete n ks [] rest stops within h = absurd h
      separated_complete n ks (x ∷ xs) rest stops within h =
          let all = listed_complete x xs (length ks + 1) n ks rest (omega arith) stops.0 stops.1 within h in
          record { reads = all.reads; within = all.within; shorter = all.shorter }

-- a list that may be left out
module _ {A : Type 0} (begin : List Kind → Bool) (r : Reader (List A)) {B Sep : Part} {P : A → Part} (place : Placing A) (step : ℕ → ℕ) {S : List Kind → Type 0} (d : ℕ) (reader : Reads (take_if begin ▷ r) (λ xs. B ▸ Separated Sep P xs) (λ n xs. placed_separated place (step n) xs) d S) where
  pub reads_clause : Reads (clause begin r) (Clause B Sep P) (λ n xs. placed_clause place (step n) n xs) d (λ ks. S ks × (begin ks ≡ false))
  reads_clause = record {
    sound = λ n ks xs m rest h. ⊎_elim
        (λ c. written xs ks rest (reader.sound n ks xs m rest (rw c.0 c.1)))
        (λ c.
        let same = some_parts _ _ _ _ _ _ c.1 in
        carried (Clause B Sep P) [] xs ks ks rest same.0 same.2 refl)
        (chosen (begin ks) _ _ _ h);
    complete = clause_complete;
  }
    where
      written : (xs : List A) (ks rest : List Kind) → (B ▸ Separated Sep P xs) ks rest → Clause B Sep P xs ks rest
      written [] ks rest h = absurd h.2
      written (x ∷ xs) ks rest h = h

      clause_complete : (n : ℕ) (ks : List Kind) (xs : List A) (rest : List Kind) → S rest × (begin rest ≡ false) → IsWithin d ks → Clause B Sep P xs ks rest → Found (clause begin r) (λ n xs. placed_clause place (step n) n xs) d n ks xs rest
      clause_complete n ks [] rest stops within h = record {
        reads = rw h (rw stops.1 refl);
        within = rw h at within;
        shorter = rw h (omega arith);
      }
      clause_complete n ks (x ∷ xs) rest stops within h =
          let one = reader.complete n ks (x ∷ xs) rest stops.0 within h in
          let passed = eaten_true begin r n ks _ one.reads in
          record {
            reads = rw passed (rw passed at one.reads);
            within = one.within;
            shorter = one.shorter;
          }

-- items up to where the test sees their end; each takes a token
module _ {A : Type 0} (ends : List Kind → Bool) {item : Reader A} {P : A → Part} {place : Placing A} (d : ℕ) (reader : Reads item P place d Always) (goes_on : (a : A) (ks rest : List Kind) → P a ks rest → ends ks ≡ false) (takes : (a : A) (ks rest : List Kind) → IsWithin d ks → P a ks rest → length rest < length ks) where
  until_sound : (turns n : ℕ) (ks : List Kind) (xs : List A) (m : ℕ) (rest : List Kind) → until ends item turns n ks ≡ Some (xs, m, rest) → Each P xs ks rest
  until_sound zero n ks xs m rest h = absurd (none_some _ h)
  until_sound (suc turns) n ks xs m rest h = ⊎_elim
      (λ c.
      let same = some_parts _ _ _ _ _ _ c.1 in
      carried (Each P) [] xs ks ks rest same.0 same.2 refl)
      (λ c.
      let one = bind (item n ks) _ _ c.1 in
      let more = prefixed_some (one.0 ∷ []) _ xs m rest one.4 in
      carried (Each P) (one.0 ∷ more.0) xs ks more.2 rest more.4 more.5
      (one.2, reader.sound n ks one.0 one.1 one.2 one.3, until_sound turns one.1 one.2 more.0 more.1 more.2 more.3))
      (chosen (ends ks) _ _ _ h)

  until_complete : (xs : List A) (turns n : ℕ) (ks rest : List Kind) → length ks < turns → ends rest ≡ true → IsWithin d ks → Each P xs ks rest → Found (until ends item turns) (placed_each place) d n ks xs rest
  until_complete xs zero n ks rest few ended within h = absurd (omega arith)
  until_complete [] (suc turns) n ks rest few ended within h = record {
    reads = rw h (rw ended refl);
    within = rw h at within;
    shorter = rw h (omega arith);
  }
  until_complete (x ∷ xs) (suc turns) n ks rest few ended within h =
      let one = reader.complete n ks x h.0 tt within h.1 in
      let strict = takes x ks h.0 within h.1 in
      let two = until_complete xs turns (place n x).1 h.0 rest (omega (arith, strict)) ended one.within h.2 in
      record {
        reads = rw (goes_on x ks h.0 h.1, one.reads, two.reads) refl;
        within = two.within;
        shorter = omega (arith, strict, two.shorter);
      }

  pub reads_repeated : Reads (repeated ends item) (Each P) (placed_each place) d (λ ks. ends ks ≡ true)
  unfolding repeated
  reads_repeated = record {
    sound = λ n ks xs m rest h. until_sound (length ks + 1) n ks xs m rest h;
    complete = λ n ks xs rest ended within h.
        let all = until_complete xs (length ks + 1) n ks rest (omega arith) ended within h in
        record { reads = all.reads; within = all.within; shorter = all.shorter };
  }
