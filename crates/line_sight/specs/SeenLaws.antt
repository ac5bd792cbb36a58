-- Bytes that stand there: none, some of them, and one thing behind another.
use Rattle.std.proofs.Common.{◌≡◌, ℕ, zero, suc, ◌+◌, ◌-◌, ◌≤◌, List, [], ◌++◌, length, take, drop, refl, sym, ap, ap₂, ◌∙◌, arith, length-append, Option, Some, None, IfSome, take_all, take-take}
use Rattle.std.proofs.Math.Seq.{take-add, take-append-add}
use Rattle.std.proofs.lemmas.List.{drop-drop, length-take-le, take-append-le}
use Rattle.line_sight.specs.Seen.{Shown, StandIn, StandsAt}

-- what holds of all bytes, where they are told
pub if_told : (P Q : List ℕ → Type 0) → ((whole : List ℕ) → P whole → Q whole) → (all : Option (List ℕ)) → IfSome all P → IfSome all Q
if_told P Q gives None p = tt
if_told P Q gives (Some whole) p = gives whole p

-- the same of two things
if_both : (P Q R : List ℕ → Type 0) → ((whole : List ℕ) → P whole → Q whole → R whole) → (all : Option (List ℕ)) → IfSome all P → IfSome all Q → IfSome all R
if_both P Q R gives None p q = tt
if_both P Q R gives (Some whole) p q = gives whole p q

-- no byte stands at each place
pub stands-none : (shown : Shown) (at : ℕ) → StandsAt shown at at []
stands-none shown at = record {
  long = omega arith;
  front = λ k few fits. let none : k ≡ 0 = omega (arith, few) in ap (λ (i : ℕ). take i (drop at shown.ready)) none ∙ sym (ap (λ (i : ℕ). take i (let b : List ℕ = [] in b)) none);
  there = nothing shown.all;
}
  where
    nothing : (all : Option (List ℕ)) → IfSome all (λ whole. StandIn whole at [])
    nothing None = tt
    nothing (Some whole) = refl

-- a number that is one or the other
by_size : {C : Type 0} (k m : ℕ) → (k ≤ m → C) → (m ≤ k → C) → C
by_size zero m few more = few (omega arith)
by_size (suc k) zero few more = more (omega arith)
by_size (suc k) (suc m) few more = by_size k m (λ le. few (omega (arith, le))) (λ le. more (omega (arith, le)))

module _ (from at : ℕ) (bytes more : List ℕ) (long : from + length bytes ≡ at) where
  -- in all bytes
  stand-append : (whole : List ℕ) → StandIn whole from bytes → StandIn whole at more → StandIn whole from (bytes ++ more)
  stand-append whole before behind =
      ap (λ (k : ℕ). take k (drop from whole)) (length-append bytes more)
      ∙ take-add (length bytes) (length more) (drop from whole)
      ∙ ap₂ (λ (a b : List ℕ). a ++ b) before (ap (take (length more)) (drop-drop (length bytes) from whole ∙ ap (λ (k : ℕ). drop k whole) long) ∙ behind)

  -- in those that are ready
  front-append : (ready : List ℕ) (k : ℕ) → ((i : ℕ) → i ≤ length bytes → from + i ≤ length ready → take i (drop from ready) ≡ take i bytes)
      → ((i : ℕ) → i ≤ length more → at + i ≤ length ready → take i (drop at ready) ≡ take i more)
      → k ≤ length (bytes ++ more) → from + k ≤ length ready → take k (drop from ready) ≡ take k (bytes ++ more)
  front-append ready k before behind inside fits = by_size k (length bytes) few-of many-of
    where
      few-of : k ≤ length bytes → take k (drop from ready) ≡ take k (bytes ++ more)
      few-of few = before k few fits ∙ sym (take-append-le k bytes more few)

      many-of : length bytes ≤ k → take k (drop from ready) ≡ take k (bytes ++ more)
      many-of many =
          let j = k - length bytes in
          let of-k : k ≡ length bytes + j = omega (arith, many) in
          let few : j ≤ length more = omega (arith, inside, many, length-append bytes more) in
          let first : take (length bytes) (drop from ready) ≡ bytes = before (length bytes) (omega arith) (omega (arith, fits, many)) ∙ take_all (length bytes) bytes (omega arith) in
          let rest : take j (drop (length bytes) (drop from ready)) ≡ take j more =
          ap (take j) (drop-drop (length bytes) from ready ∙ ap (λ (i : ℕ). drop i ready) long) ∙ behind j few (omega (arith, fits, long, many)) in
          ap (λ (i : ℕ). take i (drop from ready)) of-k
          ∙ take-add (length bytes) j (drop from ready)
          ∙ ap₂ (λ (a b : List ℕ). a ++ b) first rest
          ∙ sym (take-append-add bytes more j)
          ∙ sym (ap (λ (i : ℕ). take i (bytes ++ more)) of-k)

-- one thing behind another
pub stands-append : (shown : Shown) (from at to : ℕ) (bytes more : List ℕ) → StandsAt shown from at bytes → StandsAt shown at to more → StandsAt shown from to (bytes ++ more)
stands-append shown from at to bytes more before behind =
    let first = before.long in
    let second = behind.long in
    record {
      long = omega (arith, first, second, length-append bytes more);
      front = λ k. front-append from at bytes more before.long shown.ready k before.front behind.front;
      there = if_both (λ whole. StandIn whole from bytes) (λ whole. StandIn whole at more) (λ whole. StandIn whole from (bytes ++ more))
          (stand-append from at bytes more before.long) shown.all before.there behind.there;
    }

-- the first ones of them
pub stands-first : (shown : Shown) (from to n : ℕ) (bytes : List ℕ) → n ≤ length bytes → StandsAt shown from to bytes → StandsAt shown from (from + n) (take n bytes)
stands-first shown from to n bytes few is =
    let size = length-take-le n bytes few in
    record {
      long = omega (arith, size);
      front = λ k inside fits. is.front k (omega (arith, inside, size, few)) fits ∙ sym (take-take k n bytes (omega (arith, inside, size)));
      there = if_told (λ whole. StandIn whole from bytes) (λ whole. StandIn whole from (take n bytes)) first shown.all is.there;
    }
  where
    first : (whole : List ℕ) → StandIn whole from bytes → StandIn whole from (take n bytes)
    first whole there =
        ap (λ (k : ℕ). take k (drop from whole)) (length-take-le n bytes few)
        ∙ sym (take-take n (length bytes) (drop from whole) few)
        ∙ ap (take n) there
