-- Counts and chains whose numbers are counted up to a limit.
use Rattle.std.proofs.Common.{◌≡◌, ℕ, zero, suc, ◌+◌, ◌-◌, ◌*◌, ◌<◌, ◌≤◌, max, Bool, true, false, cond, List, [], ◌∷◌, length, Option, Some, None, option_map, refl, sym, ap, ◌∙◌, arith, IfSome, option_and_then, unwrap_or, ◌==◌, ⊎_elim, subst, inl, inr}
use Rattle.std.specs.Char.{is_ascii_digit}
use Rattle.std.proofs.lemmas.Bool.{cond-true, cases_lt}
use Rattle.std.proofs.Math.Nat.{le-mul_of_pos_right, mul_comm, mul_assoc}
use Rattle.std.proofs.lemmas.Option.{none-some, same_Some}
use Rattle.std.specs.Option.{option_or, option_map_or}
use Rattle.regex_hir.proofs.OptionLemmas.{option_cases}
use Rattle.aql_regex_extract.specs.Weight.{Count, behind, number_after, after_digits, begins_number, closed, bounded, count_behind, count_at, chain_of, chain_at, most_weight}
use Rattle.aql_regex_extract.specs.Capped.{capped, capped_count, past_chain, after_chain}

either-capped : (b : Bool) (x y z w : ℕ) → capped x ≡ capped z → capped y ≡ capped w → capped (cond b x y) ≡ capped (cond b z w)
either-capped true x y z w p q = p
either-capped false x y z w p q = q

-- a number may be counted up to the limit at each digit
pub number_after-capped : (a b : ℕ) (text : List ℕ) → capped a ≡ capped b → capped (number_after a text) ≡ capped (number_after b text)
number_after-capped a b [] h = h
number_after-capped a b (x ∷ rest) h =
    let more : capped (10 * a + (x - 48)) ≡ capped (10 * b + (x - 48)) = omega (arith, h) in
    either-capped (is_ascii_digit x) _ _ _ _ (number_after-capped (10 * a + (x - 48)) (10 * b + (x - 48)) rest more) h

-- one more digit
pub number_after-digit : (n x : ℕ) (rest : List ℕ) → is_ascii_digit x ≡ true →
    capped (number_after (capped (10 * n + (x - 48))) rest) ≡ capped (number_after n (x ∷ rest))
number_after-digit n x rest digit =
    number_after-capped (capped (10 * n + (x - 48))) (10 * n + (x - 48)) rest (omega arith)
    ∙ sym (ap capped (cond-true (is_ascii_digit x) (number_after (10 * n + (x - 48)) rest) n digit))

-- ---- what follows a count is shorter

pub If-cond : {A : Type 0} (P : A → Type 0) (b : Bool) (x : Option A) → IfSome x P → IfSome (cond b x None) P
If-cond P true x h = h
If-cond P false x h = tt

pub If-map : {A B : Type 0} (P : A → Type 0) (Q : B → Type 0) (f : A → B) (o : Option A) → ((x : A) → P x → Q (f x)) → IfSome o P → IfSome (option_map f o) Q
If-map P Q f None step h = tt
If-map P Q f (Some x) step h = step x h

pub If-then : {A B : Type 0} (P : A → Type 0) (Q : B → Type 0) (f : A → Option B) (o : Option A) → ((x : A) → P x → IfSome (f x) Q) → IfSome o P → IfSome (option_and_then f o) Q
If-then P Q f None step h = tt
If-then P Q f (Some x) step h = step x h

pub If-weaker : {A : Type 0} (P Q : A → Type 0) (o : Option A) → ((x : A) → P x → Q x) → IfSome o P → IfSome o Q
If-weaker P Q None f h = tt
If-weaker P Q (Some x) f h = f x h

pub If-or : {A : Type 0} (P : A → Type 0) (o p : Option A) → IfSome o P → IfSome p P → IfSome (option_or o p) P
If-or P None p h k = k
If-or P (Some x) p h k = h

behind-shorter : (byte : ℕ) (text : List ℕ) → IfSome (behind byte text) (λ rest. length rest < length text)
behind-shorter byte [] = tt
behind-shorter byte (x ∷ rest) =
    let short : length rest < length (x ∷ rest) = omega arith in
    If-cond (λ (r : List ℕ). length r < length (x ∷ rest)) (x == byte) (Some rest) short

behind-or-shorter : (byte : ℕ) (text : List ℕ) (o : Option (List ℕ)) → IfSome o (λ rest. length rest < length text) → length (unwrap_or o text) ≤ length text
behind-or-shorter byte text None h = omega arith
behind-or-shorter byte text (Some rest) h = omega (arith, h)

after_digits-shorter : (text : List ℕ) → length (after_digits text) ≤ length text
after_digits-shorter [] = omega arith
after_digits-shorter (x ∷ rest) = elim (is_ascii_digit x) as (λ b. length (cond b (after_digits rest) (x ∷ rest)) ≤ length (x ∷ rest))
    [ true ↦ omega (arith, after_digits-shorter rest) | false ↦ omega arith ]

closed-shorter : (n : ℕ) (text : List ℕ) → IfSome (closed n text) (λ c. length c.rest < length text)
closed-shorter n text =
    If-map (λ (rest : List ℕ). length rest < length text) (λ (c : Count). length c.rest < length text) _ (behind 125 text)
    (λ rest h. let s = behind-or-shorter 63 rest (behind 63 rest) (behind-shorter 63 rest) in omega (arith, s, h)) (behind-shorter 125 text)

bounded-shorter : (low : ℕ) (text : List ℕ) → IfSome (bounded low text) (λ c. length c.rest < length text)
bounded-shorter low text =
    If-then (λ (high : List ℕ). length high < length text) (λ (c : Count). length c.rest < length text) _ (behind 44 text)
    (λ high h. If-weaker (λ (c : Count). length c.rest < length (after_digits high)) (λ (c : Count). length c.rest < length text)
    (closed (max low (number_after 0 high)) (after_digits high)) (λ c k. let s = after_digits-shorter high in omega (arith, s, h, k))
    (closed-shorter (max low (number_after 0 high)) (after_digits high))) (behind-shorter 44 text)

count_behind-shorter : (text : List ℕ) → IfSome (count_behind text) (λ c. length c.rest < length text)
count_behind-shorter text =
    let P : Count → Type 0 = λ c. length c.rest < length text in
    let s = after_digits-shorter text in
    let n = number_after 0 text in
    let rest = after_digits text in
    If-cond P (begins_number text) (option_or (closed n rest) (bounded n rest))
    (If-or P (closed n rest) (bounded n rest)
    (If-weaker (λ (c : Count). length c.rest < length rest) P (closed n rest) (λ c h. omega (arith, s, h)) (closed-shorter n rest))
    (If-weaker (λ (c : Count). length c.rest < length rest) P (bounded n rest) (λ c h. omega (arith, s, h)) (bounded-shorter n rest)))

-- what follows a count is shorter than the text
pub count_at-shorter : (text : List ℕ) (c : Count) → count_at text ≡ Some c → length c.rest < length text
unfolding count_at
count_at-shorter text c is =
    let P : Count → Type 0 = λ x. length x.rest < length text in
    let all : IfSome (count_at text) P =
    If-then (λ (rest : List ℕ). length rest < length text) P count_behind (behind 123 text)
    (λ rest h. If-weaker (λ (x : Count). length x.rest < length rest) P (count_behind rest) (λ x k. omega (arith, h, k)) (count_behind-shorter rest))
    (behind-shorter 123 text) in
    subst (λ (o : Option Count). IfSome o P) is all

-- ---- chains

chain_of-None : (n : ℕ) (text : List ℕ) → count_at text ≡ None → chain_of n text ≡ 1
unfolding chain_of
chain_of-None zero text none = refl
chain_of-None (suc n) text none = ap (λ (o : Option Count). option_map_or (λ c. c.number * chain_of n c.rest) o 1) none

chain_of-Some : (n : ℕ) (text : List ℕ) (c : Count) → count_at text ≡ Some c → chain_of (suc n) text ≡ c.number * chain_of n c.rest
unfolding chain_of
chain_of-Some n text c is = ap (λ (o : Option Count). option_map_or (λ c. c.number * chain_of n c.rest) o 1) is

past_chain-None : (n : ℕ) (text : List ℕ) → count_at text ≡ None → past_chain n text ≡ text
unfolding past_chain
past_chain-None zero text none = refl
past_chain-None (suc n) text none = ap (λ (o : Option Count). option_map_or (λ c. past_chain n c.rest) o text) none

past_chain-Some : (n : ℕ) (text : List ℕ) (c : Count) → count_at text ≡ Some c → past_chain (suc n) text ≡ past_chain n c.rest
unfolding past_chain
past_chain-Some n text c is = ap (λ (o : Option Count). option_map_or (λ c. past_chain n c.rest) o text) is

-- any number that is no less than the text's length reaches the end of the chain
chain_of-enough : (n k : ℕ) (text : List ℕ) → length text ≤ n → length text ≤ k → chain_of n text ≡ chain_of k text
chain_of-enough zero k text p q = ⊎_elim
    (λ none. chain_of-None zero text none ∙ sym (chain_of-None k text none))
    (λ (some : (c : Count) × (count_at text ≡ Some c)). absurd (omega (arith, count_at-shorter text some.0 some.1)))
    (option_cases (count_at text))
chain_of-enough (suc n) zero text p q = ⊎_elim
    (λ none. chain_of-None (suc n) text none ∙ sym (chain_of-None zero text none))
    (λ (some : (c : Count) × (count_at text ≡ Some c)). absurd (omega (arith, count_at-shorter text some.0 some.1)))
    (option_cases (count_at text))
chain_of-enough (suc n) (suc k) text p q = ⊎_elim
    (λ none. chain_of-None (suc n) text none ∙ sym (chain_of-None (suc k) text none))
    (λ (some : (c : Count) × (count_at text ≡ Some c)).
    let short = count_at-shorter text some.0 some.1 in
    chain_of-Some n text some.0 some.1
    ∙ ap (λ m. some.0.number * m) (chain_of-enough n k some.0.rest (omega arith) (omega arith))
    ∙ sym (chain_of-Some k text some.0 some.1))
    (option_cases (count_at text))

past_chain-enough : (n k : ℕ) (text : List ℕ) → length text ≤ n → length text ≤ k → past_chain n text ≡ past_chain k text
past_chain-enough zero k text p q = ⊎_elim
    (λ none. past_chain-None zero text none ∙ sym (past_chain-None k text none))
    (λ (some : (c : Count) × (count_at text ≡ Some c)). absurd (omega (arith, count_at-shorter text some.0 some.1)))
    (option_cases (count_at text))
past_chain-enough (suc n) zero text p q = ⊎_elim
    (λ none. past_chain-None (suc n) text none ∙ sym (past_chain-None zero text none))
    (λ (some : (c : Count) × (count_at text ≡ Some c)). absurd (omega (arith, count_at-shorter text some.0 some.1)))
    (option_cases (count_at text))
past_chain-enough (suc n) (suc k) text p q = ⊎_elim
    (λ none. past_chain-None (suc n) text none ∙ sym (past_chain-None (suc k) text none))
    (λ (some : (c : Count) × (count_at text ≡ Some c)).
    let short = count_at-shorter text some.0 some.1 in
    past_chain-Some n text some.0 some.1
    ∙ past_chain-enough n k some.0.rest (omega arith) (omega arith)
    ∙ sym (past_chain-Some k text some.0 some.1))
    (option_cases (count_at text))

-- a text that begins with no count begins with no chain
pub chain_at-None : (text : List ℕ) → count_at text ≡ None → chain_at text ≡ 1
chain_at-None text none = chain_of-None (length text) text none

pub after_chain-None : (text : List ℕ) → count_at text ≡ None → after_chain text ≡ text
after_chain-None text none = past_chain-None (length text) text none

-- a chain is a count and the chain that follows it
pub chain_at-Some : (text : List ℕ) (c : Count) → count_at text ≡ Some c → chain_at text ≡ c.number * chain_at c.rest
chain_at-Some text c is =
    let short = count_at-shorter text c is in
    chain_of-enough (length text) (suc (length text)) text (omega arith) (omega arith)
    ∙ chain_of-Some (length text) text c is
    ∙ ap (λ m. c.number * m) (chain_of-enough (length text) (length c.rest) c.rest (omega arith) (omega arith))

pub after_chain-Some : (text : List ℕ) (c : Count) → count_at text ≡ Some c → after_chain text ≡ after_chain c.rest
after_chain-Some text c is =
    let short = count_at-shorter text c is in
    past_chain-enough (length text) (suc (length text)) text (omega arith) (omega arith)
    ∙ past_chain-Some (length text) text c is
    ∙ past_chain-enough (length text) (length c.rest) c.rest (omega arith) (omega arith)

-- ---- products up to the limit

capped-above : (n : ℕ) → most_weight ≤ n → capped n ≡ most_weight
capped-above n h = omega arith

capped-below : (n : ℕ) → n ≤ most_weight → capped n ≡ n
capped-below n h = omega arith

pub capped-mul : (a b : ℕ) → capped (capped a * b) ≡ capped (a * b)
capped-mul a zero = omega arith
capped-mul a (suc b) = elim (cases_lt a most_weight) [
  | inl lt ↦ ap (λ n. capped (n * suc b)) (capped-below a (omega arith))
  | inr ge ↦
      let big : most_weight ≤ a * suc b = omega (arith, le-mul_of_pos_right {m = suc b} a (omega arith)) in
      ap (λ n. capped (n * suc b)) (capped-above a ge)
      ∙ capped-above (most_weight * suc b) (omega arith) ∙ sym (capped-above (a * suc b) big)
]

pub capped-mul-right : (a b : ℕ) → capped (a * capped b) ≡ capped (a * b)
capped-mul-right a b = ap capped (mul_comm a (capped b)) ∙ capped-mul b a ∙ ap capped (mul_comm b a)

-- a product that is capped at each factor
pub capped-mul-next : (a b x : ℕ) → capped (capped (a * capped b) * x) ≡ capped (a * (b * x))
capped-mul-next a b x =
    capped-mul (a * capped b) x
    ∙ ap capped (mul_comm (a * capped b) x) ∙ sym (capped-mul-right x (a * capped b))
    ∙ ap (λ n. capped (x * n)) (capped-mul-right a b) ∙ capped-mul-right x (a * b)
    ∙ ap capped (mul_comm x (a * b) ∙ mul_assoc a b x)

-- a count that was counted up to the limit
pub capped_count-Some : (o : Option Count) (number : ℕ) (rest : List ℕ) → Some (number, rest) ≡ capped_count o →
    (c : Count) × (o ≡ Some c) × (number ≡ capped c.number) × (rest ≡ c.rest)
capped_count-Some None number rest h = absurd (none-some _ (sym h))
capped_count-Some (Some c) number rest h =
    let same = same_Some _ _ h in
    (c, refl, ap (λ (p : ℕ × List ℕ). p.0) same, ap (λ (p : ℕ × List ℕ). p.1) same)

pub capped_count-None : (o : Option Count) → None ≡ capped_count o → o ≡ None
capped_count-None None h = refl
capped_count-None (Some c) h = absurd (none-some _ h)
