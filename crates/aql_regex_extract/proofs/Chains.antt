-- A chain may be passed over as a whole: the chains that begin behind its first count have lesser numbers.
use Rattle.std.proofs.Common.{◌≡◌, ℕ, zero, suc, ◌≤◌, ◌==◌, max, Bool, true, false, cond, List, [], ◌∷◌, length, Option, Some, None, IfSome, option_map, option_and_then, unwrap_or, refl, sym, ap, ◌∙◌, subst, ⊎_elim, arith}
use Rattle.std.proofs.Math.Nat.{le-mul_of_pos_right}
use Rattle.std.proofs.lemmas.Bool.{cond-true, cond-false, cases_Bool, eqb-true}
use Rattle.std.proofs.lemmas.Option.{none-some}
use Rattle.std.proofs.lemmas.Bool.Decides.{nat_tests}
use Rattle.std.specs.Char.{is_ascii_digit}
use Rattle.std.specs.Option.{option_or}
use Rattle.regex_hir.proofs.OptionLemmas.{option_cases}
use Rattle.aql_regex_extract.specs.Weight.{Count, Chain, behind, number_after, after_digits, begins_number, closed, bounded, count_behind, count_at, chain_at, chains_in, greatest_at}
use Rattle.aql_regex_extract.specs.Capped.{capped, after_chain}
use Rattle.aql_regex_extract.proofs.Counts.{If-cond, If-map, If-then, If-or, If-weaker, count_at-shorter, chain_at-None, chain_at-Some, after_chain-None, after_chain-Some}

-- ---- a count's number is at least 1

closed-positive : (n : ℕ) (text : List ℕ) → IfSome (closed n text) (λ c. 1 ≤ c.number)
closed-positive n text = elim (behind 125 text) as (λ o. IfSome (option_map (λ rest. record { number = max 1 n; rest = unwrap_or (behind 63 rest) rest }) o) (λ (c : Count). 1 ≤ c.number))
    [ None ↦ tt | Some rest ↦ omega arith ]

bounded-positive : (low : ℕ) (text : List ℕ) → IfSome (bounded low text) (λ c. 1 ≤ c.number)
bounded-positive low text = elim (behind 44 text) as (λ o. IfSome (option_and_then (λ high. closed (max low (number_after 0 high)) (after_digits high)) o) (λ (c : Count). 1 ≤ c.number))
    [ None ↦ tt | Some high ↦ closed-positive (max low (number_after 0 high)) (after_digits high) ]

count_behind-positive : (text : List ℕ) → IfSome (count_behind text) (λ c. 1 ≤ c.number)
count_behind-positive text =
    let P : Count → Type 0 = λ c. 1 ≤ c.number in
    let n = number_after 0 text in
    let rest = after_digits text in
    If-cond P (begins_number text) (option_or (closed n rest) (bounded n rest))
    (If-or P (closed n rest) (bounded n rest) (closed-positive n rest) (bounded-positive n rest))

count_at-positive : (text : List ℕ) (c : Count) → count_at text ≡ Some c → 1 ≤ c.number
unfolding count_at
count_at-positive text c is =
    let P : Count → Type 0 = λ x. 1 ≤ x.number in
    let all : IfSome (count_at text) P = elim (behind 123 text) as (λ o. IfSome (option_and_then count_behind o) P)
    [ None ↦ tt | Some rest ↦ count_behind-positive rest ] in
    subst (λ (o : Option Count). IfSome o P) is all

chain_at-positive-within : (n : ℕ) (text : List ℕ) → length text ≤ n → 1 ≤ chain_at text
chain_at-positive-within zero text p = ⊎_elim
    (λ none. omega (arith, chain_at-None text none))
    (λ (some : (c : Count) × (count_at text ≡ Some c)). absurd (omega (arith, count_at-shorter text some.0 some.1)))
    (option_cases (count_at text))
chain_at-positive-within (suc n) text p = ⊎_elim
    (λ none. omega (arith, chain_at-None text none))
    (λ (some : (c : Count) × (count_at text ≡ Some c)).
    let short = count_at-shorter text some.0 some.1 in
    let rest = chain_at-positive-within n some.0.rest (omega arith) in
    omega (arith, chain_at-Some text some.0 some.1, le-mul_of_pos_right {m = some.0.number} (chain_at some.0.rest) (count_at-positive text some.0 some.1)))
    (option_cases (count_at text))

pub chain_at-positive : (text : List ℕ) → 1 ≤ chain_at text
chain_at-positive text = chain_at-positive-within (length text) text (omega arith)

pub greatest_at-positive : (cs : List Chain) (d : ℕ) → 1 ≤ greatest_at cs d
greatest_at-positive [] d = omega arith
greatest_at-positive (c ∷ cs) d =
    let rest = greatest_at-positive cs d in
    elim (c.depth == d) as (λ b. 1 ≤ cond b (max c.number (greatest_at cs d)) (greatest_at cs d)) [ true ↦ omega arith | false ↦ rest ]

-- ---- reading on through a count finds no chain in it

-- a byte that opens, closes and begins nothing
abbrev IsPlain : ℕ → Type 0
IsPlain b = ((b == 92) ≡ false) × ((b == 40) ≡ false) × ((b == 41) ≡ false) × ((b == 123) ≡ false)

chains-plain : (depth b : ℕ) (rest : List ℕ) → IsPlain b → chains_in false depth (b ∷ rest) ≡ chains_in false depth rest
chains-plain depth b rest plain =
    cond-false (b == 92) _ _ plain.0 ∙ cond-false (b == 40) _ _ plain.1 ∙ cond-false (b == 41) _ _ plain.2 ∙ cond-false (b == 123) _ _ plain.3

digit-plain : (b : ℕ) → is_ascii_digit b ≡ true → IsPlain b
digit-plain b digit = (grind (arith, nat_tests), grind (arith, nat_tests), grind (arith, nat_tests), grind (arith, nat_tests))

chains-digits : (depth : ℕ) (text : List ℕ) → chains_in false depth text ≡ chains_in false depth (after_digits text)
chains-digits depth [] = refl
chains-digits depth (b ∷ rest) = ⊎_elim
    (λ digit. chains-plain depth b rest (digit-plain b digit) ∙ chains-digits depth rest
    ∙ sym (ap (chains_in false depth) (cond-true (is_ascii_digit b) (after_digits rest) (b ∷ rest) digit)))
    (λ other. sym (ap (chains_in false depth) (cond-false (is_ascii_digit b) (after_digits rest) (b ∷ rest) other)))
    (cases_Bool (is_ascii_digit b))

-- the text behind a byte that is plain is read alike
abbrev ReadsAlike : ℕ → List ℕ → List ℕ → Type 0
ReadsAlike depth text rest = chains_in false depth text ≡ chains_in false depth rest

some-cond : (P : List ℕ → Type 0) (b : Bool) (rest : List ℕ) → (b ≡ true → P rest) → IfSome (cond b (Some rest) None) P
some-cond P true rest h = h refl
some-cond P false rest h = tt

behind-alike : (depth byte : ℕ) (text : List ℕ) → IsPlain byte → IfSome (behind byte text) (ReadsAlike depth text)
behind-alike depth byte [] plain = tt
behind-alike depth byte (b ∷ rest) plain =
    some-cond (ReadsAlike depth (b ∷ rest)) (b == byte) rest
    (λ is. chains-plain depth b rest (subst IsPlain (sym (eqb-true b byte is)) plain))

behind-or-alike : (depth byte : ℕ) (text : List ℕ) → IsPlain byte → chains_in false depth text ≡ chains_in false depth (unwrap_or (behind byte text) text)
behind-or-alike depth byte text plain = step (behind byte text) (behind-alike depth byte text plain)
  where
    step : (o : Option (List ℕ)) → IfSome o (ReadsAlike depth text) → chains_in false depth text ≡ chains_in false depth (unwrap_or o text)
    step None h = refl
    step (Some rest) h = h

abbrev CountAlike : ℕ → List ℕ → Count → Type 0
CountAlike depth text c = chains_in false depth text ≡ chains_in false depth c.rest

closed-alike : (depth n : ℕ) (text : List ℕ) → IfSome (closed n text) (CountAlike depth text)
closed-alike depth n text =
    If-map (ReadsAlike depth text) (CountAlike depth text) _ (behind 125 text)
    (λ rest h. h ∙ behind-or-alike depth 63 rest (refl, refl, refl, refl)) (behind-alike depth 125 text (refl, refl, refl, refl))

bounded-alike : (depth low : ℕ) (text : List ℕ) → IfSome (bounded low text) (CountAlike depth text)
bounded-alike depth low text =
    If-then (ReadsAlike depth text) (CountAlike depth text) (λ high. closed (max low (number_after 0 high)) (after_digits high)) (behind 44 text)
    (λ high h. If-weaker (CountAlike depth (after_digits high)) (CountAlike depth text) (closed (max low (number_after 0 high)) (after_digits high))
    (λ c k. h ∙ chains-digits depth high ∙ k) (closed-alike depth (max low (number_after 0 high)) (after_digits high)))
    (behind-alike depth 44 text (refl, refl, refl, refl))

count_behind-alike : (depth : ℕ) (text : List ℕ) → IfSome (count_behind text) (CountAlike depth text)
count_behind-alike depth text =
    let P : Count → Type 0 = CountAlike depth text in
    let n = number_after 0 text in
    let rest = after_digits text in
    If-cond P (begins_number text) (option_or (closed n rest) (bounded n rest))
    (If-or P (closed n rest) (bounded n rest)
    (If-weaker (CountAlike depth rest) P (closed n rest) (λ c h. chains-digits depth text ∙ h) (closed-alike depth n rest))
    (If-weaker (CountAlike depth rest) P (bounded n rest) (λ c h. chains-digits depth text ∙ h) (bounded-alike depth n rest)))

-- a text that begins with a count has a chain there, and then those of what follows the count
chains-count : (depth : ℕ) (text : List ℕ) (c : Count) → count_at text ≡ Some c →
    chains_in false depth text ≡ record { depth = depth; number = chain_at text } ∷ chains_in false depth c.rest
unfolding count_at
chains-count depth [] c is = absurd (none-some c is)
chains-count depth (b ∷ rest) c is = ⊎_elim
    (λ brace.
    let count : count_behind rest ≡ Some c = sym (ap (option_and_then count_behind) (cond-true (b == 123) (Some rest) None brace)) ∙ is in
    let alike : CountAlike depth rest c = subst (λ (o : Option Count). IfSome o (CountAlike depth rest)) count (count_behind-alike depth rest) in
    let same : b ≡ 123 = eqb-true b 123 brace in
    cond-false (b == 92) _ _ (ap (λ x. x == 92) same)
    ∙ cond-false (b == 40) _ _ (ap (λ x. x == 40) same)
    ∙ cond-false (b == 41) _ _ (ap (λ x. x == 41) same)
    ∙ cond-true (b == 123) _ _ brace
    ∙ ap (λ cs. record { depth = depth; number = chain_at (b ∷ rest) } ∷ cs) alike)
    (λ other. absurd (none-some c (sym (ap (option_and_then count_behind) (cond-false (b == 123) (Some rest) None other)) ∙ is)))
    (cases_Bool (b == 123))

-- with the chain at the front, and those of what follows the chain
abbrev chain_and_rest : ℕ → List ℕ → ℕ → ℕ
chain_and_rest depth text d =
    let rest = greatest_at (chains_in false depth (after_chain text)) d in
    cond (depth == d) (max (chain_at text) rest) rest

greatest_at-None : (depth : ℕ) (text : List ℕ) (d : ℕ) → count_at text ≡ None →
    greatest_at (chains_in false depth text) d ≡ chain_and_rest depth text d
greatest_at-None depth text d none =
    let g = greatest_at (chains_in false depth text) d in
    let positive = greatest_at-positive (chains_in false depth text) d in
    let rest : greatest_at (chains_in false depth (after_chain text)) d ≡ g = ap (λ t. greatest_at (chains_in false depth t) d) (after_chain-None text none) in
    let one = chain_at-None text none in
    elim (depth == d) as (λ b. g ≡ cond b (max (chain_at text) (greatest_at (chains_in false depth (after_chain text)) d)) (greatest_at (chains_in false depth (after_chain text)) d))
    [ true ↦ omega arith | false ↦ sym rest ]

greatest_at-within : (n depth : ℕ) (text : List ℕ) (d : ℕ) → length text ≤ n →
    greatest_at (chains_in false depth text) d ≡ chain_and_rest depth text d
greatest_at-within zero depth text d p = ⊎_elim
    (greatest_at-None depth text d)
    (λ (some : (c : Count) × (count_at text ≡ Some c)). absurd (omega (arith, count_at-shorter text some.0 some.1)))
    (option_cases (count_at text))
greatest_at-within (suc n) depth text d p = ⊎_elim
    (greatest_at-None depth text d)
    (λ (some : (c : Count) × (count_at text ≡ Some c)).
    let c = some.0 in
    let short = count_at-shorter text c some.1 in
    let later = greatest_at-within n depth c.rest d (omega arith) in
    let x = greatest_at (chains_in false depth (after_chain text)) d in
    let same : greatest_at (chains_in false depth (after_chain c.rest)) d ≡ x =
    ap (λ t. greatest_at (chains_in false depth t) d) (sym (after_chain-Some text c some.1)) in
    let no_less : chain_at c.rest ≤ chain_at text =
    omega (arith, chain_at-Some text c some.1, le-mul_of_pos_right {m = c.number} (chain_at c.rest) (count_at-positive text c some.1)) in
    ap (λ cs. greatest_at cs d) (chains-count depth text c some.1)
    ∙ ap (λ g. cond (depth == d) (max (chain_at text) g) g) (later ∙ ap (λ g. cond (depth == d) (max (chain_at c.rest) g) g) same)
    ∙ absorbed (depth == d) (chain_at text) (chain_at c.rest) x no_less)
    (option_cases (count_at text))
  where
    absorbed : (b : Bool) (m k x : ℕ) → k ≤ m → cond b (max m (cond b (max k x) x)) (cond b (max k x) x) ≡ cond b (max m x) x
    absorbed true m k x h = omega arith
    absorbed false m k x h = refl

-- the greatest chain at a depth, with the chain at the front passed over
pub greatest_at-chain : (depth : ℕ) (text : List ℕ) (d : ℕ) → greatest_at (chains_in false depth text) d ≡ chain_and_rest depth text d
greatest_at-chain depth text d = greatest_at-within (length text) depth text d (omega arith)

-- a chain that is taken is known from then on
pub known-chain : (b : Bool) (old number chain rest : ℕ) → number ≡ capped chain → 1 ≤ rest →
    max (cond b (max old number) old) (capped rest) ≡ max old (capped (cond b (max chain rest) rest))
known-chain true old number chain rest is positive = omega (arith, is)
known-chain false old number chain rest is positive = refl
