-- Characters found by what a document keeps beside its text.
use Rattle.std.proofs.Common.{◌≡◌, ◌≤◌, ◌<◌, ◌+◌, ◌-◌, ◌*◌, ◌∙◌, ℕ, suc, List, [], ◌∷◌, ◌++◌, length, take, drop, get_or, refl, sym, ap, arith, below_more, IsAscii, slice_range}
use Rattle.std.proofs.Math.Seq.{take-add}
use Rattle.std.proofs.lemmas.List.{length-take-le, get_or_append_left, get_or_push}
use Rattle.std.proofs.lemmas.Str.{IsAscii-take, IsCharBoundary-from_ascii}
use Rattle.span_token.specs.Leads.{leads, IsPlace}
use Rattle.span_token.proofs.LeadsLemmas.{leads-append, leads_head, is_ascii_lead}

-- ASCII: each byte begins a character
pub leads-ascii : (bs : List ℕ) → IsAscii bs → leads bs ≡ length bs
leads-ascii [] a = refl
leads-ascii (b ∷ bs) a = omega (arith, leads_head b bs (is_ascii_lead b (a 0)), leads-ascii bs (λ i. a (suc i)))

pub leads-ascii_take : (n : ℕ) (bs : List ℕ) → IsAscii bs → n ≤ length bs → leads (take n bs) ≡ n
leads-ascii_take n bs a h = leads-ascii (take n bs) (IsAscii-take bs n a) ∙ length-take-le n bs h

pub ascii_place : (bs : List ℕ) (n : ℕ) → IsAscii bs → n ≤ leads bs → IsPlace bs n n
ascii_place bs n a h =
    let within : n ≤ length bs = omega (arith, leads-ascii bs a) in
    record { passed = leads-ascii_take n bs a within; boundary = IsCharBoundary-from_ascii bs n a within }

-- a count up to a byte goes on from the count up to an earlier one
pub leads_from : (bs : List ℕ) (i j : ℕ) → i ≤ j → leads (take j bs) ≡ leads (take i bs) + leads (slice_range bs i j)
leads_from bs i j h =
    let gap : i + (j - i) ≡ j = omega arith in
    ap (λ n. leads (take n bs)) (sym gap) ∙ ap leads (take-add i (j - i) bs) ∙ leads-append (take i bs) (take (j - i) (drop i bs))

-- the count of one more block
pub counts_more : (counts bs : List ℕ) (block passed : ℕ) → length counts ≡ block + 1 → passed ≡ leads (take (64 * (block + 1)) bs)
    → ((k : ℕ) → k < block + 1 → get_or counts k 0 ≡ leads (take (64 * k) bs))
    → (k : ℕ) → k < block + 1 + 1 → get_or (counts ++ passed ∷ []) k 0 ≡ leads (take (64 * k) bs)
counts_more counts bs block passed long last below =
    below_more (λ k. get_or (counts ++ passed ∷ []) k 0 ≡ leads (take (64 * k) bs)) (block + 1)
    (λ k h. get_or_append_left counts (passed ∷ []) 0 k (omega arith) ∙ below k h)
    (get_or_push counts passed 0 (block + 1) long ∙ last)
