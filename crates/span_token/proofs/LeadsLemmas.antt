-- How many characters begin among some bytes.
use Rattle.std.proofs.Common.{◌≡◌, ◌≤◌, ◌<◌, ◌+◌, ◌∙◌, ℕ, ◌/◌, ◌%◌, Bool, true, false, List, [], ◌∷◌, ◌++◌, length, take, drop, cond, refl, sym, ap, arith, nat_lt, IsUtf8, chars, encode_utf8_all}
use Rattle.std.proofs.lemmas.Bool.Decides.{nat_tests}
use Rattle.std.proofs.lemmas.List.Sums.{sum_by-append, count_by-le-length}
use Rattle.std.proofs.lemmas.List.{take-append-drop, take-take}
use Rattle.std.proofs.lemmas.Str.{encodes-chars}
use lib.Utf8.{encode}
use Rattle.span_token.specs.Leads.{begins_char, leads}

pub leads-append : (xs ys : List ℕ) → leads (xs ++ ys) ≡ leads xs + leads ys
leads-append xs ys = sum_by-append _ xs ys

pub is_lead : (b : ℕ) → 192 ≤ b → begins_char b ≡ true
is_lead b h = grind (arith, nat_tests)

pub is_ascii_lead : (b : ℕ) → b < 128 → begins_char b ≡ true
is_ascii_lead b h = grind (arith, nat_tests)

pub is_follower : (b : ℕ) → 128 ≤ b → b < 192 → begins_char b ≡ false
is_follower b h k = grind (arith, nat_tests)

pub leads_head : (b : ℕ) (bs : List ℕ) → begins_char b ≡ true → leads (b ∷ bs) ≡ 1 + leads bs
leads_head b bs e = let one : leads (b ∷ []) ≡ 1 = rw e refl in leads-append (b ∷ []) bs ∙ ap (λ n. n + leads bs) one

pub leads_skip : (b : ℕ) (bs : List ℕ) → begins_char b ≡ false → leads (b ∷ bs) ≡ 0 + leads bs
leads_skip b bs e = let none : leads (b ∷ []) ≡ 0 = rw e refl in leads-append (b ∷ []) bs ∙ ap (λ n. n + leads bs) none

follows : (x : ℕ) → begins_char (128 + x % 64) ≡ false
follows x = is_follower (128 + x % 64) (omega arith) (omega arith)

below_128 : (c : ℕ) → nat_lt c 128 ≡ true → c < 128
below_128 c e = grind (arith, nat_tests)

-- by the number of bytes: one, two, three or four
leads_by : (x y z : Bool) (c : ℕ) → (x ≡ true → c < 128) → leads (cond x (c ∷ []) (cond y ((192 + c / 64) ∷ (128 + c % 64) ∷ []) (cond z ((224 + c / 4096) ∷ (128 + c / 64 % 64) ∷ (128 + c % 64) ∷ []) ((240 + c / 262144) ∷ (128 + c / 4096 % 64) ∷ (128 + c / 64 % 64) ∷ (128 + c % 64) ∷ [])))) ≡ 1
leads_by true y z c h = leads_head c [] (is_ascii_lead c (h refl))
leads_by false true z c h =
    omega (arith, leads_head (192 + c / 64) ((128 + c % 64) ∷ []) (is_lead (192 + c / 64) (omega arith)), leads_skip (128 + c % 64) [] (follows c))
leads_by false false true c h =
    omega (arith, leads_head (224 + c / 4096) ((128 + c / 64 % 64) ∷ (128 + c % 64) ∷ []) (is_lead (224 + c / 4096) (omega arith)), leads_skip (128 + c / 64 % 64) ((128 + c % 64) ∷ []) (follows (c / 64)), leads_skip (128 + c % 64) [] (follows c))
leads_by false false false c h =
    omega (arith, leads_head (240 + c / 262144) ((128 + c / 4096 % 64) ∷ (128 + c / 64 % 64) ∷ (128 + c % 64) ∷ []) (is_lead (240 + c / 262144) (omega arith)), leads_skip (128 + c / 4096 % 64) ((128 + c / 64 % 64) ∷ (128 + c % 64) ∷ []) (follows (c / 4096)), leads_skip (128 + c / 64 % 64) ((128 + c % 64) ∷ []) (follows (c / 64)), leads_skip (128 + c % 64) [] (follows c))

pub leads-encode : (c : ℕ) → leads (encode c) ≡ 1
unfolding encode
leads-encode c = leads_by (nat_lt c 128) (nat_lt c 2048) (nat_lt c 65536) c (below_128 c)

pub leads-encodes : (cs : List ℕ) → leads (encode_utf8_all cs) ≡ length cs
leads-encodes [] = refl
leads-encodes (c ∷ cs) = omega (arith, leads-append (encode c) (encode_utf8_all cs), leads-encode c, leads-encodes cs)

pub leads-chars : (bs : List ℕ) → IsUtf8 bs → leads bs ≡ length (chars bs)
leads-chars bs u = ap leads (sym (encodes-chars bs u)) ∙ leads-encodes (chars bs)

pub leads-take-le : (m n : ℕ) (bs : List ℕ) → m ≤ n → leads (take m bs) ≤ leads (take n bs)
leads-take-le m n bs h =
    omega (arith, leads-append (take m (take n bs)) (drop m (take n bs)), ap leads (take-append-drop m (take n bs)), ap leads (take-take m n bs h))

pub leads-le-length : (bs : List ℕ) → leads bs ≤ length bs
leads-le-length bs = count_by-le-length _ bs

pub leads-within : (n : ℕ) (bs : List ℕ) → leads (take n bs) ≤ leads bs
leads-within n bs = omega (arith, leads-append (take n bs) (drop n bs), ap leads (take-append-drop n bs))
