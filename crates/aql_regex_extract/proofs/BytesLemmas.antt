-- The laws of `IsMadeOf` and `BeginsIn`.
use Rattle.std.proofs.Common.{◌≡◌, ℕ, zero, suc, ◌+◌, ◌/◌, ◌%◌, ◌<◌, ◌≤◌, Bool, true, false, List, [], ◌∷◌, ◌++◌, map, take, length, get_or, All, Option, Some, None, refl, sym, ap, subst, ⊎_elim, arith, true≢false, encode_utf8}
use Rattle.std.proofs.lemmas.Bool.{cases_lt}
use Rattle.std.proofs.lemmas.List.Elements.{All-nil, All-cons, All-same, All-append, All-weaker}
use Rattle.std.proofs.lemmas.Str.{encode_ascii, length-encode, len_utf8_bounds}
use Rattle.regex_class.specs.Ranges.{Range, in_ranges}
use Rattle.regex_hir.specs.Re.{Re, empty, literal, byte_in, char_in, look, group}
use Rattle.regex_hir.specs.Meaning.{meaning, cat_all, alt_all, repeat}
use Rattle.regex_hir.specs.declared.hir.Hir.{Hir}
use Rattle.regex_hir.proofs.Utf8Lemmas.{encode_two, encode_three, encode_four, InScalarRange-of_IsScalar}
use Rattle.regex_extract.specs.Cover.{IsCount}
use Rattle.regex_extract.specs.Language.{InLanguage, Power}
use Rattle.regex_extract.proofs.LanguageLemmas.{InLanguage-repeat, InLanguage-alt_all-nil, InLanguage-alt_all-more, edge_part-more, edge_part-whole}
use Rattle.aql_regex_extract.specs.ByteSets.{Has, Widens}
use Rattle.aql_regex_extract.specs.Bytes.{IsMadeOf, Begins, BeginsIn}
use Rattle.aql_regex_extract.specs.declared.byte_set.ByteSet.{ByteSet}

-- ---- the bytes of the texts

pub IsMadeOf-wider : (old new : ByteSet) (re : Re) → Widens old new → IsMadeOf old re → IsMadeOf new re
IsMadeOf-wider old new re wide h = record { at = λ w l. All-weaker (Has old) (Has new) wide w (h.at w l) }

made_of_nothing : (set : ByteSet) (w : List ℕ) → w ≡ [] → All (Has set) w
made_of_nothing set w e = All-same (Has set) w [] e (All-nil (Has set))

pub IsMadeOf-empty : (set : ByteSet) → IsMadeOf set empty
IsMadeOf-empty set = record { at = made_of_nothing set }

pub IsMadeOf-look : (set : ByteSet) (l : _) → IsMadeOf set (look l)
IsMadeOf-look set l = record { at = made_of_nothing set }

pub IsMadeOf-none : (set : ByteSet) → IsMadeOf set (alt_all [])
IsMadeOf-none set = record { at = λ w l. absurd (InLanguage-alt_all-nil w l) }

pub IsMadeOf-literal : (set : ByteSet) (bs : List ℕ) → All (Has set) bs → IsMadeOf set (literal bs)
IsMadeOf-literal set bs all = record { at = λ w e. All-same (Has set) w bs e all }

pub IsMadeOf-byte_in : (set : ByteSet) (rs : List Range) → ((c : ℕ) → in_ranges rs c ≡ true → c ≤ 0xFF → Has set c) → IsMadeOf set (byte_in rs)
IsMadeOf-byte_in set rs all = record {
  at = λ w l. All-same (Has set) w (l.0 ∷ []) l.3 (All-cons (Has set) l.0 [] (all l.0 l.2 (omega (arith, l.1))) (All-nil (Has set)));
}

-- each byte of a character beyond ASCII is 0x80 or above
high_bytes : (P : ℕ → Type 0) (c : ℕ) → 0x80 ≤ c → c ≤ 0x10_FFFF → ((b : ℕ) → 0x80 ≤ b → b ≤ 0xFF → P b) → All P (encode_utf8 c)
high_bytes P c low most all =
    let cons = λ (b : ℕ) (bs : List ℕ) (high : 0x80 ≤ b) (small : b ≤ 0xFF) (rest : All P bs). All-cons P b bs (all b high small) rest in
    let last = (128 + c % 64) ∷ [] in
    let last_two = (128 + (c / 64) % 64) ∷ last in
    let last_three = (128 + (c / 4096) % 64) ∷ last_two in
    let one = cons (128 + c % 64) [] (omega arith) (omega arith) (All-nil P) in
    let two = cons (128 + (c / 64) % 64) last (omega arith) (omega arith) one in
    let three = cons (128 + (c / 4096) % 64) last_two (omega arith) (omega arith) two in
    ⊎_elim
    (λ (few : c < 0x800). All-same P _ _ (encode_two c low few) (cons (192 + c / 64) last (omega arith) (omega (arith, few)) one))
    (λ (more : 0x800 ≤ c). ⊎_elim
    (λ (few : c < 0x1_0000). All-same P _ _ (encode_three c more few) (cons (224 + c / 4096) last_two (omega arith) (omega (arith, few)) two))
    (λ (many : 0x1_0000 ≤ c). All-same P _ _ (encode_four c many) (cons (240 + c / 262144) last_three (omega arith) (omega (arith, most)) three))
    (cases_lt c 0x1_0000))
    (cases_lt c 0x800)

pub IsMadeOf-char_in : (set : ByteSet) (rs : List Range) → ((c : ℕ) → in_ranges rs c ≡ true → c ≤ 0x7F → Has set c) →
    ((c : ℕ) → in_ranges rs c ≡ true → 0x80 ≤ c → (b : ℕ) → 0x80 ≤ b → b ≤ 0xFF → Has set b) → IsMadeOf set (char_in rs)
IsMadeOf-char_in set rs low high = record {
  at = λ w l. All-same (Has set) w _ l.3 (⊎_elim
      (λ (ascii : l.0 < 0x80). All-same (Has set) _ (l.0 ∷ []) (encode_ascii l.0 ascii)
      (All-cons (Has set) l.0 [] (low l.0 l.2 (omega (arith, ascii))) (All-nil (Has set))))
      (λ beyond. high_bytes (Has set) l.0 beyond (omega (arith, InScalarRange-of_IsScalar l.0 l.1)) (high l.0 l.2 beyond))
      (cases_lt l.0 0x80));
}

pub IsMadeOf-group : (set : ByteSet) (n : ℕ) (a : Re) → IsMadeOf set a → IsMadeOf set (group n a)
IsMadeOf-group set n a h = record { at = h.at }

made_of_rounds : (set : ByteSet) (a : Re) → IsMadeOf set a → (n : ℕ) (w : List ℕ) → Power (InLanguage a) n w → All (Has set) w
made_of_rounds set a h zero w p = made_of_nothing set w p
made_of_rounds set a h (suc n) w p =
    All-same (Has set) w (p.0 ++ p.1) p.2 (All-append (Has set) p.0 p.1 (h.at p.0 p.3) (made_of_rounds set a h n p.1 p.4))

pub IsMadeOf-repeat : (set : ByteSet) (least : ℕ) (most : Option ℕ) (g : Bool) (a : Re) → IsMadeOf set a → IsMadeOf set (repeat least most g a)
IsMadeOf-repeat set least most g a h = record {
  at = λ w l. let r = InLanguage-repeat least most g a w l in made_of_rounds set a h r.0 w r.2;
}

pub IsMadeOf-next : (set : ByteSet) (hs : List Hir) (i : ℕ) (h : Hir) → i < length hs → h ≡ get_or hs i h →
    IsMadeOf set (cat_all (map meaning (take i hs))) → IsMadeOf set (meaning h) → IsMadeOf set (cat_all (map meaning (take (i + 1) hs)))
IsMadeOf-next set hs i h lt e p q = record {
  at = λ w l. let s = edge_part-more true i hs h w lt e l in
      All-same (Has set) w (s.0 ++ s.1) s.2 (All-append (Has set) s.0 s.1 (p.at s.0 s.3) (q.at s.1 s.4));
}

pub IsMadeOf-branch : (set : ByteSet) (hs : List Hir) (i : ℕ) (h : Hir) → i < length hs → h ≡ get_or hs i h →
    IsMadeOf set (alt_all (map meaning (take i hs))) → IsMadeOf set (meaning h) → IsMadeOf set (alt_all (map meaning (take (i + 1) hs)))
IsMadeOf-branch set hs i h lt e p q = record {
  at = λ w l. ⊎_elim (p.at w) (q.at w) (InLanguage-alt_all-more hs i h w lt e l);
}

-- ---- the first byte of the texts

Begins-wider : (old new : ByteSet) (o : Bool) (w : List ℕ) → Widens old new → Begins old o w → Begins new o w
Begins-wider old new o [] wide h = h
Begins-wider old new o (b ∷ w) wide h = wide b h

Begins-upto : (set : ByteSet) (o : Bool) (w : List ℕ) → Begins set false w → Begins set o w
Begins-upto set o [] h = absurd (true≢false (sym h))
Begins-upto set o (b ∷ w) h = h

pub Begins-open : (set : ByteSet) (o : Bool) (w : List ℕ) → Begins set o w → Begins set true w
Begins-open set o [] h = refl
Begins-open set o (b ∷ w) h = h

-- what follows counts where the text before it is empty
Begins-append : (set : ByteSet) (p o : Bool) (x y : List ℕ) → Begins set p x → (p ≡ true → Begins set o y) → Begins set o (x ++ y)
Begins-append set p o [] y h after = after h
Begins-append set p o (b ∷ x) y h after = h

Begins-first : (set : ByteSet) (w : List ℕ) → 0 < length w → All (Has set) w → Begins set false w
Begins-first set [] some all = absurd (omega arith)
Begins-first set (b ∷ w) some all = all 0 b (omega arith)

pub Begins-any : (set : ByteSet) (w : List ℕ) → ((b : ℕ) → b < 256 → Has set b) → ((k : ℕ) → get_or w k 0 < 256) → Begins set true w
Begins-any set [] all bytes = refl
Begins-any set (b ∷ w) all bytes = all b (bytes 0)

pub BeginsIn-wider : (old new : ByteSet) (o : Bool) (re : Re) → Widens old new → BeginsIn old o re → BeginsIn new o re
BeginsIn-wider old new o re wide h = record { at = λ w l. Begins-wider old new o w wide (h.at w l) }

pub BeginsIn-upto : (set : ByteSet) (o : Bool) (re : Re) → BeginsIn set false re → BeginsIn set o re
BeginsIn-upto set o re h = record { at = λ w l. Begins-upto set o w (h.at w l) }

pub BeginsIn-open : (set : ByteSet) (o : Bool) (re : Re) → BeginsIn set o re → BeginsIn set true re
BeginsIn-open set o re h = record { at = λ w l. Begins-open set o w (h.at w l) }

begins_with_nothing : (set : ByteSet) (w : List ℕ) → w ≡ [] → Begins set true w
begins_with_nothing set w e = subst (Begins set true) (sym e) refl

pub BeginsIn-empty : (set : ByteSet) → BeginsIn set true empty
BeginsIn-empty set = record { at = begins_with_nothing set }

pub BeginsIn-look : (set : ByteSet) (l : _) → BeginsIn set true (look l)
BeginsIn-look set l = record { at = begins_with_nothing set }

pub BeginsIn-none : (set : ByteSet) (o : Bool) → BeginsIn set o (alt_all [])
BeginsIn-none set o = record { at = λ w l. absurd (InLanguage-alt_all-nil w l) }

first_of : (set : ByteSet) (o : Bool) (bs : List ℕ) (b : ℕ) → 0 < length bs → b ≡ get_or bs 0 b → Has set b → Begins set o bs
first_of set o [] b some e has = absurd (omega arith)
first_of set o (x ∷ bs) b some e has = subst (Has set) e has

pub BeginsIn-literal : (set : ByteSet) (o : Bool) (bs : List ℕ) (b : ℕ) → 0 < length bs → b ≡ get_or bs 0 b → Has set b → BeginsIn set o (literal bs)
BeginsIn-literal set o bs b some e has = record { at = λ w same. subst (Begins set o) (sym same) (first_of set o bs b some e has) }

pub BeginsIn-byte_in : (set : ByteSet) (rs : List Range) → ((c : ℕ) → in_ranges rs c ≡ true → c ≤ 0xFF → Has set c) → BeginsIn set false (byte_in rs)
BeginsIn-byte_in set rs all = record {
  at = λ w l. Begins-first set w (omega (arith, ap length l.3)) ((IsMadeOf-byte_in set rs all).at w l);
}

pub BeginsIn-char_in : (set : ByteSet) (rs : List Range) → ((c : ℕ) → in_ranges rs c ≡ true → c ≤ 0x7F → Has set c) →
    ((c : ℕ) → in_ranges rs c ≡ true → 0x80 ≤ c → (b : ℕ) → 0x80 ≤ b → b ≤ 0xFF → Has set b) → BeginsIn set false (char_in rs)
BeginsIn-char_in set rs low high = record {
  at = λ w l. Begins-first set w (omega (arith, ap length l.3, length-encode l.0, len_utf8_bounds l.0)) ((IsMadeOf-char_in set rs low high).at w l);
}

pub BeginsIn-group : (set : ByteSet) (o : Bool) (n : ℕ) (a : Re) → BeginsIn set o a → BeginsIn set o (group n a)
BeginsIn-group set o n a h = record { at = h.at }

begins_by_rounds : (set : ByteSet) (o : Bool) (a : Re) → BeginsIn set o a → (n : ℕ) (w : List ℕ) → (n ≡ 0 → o ≡ true) →
    Power (InLanguage a) n w → Begins set o w
begins_by_rounds set o a h zero w none p = subst (Begins set o) (sym p) (none refl)
begins_by_rounds set o a h (suc n) w none p =
    subst (Begins set o) (sym p.2)
    (Begins-append set o o p.0 p.1 (h.at p.0 p.3) (λ may. begins_by_rounds set o a h n p.1 (λ _. may) p.4))

no_rounds : (least : ℕ) (most : Option ℕ) (n : ℕ) → IsCount least most n → n ≡ 0 → least ≡ 0
no_rounds least None n count e = omega arith
no_rounds least (Some most) n count e = omega (arith, count.0)

pub BeginsIn-repeat : (set : ByteSet) (o : Bool) (least : ℕ) (most : Option ℕ) (g : Bool) (a : Re) → (least ≡ 0 → o ≡ true) →
    BeginsIn set o a → BeginsIn set o (repeat least most g a)
BeginsIn-repeat set o least most g a none h = record {
  at = λ w l. let r = InLanguage-repeat least most g a w l in
      begins_by_rounds set o a h r.0 w (λ e. none (no_rounds least most r.0 r.1 e)) r.2;
}

pub BeginsIn-next : (set : ByteSet) (o : Bool) (hs : List Hir) (i : ℕ) (h : Hir) → i < length hs → h ≡ get_or hs i h →
    BeginsIn set true (cat_all (map meaning (take i hs))) → BeginsIn set o (meaning h) → BeginsIn set o (cat_all (map meaning (take (i + 1) hs)))
BeginsIn-next set o hs i h lt e p q = record {
  at = λ w l. let s = edge_part-more true i hs h w lt e l in
      subst (Begins set o) (sym s.2) (Begins-append set true o s.0 s.1 (p.at s.0 s.3) (λ _. q.at s.1 s.4));
}

-- what begins in no empty text decides
pub BeginsIn-whole : (set : ByteSet) (i : ℕ) (hs : List Hir) → BeginsIn set false (cat_all (map meaning (take i hs))) → BeginsIn set false (cat_all (map meaning hs))
BeginsIn-whole set i hs h = record {
  at = λ w l. let s = edge_part-whole true i hs w l in
      subst (Begins set false) (sym s.2) (Begins-append set false false s.0 s.1 (h.at s.0 s.3) (λ may. absurd (true≢false (sym may))));
}

pub BeginsIn-branch : (set : ByteSet) (o : Bool) (hs : List Hir) (i : ℕ) (h : Hir) → i < length hs → h ≡ get_or hs i h →
    BeginsIn set o (alt_all (map meaning (take i hs))) → BeginsIn set o (meaning h) → BeginsIn set o (alt_all (map meaning (take (i + 1) hs)))
BeginsIn-branch set o hs i h lt e p q = record {
  at = λ w l. ⊎_elim (p.at w) (q.at w) (InLanguage-alt_all-more hs i h w lt e l);
}
