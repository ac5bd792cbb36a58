-- What an answer tells of other spans, and when it is a pair.
use Rattle.std.proofs.Common.{◌≡◌, ℕ, ◌+◌, ◌-◌, ◌<◌, ◌≤◌, Bool, true, false, cond, ◌&&◌, not, nat_lt, nat_le, List, [], ◌∷◌, max, Bor, refl, sym, ap, ap₂, ◌∙◌, arith, true≢false}
use Rattle.std.specs.Prelude.{ℤ, pos, negsuc, int_le}
use Rattle.std.specs.List.{count_by}
use Rattle.std.proofs.lemmas.Bool.Decides.{nat_tests}
use Rattle.std.proofs.lemmas.List.Sums.{sum_by-cons}
use Rattle.std.proofs.lemmas.Bool.{and_from, leb-true, leb-false, le-leb, lt-leb, and_parts, ltb-true, ltb-false, lt-ltb, le-ltb}
use Rattle.span_token.specs.Extents.{Extent}
use Rattle.span_token.specs.Documents.{Doc, characters}
use Rattle.span_token.specs.Tokens.{tokens_of}
use Rattle.span_token.specs.Relations.{do_overlap, does_contain, does_follow, does_follow_tok, gap_of, tokens_between}
use Rattle.span_joins.specs.declared.rule.Rule.{Rule}
use Rattle.span_joins.specs.declared.rule.Rule.TheVariants.{Gap, Tokens, Contains, OverlapsFromLeft, OverlapsFromRight}
use Rattle.span_joins.specs.declared.rule.Front.{Front}
use Rattle.span_joins.specs.declared.rule.Answer.{Answer}
use Rattle.span_joins.specs.declared.rule.Answer.TheVariants.{Before, Pair, Neither, Beyond}
use Rattle.span_joins.specs.Answers.{by_gap, by_count, by_begin, begin_empty_first, number_of, other_order_of, answer_of, first_number, is_exact, is_pair}

-- less isn't enough where more isn't, and more is too much where less is
still_low : (z : ℤ) (n m : ℕ) → m ≤ n → int_le z (pos n) ≡ false → int_le z (pos m) ≡ false
still_low (pos k) n m h e = lt-leb k m (omega (arith, leb-false k n e))
still_low (negsuc k) n m h e = absurd cc

still_high : (z : ℤ) (n m : ℕ) → n ≤ m → int_le (pos n) z ≡ false → int_le (pos m) z ≡ false
still_high (pos k) n m h e = lt-leb m k (omega (arith, leb-false n k e))
still_high (negsuc k) n m h e = refl

still_enough : (z : ℤ) (n m : ℕ) → n ≤ m → int_le z (pos n) ≡ true → int_le z (pos m) ≡ true
still_enough (pos k) n m h e = le-leb k m (omega (arith, leb-true k n e))
still_enough (negsuc k) n m h e = refl

far_is : (low high : ℤ) (n : ℕ) → int_le low (pos n) ≡ true → int_le (pos n) high ≡ false → by_gap low high n ≡ Beyond
far_is low high n e f = ap₂ (λ b c. cond b (cond c Pair Beyond) Before) e f

-- what a bound on a count gives
gap_before : (low high : ℤ) (n : ℕ) → by_gap low high n ≡ Before → int_le low (pos n) ≡ false
gap_before low high n e = by (int_le low (pos n)) (int_le (pos n) high) e
  where
    by : (b c : Bool) → cond b (cond c Pair Beyond) Before ≡ Before → b ≡ false
    by true true e = absurd cc
    by true false e = absurd cc
    by false c e = refl

gap_beyond : (low high : ℤ) (n : ℕ) → by_gap low high n ≡ Beyond → (int_le low (pos n) ≡ true) × (int_le (pos n) high ≡ false)
gap_beyond low high n e = by (int_le low (pos n)) (int_le (pos n) high) e
  where
    by : (b c : Bool) → cond b (cond c Pair Beyond) Before ≡ Beyond → (b ≡ true) × (c ≡ false)
    by true true e = absurd cc
    by true false e = (refl, refl)
    by false c e = absurd cc

module _ (count : ℕ → ℕ → ℕ) (fewer : (from to from' to' : ℕ) → from ≤ from' → to' ≤ to → count from' to' ≤ count from to) (low high : ℤ) where
  count_in : (a b : Extent) → a.end ≤ b.begin → by_count count low high a b ≡ by_gap low high (count a.end b.begin)
  count_in a b h = ap (λ t. cond t (by_gap low high (count a.end b.begin)) Before) (le-leb a.end b.begin h)

  count_out : (a b : Extent) → b.begin < a.end → by_count count low high a b ≡ Before
  count_out a b h = ap (λ t. cond t (by_gap low high (count a.end b.begin)) Before) (lt-leb a.end b.begin h)

  low_out : (a b : Extent) → int_le low (pos (count a.end b.begin)) ≡ false → by_count count low high a b ≡ Before
  low_out a b e = by (nat_le a.end b.begin) (int_le low (pos (count a.end b.begin))) (int_le (pos (count a.end b.begin)) high) e
    where
      by : (t u v : Bool) → u ≡ false → cond t (cond u (cond v Pair Beyond) Before) Before ≡ Before
      by true true v e = absurd (true≢false e)
      by true false v e = refl
      by false u v e = refl

  count_before : (a b a' b' : Extent) → a.end ≤ a'.end → b'.begin ≤ b.begin → by_count count low high a b ≡ Before → by_count count low high a' b' ≡ Before
  count_before a b a' b' h k e = by (nat_le a'.end b'.begin) refl
    where
      by : (t : Bool) → nat_le a'.end b'.begin ≡ t → by_count count low high a' b' ≡ Before
      by false f = ap (λ t. cond t (by_gap low high (count a'.end b'.begin)) Before) f
      by true f =
          let reached : a'.end ≤ b'.begin = leb-true a'.end b'.begin f in
          let inside : a.end ≤ b.begin = omega arith in
          let short = gap_before low high (count a.end b.begin) (sym (count_in a b inside) ∙ e) in
          low_out a' b' (still_low low (count a.end b.begin) (count a'.end b'.begin) (fewer a.end b.begin a'.end b'.begin h k) short)

  count_beyond : (a b b' : Extent) → b.begin ≤ b'.begin → by_count count low high a b ≡ Beyond → by_count count low high a b' ≡ Beyond
  count_beyond a b b' h e = by (nat_le a.end b.begin) refl
    where
      by : (t : Bool) → nat_le a.end b.begin ≡ t → by_count count low high a b' ≡ Beyond
      by false f = absurd (before_not_beyond (sym (ap (λ t. cond t (by_gap low high (count a.end b.begin)) Before) f) ∙ e))
        where
          before_not_beyond : Before ≡ Beyond → ⊥
          before_not_beyond h = cc
      by true f =
          let inside : a.end ≤ b.begin = leb-true a.end b.begin f in
          let inside' : a.end ≤ b'.begin = omega arith in
          let n = count a.end b.begin in
          let m = count a.end b'.begin in
          let more : n ≤ m = fewer a.end b'.begin a.end b.begin (omega arith) h in
          let far = gap_beyond low high n (sym (count_in a b inside) ∙ e) in
          count_in a b' inside' ∙ far_is low high m (still_enough low n m more far.0) (still_high high n m more far.1)

  count_exact : (a b : Extent) → by_count count low high a b ≡ Neither → ⊥
  count_exact a b e = by (nat_le a.end b.begin) (int_le low (pos (count a.end b.begin))) (int_le (pos (count a.end b.begin)) high) e
    where
      by : (t u v : Bool) → cond t (cond u (cond v Pair Beyond) Before) Before ≡ Neither → ⊥
      by true true true e = cc
      by true true false e = cc
      by true false v e = cc
      by false u v e = cc

  count_pair : (a b : Extent) → is_pair (by_count count low high a b) ≡ (nat_le a.end b.begin && (int_le low (pos (count a.end b.begin)) && int_le (pos (count a.end b.begin)) high))
  count_pair a b = by (nat_le a.end b.begin) (int_le low (pos (count a.end b.begin))) (int_le (pos (count a.end b.begin)) high)
    where
      by : (t u v : Bool) → is_pair (cond t (cond u (cond v Pair Beyond) Before) Before) ≡ (t && (u && v))
      by true true true = refl
      by true true false = refl
      by true false v = refl
      by false u v = refl

-- characters and tokens between are fewer where the gap is narrower
fewer_characters : (from to from' to' : ℕ) → from ≤ from' → to' ≤ to → to' - from' ≤ to - from
fewer_characters from to from' to' h k = omega arith

module _ {X : Type 0} (p q : X → Bool) (weaker : (x : X) → p x ≡ true → q x ≡ true) where
  counted_fewer : (xs : List X) → count_by p xs ≤ count_by q xs
  counted_fewer [] = omega arith
  counted_fewer (x ∷ xs) =
      let rest = counted_fewer xs in
      by (p x) (q x) (weaker x) rest (sum_by-cons (λ y. cond (p y) 1 0) x xs) (sum_by-cons (λ y. cond (q y) 1 0) x xs)
    where
      by : (b c : Bool) → (b ≡ true → c ≡ true) → count_by p xs ≤ count_by q xs → count_by p (x ∷ xs) ≡ cond b 1 0 + count_by p xs → count_by q (x ∷ xs) ≡ cond c 1 0 + count_by q xs → count_by p (x ∷ xs) ≤ count_by q (x ∷ xs)
      by true true w rest e f = omega arith
      by true false w rest e f = absurd (true≢false (sym (w refl)))
      by false true w rest e f = omega arith
      by false false w rest e f = omega arith

fewer_tokens : (tokens : List Extent) (from to from' to' : ℕ) → from ≤ from' → to' ≤ to → tokens_between tokens from' to' ≤ tokens_between tokens from to
fewer_tokens tokens from to from' to' h k =
    counted_fewer (λ t. nat_le from' t.begin && nat_le t.end to') (λ t. nat_le from t.begin && nat_le t.end to)
    (λ t e. let parts = and_parts (nat_le from' t.begin) (nat_le t.end to') e in
    and_from (nat_le from t.begin) (nat_le t.end to)
    (le-leb from t.begin (omega (arith, leb-true from' t.begin parts.0)))
    (le-leb t.end to (omega (arith, leb-true t.end to' parts.1))))
    tokens

-- what the answers by a begin give
module _ (before beyond pair : Bool) where
  begin_before : by_begin before beyond pair ≡ Before → before ≡ true
  begin_before e = by before beyond pair e
    where
      by : (b c d : Bool) → by_begin b c d ≡ Before → b ≡ true
      by true c d e = refl
      by false true d e = absurd cc
      by false false true e = absurd cc
      by false false false e = absurd cc

  begin_beyond : by_begin before beyond pair ≡ Beyond → (before ≡ false) × (beyond ≡ true)
  begin_beyond e = by before beyond pair e
    where
      by : (b c d : Bool) → by_begin b c d ≡ Beyond → (b ≡ false) × (c ≡ true)
      by true c d e = absurd cc
      by false true d e = (refl, refl)
      by false false true e = absurd cc
      by false false false e = absurd cc

  begin_pair : is_pair (by_begin before beyond pair) ≡ (not before && (not beyond && pair))
  begin_pair = by before beyond pair
    where
      by : (b c d : Bool) → is_pair (by_begin b c d) ≡ (not b && (not c && d))
      by true c d = refl
      by false true d = refl
      by false false true = refl
      by false false false = refl

is_before : (before beyond pair : Bool) → before ≡ true → by_begin before beyond pair ≡ Before
is_before before beyond pair e = ap (λ b. by_begin b beyond pair) e

is_beyond : (before beyond pair : Bool) → before ≡ false → beyond ≡ true → by_begin before beyond pair ≡ Beyond
is_beyond before beyond pair e f = ap₂ (λ b c. by_begin b c pair) e f

abbrev one_if : Bool → ℕ
one_if b = cond b 1 0

-- these numbers go by begins, and an empty span stands before others of its begin
bit : (b : Bool) → one_if b ≤ 1
bit true = omega arith
bit false = omega arith

numbers_begin : (a b : Extent) → begin_empty_first a ≤ begin_empty_first b → a.begin ≤ b.begin
numbers_begin a b h = omega (arith, h, bit (nat_lt a.begin a.end), bit (nat_lt b.begin b.end))

number_within : (b : Extent) (n : ℕ) → b.begin ≤ b.end → b.end ≤ n → begin_empty_first b ≤ n + n
number_within b n h k = by (nat_lt b.begin b.end) refl
  where
    by : (t : Bool) → nat_lt b.begin b.end ≡ t → b.begin + b.begin + cond (nat_lt b.begin b.end) 1 0 ≤ n + n
    by true e = omega (arith, ltb-true b.begin b.end e, ap one_if e)
    by false e = omega (arith, ap one_if e)

-- a span that is too near stays so for first spans of a greater rank, and so do those that stand no later
pub before_stays : (rule : Rule) (a b a' b' : Extent) → first_number rule a ≤ first_number rule a' → number_of (other_order_of rule) b' ≤ number_of (other_order_of rule) b → answer_of rule a b ≡ Before → answer_of rule a' b' ≡ Before
before_stays (Gap low high front) a b a' b' h k e = count_before (λ from to. to - from) fewer_characters low high a b a' b' h k e
before_stays (Tokens doc low high front) a b a' b' h k e = count_before (tokens_between (tokens_of (characters doc.now))) (fewer_tokens (tokens_of (characters doc.now))) low high a b a' b' h k e
before_stays (Contains front) a b a' b' h k e =
    is_before (nat_lt b'.begin a'.begin) _ _ (lt-ltb b'.begin a'.begin (omega (arith, numbers_begin b' b k, h, ltb-true b.begin a.begin (begin_before _ _ _ e))))
before_stays OverlapsFromLeft a b a' b' h k e =
    is_before (nat_lt b'.begin a'.begin) _ _ (lt-ltb b'.begin a'.begin (omega (arith, ltb-true b.begin a.begin (begin_before _ _ _ e))))
before_stays OverlapsFromRight a b a' b' h k e =
    is_before (nat_le b'.begin a'.begin) _ _ (le-leb b'.begin a'.begin (omega (arith, leb-true b.begin a.begin (begin_before _ _ _ e))))

-- and those that stand no earlier than one too far are too far
pub beyond_stays : (rule : Rule) (a b b' : Extent) → number_of (other_order_of rule) b ≤ number_of (other_order_of rule) b' → answer_of rule a b ≡ Beyond → answer_of rule a b' ≡ Beyond
beyond_stays (Gap low high front) a b b' h e = count_beyond (λ from to. to - from) fewer_characters low high a b b' h e
beyond_stays (Tokens doc low high front) a b b' h e = count_beyond (tokens_between (tokens_of (characters doc.now))) (fewer_tokens (tokens_of (characters doc.now))) low high a b b' h e
beyond_stays (Contains front) a b b' h e =
    let parts = begin_beyond _ _ _ e in
    is_beyond (nat_lt b'.begin a.begin) (nat_lt (a.end + a.end) (begin_empty_first b')) _
    (le-ltb b'.begin a.begin (omega (arith, numbers_begin b b' h, ltb-false b.begin a.begin parts.0)))
    (lt-ltb (a.end + a.end) (begin_empty_first b') (omega (arith, h, ltb-true (a.end + a.end) (begin_empty_first b) parts.1)))
beyond_stays OverlapsFromLeft a b b' h e =
    let parts = begin_beyond _ _ _ e in
    let both = and_parts (nat_lt a.begin b.begin) (nat_le a.end b.begin) parts.1 in
    is_beyond (nat_lt b'.begin a.begin) (nat_lt a.begin b'.begin && nat_le a.end b'.begin) _
    (le-ltb b'.begin a.begin (omega (arith, ltb-false b.begin a.begin parts.0)))
    (and_from (nat_lt a.begin b'.begin) (nat_le a.end b'.begin)
    (lt-ltb a.begin b'.begin (omega (arith, ltb-true a.begin b.begin both.0)))
    (le-leb a.end b'.begin (omega (arith, leb-true a.end b.begin both.1))))
beyond_stays OverlapsFromRight a b b' h e =
    let parts = begin_beyond _ _ _ e in
    is_beyond (nat_le b'.begin a.begin) (nat_le a.end b'.begin) _
    (lt-leb b'.begin a.begin (omega (arith, leb-false b.begin a.begin parts.0)))
    (le-leb a.end b'.begin (omega (arith, leb-true a.end b.begin parts.1)))

-- other spans that are too near by their begins
pub begins_before : (a b : Extent) → b.begin < a.begin → answer_of OverlapsFromLeft a b ≡ Before
begins_before a b h = is_before (nat_lt b.begin a.begin) _ _ (lt-ltb b.begin a.begin h)

pub begins_no_later : (a b : Extent) → b.begin ≤ a.begin → answer_of OverlapsFromRight a b ≡ Before
begins_no_later a b h = is_before (nat_le b.begin a.begin) _ _ (le-leb b.begin a.begin h)

-- and they alone are
pub before_begins : (a b : Extent) → answer_of OverlapsFromLeft a b ≡ Before → b.begin < a.begin
before_begins a b e = ltb-true b.begin a.begin (begin_before _ _ _ e)

pub before_begins_no_later : (a b : Extent) → answer_of OverlapsFromRight a b ≡ Before → b.begin ≤ a.begin
before_begins_no_later a b e = leb-true b.begin a.begin (begin_before _ _ _ e)

pub never_neither : (rule : Rule) (a b : Extent) → is_exact rule ≡ true → answer_of rule a b ≡ Neither → ⊥
never_neither (Gap low high front) a b x e = count_exact (λ from to. to - from) fewer_characters low high a b e
never_neither (Tokens doc low high front) a b x e = count_exact (tokens_between (tokens_of (characters doc.now))) (fewer_tokens (tokens_of (characters doc.now))) low high a b e
never_neither (Contains front) a b x e = absurd (true≢false (sym x))
never_neither OverlapsFromLeft a b x e = absurd (true≢false (sym x))
never_neither OverlapsFromRight a b x e = absurd (true≢false (sym x))

-- the pairs of each rule
pub pair-gap : (low high : ℤ) (front : Front) (a b : Extent) → is_pair (answer_of (Gap low high front) a b) ≡ does_follow a b low high
pair-gap low high front a b = count_pair (λ from to. to - from) fewer_characters low high a b

pub pair-tokens : (tokens : List Extent) (low high : ℤ) (a b : Extent) → is_pair (by_count (tokens_between tokens) low high a b) ≡ does_follow_tok tokens a b low high
pair-tokens tokens low high a b = count_pair (tokens_between tokens) (fewer_tokens tokens) low high a b

-- the answer by tokens, from the span that lies between
pub tokens_answered : (doc : Bor Doc) (low high : ℤ) (front : Front) (a b gap : Extent) (n : ℕ) (r : Answer) → a.end ≤ b.begin → gap ≡ gap_of a b
    → n ≡ tokens_between (tokens_of (characters doc.now)) gap.begin gap.end → r ≡ by_gap low high n → r ≡ answer_of (Tokens doc low high front) a b
tokens_answered doc low high front a b gap n r h e f g =
    let tokens = tokens_of (characters doc.now) in
    let to : max a.end b.begin ≡ b.begin = omega arith in
    let count : n ≡ tokens_between tokens a.end b.begin = f ∙ ap (λ (s : Extent). tokens_between tokens s.begin s.end) e ∙ ap (λ x. tokens_between tokens a.end x) to in
    g ∙ ap (λ x. by_gap low high x) count ∙ sym (count_in (tokens_between tokens) (fewer_tokens tokens) low high a b h)

-- where a pair is never too far, the answer is a pair unless the other begins too early
never_beyond : (before beyond pair : Bool) → (before ≡ false → pair ≡ true → beyond ≡ false) → is_pair (by_begin before beyond pair) ≡ (not before && pair)
never_beyond true beyond pair h = refl
never_beyond false true true h = absurd (true≢false (h refl refl))
never_beyond false true false h = refl
never_beyond false false true h = refl
never_beyond false false false h = refl

pub pair-contains : (front : Front) (a b : Extent) → b.begin ≤ b.end → is_pair (answer_of (Contains front) a b) ≡ does_contain a b
pair-contains front a b h =
    never_beyond (nat_lt b.begin a.begin) (nat_lt (a.end + a.end) (begin_empty_first b)) (does_contain a b)
    (λ x e. le-ltb (a.end + a.end) (begin_empty_first b) (number_within b a.end h (leb-true b.end a.end (and_parts (nat_le a.begin b.begin) (nat_le b.end a.end) e).1)))
    ∙ by (nat_lt b.begin a.begin) (nat_le a.begin b.begin) (nat_le b.end a.end) (λ e. lt-leb a.begin b.begin (ltb-true b.begin a.begin e))
  where
    by : (x y z : Bool) → (x ≡ true → y ≡ false) → (not x && (y && z)) ≡ (y && z)
    by true true z f = absurd (true≢false (f refl))
    by true false z f = refl
    by false y z f = refl

pub pair-from_left : (a b : Extent) → is_pair (answer_of OverlapsFromLeft a b) ≡ (not (nat_lt b.begin a.begin) && do_overlap a b)
pair-from_left a b =
    never_beyond (nat_lt b.begin a.begin) (nat_lt a.begin b.begin && nat_le a.end b.begin) (do_overlap a b)
    (λ x e. grind (arith, nat_tests))

pub pair-from_right : (a b : Extent) → is_pair (answer_of OverlapsFromRight a b) ≡ (not (nat_le b.begin a.begin) && do_overlap a b)
pair-from_right a b =
    never_beyond (nat_le b.begin a.begin) (nat_le a.end b.begin) (do_overlap a b)
    (λ x e. grind (arith, nat_tests))

pub do_overlap-swap : (a b : Extent) → do_overlap a b ≡ do_overlap b a
do_overlap-swap a b = grind (arith, nat_tests)

pub lt-not_le : (m n : ℕ) → nat_le m n ≡ not (nat_lt n m)
lt-not_le m n = grind (arith, nat_tests)
