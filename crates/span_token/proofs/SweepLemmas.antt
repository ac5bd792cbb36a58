-- A sweep over the characters of a text, one character on.
use Rattle.std.proofs.Common.{◌≡◌, ◌<◌, ◌≤◌, ◌+◌, ◌∙◌, ℕ, Bool, true, false, cond, List, [], ◌∷◌, ◌++◌, length, get_or, set, map, take, refl, sym, ap, subst, arith}
use mir.Val.{bool_byte}
use Rattle.std.proofs.lemmas.List.{append_assoc, append-nil, map-append}
use Rattle.span_token.specs.Classes.{class_of}
use Rattle.span_token.specs.Extents.{Extent, extent_of}
use Rattle.span_token.specs.Sweeps.{is_of_token, do_join, ends_between, begins_between, IsSplit, with_token, word_end, IsSwept}
use Rattle.span_token.specs.Tokens.{tokens_of, tokens_from}
use Rattle.span_token.specs.Words.{is_word_char}
use Rattle.span_token.specs.declared.classes.Class.{Class}
use Rattle.span_token.specs.declared.span.Span.{Span}
use Rattle.span_token.specs.declared.classes.Class.TheVariants.{Word, Space, Mark}
use Rattle.span_token.proofs.ClassLemmas.{word_class, space_class, mark_class}
use Rattle.span_token.proofs.RoomLemmas.{take-put}
use Rattle.span_token.proofs.ScanLemmas.{IsFoundToken, IsPassed, run_more, run_stops, run_ends, from_start, from_end, word_found, mark_found, space_found}

-- the class of character `at`
abbrev class_at : List ℕ → ℕ → Class
class_at cs at = class_of (get_or cs at 0)

-- ---- before the first character

pub IsSwept-none : (cs : List ℕ) → IsSplit cs [] 0
IsSwept-none cs = record { split = from_start cs; seam = record { between = λ there word. refl } }

-- ---- a split, one token or one other character on

split_token : (cs : List ℕ) (found : List Extent) (k end : ℕ) → IsSplit cs found k → IsFoundToken cs k end → IsSplit cs (with_token found k end) end
split_token cs found k end h one = record {
  split = append_assoc found (record { begin = k; end = end } ∷ []) (tokens_from cs end) ∙ ap (λ ts. found ++ ts) (sym one.first) ∙ h.split;
  seam = one.seam;
}

split_other : (cs : List ℕ) (found : List Extent) (k : ℕ) → IsSplit cs found k → IsPassed cs k → IsSplit cs found (k + 1)
split_other cs found k h one = record { split = ap (λ ts. found ++ ts) (sym one.same) ∙ h.split; seam = one.seam }

-- the next character where no token goes on: it begins one, or is white space
begun : (cs : List ℕ) (found : List Extent) (at before : ℕ) (next : Class) → at < length cs → next ≡ class_at cs at → IsSplit cs found at →
    IsSwept cs found (at + 1) (cond (is_of_token next) at before) next
begun cs found at before Space short is h =
    let space = space_class (get_or cs at 0) is in
    split_other cs found at h (space_found cs at short space.0 space.1)
begun cs found at before Mark short is h =
    let mark = mark_class (get_or cs at 0) is in
    split_token cs found at (at + 1) h (mark_found cs at short mark.0 mark.1)
begun cs found at before Word short is h =
    let word = word_class (get_or cs at 0) is in
    split_token cs found at (word_end cs (at + 1)) h
    (word_found cs at (word_end cs (at + 1)) short word (h.seam.between short word) refl)

no_word : (cs : List ℕ) (at : ℕ) (next : Class) → next ≡ class_at cs at → do_join Word next ≡ false → is_word_char (get_or cs at 0) ≡ false
no_word cs at Word is differ = absurd cc
no_word cs at Space is differ = (space_class (get_or cs at 0) is).0
no_word cs at Mark is differ = (mark_class (get_or cs at 0) is).0

-- a word that ends here
word_stops : (cs : List ℕ) (found : List Extent) (at begin : ℕ) → word_end cs at ≡ at → IsSwept cs found at begin Word → IsSplit cs (with_token found begin at) at
word_stops cs found at begin here h = subst (λ (e : ℕ). IsSplit cs (with_token found begin e) e) here h

-- a word that goes on
word_goes_on : (cs : List ℕ) (found : List Extent) (at begin : ℕ) → at < length cs → Word ≡ class_at cs at → IsSwept cs found at begin Word →
    IsSwept cs found (at + 1) begin Word
word_goes_on cs found at begin short is h =
    let same : word_end cs (at + 1) ≡ word_end cs at = run_more cs at (word_end cs at) short (word_class (get_or cs at 0) is) refl in
    subst (λ (e : ℕ). IsSplit cs (with_token found begin e) e) (sym same) h

-- the tokens found, with one more where one ends
abbrev pub found_with : Bool → List Extent → ℕ → ℕ → List Extent
found_with ends found begin at = cond ends (with_token found begin at) found

-- one character on
pub IsSwept-more : (cs : List ℕ) (found : List Extent) (at begin : ℕ) (last next : Class) → at < length cs → next ≡ class_at cs at → IsSwept cs found at begin last →
    IsSwept cs (found_with (ends_between last next) found begin at) (at + 1) (cond (begins_between last next) at begin) next
IsSwept-more cs found at begin Space Space short is h = begun cs found at begin Space short is h
IsSwept-more cs found at begin Space Mark short is h = begun cs found at begin Mark short is h
IsSwept-more cs found at begin Space Word short is h = begun cs found at begin Word short is h
IsSwept-more cs found at begin Mark Space short is h = begun cs (with_token found begin at) at begin Space short is h
IsSwept-more cs found at begin Mark Mark short is h = begun cs (with_token found begin at) at begin Mark short is h
IsSwept-more cs found at begin Mark Word short is h = begun cs (with_token found begin at) at begin Word short is h
IsSwept-more cs found at begin Word Word short is h = word_goes_on cs found at begin short is h
IsSwept-more cs found at begin Word Space short is h =
    let here : word_end cs at ≡ at = sym (run_stops cs at (word_end cs at) short (no_word cs at Space is refl) refl) in
    begun cs (with_token found begin at) at begin Space short is (word_stops cs found at begin here h)
IsSwept-more cs found at begin Word Mark short is h =
    let here : word_end cs at ≡ at = sym (run_stops cs at (word_end cs at) short (no_word cs at Mark is refl) refl) in
    begun cs (with_token found begin at) at begin Mark short is (word_stops cs found at begin here h)

-- ---- behind the last character

split_all : (cs : List ℕ) (found : List Extent) (k : ℕ) → k ≡ length cs → IsSplit cs found k → found ≡ tokens_of cs
split_all cs found k all h = sym (append-nil found) ∙ ap (λ ts. found ++ ts) (sym (from_end cs k all)) ∙ h.split

pub IsSwept-all : (cs : List ℕ) (found : List Extent) (at begin : ℕ) (last : Class) → at ≡ length cs → IsSwept cs found at begin last →
    found_with (is_of_token last) found begin at ≡ tokens_of cs
IsSwept-all cs found at begin Space all h = split_all cs found at all h
IsSwept-all cs found at begin Mark all h = split_all cs (with_token found begin at) at all h
IsSwept-all cs found at begin Word all h =
    let here : word_end cs at ≡ at = sym (run_ends cs at (word_end cs at) all refl) in
    split_all cs (with_token found begin at) at all (word_stops cs found at begin here h)

-- ---- tokens that stand in a list with room

-- a truth value as a number
pub as_number : (b : Bool) → bool_byte b ≡ cond b 1 0
as_number true = refl
as_number false = refl

pub one_or_none : (b : Bool) → cond b 1 0 ≤ 1
one_or_none true = omega arith
one_or_none false = omega arith

pub begun_by : (b : Bool) (at begin : ℕ) → begin ≤ at → cond b at begin ≤ at
begun_by true at begin le = omega arith
begun_by false at begin le = le

pub IsSwept-as : (cs : List ℕ) (found more : List Extent) (at begin start : ℕ) (last next : Class) → found ≡ more → begin ≡ start → last ≡ next →
    IsSwept cs found at begin last → IsSwept cs more at start next
IsSwept-as cs found more at begin start last next f b l h =
    subst (IsSwept cs more at start) l (subst (λ (n : ℕ). IsSwept cs more at n last) b (subst (λ (ts : List Extent). IsSwept cs ts at begin last) f h))

-- one more found, where it counts
found_with-append : (ends : Bool) (found : List Extent) (spans : List Span) (span : Span) →
    found ++ map extent_of (cond ends (spans ++ span ∷ []) spans) ≡ found_with ends (found ++ map extent_of spans) span.begin span.end
found_with-append true found spans span =
    ap (λ ts. found ++ ts) (map-append extent_of spans (span ∷ [])) ∙ sym (append_assoc found (map extent_of spans) (extent_of span ∷ []))
found_with-append false found spans span = refl

pub IsSwept-put : (cs : List ℕ) (room : List Span) (count n past start : ℕ) (span : Span) (found : List Extent) (last : Class) (ends : Bool) → count < length room →
    n ≡ cond ends 1 0 → IsSwept cs (found_with ends (found ++ map extent_of (take count room)) span.begin span.end) past start last →
    IsSwept cs (found ++ map extent_of (take (count + n) (set room count span))) past start last
IsSwept-put cs room count n past start span found last ends short is h =
    let put : found ++ map extent_of (take (count + n) (set room count span)) ≡ found_with ends (found ++ map extent_of (take count room)) span.begin span.end =
    ap (λ xs. found ++ map extent_of xs) (take-put ends room count n span short is) ∙ found_with-append ends found (take count room) span in
    subst (λ (ts : List Extent). IsSwept cs ts past start last) (sym put) h
