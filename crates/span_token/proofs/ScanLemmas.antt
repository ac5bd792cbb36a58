-- The tokens that a scan has still to find, one character or one token on.
use Rattle.std.proofs.Common.{◌≡◌, ◌≤◌, ◌<◌, ◌+◌, ◌-◌, ◌∙◌, ℕ, zero, suc, Bool, true, false, cond, List, [], ◌∷◌, length, map, get_or, drop, refl, sym, ap, ap₂, subst, arith}
use Rattle.std.specs.List.{filter, prefix_len, range_with_len}
use Rattle.std.proofs.lemmas.List.{length-drop}
use Rattle.std.proofs.lemmas.List.Sums.{prefix_len-drop_yes, prefix_len-drop_no, prefix_len-drop_all, prefix_len-le-length}
use Rattle.unicode.specs.Binary.{is_white_space}
use Rattle.span_token.specs.Words.{is_word_char}
use Rattle.span_token.specs.Tokens.{is_word_before, begins_token, token_at, tokens_of, tokens_from}
use Rattle.span_token.specs.Points.{IsSeam}
use Rattle.span_token.specs.ExtentLaws.{same_extent}
use Rattle.span_token.specs.TokenLaws.{word_in_run, none_past_run}

-- a run of word characters, one character on
pub run_more : (cs : List ℕ) (k end : ℕ) → k < length cs → is_word_char (get_or cs k 0) ≡ true
    → k + prefix_len is_word_char (drop k cs) ≡ end → (k + 1) + prefix_len is_word_char (drop (k + 1) cs) ≡ end
run_more cs k end short word run = omega (arith, run, prefix_len-drop_yes is_word_char cs k 0 short word)

-- it ends before another character, and at the end
pub run_stops : (cs : List ℕ) (k end : ℕ) → k < length cs → is_word_char (get_or cs k 0) ≡ false → k + prefix_len is_word_char (drop k cs) ≡ end → k ≡ end
run_stops cs k end short word run = omega (arith, run, prefix_len-drop_no is_word_char cs k 0 short word)

pub run_ends : (cs : List ℕ) (k end : ℕ) → k ≡ length cs → k + prefix_len is_word_char (drop k cs) ≡ end → k ≡ end
run_ends cs k end all run = omega (arith, run, prefix_len-drop_all is_word_char cs k (omega arith))

map_either : {X : Type 0} (f : ℕ → X) (b : Bool) (k : ℕ) (ks : List ℕ) → map f (cond b (k ∷ ks) ks) ≡ cond b (f k ∷ map f ks) (map f ks)
map_either f true k ks = refl
map_either f false k ks = refl

-- the tokens from a place on, by whether one begins there
from_by : (cs : List ℕ) (k : ℕ) → k < length cs
    → tokens_from cs k ≡ cond (begins_token cs k) (token_at cs k ∷ tokens_from cs (k + 1)) (tokens_from cs (k + 1))
unfolding tokens_from
from_by cs k short =
    let one_less : length cs - k ≡ suc (length cs - (k + 1)) = omega arith in
    ap (λ n. map (token_at cs) (filter (begins_token cs) (range_with_len k n))) one_less
    ∙ map_either (token_at cs) (begins_token cs k) k (filter (begins_token cs) (range_with_len (k + 1) (length cs - (k + 1))))

pub from_none : (cs : List ℕ) (k : ℕ) → k < length cs → begins_token cs k ≡ false → tokens_from cs k ≡ tokens_from cs (k + 1)
from_none cs k short e = rw e at (from_by cs k short)

pub from_one : (cs : List ℕ) (k : ℕ) → k < length cs → begins_token cs k ≡ true → tokens_from cs k ≡ token_at cs k ∷ tokens_from cs (k + 1)
from_one cs k short e = rw e at (from_by cs k short)

pub from_end : (cs : List ℕ) (k : ℕ) → k ≡ length cs → tokens_from cs k ≡ []
unfolding tokens_from
from_end cs k e =
    let none : length cs - k ≡ 0 = omega arith in
    ap (λ n. map (token_at cs) (filter (begins_token cs) (range_with_len k n))) none

pub from_start : (cs : List ℕ) → tokens_from cs 0 ≡ tokens_of cs
unfolding tokens_from tokens_of
from_start cs =
    let all : length cs - 0 ≡ length cs = omega arith in
    ap (λ n. map (token_at cs) (filter (begins_token cs) (range_with_len 0 n))) all

-- past places at which no token begins
from_gap : (cs : List ℕ) (k n : ℕ) → k + n ≤ length cs → ((j : ℕ) → k ≤ j → j < k + n → begins_token cs j ≡ false) → tokens_from cs k ≡ tokens_from cs (k + n)
from_gap cs k zero room none = let same : k ≡ k + 0 = omega arith in ap (tokens_from cs) same
from_gap cs k (suc n) room none =
    let same : (k + 1) + n ≡ k + suc n = omega arith in
    from_none cs k (omega arith) (none k (omega arith) (omega arith))
    ∙ from_gap cs (k + 1) n (omega arith) (λ j low high. none j (omega arith) (omega arith)) ∙ ap (tokens_from cs) same

-- what a scan finds at a place, and where it goes on
pub record IsFoundToken (cs : List ℕ) (k end : ℕ) : Type 0 where
  pub first : tokens_from cs k ≡ record { begin = k; end = end } ∷ tokens_from cs end
  pub seam : IsSeam cs end

inside_word : (cs : List ℕ) (k j : ℕ) → k < j → j < k + prefix_len is_word_char (drop k cs) → begins_token cs j ≡ false
inside_word cs k zero low high = absurd (omega arith)
inside_word cs k (suc i) low high =
    let here : is_word_char (get_or cs (suc i) 0) ≡ true = word_in_run cs k (suc i) (omega arith) high in
    let before : is_word_char (get_or cs i 0) ≡ true = word_in_run cs k i (omega arith) (omega arith) in
    rw (here, before) refl

clash : (b : Bool) → b ≡ true → b ≡ false → ⊥
clash b e f = cc

pub word_found : (cs : List ℕ) (k end : ℕ) → k < length cs → is_word_char (get_or cs k 0) ≡ true → is_word_before cs k ≡ false
    → end ≡ (k + 1) + prefix_len is_word_char (drop (k + 1) cs) → IsFoundToken cs k end
word_found cs k end short word before far =
    let run : prefix_len is_word_char (drop k cs) ≡ 1 + prefix_len is_word_char (drop (k + 1) cs) = prefix_len-drop_yes is_word_char cs k 0 short word in
    let begins : begins_token cs k ≡ true = rw (word, before) refl in
    let token : token_at cs k ≡ record { begin = k; end = end } = same_extent _ _ refl (omega (arith, run, far)) in
    let room : (k + 1) + prefix_len is_word_char (drop (k + 1) cs) ≤ length cs =
    omega (arith, prefix_len-le-length is_word_char (drop (k + 1) cs), length-drop (k + 1) cs) in
    record {
      first = from_one cs k short begins
          ∙ ap₂ (λ t ts. t ∷ ts) token
          (from_gap cs (k + 1) (prefix_len is_word_char (drop (k + 1) cs)) room
          (λ j low high. inside_word cs k j (omega arith) (omega (arith, high, run)))
          ∙ ap (tokens_from cs) (sym far));
      seam = record {
        between = λ there again.
            let past : k + prefix_len is_word_char (drop k cs) ≡ end = omega (arith, run, far) in
            let none : is_word_char (get_or cs end 0) ≡ false =
            subst (λ n. is_word_char (get_or cs n 0) ≡ false) past (none_past_run cs k (omega (arith, past, there))) in
            absurd (clash (is_word_char (get_or cs end 0)) again none);
      };
    }

seam_after : (cs : List ℕ) (k : ℕ) → is_word_char (get_or cs k 0) ≡ false → IsSeam cs (k + 1)
seam_after cs k word =
    let next : suc k ≡ k + 1 = omega arith in
    record { between = λ there again. subst (λ n. is_word_before cs n ≡ false) next word }

pub mark_found : (cs : List ℕ) (k : ℕ) → k < length cs → is_word_char (get_or cs k 0) ≡ false → is_white_space (get_or cs k 0) ≡ false → IsFoundToken cs k (k + 1)
mark_found cs k short word space =
    let begins : begins_token cs k ≡ true = rw (word, space) refl in
    let none : prefix_len is_word_char (drop k cs) ≡ 0 = prefix_len-drop_no is_word_char cs k 0 short word in
    let token : token_at cs k ≡ record { begin = k; end = k + 1 } = same_extent _ _ refl (omega (arith, none)) in
    record { first = from_one cs k short begins ∙ ap (λ t. t ∷ tokens_from cs (k + 1)) token; seam = seam_after cs k word }

-- a place at which no token begins
pub record IsPassed (cs : List ℕ) (k : ℕ) : Type 0 where
  pub same : tokens_from cs k ≡ tokens_from cs (k + 1)
  pub seam : IsSeam cs (k + 1)

pub space_found : (cs : List ℕ) (k : ℕ) → k < length cs → is_word_char (get_or cs k 0) ≡ false → is_white_space (get_or cs k 0) ≡ true → IsPassed cs k
space_found cs k short word space =
    let none : begins_token cs k ≡ false = rw (word, space) refl in
    record { same = from_none cs k short none; seam = seam_after cs k word }
