-- The tokens of a text: its words, and each other character that isn't white space.
use Rattle.std.specs.Prelude.{ℕ, zero, suc, ◌+◌, ◌-◌, ◌<◌, ◌≤◌, ◌≡◌, ◌⊎◌, ◌↔◌, max, Bool, true, false, cond, not, List, map, length, drop, slice_index}
use Rattle.std.specs.List.{AllPairs, Contains, filter, prefix_len, range_with_len}
use Rattle.unicode.specs.Binary.{is_white_space}
use Rattle.span_token.specs.Extents.{Extent}
use Rattle.span_token.specs.Words.{is_word_char}

-- a longest run of word characters: it has one or more, and none stands right before or after it
pub record IsWord (cs : List ℕ) (e : Extent) : Type 0 where
  pub not_empty : e.begin < e.end
  pub in_text : e.end ≤ length cs
  pub word_chars : (k : ℕ) → e.begin ≤ k → k < e.end → is_word_char (slice_index cs k) ≡ true
  pub none_before : (k : ℕ) → k + 1 ≡ e.begin → is_word_char (slice_index cs k) ≡ false
  pub none_after : e.end < length cs → is_word_char (slice_index cs e.end) ≡ false

-- a single character that is neither a word character nor White_Space
pub record IsMark (cs : List ℕ) (e : Extent) : Type 0 where
  pub one : e.end ≡ e.begin + 1
  pub in_text : e.end ≤ length cs
  pub no_word_char : is_word_char (slice_index cs e.begin) ≡ false
  pub no_space : is_white_space (slice_index cs e.begin) ≡ false

-- a word, or a single other character
abbrev pub IsToken : List ℕ → Extent → Type 0
IsToken cs e = IsWord cs e ⊎ IsMark cs e

-- exactly the tokens of a text, in the order of their begins
pub record AreTokens (cs : List ℕ) (tokens : List Extent) : Type 0 where
  pub rising : AllPairs (λ t u. t.begin < u.begin) tokens
  pub exactly : (e : Extent) → Contains tokens e ↔ IsToken cs e

-- whether a word character stands right before character `k`
abbrev pub is_word_before : List ℕ → ℕ → Bool
is_word_before cs zero = false
is_word_before cs (suc k) = is_word_char (slice_index cs k)

-- whether a token begins at character `k`
abbrev pub begins_token : List ℕ → ℕ → Bool
begins_token cs k =
    cond (is_word_char (slice_index cs k)) (not (is_word_before cs k)) (not (is_white_space (slice_index cs k)))

-- the token that begins there: the word characters, or else the one character
abbrev pub token_at : List ℕ → ℕ → Extent
token_at cs k = record { begin = k; end = k + max 1 (prefix_len is_word_char (drop k cs)) }

-- the tokens of a text: the one list that `AreTokens`
unfoldable pub tokens_of : List ℕ → List Extent
tokens_of cs = map (token_at cs) (filter (begins_token cs) (range_with_len 0 (length cs)))

-- those that begin at character `k` or later
unfoldable pub tokens_from : List ℕ → ℕ → List Extent
tokens_from cs k = map (token_at cs) (filter (begins_token cs) (range_with_len k (length cs - k)))
