-- A sweep over the characters of a text: what is known of those before a place.
use Rattle.std.specs.Prelude.{ℕ, ◌≡◌, ◌+◌, Bool, true, false, cond, not, ◌&&◌, List, [], ◌∷◌, ◌++◌, drop}
use Rattle.std.specs.List.{prefix_len}
use Rattle.span_token.specs.Extents.{Extent}
use Rattle.span_token.specs.Points.{IsSeam}
use Rattle.span_token.specs.Tokens.{tokens_of, tokens_from}
use Rattle.span_token.specs.Words.{is_word_char}
use Rattle.span_token.specs.declared.classes.Class.{Class}
use Rattle.span_token.specs.declared.classes.Class.TheVariants.{Word, Space, Mark}
use Rattle.span_token.specs.declared.sweep.Sweep.{Sweep}

-- a character of that class belongs to a token
abbrev pub is_of_token : Class → Bool
is_of_token Word = true
is_of_token Space = false
is_of_token Mark = true

-- characters of these classes, the one behind the other, belong to one token
abbrev pub do_join : Class → Class → Bool
do_join Word Word = true
do_join Word Space = false
do_join Word Mark = false
do_join Space next = false
do_join Mark next = false

-- a token ends between characters of these classes
abbrev pub ends_between : Class → Class → Bool
ends_between last next = is_of_token last && not (do_join last next)

-- a token begins between characters of these classes
abbrev pub begins_between : Class → Class → Bool
begins_between last next = is_of_token next && not (do_join last next)

-- the sweep behind character `at`, which is of class `next`
abbrev pub sweep_past : Sweep → ℕ → Class → Sweep
sweep_past sweep at next = record { begin = cond (begins_between sweep.last next) at sweep.begin; last = next }

-- the tokens of a text are those found, and those that begin at character `k` or later
pub record IsSplit (cs : List ℕ) (found : List Extent) (k : ℕ) : Type 0 where
  pub split : found ++ tokens_from cs k ≡ tokens_of cs
  pub seam : IsSeam cs k

-- those found with one more
abbrev pub with_token : List Extent → ℕ → ℕ → List Extent
with_token found begin end = found ++ record { begin = begin; end = end } ∷ []

-- the first character from `at` on that is no word character, or the text's end
abbrev pub word_end : List ℕ → ℕ → ℕ
word_end cs at = at + prefix_len is_word_char (drop at cs)

-- the tokens of a text are those found, that of the character before `at`, where this isn't white space, and those behind
-- it: it is from `begin`, of a mark to `at`, of a word to the first character from `at` on that is of no word
abbrev pub IsSwept : List ℕ → List Extent → ℕ → ℕ → Class → Type 0
IsSwept cs found at begin Space = IsSplit cs found at
IsSwept cs found at begin Mark = IsSplit cs (with_token found begin at) at
IsSwept cs found at begin Word = IsSplit cs (with_token found begin (word_end cs at)) (word_end cs at)
