-- The lines of the bytes that a corpus gave.
use Rattle.std.specs.Prelude.{◌≡◌, ◌≢◌, ℕ, ◌+◌, ◌<◌, ◌==◌, ◌||◌, Bool, nat_lt, if◌then◌else◌, List, [], ◌∷◌, ◌++◌, length, take, drop, All}
use Rattle.std.specs.List.{flat_map}
use Rattle.corpus_json.specs.Limits.{line_limit}

-- bytes taken apart at each LF: the lines that an LF ends, without it, and what stands after the last LF
pub record Cut : Type 0 where
  pub lines : List (List ℕ)
  pub rest : List ℕ

-- a byte before what is taken apart already: it belongs to the first line, or to the rest where there is none
abbrev pub onto : ℕ → List (List ℕ) → List ℕ → Cut
onto byte [] rest = record { lines = []; rest = byte ∷ rest }
onto byte (line ∷ lines) rest = record { lines = (byte ∷ line) ∷ lines; rest = rest }

-- the bytes, taken apart at each LF
abbrev pub cut : List ℕ → Cut
cut [] = record { lines = []; rest = [] }
cut (byte ∷ bytes) =
    if byte == 10 then record { lines = [] ∷ (cut bytes).lines; rest = (cut bytes).rest }
    else onto byte (cut bytes).lines (cut bytes).rest

-- the byte is no LF
abbrev pub IsNotLf : ℕ → Type 0
IsNotLf byte = byte ≢ 10

-- no LF stands in the bytes
abbrev pub HasNoLf : List ℕ → Type 0
HasNoLf bytes = All IsNotLf bytes

-- the line has more bytes than a line may have
abbrev pub is_too_long : List ℕ → Bool
is_too_long line = nat_lt line_limit (length line)

-- what stands after the last LF, as a line: where bytes stand there, and either the source ended with them or they are too many for a line
abbrev pub last_line : Bool → List ℕ → List (List ℕ)
last_line ended [] = []
last_line ended (byte ∷ rest) = if ended || is_too_long (byte ∷ rest) then (byte ∷ rest) ∷ [] else []

-- the lines of the bytes that a source gave, in order; `ended` says that it answered its end after them
abbrev pub lines_of : Bool → List ℕ → List (List ℕ)
lines_of ended bytes = (cut bytes).lines ++ last_line ended (cut bytes).rest

-- the lines one after another, each with an LF at its end
abbrev pub joined : List (List ℕ) → List ℕ
joined lines = flat_map (λ line. line ++ 10 ∷ []) lines

-- the first line is too long: more bytes than a line may have stand before any LF
pub record BeginsTooLong (bytes : List ℕ) : Type 0 where
  pub front : List ℕ
  pub others : List ℕ
  pub split : bytes ≡ front ++ others
  pub no_lf : HasNoLf front
  pub long : line_limit < length front

-- the first of some lines is too long
pub record FirstIsTooLong (lines : List (List ℕ)) : Type 0 where
  pub first : List ℕ
  pub later : List (List ℕ)
  pub split : lines ≡ first ∷ later
  pub long : line_limit < length first

-- the first LF of the bytes stands at place n
pub record FirstLfAt (bytes : List ℕ) (n : ℕ) : Type 0 where
  pub within : n < length bytes
  pub no_lf : HasNoLf (take n bytes)
  pub split : bytes ≡ take n bytes ++ 10 ∷ drop (n + 1) bytes
