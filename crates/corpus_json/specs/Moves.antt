-- What a piece of a line is, by the bytes that are ready and the line so far.
use Rattle.std.specs.Prelude.{◌≡◌, ℕ, ◌+◌, ◌<◌, ◌≤◌, List, ◌++◌, length, take}
use Rattle.corpus_json.specs.declared.line_buffer.Piece.{Piece}
use Rattle.corpus_json.specs.declared.line_buffer.Piece.TheVariants.{Whole, Part, TooMany}
use Rattle.corpus_json.specs.Limits.{line_limit}
use Rattle.corpus_json.specs.Lines.{HasNoLf, FirstLfAt}

-- the line grew by all that is ready up to the LF at place n
pub record MovesWhole (ready line_before line_now : List ℕ) (n : ℕ) : Type 0 where
  pub lf : FirstLfAt ready n
  pub line : line_now ≡ line_before ++ take n ready
  pub short : length line_now ≤ line_limit

-- the line grew by all that is ready, which has no LF
pub record MovesPart (ready line_before line_now : List ℕ) : Type 0 where
  pub no_lf : HasNoLf ready
  pub line : line_now ≡ line_before ++ ready
  pub short : length line_now ≤ line_limit

-- the first n bytes that are ready have no LF, and are too many for the line
pub record IsTooMany (ready line_before : List ℕ) : Type 0 where
  pub n : ℕ
  pub within : n ≤ length ready
  pub no_lf : HasNoLf (take n ready)
  pub long : line_limit < length line_before + n

abbrev pub MovesPiece : List ℕ → List ℕ → List ℕ → Piece → Type 0
MovesPiece ready line_before line_now (Whole n) = MovesWhole ready line_before line_now n
MovesPiece ready line_before line_now Part = MovesPart ready line_before line_now
MovesPiece ready line_before line_now TooMany = IsTooMany ready line_before
