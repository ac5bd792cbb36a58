-- How large a corpus and its lines may be.
use Rattle.std.specs.Prelude.{ℕ, ◌^◌}

-- the most bytes that a line may have, without its LF
abbrev pub line_limit : ℕ
line_limit = 16777216

-- the most bytes that a corpus may have
abbrev pub corpus_limit : ℕ
corpus_limit = 2 ^ 40
