-- How large things may be.
use Rattle.std.specs.Prelude.{ℕ}

-- the most bytes of a text: of a document, of a program, of a line
abbrev pub text_limit : ℕ
text_limit = 16777216
