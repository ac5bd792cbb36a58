-- How large a program may be.
use Rattle.std.specs.Prelude.{ℕ}

-- the most bytes that a program has
abbrev pub program_limit : ℕ
program_limit = 1048576

-- the most statements that a program has
abbrev pub statement_limit : ℕ
statement_limit = 2000
