-- What is read of a program file. Only private clauses cite this.
use Rattle.std.specs.Prelude.{◌≡◌, ℕ, ◌<◌, ◌≤◌, ◌+◌, List, [], take, length, Option, Some, None, IsSomeAnd}
use Rattle.aqlx_top.specs.declared.program_file.Reach.{Reach}
use Rattle.aqlx_top.specs.declared.program_file.Reach.TheVariants.{More, End, Failed}

-- the file's bytes, or its first `most` bytes where it has more
abbrev pub IsFrontOf : Option (List ℕ) → ℕ → List ℕ → Type 0
IsFrontOf file most bytes = IsSomeAnd file (λ held. bytes ≡ take most held)

-- bytes read so far: the file's first ones, and none where there is no such file
abbrev pub IsSoFar : Option (List ℕ) → List ℕ → Type 0
IsSoFar None bytes = bytes ≡ []
IsSoFar (Some held) bytes = bytes ≡ take (length bytes) held

-- how a read changes the number of bytes: more, at most as many as there is room for, or none
abbrev pub Goes : Reach → ℕ → ℕ → ℕ → Type 0
Goes More before after room = (before < after) × (after ≤ before + room)
Goes End before after room = after ≡ before
Goes Failed before after room = after ≡ before
