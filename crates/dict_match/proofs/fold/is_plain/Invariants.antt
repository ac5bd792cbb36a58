use Rattle.std.proofs.Common.{◌≡◌, ℕ, ◌<◌, get_or}
use Rattle.std.specs.Char.{to_ascii_lowercase}
use Rattle.dict_match.proofs.fold.is_plain.Given as goal

abbrev pub invariant-loop-byte : goal.invariant-loop-byte
invariant-loop-byte l = (k : ℕ) → k < l.byte-index → (get_or l.text k 0 < 128) × (to_ascii_lowercase (get_or l.text k 0) ≡ get_or l.text k 0)
