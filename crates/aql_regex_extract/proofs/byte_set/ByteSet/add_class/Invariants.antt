use Rattle.std.proofs.Common.{◌≡◌, ℕ, ◌≤◌, true, take}
use Rattle.regex_class.specs.Ranges.{in_ranges}
use Rattle.aql_regex_extract.specs.ByteSets.{Has, Widens}
use Rattle.aql_regex_extract.proofs.byte_set.ByteSet.add_class.Given as goal

abbrev pub invariant-loop-range : goal.invariant-loop-range
invariant-loop-range l =
    ((c : ℕ) → in_ranges (take l.range-index l.range-items) c ≡ true → c ≤ l.most → Has l.self c) × Widens l.initial.self l.self
