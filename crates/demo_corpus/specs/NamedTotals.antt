-- Totals under names that are borrowed. Only private clauses cite this.
use Rattle.std.specs.Prelude.{ℕ, List}
use denote.Ref.{Bor}

-- the name itself, with its total
abbrev pub named_total : Bor (List ℕ) × ℕ → List ℕ × ℕ
named_total entry = (entry.0.now, entry.1)
