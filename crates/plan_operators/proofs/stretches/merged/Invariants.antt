use Rattle.std.proofs.Common.{◌<◌, ◌≤◌, ℕ, take, length}
use Rattle.plan_operators.specs.Neighbourhoods.{stretch_at}
use Rattle.plan_operators.proofs.StretchLemmas.{AreMerged}
use Rattle.plan_operators.proofs.stretches.merged.Given as goal

abbrev pub invariant-loop-stretch : goal.invariant-loop-stretch
invariant-loop-stretch l = record {
  merged : AreMerged (take l.stretch-index l.stretches) l.all.items l.last;
  before : (n : ℕ) → l.stretch-index ≤ n → n < length l.stretches → l.last.first ≤ (stretch_at l.stretches n).first;
}
