use Rattle.std.proofs.Common.{◌≡◌, length}
use Rattle.run_tables.proofs.results.Results.new.Given as goal

abbrev pub invariant-loop : goal.invariant-loop
invariant-loop g l = length l.cells.items ≡ l.counter
