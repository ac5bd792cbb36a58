use Rattle.std.proofs.Common.{◌≡◌, take}
use Rattle.aql_regex_extract.proofs.cut.copied.Given as goal

abbrev pub invariant-loop-span : goal.invariant-loop-span
invariant-loop-span l = l.copy.items ≡ take l.span-index l.row
