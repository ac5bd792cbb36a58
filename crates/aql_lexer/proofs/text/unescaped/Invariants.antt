use Rattle.std.proofs.Common.{◌≡◌, ◌-◌, ◌≤◌, ◌++◌, length, take, drop, false, string_bytes}
use Rattle.std.specs.Str.{IsCharBoundary}
use Rattle.aql_lexer.specs.Scanning.{escapes_of, unescaped_from}
use Rattle.aql_lexer.proofs.text.unescaped.Given as goal

-- what is written, what is yet to be copied, and what the rest stands for
abbrev pub invariant-loop-at : goal.invariant-loop-at
invariant-loop-at l = record {
  order : l.from ≤ l.at;
  within : l.at ≤ length l.text;
  boundary : IsCharBoundary l.text l.from;
  value : string_bytes l.meant ++ (take (l.at - l.from) (drop l.from l.text) ++ unescaped_from (escapes_of l.escapes) false (drop l.at l.text))
      ≡ unescaped_from (escapes_of l.escapes) false l.text;
}

abbrev pub decreases-loop-at : goal.decreases-loop-at
decreases-loop-at l = length l.bytes - l.at
