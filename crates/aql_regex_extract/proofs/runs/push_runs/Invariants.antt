use Rattle.std.proofs.Common.{◌≡◌, ◌≤◌, ◌++◌, ℕ, List, All, length}
use Rattle.std.specs.List.{filter_map, flat_map, range_with_len}
use Rattle.span_token.specs.Extents.{Extent}
use Rattle.span_token.specs.SourceTokens.{HoldsTokens}
use Rattle.aql_regex_extract.specs.Matches.{extents_of, IsInside}
use Rattle.aql_regex_extract.specs.TokenRuns.{run_row}
use Rattle.aql_regex_extract.specs.Views.{FindsWhole, IsSameWhole}
use Rattle.aql_regex_extract.proofs.runs.push_runs.Given as goal

abbrev pub invariant-loop-first : goal.invariant-loop-first
invariant-loop-first l = record {
  same : IsSameWhole l.initial.whole l.whole;
  rows : (pattern : List ℕ) → FindsWhole l.initial.whole pattern →
      extents_of l.into.items ≡ extents_of l.initial.into.items
      ++ flat_map (λ row. row) (filter_map (run_row pattern l.asked.tokens.now.doc l.asked.tokens.now.tokens l.asked.low l.asked.high l.asked.groups.now) (range_with_len 0 l.first));
  number : (pattern : List ℕ) → FindsWhole l.initial.whole pattern →
      l.number ≡ length (filter_map (run_row pattern l.asked.tokens.now.doc l.asked.tokens.now.tokens l.asked.low l.asked.high l.asked.groups.now) (range_with_len 0 l.first));
  few : l.number ≤ l.first;
  within : (wide : Extent) → HoldsTokens wide l.asked.tokens.now.tokens → All (IsInside wide) l.initial.into.items → All (IsInside wide) l.into.items;
}
