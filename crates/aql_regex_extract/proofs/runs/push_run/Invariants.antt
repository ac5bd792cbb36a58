use Rattle.std.proofs.Common.{◌≡◌, ◌+◌, ◌-◌, ◌≤◌, ℕ, List, All, length, min}
use Rattle.span_token.specs.Extents.{Extent}
use Rattle.span_token.specs.SourceTokens.{HoldsTokens}
use Rattle.aql_regex_extract.specs.Matches.{extents_of, IsInside}
use Rattle.aql_regex_extract.specs.TokenRuns.{longest_run}
use Rattle.aql_regex_extract.specs.Views.{FindsWhole, IsSameWhole}
use Rattle.aql_regex_extract.proofs.runs.push_run.Given as goal

abbrev pub invariant-lengths : goal.invariant-lengths
invariant-lengths l =
    let tokens = l.asked.tokens.now.tokens in record {
      same : IsSameWhole l.initial.whole l.whole;
      count : l.count ≤ min l.asked.high (length tokens - l.first);
      left : (pattern : List ℕ) → FindsWhole l.initial.whole pattern →
          (extents_of l.into.items ≡ extents_of l.initial.into.items)
          × (longest_run pattern l.asked.tokens.now.doc tokens l.asked.groups.now l.first l.asked.low (l.count + 1 - l.asked.low)
          ≡ longest_run pattern l.asked.tokens.now.doc tokens l.asked.groups.now l.first l.asked.low (min l.asked.high (length tokens - l.first) + 1 - l.asked.low));
      within : (wide : Extent) → HoldsTokens wide tokens → All (IsInside wide) l.initial.into.items → All (IsInside wide) l.into.items;
    }

abbrev pub decreases-lengths : goal.decreases-lengths
decreases-lengths l = l.count
