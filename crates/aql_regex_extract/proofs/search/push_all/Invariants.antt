use Rattle.std.proofs.Common.{◌≡◌, ◌++◌, ◌+◌, ◌-◌, length, true, All}
use Rattle.std.specs.List.{flat_map}
use Rattle.regex.specs.Patterns.{find_all_str}
use Rattle.regex.specs.Search.{matches_after}
use Rattle.regex.specs.Strings.{matcher_pattern}
use Rattle.span_token.specs.Extents.{extent_of}
use Rattle.aql_regex_extract.specs.Matches.{row_of, extents_of, IsInside}
use Rattle.aql_regex_extract.proofs.SearchSteps.{rest_rows}
use Rattle.aql_regex_extract.proofs.search.push_all.Given as goal

abbrev pub invariant-matches : goal.invariant-matches
invariant-matches l =
    let re = matcher_pattern l.initial.matcher in record {
      same : matcher_pattern l.matcher ≡ re;
      rows : extents_of l.into.items ++ rest_rows l.sought.doc.now (extent_of l.sought.source) l.sought.groups.now re l.text l.after
          ≡ extents_of l.initial.into.items ++ flat_map (row_of l.sought.doc.now (extent_of l.sought.source) l.sought.groups.now) (find_all_str re l.text);
      number : l.number + length (matches_after true re l.text l.after) ≡ length (find_all_str re l.text);
      within : All (IsInside (extent_of l.sought.source)) l.initial.into.items → All (IsInside (extent_of l.sought.source)) l.into.items;
    }

abbrev pub decreases-matches : goal.decreases-matches
decreases-matches l = length l.text + 1 - l.after
