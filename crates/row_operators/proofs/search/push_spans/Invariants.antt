use Rattle.std.proofs.Common.{◌≡◌, ◌++◌, map, take, Some}
use Rattle.span_token.specs.Extents.{extent_of}
use Rattle.aql_regex_extract.specs.Matches.{extents_of}
use Rattle.row_operators.proofs.search.push_spans.Given as goal

abbrev pub invariant-loop-span : goal.invariant-loop-span
invariant-loop-span l = extents_of l.found.items ≡ extents_of l.fn.found.items ++ map Some (map extent_of (take l.span-index l.spans))
