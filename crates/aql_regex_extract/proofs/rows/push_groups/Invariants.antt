use Rattle.std.proofs.Common.{◌≡◌, ◌++◌, take, All}
use Rattle.regex.specs.Strings.{captures_span}
use Rattle.span_token.specs.Extents.{Extent, extent_of}
use Rattle.span_token.specs.Relations.{ContainsExtent}
use Rattle.aql_regex_extract.specs.Matches.{row_by, extents_of, IsInside}
use Rattle.aql_regex_extract.proofs.rows.push_groups.Given as goal

abbrev pub invariant-loop-group : goal.invariant-loop-group
invariant-loop-group l = record {
  rows : extents_of l.into.items ≡ extents_of l.initial.into.items ++ row_by l.sought.doc.now (extent_of l.sought.source) (take l.group-index l.sought.groups.now) (captures_span l.captures);
  within : (wide : Extent) → ContainsExtent wide (extent_of l.sought.source) → All (IsInside wide) l.initial.into.items → All (IsInside wide) l.into.items;
}
