-- The order of spans: by begin, and then by end.
use Rattle.std.specs.Prelude.{◌<◌, ◌≡◌, ◌⊎◌, ◌↔◌, List}
use Rattle.std.specs.List.{AllPairs, Contains}
use Rattle.std.specs.Ordering.{nat_cmp, ordering_then}
use Rattle.std.specs.declared.cmp.Ordering.{Ordering}
use Rattle.span_token.specs.Extents.{Extent}

-- `a` begins before `b`, or begins with it and ends before it
abbrev pub IsBefore : Extent → Extent → Type 0
IsBefore a b = (a.begin < b.begin) ⊎ ((a.begin ≡ b.begin) × (a.end < b.end))

-- the same as a comparison
abbrev pub extent_cmp : Extent → Extent → Ordering
extent_cmp a b = ordering_then (nat_cmp a.begin b.begin) (nat_cmp a.end b.end)

-- exactly the extents with a property, each once and in span order
pub record AreInOrder (P : Extent → Type 0) (extents : List Extent) : Type 0 where
  pub rising : AllPairs IsBefore extents
  pub exactly : (e : Extent) → Contains extents e ↔ P e
