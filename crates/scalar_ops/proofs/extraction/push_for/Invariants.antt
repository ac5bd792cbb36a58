use Rattle.std.proofs.Common.{◌≡◌, ◌++◌, map, take}
use Rattle.span_token.specs.Extents.{extent_of}
use Rattle.dict_match.specs.Rows.{dict_and_extent, extents_for}
use Rattle.scalar_ops.proofs.extraction.push_for.Given as goal

abbrev pub invariant-loop-one : goal.invariant-loop-one
invariant-loop-one l =
    map extent_of l.into.items ≡ map extent_of l.fn.into.items ++ extents_for l.dict (map dict_and_extent (take l.one-index l.found))
