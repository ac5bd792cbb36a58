use Rattle.std.proofs.Common.{◌+◌, ◌*◌, ◌≤◌, length, map, drop}
use Rattle.std.specs.List.{All}
use Rattle.algebra.specs.Growth.{Grows}
use Rattle.plan_maker.specs.Grounds.{IsWell, JoinFits, SidesThere, sides_seen, sources_seen, terms_lent}
use Rattle.plan_maker.specs.Lowered.{IsLoweredForm, sides_size, sources_size}
use Rattle.plan_maker.proofs.Combining.{IsJoined}
use Rattle.plan_maker.proofs.Queries.{IsUnited}
use Rattle.plan_maker.proofs.query.+query.Given as goal

abbrev pub invariant-combined-loop-next : goal.invariant-combined-loop-next
invariant-combined-loop-next l = record {
  grows : Grows l.fn.nodes l.nodes;
  forms : All IsLoweredForm l.fn.nodes → All IsLoweredForm l.nodes;
  few : length l.nodes + 8 * sources_size (sources_seen (drop l.next-index l.rest)) + 1 ≤ length l.fn.nodes + 8 * sources_size (sources_seen l.sources);
  joined : (well : IsWell l.fn.nodes l.below (JoinFits (sources_seen l.sources) (terms_lent l.fn.conds.items)))
      → IsJoined l.nodes l.below well.widths well.means (sources_seen l.sources) (sources_seen (drop l.next-index l.rest)) (terms_lent l.fn.conds.items) (terms_lent l.last.items) l.joined;
}

abbrev pub invariant-union-loop-side : goal.invariant-union-loop-side
invariant-union-loop-side l = record {
  grows : Grows l.fn.nodes l.nodes;
  forms : All IsLoweredForm l.fn.nodes → All IsLoweredForm l.nodes;
  few : length l.nodes + 8 * sides_size (sides_seen (drop l.side-index l.rest)) + 2 ≤ length l.fn.nodes + 8 * sides_size (sides_seen l.sides);
  united : (well : IsWell l.fn.nodes l.below (SidesThere (sides_seen l.sides)))
      → IsUnited l.nodes l.below well.widths well.means (sides_seen l.sides) (sides_seen (drop l.side-index l.rest)) l.all;
}
