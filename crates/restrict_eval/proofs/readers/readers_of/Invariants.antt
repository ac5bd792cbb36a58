use Rattle.std.proofs.Common.{◌≡◌, ◌≤◌, length, map, vec_len}
use Rattle.restrict_eval.specs.Readers.{AreReaders}
use Rattle.restrict_eval.proofs.readers.readers_of.Given as goal

abbrev pub invariant-nodes : goal.invariant-nodes
invariant-nodes l = record {
  within : l.rest ≤ length l.nodes;
  shown_long : vec_len l.shown ≡ length l.nodes;
  lists_long : vec_len l.lists ≡ length l.nodes;
  readers : AreReaders l.nodes (map (λ out. out.node) l.outputs) l.rest l.shown.items l.lists.items;
}

abbrev pub decreases-nodes : goal.decreases-nodes
decreases-nodes l = l.rest
