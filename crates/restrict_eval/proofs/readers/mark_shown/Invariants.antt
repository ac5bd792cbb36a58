use Rattle.std.proofs.Common.{◌≡◌, map, take, vec_len}
use Rattle.restrict_eval.specs.Readers.{AreShown}
use Rattle.restrict_eval.proofs.readers.mark_shown.Given as goal

abbrev pub invariant-loop-out : goal.invariant-loop-out
invariant-loop-out l = record {
  long : vec_len l.shown ≡ vec_len l.fn.shown;
  shown : AreShown (map (λ out. out.node) (take l.out-index l.outputs)) l.shown.items;
}
