use Rattle.std.proofs.Common.{◌≡◌, ℕ, ◌<◌, List, [], length, slice_get, Some}
use Rattle.dict_match.specs.declared.dict_use.DictUse.{DictUse}
use Rattle.dict_match.specs.Tries.{Reaches, put_dicts}
use Rattle.dict_match.specs.Walks.{HasRun, AreAhead, IsKnownOrNext}
use Rattle.dict_match.proofs.probe.has_run.Given as goal

abbrev pub invariant-loop-first : goal.invariant-loop-first
invariant-loop-first l = record {
  none : (dicts : List DictUse) (the : DictUse) → Reaches l.trie (put_dicts 0 dicts) 0 [] → slice_get dicts l.dict ≡ Some the
      → (k : ℕ) → k < l.first → HasRun the l.tokens k (length l.tokens.tokens) → ⊥;
  numbers : AreAhead l.trie l.tokens l.ahead;
  next : IsKnownOrNext l.first l.ahead;
}
