use Rattle.std.proofs.Common.{◌≡◌, ℕ, ◌<◌, get_or}
use Rattle.dict_match.specs.declared.trie.End.{End}
use Rattle.dict_match.proofs.trie.is_listed.Given as goal

abbrev pub invariant-loop-other : goal.invariant-loop-other
invariant-loop-other l = (k : ℕ) (d : End) → k < l.other-index → get_or l.ends k d ≡ l.end → ⊥
