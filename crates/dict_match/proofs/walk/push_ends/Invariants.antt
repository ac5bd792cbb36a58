use Rattle.std.proofs.Common.{ℕ, ◌-◌, ◌<◌, map, take, All}
use Rattle.span_token.specs.SourceTokens.{run_extent}
use Rattle.dict_match.specs.Rows.{dict_and_extent, extents_for}
use Rattle.dict_match.specs.Walks.{run_texts, HasEndFor, HasOneEach, PutsWhere, Extends}
use Rattle.dict_match.proofs.walk.push_ends.Given as goal

abbrev pub invariant-loop-end : goal.invariant-loop-end
invariant-loop-end l = record {
  matches : HasOneEach (run_texts l.tokens l.first l.past) l.ends
      → (i : ℕ) → PutsWhere (HasEndFor i (run_texts l.tokens l.first l.past) (take l.end-index l.ends)) (run_extent l.tokens.tokens l.first (l.past - 1))
      (extents_for i (map dict_and_extent l.fn.into.items)) (extents_for i (map dict_and_extent l.into.items));
  added : (n : ℕ) → All (λ end. end.dict < n) l.ends → Extends n l.fn.into.items l.into.items;
}
