use Rattle.std.proofs.Common.{◌≡◌, ◌+◌, ◌<◌, ◌≤◌, ◌++◌, ℕ, Some, IsTrue, length, take, get_or, All}
use Rattle.span_token.specs.Extents.{Extent}
use Rattle.span_joins.specs.Answers.{is_exact, order_of, other_order_of}
use Rattle.span_joins.specs.Sweeps.{Entry, entries_of, all_pairs, AreBefore, AreInOrder, IsRankBefore, IsProper}
use Rattle.span_joins.proofs.sweep.sweep.Given as goal

abbrev pub invariant-loop-i : goal.invariant-loop-i
invariant-loop-i g l = record {
  last_first : IsRankBefore (order_of l.rule) (entries_of l.firsts) l.i l.last_first;
  last_other : IsRankBefore (other_order_of l.rule) (entries_of l.others) l.i l.last_other;
  before : AreInOrder (order_of l.rule) (entries_of l.firsts) → AreInOrder (other_order_of l.rule) (entries_of l.others)
      → (k : ℕ) (d : Entry) (a : Extent) → l.i ≤ k → k < length (entries_of l.firsts) → (get_or (entries_of l.firsts) k d).span ≡ Some a → AreBefore l.rule a (entries_of l.others) l.from;
  pairs : AreInOrder (order_of l.rule) (entries_of l.firsts) → AreInOrder (other_order_of l.rule) (entries_of l.others)
      → l.out.rows ≡ l.fn.out.rows ++ all_pairs l.rule (take l.i (entries_of l.firsts)) (entries_of l.others);
  firsts_seen : AreInOrder (order_of l.rule) (take l.i (entries_of l.firsts));
  others_seen : AreInOrder (other_order_of l.rule) (take l.i (entries_of l.others));
  proper : All (λ (other : Entry). IsProper other.span) (take l.i (entries_of l.others));
  in_list : l.from ≤ length (entries_of l.others);
  width : l.out.width ≡ l.fn.out.width;
  spent : IsTrue (is_exact l.rule) → l.steps ≤ l.fn.steps + (l.from + length (all_pairs l.rule (take l.i (entries_of l.firsts)) (entries_of l.others)) + l.i);
  counted : l.fn.steps + length l.out.rows ≤ l.steps + length l.fn.out.rows;
  grows : l.fn.steps ≤ l.steps;
}
