use Rattle.std.proofs.Common.{◌≡◌, ℕ, ◌<◌, ◌+◌, ◌++◌, ◌≤◌, IsTrue, length, take}
use Rattle.span_token.specs.Extents.{extent_of}
use Rattle.span_joins.specs.declared.rule.Answer.TheVariants.{Before}
use Rattle.span_joins.specs.Answers.{is_exact, other_order_of}
use Rattle.span_joins.specs.Sweeps.{entries_of, entry_at, answer_at, pairs_with, AreBefore, AreInOrder}
use Rattle.span_joins.proofs.sweep.push_pairs.Given as goal

abbrev pub invariant-loop-j : goal.invariant-loop-j
invariant-loop-j g l = record {
  before : AreInOrder (other_order_of l.rule) (entries_of l.others) → AreBefore l.rule (extent_of l.first) (entries_of l.others) l.from → AreBefore l.rule (extent_of l.first) (entries_of l.others) l.next;
  pairs : AreInOrder (other_order_of l.rule) (entries_of l.others) → AreBefore l.rule (extent_of l.first) (entries_of l.others) l.from
      → l.out.rows ≡ l.fn.out.rows ++ pairs_with l.rule (extent_of l.first) l.row (take l.j (entries_of l.others));
  still : ((k : ℕ) → l.from ≤ k → k < length (entries_of l.others) → answer_at l.rule (extent_of l.first) (entry_at l.others k).span ≡ Before → ⊥) → l.next ≡ l.from;
  from : l.from ≤ l.j;
  reached : l.next ≤ l.j;
  in_list : l.next ≤ length (entries_of l.others);
  width : l.out.width ≡ l.fn.out.width;
  spent : IsTrue (is_exact l.rule) → l.steps + l.from ≤ l.fn.steps + (l.next + length (pairs_with l.rule (extent_of l.first) l.row (take l.j (entries_of l.others))));
  counted : l.fn.steps + length l.out.rows ≤ l.steps + length l.fn.out.rows;
  grows : l.fn.steps ≤ l.steps;
}
