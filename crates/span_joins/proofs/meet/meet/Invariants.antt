use Rattle.std.proofs.Common.{◌≡◌, ℕ, ◌+◌, ◌-◌, ◌<◌, ◌≤◌, ◌++◌, length, take, get_or, All}
use Rattle.aql_base.specs.Bags.{SameBag}
use Rattle.span_joins.specs.declared.rule.By.TheVariants.{Begin}
use Rattle.span_joins.specs.declared.rule.Rule.TheVariants.{OverlapsFromLeft, OverlapsFromRight}
use Rattle.span_joins.specs.Joins.{rank}
use Rattle.span_joins.specs.Answers.{number_of}
use Rattle.span_joins.specs.Sweeps.{Entry, entries_of, no_entry, all_pairs, AreInOrder, IsRankBefore, IsProper}
use Rattle.span_joins.proofs.meet.meet.Given as goal

abbrev pub invariant-loop-i : goal.invariant-loop-i
invariant-loop-i g l = record {
  in_lefts : l.i ≤ length (entries_of l.lefts);
  in_rights : l.j ≤ length (entries_of l.rights);
  last_left : IsRankBefore Begin (entries_of l.lefts) l.i l.last_left;
  last_right : IsRankBefore Begin (entries_of l.rights) l.j l.last_right;
  lefts_seen : AreInOrder Begin (take l.i (entries_of l.lefts));
  rights_seen : AreInOrder Begin (take l.j (entries_of l.rights));
  proper : All (λ (right : Entry). IsProper right.span) (take l.j (entries_of l.rights));
  lefts_before : AreInOrder Begin (entries_of l.lefts) → AreInOrder Begin (entries_of l.rights)
      → (k m : ℕ) → k < l.i → l.j ≤ m → m < length (entries_of l.rights) → rank (number_of Begin) (get_or (entries_of l.lefts) k no_entry).span ≤ rank (number_of Begin) (get_or (entries_of l.rights) m no_entry).span;
  rights_before : AreInOrder Begin (entries_of l.lefts) → AreInOrder Begin (entries_of l.rights)
      → (k m : ℕ) → k < l.j → l.i ≤ m → m < length (entries_of l.lefts) → rank (number_of Begin) (get_or (entries_of l.rights) k no_entry).span < rank (number_of Begin) (get_or (entries_of l.lefts) m no_entry).span;
  pairs : AreInOrder Begin (entries_of l.lefts) → AreInOrder Begin (entries_of l.rights)
      → SameBag l.out.rows (l.fn.out.rows ++ (all_pairs OverlapsFromLeft (take l.i (entries_of l.lefts)) (entries_of l.rights) ++ all_pairs OverlapsFromRight (take l.j (entries_of l.rights)) (entries_of l.lefts)));
  width : l.out.width ≡ l.fn.out.width;
  counted : l.fn.steps + length l.out.rows ≤ l.steps + length l.fn.out.rows;
  grows : l.fn.steps ≤ l.steps;
}

abbrev pub decreases-loop-i : goal.decreases-loop-i
decreases-loop-i g l = (length (entries_of l.lefts) - l.i) + (length (entries_of l.rights) - l.j)
