use Rattle.std.proofs.Common.{◌≡◌, ℕ, ◌<◌, true, false, length, map, vec_len, get_or, None}
use Rattle.span_sets.specs.Consolidation.{target_of}
use Rattle.span_sets.specs.Candidates.{row_number_of}
use Rattle.span_sets.proofs.stays.marks.Given as goal

abbrev pub invariant-loop-i : goal.invariant-loop-i
invariant-loop-i l = record {
  number : vec_len l.marks ≡ length l.targets;
  null : (j : ℕ) → j < length l.targets → get_or (map target_of l.targets) j None ≡ None → get_or l.marks.items j false ≡ true;
  answered : (k : ℕ) → k < l.i → get_or l.marks.items (row_number_of l.sorted k) false ≡ get_or l.answers k false;
}
