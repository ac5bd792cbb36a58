-- Rows that are taken off a board where nobody reads them any more.
use Rattle.std.proofs.Common.{◌≡◌, ◌∙◌, ◌+◌, inl, inr, ⊎_elim, ℕ, List, Option, None, arith}
use Rattle.std.specs.Prelude.{slice_index_or, IsSome}
use Rattle.row_values.specs.Rows.{RowList}
use Rattle.plan_operators.specs.Filling.{IsTakenOff}
use Rattle.plan_operators.proofs.Reading.{some-or-none}

-- one input after the other
pub off-both : (first second both : ℕ → ℕ) (board mid new : List (Option RowList)) (readers mid_readers new_readers : List ℕ) → IsTakenOff first board readers mid mid_readers
    → IsTakenOff second mid mid_readers new new_readers → ((m : ℕ) → both m ≡ first m + second m) → IsTakenOff both board readers new new_readers
off-both first second both board mid new readers mid_readers new_readers f s sum = record {
  long = s.long ∙ f.long;
  readers_long = s.readers_long ∙ f.readers_long;
  less = λ m.
      ⊎_elim (λ (none : slice_index_or new m None ≡ None). inl none)
      (λ (same : slice_index_or new m None ≡ slice_index_or mid m None).
      ⊎_elim (λ (none : slice_index_or mid m None ≡ None). inl (same ∙ none)) (λ (kept : slice_index_or mid m None ≡ slice_index_or board m None). inr (same ∙ kept)) (f.less m))
      (s.less m);
  unread = λ m none some.
      ⊎_elim (λ (there : IsSome (slice_index_or mid m None)). s.unread m none there)
      (λ (gone : slice_index_or mid m None ≡ None). let zero_is = f.unread m gone some in omega (arith, zero_is, s.fewer m)) (some-or-none (slice_index_or mid m None));
  fewer = λ m. omega (arith, f.fewer m, s.fewer m, sum m);
}
