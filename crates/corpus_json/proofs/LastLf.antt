-- Whether an LF is ready, by the place of the last one.
use Rattle.std.proofs.Common.{◌≡◌, ℕ, ◌+◌, ◌-◌, ◌<◌, ◌≤◌, inl, inr, List, length, drop, get_or, sym, ap, ◌∙◌, arith, slice_range, length-drop}
use Rattle.std.proofs.lemmas.Bool.{cases_lt}
use Rattle.std.proofs.lemmas.List.{get_or-take, get_or-drop, get_or_default, length-take-le}
use Rattle.std.proofs.lemmas.List.Elements.{Contains-from_at, at_from_Contains}
use Rattle.std.specs.Prelude.{Contains}
use Rattle.corpus_json.specs.Window.{IsPastLastLf}

module _ (bytes : List ℕ) (from to past : ℕ) (within : to ≤ length bytes) (last : IsPastLastLf bytes to past) where
  size : length (slice_range bytes from to) ≡ to - from
  size = length-take-le (to - from) (drop from bytes) (let all = length-drop from bytes in omega (arith, all))

  -- a byte that is ready, where it stands in the buffer
  read_at : (k d : ℕ) → k < to - from → get_or (slice_range bytes from to) k d ≡ get_or bytes (from + k) d
  read_at k d before = get_or-take (to - from) (drop from bytes) k d before ∙ get_or-drop from bytes k d

  -- the last LF is ready where it stands past the begin
  pub lf_ready : from < past → Contains (slice_range bytes from to) 10
  lf_ready before =
      let k = past - 1 - from in
      let short : k < to - from = omega (arith, last.within) in
      let same : from + k ≡ past - 1 = omega arith in
      Contains-from_at (slice_range bytes from to) 10 (
        k,
        omega (arith, size, short),
        λ d. read_at k d short ∙ ap (λ i. get_or bytes i d) same ∙ get_or_default bytes (past - 1) d 0 (omega (arith, last.within)) ∙ last.lf (omega arith),
      )

  -- where an LF is ready, the last one stands past the begin
  pub ready_lf : Contains (slice_range bytes from to) 10 → from < past
  ready_lf held =
      elim (cases_lt from past) [
        | inl before ↦ before
        | inr behind ↦
            let at = at_from_Contains (slice_range bytes from to) 10 held in
            let short : at.0 < to - from = omega (arith, size, at.1) in
            absurd (last.none_later (from + at.0) (omega arith) (omega (arith, short)) (sym (read_at at.0 0 short) ∙ at.2 0))
      ]
