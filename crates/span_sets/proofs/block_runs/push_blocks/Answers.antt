use Rattle.std.proofs.Common.{◌≡◌, ℕ, ◌+◌, ◌-◌, ◌<◌, List, [], ◌∷◌, ◌++◌, length, map, get_or, sym, ap, ap₂, ◌∙◌, arith, append_assoc, inl, inr}
use Rattle.std.proofs.lemmas.Bool.{cases_lt}
use Rattle.std.specs.List.{range_with_len}
use Rattle.std.proofs.lemmas.List.{map_push, get_or-map}
use Rattle.std.proofs.lemmas.List.FromFn.{map-range_with_len_more}
use Rattle.span_token.specs.Extents.{Extent, extent_of, nth_extent}
use Rattle.span_token.specs.SourceTokens.{run_extent}
use Rattle.span_token.specs.declared.span.Span.{Span}
use Rattle.span_token.specs.ExtentLaws.{same_extent}
use Rattle.span_sets.proofs.block_runs.push_blocks.Goals as goal

-- what is read by a number
read_at : (spans : List Span) (k : ℕ) (read : Span) → k < length spans → nth_extent (map extent_of spans) k ≡ extent_of (get_or spans k read)
read_at spans k read short = get_or-map extent_of spans k read (record { begin = 0; end = 0 }) short

pub invariant_of-push : goal.invariant_of-push
invariant_of-push c =
    let first = read_at c.args.spans.now c.args.first c.index-spans-first.result c.requires.first in
    let last = read_at c.args.spans.now c.loop-j.j c.index-spans-j.result (omega (arith, c.requires.to, c.loop-j-test.true)) in
    record { ordered = omega (arith, c.requires.ordered c.loop-j.j c.loop-j.auto.j c.loop-j-test.true, ap (λ (e : Extent). e.begin) first, ap (λ (e : Extent). e.end) last) }

pub loop-j-preserved : goal.loop-j-preserved
loop-j-preserved c =
    let spans : List Extent = map extent_of c.args.spans.now in
    let i : ℕ = c.args.first in
    let j : ℕ = c.loop-j.j in
    let from : ℕ = c.args.from in
    let first = read_at c.args.spans.now i c.index-spans-first.result c.requires.first in
    let last = read_at c.args.spans.now j c.index-spans-j.result (omega (arith, c.requires.to, c.loop-j-test.true)) in
    let here : from + (j - from) ≡ j = omega (arith, c.loop-j.auto.j) in
    let next : (j - from) + 1 ≡ (j + 1) - from = omega (arith, c.loop-j.auto.j) in
    let grown : map (run_extent spans i) (range_with_len from ((j + 1) - from)) ≡ map (run_extent spans i) (range_with_len from (j - from)) ++ run_extent spans i j ∷ [] =
    ap (λ (n : ℕ). map (run_extent spans i) (range_with_len from n)) (sym next) ∙ map-range_with_len_more (run_extent spans i) from (j - from) j here in
    let block : Extent = record { begin = (get_or c.args.spans.now i c.index-spans-first.result).begin; end = (get_or c.args.spans.now j c.index-spans-j.result).end } in
    let same : block ≡ run_extent spans i j = same_extent block (run_extent spans i j) (sym (ap (λ (e : Extent). e.begin) first)) (sym (ap (λ (e : Extent). e.end) last)) in
    record {
      pushed = ap (λ (xs : List Span). map extent_of xs) c.in_ok-push.ensures.items ∙ map_push extent_of c.loop-j.found.items _
          ∙ ap₂ (λ (xs : List Extent) (e : Extent). xs ++ e ∷ []) c.loop-j.invariant.pushed same
          ∙ append_assoc (map extent_of c.args.found.now.items) (map (run_extent spans i) (range_with_len from (j - from))) (run_extent spans i j ∷ [])
          ∙ ap (λ (xs : List Extent). map extent_of c.args.found.now.items ++ xs) (sym grown);
      none = λ h. absurd (omega (arith, h, c.loop-j.auto.j, c.loop-j-test.true));
    }

pub returns : goal.returns
returns c =
    let many : c.loop-j.j - c.args.from ≡ c.args.to - c.args.from = elim (cases_lt c.args.from c.args.to) [
      | inl h ↦ omega (arith, c.loop-j.auto.j, c.loop-j.auto.j-end, c.loop-j-test.false, h)
      | inr h ↦ omega (arith, c.loop-j.invariant.none h, h)
    ] in
    record {
      blocks = c.loop-j.invariant.pushed
          ∙ ap (λ (n : ℕ). map extent_of c.args.found.now.items ++ map (run_extent (map extent_of c.args.spans.now) c.args.first) (range_with_len c.args.from n)) many;
    }
