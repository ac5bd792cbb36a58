use Rattle.std.proofs.Common.{◌≡◌, ◌+◌, ◌++◌, [], ◌∙◌, ℕ, List, length, cond, ap, sym, unwrap_or, append_assoc, arith}
use Rattle.std.specs.List.{filter_map, flat_map, range_with_len}
use Rattle.aql_regex_extract.specs.Matches.{extents_of}
use Rattle.aql_regex_extract.specs.TokenRuns.{run_row}
use Rattle.aql_regex_extract.specs.Views.{FindsWhole}
use Rattle.aql_regex_extract.proofs.TokenRunLemmas.{flat-more, count-more}
use Rattle.aql_regex_extract.proofs.WholeMatchers.{IsSameWhole-trans, FindsWhole-same}
use Rattle.aql_regex_extract.proofs.runs.push_runs.Goals as goal

pub loop-first-preserved : goal.loop-first-preserved
loop-first-preserved c =
    let doc = c.args.asked.now.tokens.now.doc in
    let tokens = c.args.asked.now.tokens.now.tokens in
    let first = c.loop-first.first in
    let keeps = λ (pattern : List ℕ) (finds : FindsWhole c.args.whole.now pattern).
    FindsWhole-same _ _ pattern c.loop-first.invariant.same finds in
    record {
      same = IsSameWhole-trans _ _ _ c.loop-first.invariant.same c.push_run.ensures.same;
      rows = λ pattern finds.
          let row = run_row pattern doc tokens c.args.asked.now.low c.args.asked.now.high c.args.asked.now.groups.now in
          let so_far = flat_map (λ r. r) (filter_map row (range_with_len 0 first)) in
          let puts = c.in_ok-put.ensures.run pattern (keeps pattern finds) in
          puts.1 ∙ ap (λ xs. xs ++ unwrap_or (row first) []) (c.loop-first.invariant.rows pattern finds)
          ∙ append_assoc (extents_of c.args.into.now.items) so_far _
          ∙ ap (λ xs. extents_of c.args.into.now.items ++ xs) (sym (flat-more row first));
      number = λ pattern finds.
          let row = run_row pattern doc tokens c.args.asked.now.low c.args.asked.now.high c.args.asked.now.groups.now in
          let puts = c.in_ok-put.ensures.run pattern (keeps pattern finds) in
          c.counted-number.ensures.number ∙ ap (λ n. n + cond c.in_ok-put.put 1 0) (c.loop-first.invariant.number pattern finds)
          ∙ sym (count-more row first c.in_ok-put.put puts.0);
      few = omega (arith, c.counted-number.ensures.most, c.loop-first.invariant.few);
      within = λ wide holds all. c.in_ok-put.ensures.within wide holds (c.loop-first.invariant.within wide holds all);
    }

pub returns-clause-runs : goal.returns-clause-runs
returns-clause-runs c = λ pattern finds.
    let row = run_row pattern c.args.asked.now.tokens.now.doc c.args.asked.now.tokens.now.tokens c.args.asked.now.low c.args.asked.now.high c.args.asked.now.groups.now in
    let n : c.loop-first.first ≡ length c.args.asked.now.tokens.now.tokens = omega (arith, c.len-first-end.ensures.len, c.loop-first-test.false, c.loop-first.auto.first-end) in
    c.loop-first.invariant.rows pattern finds
    ∙ ap (λ (k : ℕ). extents_of c.args.into.now.items ++ flat_map (λ r. r) (filter_map row (range_with_len 0 k))) n

pub returns-clause-number : goal.returns-clause-number
returns-clause-number c = λ pattern finds.
    let row = run_row pattern c.args.asked.now.tokens.now.doc c.args.asked.now.tokens.now.tokens c.args.asked.now.low c.args.asked.now.high c.args.asked.now.groups.now in
    let n : c.loop-first.first ≡ length c.args.asked.now.tokens.now.tokens = omega (arith, c.len-first-end.ensures.len, c.loop-first-test.false, c.loop-first.auto.first-end) in
    c.loop-first.invariant.number pattern finds
    ∙ ap (λ (k : ℕ). length (filter_map row (range_with_len 0 k))) n
