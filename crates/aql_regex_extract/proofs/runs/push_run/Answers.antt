use Rattle.std.proofs.Common.{◌≡◌, ◌≤◌, ◌++◌, ◌∙◌, ◌+◌, ◌-◌, [], length, min, true, None, is_some, unwrap_or, refl, sym, subst, arith, ap, ℕ, List}
use Rattle.std.proofs.lemmas.List.{append-nil}
use Rattle.span_token.specs.Documents.{text_in}
use Rattle.span_token.specs.SourceTokens.{run_extent}
use Rattle.aql_regex_extract.specs.Bytes.{AreBytes, Begins}
use Rattle.aql_regex_extract.specs.Matches.{extents_of}
use Rattle.aql_regex_extract.specs.TokenRuns.{whole_row, longest_row, longest_run, run_at}
use Rattle.aql_regex_extract.specs.Views.{FindsWhole}
use Rattle.aql_regex_extract.proofs.BeginLemmas.{none-begins, longest-none}
use Rattle.aql_regex_extract.proofs.TokenRunLemmas.{PutsRow-found, longest-passed, run_at-count, ContainsExtent-run}
use Rattle.aql_regex_extract.proofs.WholeMatchers.{IsSameWhole-trans, FindsWhole-same}
use Rattle.aql_regex_extract.proofs.runs.push_run.Goals as goal
use Rattle.aql_regex_extract.proofs.runs.push_run.Goals.{Else-branch}

pub lengths-init : goal.lengths-init
lengths-init c =
    let n : c.min-count.result ≡ min c.args.asked.now.high (length c.args.asked.now.tokens.now.tokens - c.args.first) = omega (arith, c.min-count.ensures, c.len.ensures.len) in
    record {
      same = record { pattern = refl; admitted = refl };
      count = omega (arith, n);
      left = λ pattern finds. (
        refl,
        ap (λ k. longest_run pattern c.args.asked.now.tokens.now.doc c.args.asked.now.tokens.now.tokens c.args.asked.now.groups.now c.args.first c.args.asked.now.low (k + 1 - c.args.asked.now.low)) n,
      );
      within = λ wide holds all. all;
    }

pub returns-then-not-may_begin-clause-run : goal.returns-then-not-may_begin-clause-run
returns-then-not-may_begin-clause-run c = λ pattern finds.
    let doc = c.args.asked.now.tokens.now.doc in
    let tokens = c.args.asked.now.tokens.now.tokens in
    let groups = c.args.asked.now.groups.now in
    let first = c.args.first in
    let count = c.min-count.result in
    let admitted = c.args.whole.now.admitted.now in
    let text = c.run_text-longest.result.now in
    let rows = λ (k : ℕ). whole_row pattern doc groups (run_at tokens first k) in
    let n : count ≡ min c.args.asked.now.high (length tokens - first) = omega (arith, c.min-count.ensures, c.len.ensures.len) in
    let positive : 1 ≤ count = omega (arith, c.requires.at_least_one, c.if-count-least.false) in
    let there : first + count ≤ length tokens = omega (arith, n, c.requires.there) in
    let is : text ≡ text_in doc (run_at tokens first count) = c.run_text-longest.ensures.text ∙ ap (text_in doc) (run_at-count tokens first count positive) in
    let bytes : AreBytes (text_in doc (run_at tokens first count)) = subst AreBytes is c.may_begin.ensures.bytes in
    let lost : Begins admitted.firsts true (text_in doc (run_at tokens first count)) → ⊥ = λ begins. c.may_begin.ensures.lost c.if-not-may_begin.true (subst (Begins admitted.firsts true) (sym is) begins) in
    let none : longest_row rows c.args.asked.now.low (min c.args.asked.now.high (length tokens - first) + 1 - c.args.asked.now.low) ≡ None =
    ap (λ (k : ℕ). longest_row rows c.args.asked.now.low (k + 1 - c.args.asked.now.low)) (sym n)
    ∙ longest-none rows c.args.asked.now.low (count + 1 - c.args.asked.now.low) (λ k le lt.
    none-begins pattern doc tokens admitted finds.admits c.len.ensures.order first count there bytes lost groups k (omega (arith, c.requires.at_least_one, le)) (omega (arith, lt, c.if-count-least.false))) in (
      sym (ap is_some none),
      sym (append-nil _) ∙ ap (λ o. extents_of c.args.into.now.items ++ unwrap_or o []) (sym none),
    )

pub returns-then-branch-clause-run : goal.returns-then-branch-clause-run
returns-then-branch-clause-run c = λ pattern finds.
    let doc = c.args.asked.now.tokens.now.doc in
    let tokens = c.args.asked.now.tokens.now.tokens in
    let row = λ (k : ℕ). whole_row pattern doc c.args.asked.now.groups.now (run_at tokens c.args.first k) in
    let run = run_at-count tokens c.args.first c.lengths.count (omega arith) in
    let puts = c.in_ok-push_row.ensures.row pattern (FindsWhole-same _ _ pattern c.lengths.invariant.same finds) in
    PutsRow-found row c.args.asked.now.low c.lengths.count (min c.args.asked.now.high (length tokens - c.args.first) + 1 - c.args.asked.now.low)
    (whole_row pattern doc c.args.asked.now.groups.now (run_extent tokens c.args.first (c.args.first + (c.lengths.count - 1)))) _ _ _ c.in_ok-push_row.field-0
    c.lengths-test.true (ap (whole_row pattern doc c.args.asked.now.groups.now) run) (c.lengths.invariant.left pattern finds).1
    (c.lengths.invariant.left pattern finds).0 c.if-branch.true puts

-- a length without a match puts nothing, and leaves the greatest to the lesser lengths
left : (c : Else-branch) (pattern : List ℕ) → FindsWhole c.args.whole.now pattern →
    let row = longest_run pattern c.args.asked.now.tokens.now.doc c.args.asked.now.tokens.now.tokens c.args.asked.now.groups.now c.args.first c.args.asked.now.low in
    (extents_of c.push_row.new.into.items ≡ extents_of c.args.into.now.items)
    × (row (c.lengths.count - 1 + 1 - c.args.asked.now.low) ≡ row (min c.args.asked.now.high (length c.args.asked.now.tokens.now.tokens - c.args.first) + 1 - c.args.asked.now.low))
left c pattern finds =
    let doc = c.args.asked.now.tokens.now.doc in
    let tokens = c.args.asked.now.tokens.now.tokens in
    let row = λ (k : ℕ). whole_row pattern doc c.args.asked.now.groups.now (run_at tokens c.args.first k) in
    let run = run_at-count tokens c.args.first c.lengths.count (omega arith) in
    let puts = c.in_ok-push_row.ensures.row pattern (FindsWhole-same _ _ pattern c.lengths.invariant.same finds) in
    let passed = longest-passed row c.args.asked.now.low c.lengths.count (whole_row pattern doc c.args.asked.now.groups.now (run_extent tokens c.args.first (c.args.first + (c.lengths.count - 1)))) _ _
    c.in_ok-push_row.field-0 (omega arith) c.lengths-test.true (ap (whole_row pattern doc c.args.asked.now.groups.now) run) c.if-branch.false puts in
    (passed.1 ∙ (c.lengths.invariant.left pattern finds).0, passed.0 ∙ (c.lengths.invariant.left pattern finds).1)

pub lengths-preserved : goal.lengths-preserved
lengths-preserved c = record {
  same = IsSameWhole-trans _ _ _ c.lengths.invariant.same c.push_row.ensures.same;
  count = omega (arith, c.lengths.invariant.count);
  left = λ pattern finds. left c pattern finds;
  within = λ wide holds all.
      c.in_ok-push_row.ensures.within wide
      (ContainsExtent-run wide c.args.asked.now.tokens.now.tokens c.args.first (c.args.first + (c.lengths.count - 1)) (omega arith)
      (omega (arith, c.lengths.invariant.count, c.requires.there)) holds)
      (c.lengths.invariant.within wide holds all);
}
