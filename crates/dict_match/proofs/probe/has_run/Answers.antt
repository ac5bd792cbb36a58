use Rattle.std.proofs.Common.{◌≡◌, ℕ, inl, inr, true, false, length, refl, subst, arith}
use Rattle.std.proofs.lemmas.Bool.{cases_lt}
use Rattle.dict_match.specs.Walks.{HasRun}
use Rattle.dict_match.proofs.StepLemmas.{run-match, match-run}
use Rattle.dict_match.proofs.WalkLemmas.{no-numbers, next-none}
use Rattle.dict_match.proofs.probe.has_run.Goals as goal

pub loop-first-init : goal.loop-first-init
loop-first-init c = record {
  none = λ dicts the made at k lt run. absurd (omega (arith, lt));
  numbers = no-numbers c.args.trie.now c.args.tokens.now c.restart.new.self c.restart.ensures.none;
  next = next-none c.restart.new.self c.restart.ensures.begin;
}

pub returns-then-branch : goal.returns-then-branch
returns-then-branch c = λ dicts the made at. (
  λ _. run-match the c.args.tokens.now c.loop-first.first ((c.in_ok-has_run_from.ensures.found dicts the made at).0 c.if-branch.true),
  λ _. refl,
)

pub loop-first-preserved : goal.loop-first-preserved
loop-first-preserved c =
    let tokens = c.args.tokens.now in
    let first = c.loop-first.first in
    record {
      none = λ dicts the made at k lt run. elim (cases_lt k first) [
        | inl before ↦ c.loop-first.invariant.none dicts the made at k before run
        | inr here ↦
            let same : k ≡ first = omega (arith, lt, here) in
            let yes : c.in_ok-has_run_from.field-0 ≡ true = (c.in_ok-has_run_from.ensures.found dicts the made at).1 (subst (λ (n : ℕ). HasRun the tokens n (length tokens.tokens)) same run) in
            let no : c.in_ok-has_run_from.field-0 ≡ false = c.if-branch.false in cc
      ];
      numbers = c.in_ok-has_run_from.ensures.numbers;
      next = c.in_ok-has_run_from.ensures.next;
    }

pub returns : goal.returns
returns c = λ dicts the made at. (
  λ h. let no : false ≡ true = h in cc,
  λ m.
      let run = match-run the c.args.tokens.now m in
      absurd (c.loop-first.invariant.none dicts the made at run.0 (omega (arith, run.1, c.loop-first-test.false, c.len-first-end.ensures.len)) run.2),
)
