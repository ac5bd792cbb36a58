use Rattle.std.proofs.Common.{◌≡◌, ◌++◌, ◌∙◌, ap, sym, refl, arith, true, None}
use Rattle.std.proofs.lemmas.List.{append-nil}
use Rattle.regex.specs.Patterns.{Re}
use Rattle.regex.specs.Search.{next_match}
use Rattle.regex.specs.Strings.{matcher_pattern}
use Rattle.span_token.specs.Extents.{extent_of}
use Rattle.aql_regex_extract.specs.Matches.{extents_of}
use Rattle.aql_regex_extract.specs.Steps.{PushesMatch}
use Rattle.aql_regex_extract.proofs.SearchSteps.{PushesMatch-of_same, next-within, rest_rows-step, rest_rows-none, rest_rows-past, rest_rows-all, count-step, count-none, count-past, count-all}
use Rattle.aql_regex_extract.proofs.search.push_all.Goals as goal
use Rattle.aql_regex_extract.proofs.search.push_all.Goals.{In-Some}

-- the step of this turn, in the words of the pattern that was handed in
step : (c : In-Some) → PushesMatch 0 c.args.sought.now.doc.now (extent_of c.args.sought.now.source) c.args.sought.now.groups.now
    (next_match true (matcher_pattern c.args.matcher.now) c.args.text.now c.matches.after)
    (extents_of c.matches.into.items) (extents_of c.push_next.new.into.items) c.in-Some.end
step c =
    let pushes = rw c.in-Some.is at c.in_ok-end.ensures.found in
    PushesMatch-of_same _ _ c.args.text.now _ _ _ _ _ _ _ c.matches.invariant.same pushes

pub matches-init : goal.matches-init
matches-init c = record {
  same = refl;
  rows = ap (λ rest. extents_of c.args.into.now.items ++ rest)
      (rest_rows-all (matcher_pattern c.args.matcher.now) c.args.text.now c.args.sought.now.doc.now (extent_of c.args.sought.now.source) c.args.sought.now.groups.now);
  number = omega (arith, count-all (matcher_pattern c.args.matcher.now) c.args.text.now);
  within = λ h. h;
}

pub returns-then-end-text-clause-matches : goal.returns-then-end-text-clause-matches
returns-then-end-text-clause-matches c =
    let re = matcher_pattern c.args.matcher.now in
    let text = c.args.text.now in
    let doc = c.args.sought.now.doc.now in
    let source = extent_of c.args.sought.now.source in
    let groups = c.args.sought.now.groups.now in
    let end = c.in-Some.end in
    let new = extents_of c.push_next.new.into.items in
    let turn = rest_rows-step re text doc source groups c.matches.after _ new end (step (goal.at.returns-then-end-text-clause-matches c).In-Some) in
    sym (append-nil new) ∙ ap (λ rest. new ++ rest) (sym (rest_rows-past re text doc source groups end c.if-end-text.true))
    ∙ turn ∙ c.matches.invariant.rows

pub returns-then-end-text-clause-number : goal.returns-then-end-text-clause-number
returns-then-end-text-clause-number c =
    let re = matcher_pattern c.args.matcher.now in
    let text = c.args.text.now in
    let turn = count-step re text c.args.sought.now.doc.now (extent_of c.args.sought.now.source) c.args.sought.now.groups.now c.matches.after _ _ c.in-Some.end
    c.matches.number (step (goal.at.returns-then-end-text-clause-number c).In-Some) in
    omega (arith, c.in_ok-more.ensures, turn, count-past re text c.in-Some.end c.if-end-text.true, c.matches.invariant.number)

pub matches-smaller : goal.matches-smaller
matches-smaller c =
    let within = next-within (matcher_pattern c.args.matcher.now) c.args.text.now c.args.sought.now.doc.now (extent_of c.args.sought.now.source) c.args.sought.now.groups.now
    c.matches.after _ _ c.in-Some.end (step (goal.at.matches-smaller c).In-Some) in
    omega (arith, within)

pub matches-preserved : goal.matches-preserved
matches-preserved c = record {
  same = c.push_next.ensures.same ∙ c.matches.invariant.same;
  rows = rest_rows-step (matcher_pattern c.args.matcher.now) c.args.text.now c.args.sought.now.doc.now (extent_of c.args.sought.now.source) c.args.sought.now.groups.now
      c.matches.after _ _ c.in-Some.end (step (goal.at.matches-preserved c).In-Some) ∙ c.matches.invariant.rows;
  number =
      let turn = count-step (matcher_pattern c.args.matcher.now) c.args.text.now c.args.sought.now.doc.now (extent_of c.args.sought.now.source) c.args.sought.now.groups.now
      c.matches.after _ _ c.in-Some.end c.matches.number (step (goal.at.matches-preserved c).In-Some) in
      omega (arith, c.in_ok-more.ensures, turn, c.matches.invariant.number);
  within = λ h. c.in_ok-end.ensures.within (c.matches.invariant.within h);
}

pub returns-clause-matches : goal.returns-clause-matches
returns-clause-matches c =
    let re = matcher_pattern c.args.matcher.now in
    let pushes = rw c.in_default.is at c.in_ok-end.ensures.found in
    let none : next_match true re c.args.text.now c.matches.after ≡ None =
    ap (λ (x : Re). next_match true x c.args.text.now c.matches.after) (sym c.matches.invariant.same) ∙ pushes.0 in
    pushes.1 ∙ sym (append-nil _)
    ∙ ap (λ rest. extents_of c.matches.into.items ++ rest) (sym (rest_rows-none re c.args.text.now c.args.sought.now.doc.now (extent_of c.args.sought.now.source) c.args.sought.now.groups.now c.matches.after none))
    ∙ c.matches.invariant.rows

pub returns-clause-number : goal.returns-clause-number
returns-clause-number c =
    let re = matcher_pattern c.args.matcher.now in
    let pushes = rw c.in_default.is at c.in_ok-end.ensures.found in
    let none : next_match true re c.args.text.now c.matches.after ≡ None =
    ap (λ (x : Re). next_match true x c.args.text.now c.matches.after) (sym c.matches.invariant.same) ∙ pushes.0 in
    omega (arith, count-none re c.args.text.now c.matches.after none, c.matches.invariant.number)
