use Rattle.std.proofs.Common.{◌≡◌, ◌∙◌, Option, ℕ, ap, sym}
use Rattle.std.proofs.lemmas.Result.{IfOk-weaker}
use Rattle.regex.specs.Patterns.{Re, find_str}
use Rattle.regex.specs.Strings.{matcher_pattern}
use Rattle.span_token.specs.Extents.{extent_of}
use Rattle.aql_regex_extract.specs.Matches.{extents_of}
use Rattle.aql_regex_extract.specs.Steps.{Pushes}
use Rattle.aql_regex_extract.proofs.SearchSteps.{next-none, pushes-same, unchanged-later, next-later, Pushes-of_equal}
use Rattle.aql_regex_extract.proofs.search.push_next.Goals as goal

pub returns-in_default-clause-found : goal.returns-in_default-clause-found
returns-in_default-clause-found c =
    let pushes = rw c.in_default.is at c.in_ok-end.ensures.found in
    (next-none (matcher_pattern c.args.matcher.now) c.args.text.now c.args.after _ c.saturating_sub-start.ensures pushes.0, pushes.1)

pub returns-then-end-after-clause-found : goal.returns-then-end-after-clause-found
returns-then-end-after-clause-found c =
    let re = matcher_pattern c.args.matcher.now in
    let pushes = rw c.in-Some.is at c.in_ok-end.ensures.found in
    let old = extents_of c.args.into.now.items in
    let mid = extents_of c.push_from.new.into.items in
    let new = extents_of c.push_from-then-end-after.new.into.items in
    let doc = c.args.sought.now.doc.now in
    let source = extent_of c.args.sought.now.source in
    let groups = c.args.sought.now.groups.now in
    let text = c.args.text.now in
    let later = next-later re text c.args.after _ c.saturating_sub-start.ensures doc source groups old mid c.in-Some.end pushes c.if-end-after.true in
    let same = unchanged-later re text c.args.after _ c.saturating_sub-start.ensures doc source groups old mid c.in-Some.end pushes c.if-end-after.true in
    let found : find_str (matcher_pattern c.push_from.new.matcher) text c.args.after ≡ _ =
    ap (λ (x : Re). find_str x text c.args.after) c.push_from.ensures.same ∙ sym later in
    IfOk-weaker _ (Pushes 0 doc source groups (find_str (matcher_pattern c.push_from.new.matcher) text c.args.after) mid new) _
    (λ (answer : Option ℕ) h. Pushes-of_equal 0 doc source groups _ _ old mid new answer found same h)
    c.push_from-then-end-after.ensures.found

pub returns-clause-found : goal.returns-clause-found
returns-clause-found c =
    let pushes = rw c.in-Some.is at c.in_ok-end.ensures.found in
    pushes-same (matcher_pattern c.args.matcher.now) c.args.text.now c.args.after _ c.saturating_sub-start.ensures
    c.args.sought.now.doc.now (extent_of c.args.sought.now.source) c.args.sought.now.groups.now (extents_of c.args.into.now.items) (extents_of c.push_from.new.into.items)
    c.in-Some.end pushes c.if-end-after.false
