use Rattle.std.proofs.Common.{◌∙◌, ◌≤◌, ◌++◌, ℕ, List, IsUtf8, option_map, length, refl, sym, ap, subst, arith}
use Rattle.std.specs.List.{filter}
use Rattle.span_token.specs.Contexts.{AreWithin}
use Rattle.span_token.specs.Documents.{characters}
use Rattle.span_token.specs.Extents.{extent_of}
use Rattle.span_token.specs.Tokens.{tokens_of}
use Rattle.row_values.specs.Datums.{Datum}
use Rattle.scalar_ops.specs.Tables.{Lists}
use Rattle.plan_operators.specs.Neighbourhoods.{PutsStretch, stretch_at}
use Rattle.plan_operators.proofs.Restricting.{kept-next, kept-all, passed-next, followed-by_token}
use Rattle.plan_operators.proofs.restricted.push_near.Goals as goal

pub loop-stretch-preserved : goal.loop-stretch-preserved
loop-stretch-preserved c =
    let lists = c.args.tools.now in
    let doc = c.args.doc.now in
    let stretches = c.args.stretches.now in
    let i = c.loop-stretch.stretch-index in
    let past = c.from-past.result in
    let done = c.in_ok-done.done in
    let utf8 : IsUtf8 doc.text = subst IsUtf8 c.text-text.ensures.text c.text-text.utf8 in
    let invariant = c.loop-stretch.invariant in
    let there : past ≤ length (tokens_of (characters doc)) = omega (arith, c.from-past.ensures, c.tokens_in-first.ensures.tokens.in_list) in
    let puts = subst (λ (l : Lists). PutsStretch l doc c.args.local c.args.row.now (stretch_at stretches i) c.loop-stretch.done past done c.loop-stretch.into c.push_stretch.new.into)
    invariant.same c.in_ok-done.ensures.put in
    let after = puts.after in
    let up_to = puts.up_to in
    record {
      ahead = omega (arith, invariant.ahead, after, up_to);
      within = puts.within;
      width = ap (λ list. list.width) puts.put ∙ invariant.width;
      lies = λ lies. c.in_ok-done.ensures.lies (invariant.lies lies);
      same = c.in_ok-done.ensures.same ∙ invariant.same;
      passed = passed-next stretches i past c.loop-stretch.done done invariant.passed (omega (arith, after, up_to)) puts.all;
      kept = λ keep begins.
          kept-next lists doc c.args.local c.args.row.now utf8 c.args.reach c.requires.sought c.requires.reach stretches keep begins past c.from-begin.result there c.requires.rise
          i c.loop-stretch.done done (stretch_at stretches i) c.args.into.now c.loop-stretch.into c.push_stretch.new.into c.loop-stretch-test.true refl
          invariant.ahead invariant.passed (invariant.kept keep begins) puts;
    }

pub returns-clause-rows : goal.returns-clause-rows
returns-clause-rows c = λ keep begins.
    let lists = c.args.tools.now in
    let doc = c.args.doc.now in
    let tokens = tokens_of (characters doc) in
    let row = c.args.row.now in
    let stretches = c.args.stretches.now in
    let first = c.from-begin.result in
    let past = c.from-past.result in
    let source = extent_of c.in-Some.source in
    let utf8 : IsUtf8 doc.text = subst IsUtf8 c.text-text.ensures.text c.text-text.utf8 in
    let invariant = c.loop-stretch.invariant in
    let within : AreWithin tokens source first past =
    subst (λ (n : ℕ). AreWithin tokens source n past) (sym c.from-begin.ensures) (subst (AreWithin tokens source c.tokens_in-first.result.0) (sym c.from-past.ensures) c.tokens_in-first.ensures.tokens) in
    let at = sym c.source_in.ensures.source ∙ ap (option_map extent_of) c.in-Some.is in
    kept-all lists doc c.args.local row utf8 c.args.reach c.requires.sought c.requires.reach stretches keep begins past first within.in_list c.requires.rise
    c.loop-stretch.done c.args.into.now.rows c.loop-stretch.into.rows invariant.ahead invariant.within
    (λ n lt. invariant.passed n (omega (arith, lt, c.loop-stretch-test.false))) (invariant.kept keep begins)
    ∙ ap (λ (rows : List (List Datum)). filter keep (c.args.into.now.rows ++ rows)) (sym (followed-by_token lists doc c.args.local row row row source first past within c.requires.sought at))
