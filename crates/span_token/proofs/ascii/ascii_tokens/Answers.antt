use Rattle.std.proofs.Common.{◌≡◌, ◌∙◌, ◌++◌, [], true, false, refl, Vec, Global, ap, sym, map, take, arith}
use Rattle.std.proofs.lemmas.List.{map-append}
use Rattle.span_token.specs.Extents.{extent_of}
use Rattle.span_token.specs.Sweeps.{is_of_token}
use Rattle.span_token.specs.declared.classes.Class.TheVariants.{Space}
use Rattle.span_token.specs.declared.span.Span.{Span}
use Rattle.span_token.specs.declared.sweep.Sweep.{Sweep}
use Rattle.span_token.proofs.SweepLemmas.{IsSwept-none, IsSwept-all, IsSwept-as, found_with}
use Rattle.span_token.proofs.ascii.ascii_tokens.Goals.{then-is_in_token+in_ok-push, else-is_in_token}
use Rattle.span_token.proofs.ascii.ascii_tokens.Goals as goal

pub loop-at-init : goal.loop-at-init
loop-at-init c =
    let start = ap (λ (s : Sweep). s.begin) c.new-sweep.ensures in
    let last = ap (λ (s : Sweep). s.last) c.new-sweep.ensures in
    record {
      within = omega arith;
      begun = omega (arith, start);
      tokens = IsSwept-as c.args.bytes.now [] _ 0 0 _ Space _ (sym (ap (map extent_of) c.new-spans.ensures.items)) (sym start) (sym last) (IsSwept-none c.args.bytes.now);
    }

pub loop-at-preserved : goal.loop-at-preserved
loop-at-preserved c =
    let found : map extent_of c.extend_from_slice.new.self.items ≡ map extent_of c.loop-at.spans.items ++ map extent_of (take c.sweep_stretch-count.result.1 c.sweep_stretch-count.new.ended) =
    ap (map extent_of) c.in_ok-extend_from_slice.ensures.items ∙ map-append extent_of c.loop-at.spans.items _ in
    record {
      within = omega arith;
      begun = c.sweep_stretch-count.ensures.begun;
      tokens = IsSwept-as c.args.bytes.now _ _ c.min-past.result _ _ _ _ (sym found) refl refl (c.sweep_stretch-count.ensures.tokens _ c.loop-at.invariant.tokens);
    }

pub returns : goal.returns
returns c =
    let cs = c.args.bytes.now in
    let found = map extent_of c.loop-at.spans.items in
    let begin = c.loop-at.sweep.begin in
    let all = IsSwept-all cs (map extent_of c.loop-at.spans.items) c.loop-at.at c.loop-at.sweep.begin c.loop-at.sweep.last (omega (arith, c.loop-at.invariant.within, c.loop-at-test.false)) c.loop-at.invariant.tokens in
    elim c.if-is_in_token.branch [
      | then-is_in_token+in_ok-push w ↦ let is : is_of_token c.loop-at.sweep.last ≡ true = sym c.is_in_token.ensures ∙ w.if-is_in_token.true in
          ap (λ (v : Vec Span Global). map extent_of v.items) w.spans-is ∙ ap (map extent_of) w.in_ok-push.ensures.items ∙ map-append extent_of c.loop-at.spans.items _
          ∙ ap (λ b. found_with b found begin c.loop-at.at) (sym is) ∙ all
      | else-is_in_token w ↦ let is : is_of_token c.loop-at.sweep.last ≡ false = sym c.is_in_token.ensures ∙ w.if-is_in_token.false in
          ap (λ (v : Vec Span Global). map extent_of v.items) w.spans-is ∙ ap (λ b. found_with b found begin c.loop-at.at) (sym is) ∙ all
    ]
