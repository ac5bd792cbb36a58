use Rattle.std.proofs.Common.{◌≡◌, ◌+◌, ◌∙◌, ◌++◌, ℕ, List, cond, refl, ap, sym, subst, map, take, arith}
use mir.Val.{bool_byte}
use Rattle.std.proofs.lemmas.List.{append-nil}
use Rattle.span_token.specs.Extents.{Extent, extent_of}
use Rattle.span_token.specs.Sweeps.{ends_between, begins_between, IsSwept}
use Rattle.span_token.specs.declared.sweep.Sweep.{Sweep}
use Rattle.span_token.proofs.SweepLemmas.{one_or_none, as_number, begun_by, IsSwept-more, IsSwept-put, IsSwept-as}
use Rattle.span_token.proofs.ascii.sweep_stretch.Goals as goal

pub loop-at-init : goal.loop-at-init
loop-at-init c = record {
  room = omega arith;
  begun = c.requires.begun;
  tokens = λ found h.
      subst (λ (ts : List Extent). IsSwept c.args.bytes.now ts c.args.from c.args.sweep.begin c.args.sweep.last) (sym (append-nil found)) h;
}

pub loop-at-preserved : goal.loop-at-preserved
loop-at-preserved c =
    let cs = c.args.bytes.now in
    let at = c.loop-at.at in
    let sweep = c.loop-at.sweep in
    let next = c.class_of_ascii-class.result in
    let ends = ends_between sweep.last next in
    let begins = begins_between sweep.last next in
    let n : c.from-count.result ≡ cond ends 1 0 = c.from-count.ensures ∙ ap bool_byte c.ends_before.ensures ∙ as_number ends in
    let start : c.past-sweep.result.begin ≡ cond begins at sweep.begin = ap (λ (s : Sweep). s.begin) c.past-sweep.ensures in
    let last : c.past-sweep.result.last ≡ next = ap (λ (s : Sweep). s.last) c.past-sweep.ensures in
    record {
      room = omega (arith, n, one_or_none ends, c.loop-at.invariant.room);
      begun = omega (arith, start, begun_by begins at sweep.begin c.loop-at.invariant.begun);
      tokens = λ found h.
          let before = found ++ map extent_of (take c.loop-at.count c.loop-at.ended) in
          IsSwept-put cs c.loop-at.ended c.loop-at.count c.from-count.result (at + 1) c.past-sweep.result.begin _ found c.past-sweep.result.last ends (omega (arith, c.loop-at.invariant.room)) n
          (IsSwept-as cs _ _ (at + 1) _ _ _ _ refl (sym start) (sym last)
          (IsSwept-more cs before at sweep.begin sweep.last next (omega arith) c.class_of_ascii-class.ensures (c.loop-at.invariant.tokens found h)));
    }

pub returns-clause-tokens : goal.returns-clause-tokens
returns-clause-tokens c =
    let all : c.loop-at.at ≡ c.args.past = omega (arith, c.loop-at-test.false) in
    λ found h.
    subst (λ (n : ℕ). IsSwept c.args.bytes.now (found ++ map extent_of (take c.loop-at.count c.loop-at.ended)) n c.loop-at.sweep.begin c.loop-at.sweep.last) all
    (c.loop-at.invariant.tokens found h)
