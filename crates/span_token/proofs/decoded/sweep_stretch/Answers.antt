use Rattle.std.proofs.Common.{◌≡◌, ◌∙◌, ◌++◌, ℕ, Bool, true, false, List, cond, ap, ap₂, sym, subst, map, take, chars, arith}
use mir.Val.{bool_byte}
use Rattle.std.proofs.lemmas.List.{length-set}
use Rattle.span_token.specs.Extents.{Extent, extent_of}
use Rattle.span_token.specs.Leads.{IsPlace}
use Rattle.span_token.specs.Offsets.{AreBytesOf}
use Rattle.span_token.specs.Sweeps.{ends_between, begins_between, IsSwept}
use Rattle.span_token.specs.declared.offsets.TokenBytes.{TokenBytes}
use Rattle.span_token.specs.declared.sweep.Sweep.{Sweep}
use Rattle.span_token.proofs.OffsetLemmas.{ArePairs-put}
use Rattle.span_token.proofs.SweepLemmas.{one_or_none, as_number, begun_by, found_with, IsSwept-more, IsSwept-put, IsSwept-as}
use Rattle.span_token.proofs.decoded.sweep_stretch.Goals.{then-begins_at, else-begins_at}
use Rattle.span_token.proofs.decoded.sweep_stretch.Goals as goal

-- one of two places
place_by : (text : List ℕ) (b : Bool) (p q i j n m : ℕ) → n ≡ cond b p q → m ≡ cond b i j → IsPlace text p i → IsPlace text q j → IsPlace text n m
place_by text true p q i j n m here byte one two = subst (IsPlace text n) (sym byte) (subst (λ (k : ℕ). IsPlace text k i) (sym here) one)
place_by text false p q i j n m here byte one two = subst (IsPlace text n) (sym byte) (subst (λ (k : ℕ). IsPlace text k j) (sym here) two)

pub loop-preserved : goal.loop-preserved
loop-preserved c =
    let text = c.args.text.now in
    let cs = chars text in
    let before = c.loop.text_sweep in
    let sweep = before.sweep in
    let at = before.at.place in
    let known = c.loop.invariant in
    let step = c.in-Some.ensures in
    let class = c.in-Some.class in
    let ends = ends_between sweep.last class in
    let begins = begins_between sweep.last class in
    let n : c.from.result ≡ cond ends 1 0 = c.from.ensures ∙ ap bool_byte c.ends_before.ensures ∙ as_number ends in
    let start : c.past.result.begin ≡ cond begins at sweep.begin = ap (λ (s : Sweep). s.begin) c.past.ensures in
    let last : c.past.result.last ≡ class = ap (λ (s : Sweep). s.last) c.past.ensures in
    let byte : c.if-begins_at.text_sweep ≡ cond begins before.at.byte before.begin_byte =
    elim c.if-begins_at.branch [
      | then-begins_at w ↦ let is : begins ≡ true = sym c.begins_at.ensures ∙ w.if-begins_at.true in
          w.text_sweep-is ∙ ap (λ b. cond b before.at.byte before.begin_byte) (sym is)
      | else-begins_at w ↦ let is : begins ≡ false = sym c.begins_at.ensures ∙ w.if-begins_at.false in
          w.text_sweep-is ∙ ap (λ b. cond b before.at.byte before.begin_byte) (sym is)
    ] in
    let token : Extent = record { begin = sweep.begin; end = at } in
    let bytes : TokenBytes = record { begin = before.begin_byte; end = before.at.byte } in
    let here : AreBytesOf text (extent_of c.span.result) c.bytes.result =
    subst (λ (e : Extent). AreBytesOf text e c.bytes.result) (sym c.span.ensures)
    (subst (AreBytesOf text token) (sym c.bytes.ensures) (record { begins = known.point.begins; ends = known.point.point })) in
    record {
      room = omega (arith, n, one_or_none ends, known.room);
      spans = length-set c.loop.ended c.loop.count _ ∙ known.spans;
      bytes = length-set c.loop.bytes c.loop.count _ ∙ known.bytes;
      point = record {
        point = step.point;
        inside = omega (arith, step.one, step.there);
        begins = place_by text begins at sweep.begin before.at.byte before.begin_byte _ _ start byte known.point.point known.point.begins;
        ordered = omega (arith, start, begun_by begins at sweep.begin known.point.ordered, step.one);
      };
      onward = omega (arith, step.one, known.onward);
      tokens = λ found h.
          let so_far = found ++ map extent_of (take c.loop.count c.loop.ended) in
          let span : found_with ends so_far sweep.begin at ≡ found_with ends so_far c.span.result.begin c.span.result.end =
          ap₂ (λ (x y : ℕ). found_with ends so_far x y) (sym (ap (λ (e : Extent). e.begin) c.span.ensures)) (sym (ap (λ (e : Extent). e.end) c.span.ensures)) in
          let more : IsSwept cs (found_with ends so_far sweep.begin at) c.in-Some.next.place (cond begins at sweep.begin) class =
          subst (λ (k : ℕ). IsSwept cs (found_with ends so_far sweep.begin at) k (cond begins at sweep.begin) class) (sym step.one)
          (IsSwept-more cs so_far at sweep.begin sweep.last class step.there step.class_is (known.tokens found h)) in
          IsSwept-put cs c.loop.ended c.loop.count c.from.result c.in-Some.next.place c.past.result.begin c.span.result found c.past.result.last ends
          (omega (arith, known.room, known.spans)) n (IsSwept-as cs _ _ c.in-Some.next.place _ _ _ _ span (sym start) (sym last) more);
      pairs = ArePairs-put text ends c.loop.ended c.loop.bytes c.loop.count c.from.result c.span.result c.bytes.result (omega (arith, known.room, known.spans)) (omega (arith, known.room, known.bytes)) n here known.pairs;
    }
