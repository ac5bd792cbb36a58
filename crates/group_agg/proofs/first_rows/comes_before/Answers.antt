use Rattle.std.proofs.Common.{◌≡◌, ◌<◌, length, false, true, sym, ap, ◌∙◌, arith, get_or, refl, true≢false}
use Rattle.std.specs.Ordering.{is_lt, is_eq, is_ne}
use Rattle.std.specs.declared.cmp.Ordering.{Ordering}
use Rattle.std.specs.declared.cmp.Ordering.TheVariants.{Less, Equal, Greater}
use Rattle.std.proofs.lemmas.List.{get_or_default}
use Rattle.row_values.specs.Rows.{value_in}
use Rattle.row_values.specs.Datums.{null, datum_of, datum_cmp}
use Rattle.group_agg.specs.LawProofs.Pairs.{compared_at, compared_from-tied, compared_from-decided}
use Rattle.group_agg.proofs.first_rows.comes_before.Goals as goal

differs : (o : Ordering) → is_ne o ≡ true → is_eq o ≡ false
differs Less e = refl
differs Equal e = absurd (true≢false (sym e))
differs Greater e = refl

ties : (o : Ordering) → is_ne o ≡ false → is_eq o ≡ true
ties Less e = absurd (true≢false e)
ties Equal e = refl
ties Greater e = absurd (true≢false e)

pub returns-then-is_ne : goal.returns-then-is_ne
returns-then-is_ne c =
    let keys = c.args.keys.now in
    let row = c.args.row.now in
    let held = c.args.held.now in
    let i = c.loop-i.i in
    let k = get_or keys i 0 in
    let below : i < length keys = omega arith in
    let v : datum_of c.get.result ≡ value_in row k = c.get.ensures.value ∙ get_or_default row k (datum_of c.get.result) null (c.requires.columns i 0 below) in
    let w : datum_of c.get-in-loop-i.result ≡ get_or held.0 i null = c.get-in-loop-i.ensures.value ∙ get_or_default held.0 i (datum_of c.get-in-loop-i.result) null (omega arith) in
    let order_is : c.compare_values-order.result ≡ compared_at keys row held i = c.compare_values-order.ensures ∙ (λ j. datum_cmp (v j) (w j)) in
    let other : is_eq (compared_at keys row held i) ≡ false = ap is_eq (sym order_is) ∙ differs c.compare_values-order.result (sym c.is_ne.ensures ∙ c.if-is_ne.true) in
    c.is_lt.ensures ∙ ap is_lt (order_is ∙ sym (compared_from-decided keys row held i below c.requires.same other) ∙ sym c.loop-i.invariant)

pub loop-i-preserved : goal.loop-i-preserved
loop-i-preserved c =
    let keys = c.args.keys.now in
    let row = c.args.row.now in
    let held = c.args.held.now in
    let i = c.loop-i.i in
    let k = get_or keys i 0 in
    let below : i < length keys = omega arith in
    let v : datum_of c.get.result ≡ value_in row k = c.get.ensures.value ∙ get_or_default row k (datum_of c.get.result) null (c.requires.columns i 0 below) in
    let w : datum_of c.get-in-loop-i.result ≡ get_or held.0 i null = c.get-in-loop-i.ensures.value ∙ get_or_default held.0 i (datum_of c.get-in-loop-i.result) null (omega arith) in
    let order_is : c.compare_values-order.result ≡ compared_at keys row held i = c.compare_values-order.ensures ∙ (λ j. datum_cmp (v j) (w j)) in
    let tie : is_eq (compared_at keys row held i) ≡ true = ap is_eq (sym order_is) ∙ ties c.compare_values-order.result (sym c.is_ne.ensures ∙ c.if-is_ne.false) in
    c.loop-i.invariant ∙ compared_from-tied keys row held i below c.requires.same tie
