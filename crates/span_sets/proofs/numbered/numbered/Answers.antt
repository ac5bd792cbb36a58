use Rattle.std.proofs.Common.{◌≡◌, ℕ, ◌+◌, ◌<◌, List, Option, None, map, length, get_or, sym, ap, ◌∙◌, arith}
use Rattle.std.proofs.lemmas.List.{map_push, length_push, get_or_default}
use Rattle.std.proofs.lemmas.List.Elements.{All-push}
use Rattle.std.proofs.lemmas.Iterator.Adapters.{YieldsList-from_vec}
use Rattle.std.proofs.lemmas.Iterator.Consumers.{YieldsList-turn}
use Rattle.std.proofs.Math.ListN.{get_or-map as get_or-map_at}
use Rattle.row_values.specs.Datums.{Datum}
use Rattle.span_token.specs.declared.span.Span.{Span}
use Rattle.span_sets.specs.declared.numbered.NumberedRow.{NumberedRow}
use Rattle.span_sets.specs.Consolidation.{target_of}
use Rattle.span_sets.proofs.RowOrders.{numbered_from-push, numbered_from-nil}
use Rattle.span_sets.proofs.numbered.numbered.Goals as goal

abbrev shown : NumberedRow → List Datum × ℕ
shown p = (p.row, p.number)

fetched : (targets : List (Option Span)) (number : ℕ) (read : Option Span) → number < length targets → read ≡ get_or targets number read → target_of read ≡ get_or (map target_of targets) number None
fetched targets number read short is = ap target_of (is ∙ get_or_default targets number read None short) ∙ sym (get_or-map_at target_of targets number None)

pub loop-row-init : goal.loop-row-init
loop-row-init c = record {
  numbered = ap (λ (ps : List NumberedRow). map shown ps) c.in_ok-order.ensures.items ∙ sym (numbered_from-nil 0);
  counted = c.in_ok-order.ensures.len;
  found = rw (c.in_ok-order.ensures.items) (λ k d h. absurd (omega (arith, h)));
}

pub loop-row-preserved : goal.loop-row-preserved
loop-row-preserved c =
    let P : NumberedRow → Type 0 = λ p. target_of p.target ≡ get_or (map target_of c.args.targets.now) p.number None in
    let so_far : List (List Datum) = c.loop-row.yielded in
    let turn = YieldsList-turn (YieldsList-from_vec {s = c.into_iter-row-iterator.result} c.args.rows.items (cc) (cc)) c.loop-row.yielded c.loop-row.row-iterator c.loop-row.yielded_by c.next.result c.next.new.self c.in-Some.row c.in-Some.is c.next.ensures.steps in
    let number : c.len-number.result ≡ length so_far = c.len-number.ensures ∙ c.loop-row.invariant.counted in
    let counted : 0 + length so_far ≡ c.len-number.result = omega (arith, number) in
    record {
      numbered = rw (c.in_ok-push.ensures.items, map_push, c.loop-row.invariant.numbered)
          (sym (numbered_from-push 0 c.len-number.result so_far c.in-Some.row counted));
      counted = omega (arith, c.in_ok-push.ensures.len, c.loop-row.invariant.counted, length_push so_far c.in-Some.row);
      found = rw (c.in_ok-push.ensures.items)
          (All-push P c.loop-row.order.items _ c.loop-row.invariant.found
          (fetched c.args.targets.now c.len-number.result c.index-targets-number.result (omega (arith, number, turn.0, c.requires.one_target_each, c.args.rows.ok.0)) c.index-targets-number.is));
    }
