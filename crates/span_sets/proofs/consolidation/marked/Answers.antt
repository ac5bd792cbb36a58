use Rattle.std.proofs.Common.{◌≡◌, ℕ, ◌<◌, List, [], ◌∷◌, ◌++◌, Bool, true, false, cond, map, length, get_or, refl, sym, ap, ◌∙◌, arith, All}
use Rattle.std.proofs.lemmas.List.{get_or-map, length_push}
use Rattle.std.proofs.lemmas.List.Elements.{All-push}
use Rattle.std.proofs.lemmas.Iterator.Adapters.{YieldsList-from_vec}
use Rattle.std.proofs.lemmas.Iterator.Consumers.{YieldsList-turn}
use Rattle.row_values.specs.Datums.{Datum}
use Rattle.span_sets.specs.declared.numbered.NumberedRow.{NumberedRow}
use Rattle.span_sets.proofs.PickedRows.{grown}
use Rattle.span_sets.proofs.consolidation.marked.Goals as goal

-- what holds of the rows and of one more
All-if : (P : List Datum → Type 0) (mark : Bool) (out : List (List Datum)) (row : List Datum) → All P out → P row → All P (cond mark (out ++ row ∷ []) out)
All-if P true out row all one = All-push P out row all one
All-if P false out row all one = all

pub loop-numbered-preserved : goal.loop-numbered-preserved
loop-numbered-preserved c =
    let order : List NumberedRow = c.args.order.items in
    let n : ℕ = c.loop-numbered.i in
    let f : ℕ → List Datum = λ k. get_or (map (λ (q : NumberedRow). q.row) order) k [] in
    let p : ℕ → Bool = λ k. get_or c.args.marks.now k false in
    let turn = YieldsList-turn (YieldsList-from_vec {s = c.into_iter-numbered-iterator.result} order (cc) (cc)) c.loop-numbered.yielded c.loop-numbered.numbered-iterator c.loop-numbered.yielded_by c.next.result c.next.new.self c.in-Some.numbered c.in-Some.is c.next.ensures.steps in
    let numbered : NumberedRow = c.in-Some.numbered in
    let short : n < length order = omega (arith, turn.0, c.loop-numbered.invariant.counted) in
    let at : numbered ≡ get_or order n numbered = turn.1 ∙ ap (λ (k : ℕ). get_or order k numbered) (sym c.loop-numbered.invariant.counted) in
    let row : numbered.row ≡ f n = ap (λ (q : NumberedRow). q.row) at ∙ sym (get_or-map (λ (q : NumberedRow). q.row) order n numbered [] short) in
    let wide : length numbered.row ≡ c.args.width = ap (λ (q : NumberedRow). length q.row) at ∙ c.requires.width n numbered short in
    record {
      counted = omega (arith, c.loop-numbered.invariant.counted, length_push c.loop-numbered.yielded numbered);
      few = omega (arith, c.in_ok-push_marked.ensures.len, c.loop-numbered.invariant.few);
      picked = c.in_ok-push_marked.ensures.rows ∙ grown f p n c.loop-numbered.out.items numbered.row (p n) c.loop-numbered.invariant.picked refl row;
      width = rw (c.in_ok-push_marked.ensures.rows) (All-if (λ r. length r ≡ c.args.width) (p n) c.loop-numbered.out.items numbered.row c.loop-numbered.invariant.width wide);
    }
