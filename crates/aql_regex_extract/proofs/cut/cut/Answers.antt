use Rattle.std.proofs.Common.{◌≡◌, ◌-◌, ◌++◌, ◌∙◌, All, suc, min, length, ap, sym, subst, arith}
use Rattle.std.proofs.lemmas.List.{append-nil, map_push, take-map, drop-map}
use Rattle.std.proofs.lemmas.List.Elements.{All-push, All-take, All-drop}
use Rattle.aql_regex_extract.specs.Matches.{extents_of, extents_of_rows, IsInside}
use Rattle.aql_regex_extract.specs.Steps.{cut_rows}
use Rattle.aql_regex_extract.proofs.CutLemmas.{cut-step, take-most, drop-most}
use Rattle.aql_regex_extract.proofs.cut.cut.Goals as goal

pub cuts-init : goal.cuts-init
cuts-init c = record {
  rows = ap (λ rows. extents_of_rows rows ++ cut_rows c.args.number c.args.width (extents_of c.args.flat.now)) c.new-rows.ensures.items;
  within = λ source all. (rw c.new-rows.ensures.items (λ k d lt. absurd (omega (arith, lt))), all);
}

pub cuts-preserved : goal.cuts-preserved
cuts-preserved c =
    let n : c.cuts.left ≡ suc (c.cuts.left - 1) = omega (arith, c.cuts-test.true) in
    let w = c.args.width in
    let m = c.min.result in
    let short : m ≡ min w (length c.cuts.rest.now) = c.min.ensures in
    let row = ap extents_of (c.in_ok-kept.ensures ∙ c.split_at.ensures.front ∙ take-most w m c.cuts.rest.now short) ∙ sym (take-map _ w c.cuts.rest.now) in
    let rest = ap extents_of (c.split_at.ensures.back ∙ drop-most w m c.cuts.rest.now short) ∙ sym (drop-map _ w c.cuts.rest.now) in
    record {
      rows = ap (λ rows. rows ++ cut_rows (c.cuts.left - 1) w (extents_of c.split_at.result.1.now))
          (ap extents_of_rows c.in_ok-push.ensures.items ∙ map_push _ c.cuts.rows.items c.in_ok-kept.kept)
          ∙ cut-step (extents_of_rows c.cuts.rows.items) (c.cuts.left - 1) w (extents_of c.cuts.rest.now) _ _ row rest
          ∙ ap (λ k. extents_of_rows c.cuts.rows.items ++ cut_rows k w (extents_of c.cuts.rest.now)) (sym n)
          ∙ c.cuts.invariant.rows;
      within = λ source all.
          let so_far = c.cuts.invariant.within source all in (
            rw c.in_ok-push.ensures.items (All-push (λ row. All (IsInside source) row.items) c.cuts.rows.items c.in_ok-kept.kept so_far.0
                (subst (All (IsInside source)) (sym (c.in_ok-kept.ensures ∙ c.split_at.ensures.front)) (All-take (IsInside source) m c.cuts.rest.now so_far.1))),
            subst (All (IsInside source)) (sym c.split_at.ensures.back) (All-drop (IsInside source) m c.cuts.rest.now so_far.1),
          );
    }

pub returns-clause-rows : goal.returns-clause-rows
returns-clause-rows c =
    let none : c.cuts.left ≡ 0 = omega (arith, c.cuts-test.false) in
    sym (append-nil (extents_of_rows c.cuts.rows.items))
    ∙ ap (λ k. extents_of_rows c.cuts.rows.items ++ cut_rows k c.args.width (extents_of c.cuts.rest.now)) (sym none) ∙ c.cuts.invariant.rows

pub returns-clause-within : goal.returns-clause-within
returns-clause-within c = λ source all. (c.cuts.invariant.within source all).0
