use Rattle.std.proofs.Common.{◌≡◌, ◌≢◌, ℕ, ◌<◌, Bool, true, false, List, map, length, get_or, set, Option, Some, None, inl, inr, refl, sym, ap, ◌∙◌, subst, arith}
use Rattle.std.specs.Option.{is_none}
use Rattle.std.proofs.lemmas.Bool.{cases_lt}
use Rattle.std.proofs.lemmas.List.{get_or-map, length-map, get_or-set_same, get_or-set_other}
use Rattle.std.proofs.Math.ListN.{get_or-map as get_or-map_at}
use Rattle.span_token.specs.declared.span.Span.{Span}
use Rattle.span_sets.specs.Consolidation.{target_of}
use Rattle.span_sets.specs.Candidates.{row_number_of}
use Rattle.span_sets.specs.LawProofs.Keeping.{in_targets, not_both}
use Rattle.span_sets.proofs.stays.marks.Goals as goal

null_is_none : (o : Option Span) → target_of o ≡ None → is_none o ≡ true
null_is_none None e = refl
null_is_none (Some s) e = absurd cc

pub loop-i-init : goal.loop-i-init
loop-i-init c = record {
  number = c.in_ok-marks.marks.ok.0 ∙ ap (λ (bs : List Bool). length bs) c.in_ok-marks.ensures ∙ length-map c.args.targets.now is_none;
  null = λ j short null.
      rw (c.in_ok-marks.ensures) (get_or-map is_none c.args.targets.now j None false short ∙ null_is_none (get_or c.args.targets.now j None) (sym (get_or-map_at target_of c.args.targets.now j None) ∙ null));
  answered = λ k h. absurd (omega arith);
}

pub index_mut-requires : goal.index_mut-requires
index_mut-requires c =
    let own = c.requires.known c.loop-i.i c.loop-i-test.true in
    omega (arith, in_targets (map target_of c.args.targets.now) (row_number_of c.args.sorted.now c.loop-i.i) own.0 own.1, length-map c.args.targets.now target_of, c.loop-i.invariant.number)

pub loop-i-preserved : goal.loop-i-preserved
loop-i-preserved c =
    let sorted = c.args.sorted.now in
    let i = c.loop-i.i in
    let own = c.requires.known i c.loop-i-test.true in
    let row_number : ℕ = row_number_of sorted i in
    let there : row_number < length c.loop-i.marks.items = omega (arith, in_targets (map target_of c.args.targets.now) row_number own.0 own.1, length-map c.args.targets.now target_of, c.loop-i.invariant.number) in
    record {
      number = c.loop-i.invariant.number;
      null = λ j short null.
          let other : j ≢ row_number = λ e. not_both (get_or (map target_of c.args.targets.now) row_number None) own.0 (ap (λ n. get_or (map target_of c.args.targets.now) n None) (sym e) ∙ null) own.1 in
          get_or-set_other c.loop-i.marks.items row_number j (get_or c.args.answers.now i false) false other ∙ c.loop-i.invariant.null j short null;
      answered = λ k h. elim (cases_lt k i) [
        | inl g ↦
            let other : row_number_of sorted k ≢ row_number = c.requires.apart k i g c.loop-i-test.true in
            get_or-set_other c.loop-i.marks.items row_number (row_number_of sorted k) (get_or c.args.answers.now i false) false other ∙ c.loop-i.invariant.answered k g
        | inr g ↦
            let same : i ≡ k = omega arith in
            subst (λ n. get_or (set c.loop-i.marks.items row_number (get_or c.args.answers.now i false)) (row_number_of sorted n) false ≡ get_or c.args.answers.now n false) same
            (get_or-set_same c.loop-i.marks.items row_number (get_or c.args.answers.now i false) false there)
      ];
    }
