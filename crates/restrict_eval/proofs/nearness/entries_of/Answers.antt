use Rattle.std.proofs.Common.{◌≡◌, ◌∙◌, ◌<◌, ℕ, List, [], ◌∷◌, length, get_or, refl, sym, ap, subst, arith, Some, true≢false}
use Rattle.std.specs.Prelude.{slice_get}
use Rattle.std.proofs.lemmas.Option.{same_Some, slice_get_read}
use Rattle.algebra.specs.declared.node.Node.{Node}
use Rattle.algebra.specs.declared.node.Node.TheVariants.{Doc, Dict, DictPart}
use Rattle.algebra.specs.Inputs.{left_input, IsAmong}
use Rattle.restrict_eval.proofs.Fates.{only_dict, other_part}
use Rattle.restrict_eval.proofs.nearness.entries_of.Goals.{else-is_single-via-then-is_single+else-is_document, else-is_single-via-else-is_single}
use Rattle.restrict_eval.proofs.nearness.entries_of.Goals as goal

pub returns-then-is_document-clause-some : goal.returns-then-is_document-clause-some
returns-then-is_document-clause-some c =
    let nodes = c.args.nodes.now in
    let t = c.in-Dict in
    let ds = c.as_slice-then-is_document.result.now in
    let single : (c.args.number ≡ 0) × (length c.as_slice.result.now ≡ 1) = c.is_single.ensures.0 c.if-is_single.true in
    let long : length ds ≡ 1 = ap length (c.as_slice-then-is_document.ensures ∙ sym c.as_slice.ensures) ∙ single.1 in
    let whole : t.dicts ≡ get_or ds 0 0 ∷ [] = sym c.as_slice-then-is_document.ensures ∙ only_dict ds long in
    let is : slice_get nodes c.args.input ≡ Some (Dict t.source t.column t.dicts) =
    slice_get_read nodes (length nodes) c.args.input c.get.result.now refl c.requires.there c.get.ensures.node ∙ ap (λ (x : Node). Some x) t.is in
    let lower : t.source < c.args.input = subst (λ (x : Node). IsAmong c.args.input (left_input x)) t.is c.get.ensures.at.left_lower in
    let source : slice_get nodes t.source ≡ Some c.get-then-is_single.result.now =
    slice_get_read nodes (length nodes) t.source c.get-then-is_single.result.now refl (omega (arith, lower, c.requires.there)) c.get-then-is_single.ensures.node in (
      (
        c.args.input,
        t.column,
        c.requires.is ∙ ap (λ (number : ℕ). Some (DictPart c.args.input number)) single.0,
        is ∙ ap (λ (dicts : List ℕ). Some (Dict t.source t.column dicts)) whole,
      ),
      source ∙ ap (λ (x : Node). Some x) (c.is_document.ensures.0 c.if-is_document.true),
    )

pub returns-else-is_single-clause-none : goal.returns-else-is_single-clause-none
returns-else-is_single-clause-none c =
    let nodes = c.args.nodes.now in
    let t = c.in-Dict in
    let is : slice_get nodes c.args.input ≡ Some (Dict t.source t.column t.dicts) =
    slice_get_read nodes (length nodes) c.args.input c.get.result.now refl c.requires.there c.get.ensures.node ∙ ap (λ (x : Node). Some x) t.is in
    let lower : t.source < c.args.input = subst (λ (x : Node). IsAmong c.args.input (left_input x)) t.is c.get.ensures.at.left_lower in
    other_part nodes c.args.base c.args.input c.args.number (Dict t.source t.column t.dicts) c.requires.is is (λ source column d e number_is document.
    let dicts_are : t.dicts ≡ d ∷ [] = cc in
    let source_is : source ≡ t.source = cc in
    elim c.else-is_single.branch [
      | else-is_single-via-then-is_single+else-is_document w ↦
          let at_source = slice_get_read nodes (length nodes) t.source w.get-then-is_single.result.now refl (omega (arith, lower, c.requires.there)) w.get-then-is_single.ensures.node in
          let same : w.get-then-is_single.result.now ≡ Doc = same_Some w.get-then-is_single.result.now Doc (sym at_source ∙ (ap (slice_get nodes) (sym source_is) ∙ document)) in
          true≢false (sym (w.is_document.ensures.1 same) ∙ w.if-is_document.false)
      | else-is_single-via-else-is_single w ↦
          true≢false (sym (c.is_single.ensures.1 (number_is, ap length (c.as_slice.ensures ∙ dicts_are))) ∙ w.if-is_single.false)
    ])

pub returns-in_default : goal.returns-in_default
returns-in_default c =
    let nodes = c.args.nodes.now in
    let is = slice_get_read nodes (length nodes) c.args.input c.get.result.now refl c.requires.there c.get.ensures.node in
    record {
      base = tt;
      some = tt;
      none = other_part nodes c.args.base c.args.input c.args.number c.get.result.now c.requires.is is (λ source column d e number_is document. c.in_default.not-Dict source column (d ∷ []) e);
    }
