use Rattle.std.proofs.Common.{◌≡◌, ◌∙◌, ◌<◌, ℕ, List, [], ◌∷◌, length, refl, sym, ap, subst, arith, Some, true≢false}
use Rattle.std.specs.Prelude.{slice_get}
use Rattle.std.proofs.lemmas.Option.{same_Some, slice_get_read}
use Rattle.algebra.specs.declared.node.Node.{Node}
use Rattle.algebra.specs.declared.node.Node.TheVariants.{Doc, TokenRegex, DictPart}
use Rattle.algebra.specs.Inputs.{left_input, IsAmong}
use Rattle.restrict_eval.proofs.Fates.{no_found, other_runs}
use Rattle.restrict_eval.proofs.nearness.sought_by.Goals.{else-is_whole_match-via-then-is_whole_match+else-is_document, else-is_whole_match-via-else-is_whole_match}
use Rattle.restrict_eval.proofs.nearness.sought_by.Goals as goal

pub returns-then-is_document-clause-some : goal.returns-then-is_document-clause-some
returns-then-is_document-clause-some c =
    let nodes = c.args.nodes.now in
    let t = c.in-TokenRegex in
    let groups_are : t.groups ≡ 0 ∷ [] = sym c.as_slice.ensures ∙ c.is_whole_match.ensures.0 c.if-is_whole_match.true in
    let is : slice_get nodes c.args.base ≡ Some (TokenRegex t.input t.column t.low t.high t.pattern t.groups) =
    slice_get_read nodes (length nodes) c.args.base c.get.result.now refl c.requires.there c.get.ensures.node ∙ ap (λ (x : Node). Some x) t.is in
    let lower : t.input < c.args.base = subst (λ (x : Node). IsAmong c.args.base (left_input x)) t.is c.get.ensures.at.left_lower in
    let source : slice_get nodes t.input ≡ Some c.get-then-is_whole_match.result.now =
    slice_get_read nodes (length nodes) t.input c.get-then-is_whole_match.result.now refl (omega (arith, lower, c.requires.there)) c.get-then-is_whole_match.ensures.node in (
      (t.column, is ∙ ap (λ (groups : List ℕ). Some (TokenRegex t.input t.column t.low t.high t.pattern groups)) groups_are),
      source ∙ ap (λ (x : Node). Some x) (c.is_document.ensures.0 c.if-is_document.true),
    )

pub returns-else-is_whole_match-clause-none : goal.returns-else-is_whole_match-clause-none
returns-else-is_whole_match-clause-none c =
    let nodes = c.args.nodes.now in
    let t = c.in-TokenRegex in
    let is : slice_get nodes c.args.base ≡ Some (TokenRegex t.input t.column t.low t.high t.pattern t.groups) =
    slice_get_read nodes (length nodes) c.args.base c.get.result.now refl c.requires.there c.get.ensures.node ∙ ap (λ (x : Node). Some x) t.is in
    let lower : t.input < c.args.base = subst (λ (x : Node). IsAmong c.args.base (left_input x)) t.is c.get.ensures.at.left_lower in
    other_runs nodes c.args.base t.input t.column t.low t.high t.pattern t.groups is (λ groups_are document.
    elim c.else-is_whole_match.branch [
      | else-is_whole_match-via-then-is_whole_match+else-is_document w ↦
          let source = slice_get_read nodes (length nodes) t.input w.get-then-is_whole_match.result.now refl (omega (arith, lower, c.requires.there)) w.get-then-is_whole_match.ensures.node in
          let same : w.get-then-is_whole_match.result.now ≡ Doc = same_Some w.get-then-is_whole_match.result.now Doc (sym source ∙ document) in
          true≢false (sym (w.is_document.ensures.1 same) ∙ w.if-is_document.false)
      | else-is_whole_match-via-else-is_whole_match w ↦
          true≢false (sym (c.is_whole_match.ensures.1 (c.as_slice.ensures ∙ groups_are)) ∙ w.if-is_whole_match.false)
    ])

pub returns-in_default : goal.returns-in_default
returns-in_default c =
    let nodes = c.args.nodes.now in
    let is = slice_get_read nodes (length nodes) c.args.base c.get.result.now refl c.requires.there c.get.ensures.node in
    record {
      base = tt;
      some = tt;
      none = no_found nodes c.args.base c.get.result.now is (λ i column low high pattern groups e. c.in_default.not-TokenRegex i column low high pattern groups e) (λ i number e. c.in_default.not-DictPart i number e);
    }

pub entries_of-requires : goal.entries_of-requires
entries_of-requires c =
    let nodes = c.args.nodes.now in
    let t = c.in-DictPart in
    let is : slice_get nodes c.args.base ≡ Some (DictPart t.input t.number) =
    slice_get_read nodes (length nodes) c.args.base c.get.result.now refl c.requires.there c.get.ensures.node ∙ ap (λ (x : Node). Some x) t.is in
    let lower : t.input < c.args.base = subst (λ (x : Node). IsAmong c.args.base (left_input x)) t.is c.get.ensures.at.left_lower in
    record { there = omega (arith, lower, c.requires.there); is = is }
