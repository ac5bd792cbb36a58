use Rattle.std.proofs.Common.{◌≡◌, ◌∙◌, ℕ, List, [], Some, slice_get, ap, sym, subst}
use Rattle.std.proofs.lemmas.Option.{get_or_from_slice_get}
use Rattle.algebra.specs.declared.node.Node.{Node}
use Rattle.algebra.specs.declared.node.Node.TheVariants.{Dict}
use Rattle.algebra.specs.Nodes.{IsNode}
use Rattle.algebra.specs.Shapes.{shapes_of}
use Rattle.share_plan.specs.Putting.{IsFound}
use Rattle.share_plan.proofs.Extending.{extends-trans}
use Rattle.share_plan.proofs.Parts.{keeps_grows, keeps_trans}
use Rattle.share_plan.proofs.Putting.{found_before}
use Rattle.share_plan.proofs.index.Shared.put_part.Goals as goal

pub put_dict-requires-clause-valid : goal.put_dict-requires-clause-valid
put_dict-requires-clause-valid c =
    let has = c.requires.may.0 in
    let at : slice_get c.as_slice.result.now c.args.source ≡ Some (Dict has.input has.column has.dicts) = ap (λ (list : List Node). slice_get list c.args.source) c.as_slice.ensures.value ∙ has.source in
    let e = c.sought_at-input.ensures has.input has.column has.dicts at in
    subst (λ (i : ℕ). IsNode (shapes_of c.args.self.now.nodes.items) (Dict i c.sought_at-input.result.1 [])) (sym e.0)
    (subst (λ (k : ℕ). IsNode (shapes_of c.args.self.now.nodes.items) (Dict has.input k [])) (sym e.1) c.requires.may.1)

pub returns-clause-keeps : goal.returns-clause-keeps
returns-clause-keeps c = keeps_trans _ _ _ (keeps_grows _ _ c.in_ok-searching.ensures.grows) c.in_ok-number.ensures.keeps

pub returns-clause-found : goal.returns-clause-found
returns-clause-found c =
    let has = c.requires.may.0 in
    let nodes = c.args.self.now.nodes.items in
    let mid = c.put_dict.new.self.nodes.items in
    let after = c.put_dictionary.new.self.nodes.items in
    let r = c.sought_at-input.result in
    let own : slice_get c.as_slice.result.now c.args.source ≡ Some (Dict has.input has.column has.dicts) = ap (λ (list : List Node). slice_get list c.args.source) c.as_slice.ensures.value ∙ has.source in
    let e = c.sought_at-input.ensures has.input has.column has.dicts own in
    let valid : IsNode (shapes_of nodes) (Dict r.0 r.1 []) =
    subst (λ (i : ℕ). IsNode (shapes_of nodes) (Dict i r.1 [])) (sym e.0) (subst (λ (k : ℕ). IsNode (shapes_of nodes) (Dict has.input k [])) (sym e.1) c.requires.may.1) in
    let found : IsFound nodes after c.in_ok-number.number r.0 r.1 r.2 =
    found_before nodes mid after c.in_ok-number.number r.0 r.1 r.2 c.in_ok-searching.ensures.grows valid (c.in_ok-number.ensures.found r.0 r.1 c.in_ok-searching.ensures.there) in
    λ input column d dicts at listed.
    let known = c.sought_at-input.ensures input column dicts (ap (λ (list : List Node). slice_get list c.args.source) c.as_slice.ensures.value ∙ at) in
    let same : r.2 ≡ d = sym (get_or_from_slice_get dicts c.args.dict_number r.2 0 known.2) ∙ get_or_from_slice_get dicts c.args.dict_number d 0 listed in
    subst (λ (i : ℕ). IsFound nodes after c.in_ok-number.number i column d) known.0
    (subst (λ (k : ℕ). IsFound nodes after c.in_ok-number.number r.0 k d) known.1 (subst (λ (f : ℕ). IsFound nodes after c.in_ok-number.number r.0 r.1 f) same found))

pub returns-clause-extends : goal.returns-clause-extends
returns-clause-extends c = extends-trans _ _ _ c.in_ok-searching.ensures.extends c.in_ok-number.ensures.extends
