use Rattle.std.proofs.Common.{◌≡◌, ◌≤◌, ◌∙◌, List, length, slice_get, Some, sym, subst, arith}
use Rattle.std.proofs.lemmas.List.{get_or_default}
use Rattle.dict_match.specs.declared.dict_use.DictUse.{DictUse}
use Rattle.dict_match.proofs.MostLemmas.{agree_most}
use Rattle.dict_match.proofs.pass.DictPass.most_tokens.Goals as goal

pub returns : goal.returns
returns c = λ the texts is agrees.
    let kept : slice_get c.self.inside.dicts c.args.dict ≡ Some the =
    subst (λ (ds : List DictUse). slice_get ds c.args.dict ≡ Some the) (sym c.self.view_is) is in
    subst (λ n. length texts ≤ n) (get_or_default c.self.inside.most.items c.args.dict 0 c.index.result.now (omega arith) ∙ sym c.index.ensures) (agree_most c.self.inside.dicts c.self.inside.most.items c.args.dict the texts c.self.invariant.most kept agrees)
