use Rattle.std.proofs.Common.{◌∙◌, ◌↔◌, List, ℕ, slice_get, IfOk, IsTrue, ap, ap₂, subst}
use Rattle.span_token.specs.Extents.{extent_of}
use Rattle.span_token.specs.SourceTokens.{tokens_in}
use Rattle.dict_match.specs.declared.dict_use.DictUse.{DictUse}
use Rattle.dict_match.specs.Dictionaries.{texts_of, AgreesWith}
use Rattle.dict_match.specs.DictMatches.{does_agree}
use Rattle.dict_match.specs.LawProofs.MatchLaws.{does_agree-Decides, told-as}
use Rattle.dict_match.proofs.pass.DictPass.matches_whole.Goals as goal

pub returns-clause-meaning : goal.returns-clause-meaning
returns-clause-meaning c = λ the at.
    let kept = ap (λ (ds : List DictUse). slice_get ds c.args.dict) c.self.view_is ∙ at in
    subst (λ (texts : List (List ℕ)). IfOk c.is_entry.result (λ found. IsTrue found ↔ AgreesWith the texts)) (ap₂ texts_of c.of-tokens.ensures.doc c.of-tokens.ensures.tokens)
    (c.is_entry.ensures c.self.inside.dicts the c.self.invariant.tree kept)

pub returns-clause-test : goal.returns-clause-test
returns-clause-test c = λ the at.
    let texts = texts_of c.args.doc.now (tokens_in c.args.doc.now (extent_of c.args.source)) in
    told-as c.is_entry.result (does_agree the texts) (AgreesWith the texts) (does_agree-Decides the texts) (returns-clause-meaning c the at)
