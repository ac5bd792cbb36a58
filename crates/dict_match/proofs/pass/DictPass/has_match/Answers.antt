use Rattle.std.proofs.Common.{◌∙◌, ◌↔◌, List, slice_get, IfOk, IsTrue, ap, subst}
use Rattle.span_token.specs.Documents.{Doc}
use Rattle.span_token.specs.Extents.{Extent, extent_of}
use Rattle.span_token.specs.SourceTokens.{tokens_in}
use Rattle.dict_match.specs.declared.dict_use.DictUse.{DictUse}
use Rattle.dict_match.specs.Dictionaries.{IsMatch}
use Rattle.dict_match.specs.DictMatches.{does_match}
use Rattle.dict_match.specs.LawProofs.MatchLaws.{does_match-Decides, told-as}
use Rattle.dict_match.proofs.pass.DictPass.has_match.Goals as goal

pub returns-clause-meaning : goal.returns-clause-meaning
returns-clause-meaning c = λ the at.
    let kept = ap (λ (ds : List DictUse). slice_get ds c.args.dict) c.self.view_is ∙ at in
    let told = c.has_run.ensures c.self.inside.dicts the c.self.invariant.tree kept in
    subst (λ (d : Doc). IfOk c.has_run.result (λ found. IsTrue found ↔ (e : Extent) × IsMatch the d (tokens_in c.args.doc.now (extent_of c.args.source)) e)) c.of-tokens.ensures.doc
    (subst (λ (ts : List Extent). IfOk c.has_run.result (λ found. IsTrue found ↔ (e : Extent) × IsMatch the c.of-tokens.result.doc ts e)) c.of-tokens.ensures.tokens told)

pub returns-clause-test : goal.returns-clause-test
returns-clause-test c = λ the at.
    let d = c.args.doc.now in
    let source = extent_of c.args.source in
    told-as c.has_run.result (does_match the d source) ((e : Extent) × IsMatch the d (tokens_in d source) e) (does_match-Decides the d source) (returns-clause-meaning c the at)
