use Rattle.std.proofs.Common.{◌≡◌, ◌∙◌, ◌++◌, List, length, map, slice_get, OnOk, ap, ap₂, subst}
use Rattle.span_token.specs.Extents.{Extent, extent_of}
use Rattle.dict_match.specs.declared.dict_use.DictUse.{DictUse}
use Rattle.dict_match.specs.DictMatches.{matches_among}
use Rattle.dict_match.specs.Rows.{dict_and_extent, extents_for}
use Rattle.dict_match.specs.Walks.{Extends}
use Rattle.dict_match.proofs.AppendLemmas.{appends-ok}
use Rattle.dict_match.proofs.pass.DictPass.append_matches.Goals as goal

pub returns : goal.returns
returns c =
    let old = c.args.into.now.items in
    let new = c.push_matches.new.into.items in
    let r = c.push_matches.result in
    appends-ok c.args.self.now c.args.doc.now (extent_of c.args.source) old new r
    (subst (λ (ds : List DictUse). OnOk r (Extends (length ds) old new)) c.self.view_is (c.push_matches.ensures.added c.self.inside.dicts c.self.invariant.tree))
    (λ i dict at.
    let kept = ap (λ (ds : List DictUse). slice_get ds i) c.self.view_is ∙ at in
    subst (λ (es : List Extent). OnOk r (extents_for i (map dict_and_extent new) ≡ extents_for i (map dict_and_extent old) ++ es))
    (ap₂ (matches_among dict) c.of-tokens.ensures.doc c.of-tokens.ensures.tokens)
    (c.push_matches.ensures.matches c.self.inside.dicts i dict c.self.invariant.tree kept))
