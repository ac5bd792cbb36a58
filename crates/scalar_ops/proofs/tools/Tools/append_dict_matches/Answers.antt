use Rattle.std.proofs.Common.{rules, ◌≡◌, ◌∙◌, ◌++◌, ℕ, List, [], map, ap, sym, subst, slice_get}
use Rattle.std.proofs.lemmas.Result.{on_ok_weaker}
use Rattle.span_token.specs.Extents.{Extent, extent_of}
use Rattle.dict_match.specs.declared.dict_use.DictUse.{DictUse}
use Rattle.scalar_ops.specs.Extractions.{of_some}
use Rattle.dict_match.specs.DictMatches.{dict_matches}
use Rattle.dict_match.specs.Rows.{dict_and_extent, AppendsMatches}
use Rattle.scalar_ops.proofs.Extracting.{for_dict, all_within, within_for}
use Rattle.scalar_ops.proofs.tools.Tools.append_dict_matches.Goals as goal

-- what the pass put into the cleared list
appends : (c : goal.After-push_for) → AppendsMatches c.tables.inside.pass c.args.doc.now (extent_of c.args.source) [] (map dict_and_extent c.as_slice.result.now)
appends c =
    let P : List (ℕ × Extent) → List (ℕ × Extent) → Type 0 = AppendsMatches c.tables.inside.pass c.args.doc.now (extent_of c.args.source) in
    subst (λ before. P before (map dict_and_extent c.as_slice.result.now)) (ap (map dict_and_extent) c.clear.ensures.items)
    (subst (λ after. P (map dict_and_extent c.clear.new.self.items) (map dict_and_extent after)) (sym c.as_slice.ensures.value) c.in_ok-append_matches.ensures)

pub returns-clause-matches : goal.returns-clause-matches
returns-clause-matches c =
    let listed = for_dict c.tables.inside.pass c.args.doc.now (extent_of c.args.source) (map dict_and_extent c.as_slice.result.now) (appends c) c.args.dict in
    let is : c.tables.inside.pass ≡ c.args.self.now.dicts = search rules in
    on_ok_weaker c.push_for.result
    (λ put. put ∙ ap (λ (found : List Extent). map extent_of c.args.into.now.items ++ found)
    (listed ∙ ap (λ (dicts : List DictUse). of_some (λ the. dict_matches the c.args.doc.now (extent_of c.args.source)) (slice_get dicts c.args.dict)) is))
    c.push_for.ensures

pub returns-clause-within : goal.returns-clause-within
returns-clause-within c = λ old. on_ok_weaker c.push_for.result
    (λ put. within_for (extent_of c.args.source) c.args.dict (map dict_and_extent c.as_slice.result.now) c.args.into.now.items c.push_for.new.into.items
    (all_within c.tables.inside.pass c.args.doc.now (extent_of c.args.source) (map dict_and_extent c.as_slice.result.now) (appends c)) put old)
    c.push_for.ensures
