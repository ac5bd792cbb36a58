use Rattle.std.proofs.Common.{rules, ◌≡◌, ◌∙◌, ℕ, List, [], map, ap, subst, slice_get}
use Rattle.std.proofs.lemmas.Result.{on_ok_weaker}
use Rattle.span_token.specs.Extents.{Extent, extent_of}
use Rattle.dict_match.specs.declared.dict_use.DictUse.{DictUse}
use Rattle.dict_match.specs.DictMatches.{dict_matches}
use Rattle.dict_match.specs.Rows.{dict_and_extent, AppendsMatches}
use Rattle.scalar_ops.specs.Extractions.{of_some}
use Rattle.scalar_ops.proofs.Extracting.{for_dict, all_within}
use Rattle.scalar_ops.proofs.tools.Tools.find_dict_matches.Goals as goal

pub returns-clause-matches : goal.returns-clause-matches
returns-clause-matches c =
    let source = extent_of c.args.source in
    let new = map dict_and_extent c.append_matches.new.into.items in
    let is : c.tables.inside.pass ≡ c.args.self.now.dicts = search rules in
    on_ok_weaker c.append_matches.result
    (λ appends dict. for_dict c.tables.inside.pass c.args.doc.now source new
    (subst (λ (before : List (ℕ × Extent)). AppendsMatches c.tables.inside.pass c.args.doc.now source before new) (ap (map dict_and_extent) c.clear.ensures.items) appends) dict
    ∙ ap (λ (dicts : List DictUse). of_some (λ the. dict_matches the c.args.doc.now source) (slice_get dicts dict)) is)
    c.append_matches.ensures

pub returns-clause-within : goal.returns-clause-within
returns-clause-within c =
    let source = extent_of c.args.source in
    let new = map dict_and_extent c.append_matches.new.into.items in
    on_ok_weaker c.append_matches.result
    (λ appends. all_within c.tables.inside.pass c.args.doc.now source new
    (subst (λ (before : List (ℕ × Extent)). AppendsMatches c.tables.inside.pass c.args.doc.now source before new) (ap (map dict_and_extent) c.clear.ensures.items) appends))
    c.append_matches.ensures
