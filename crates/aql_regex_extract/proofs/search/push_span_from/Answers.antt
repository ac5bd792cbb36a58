use Rattle.std.proofs.Common.{◌∙◌, ap, ap₂, Some}
use Rattle.std.proofs.lemmas.List.{map_push}
use Rattle.span_token.specs.Extents.{extent_of}
use Rattle.aql_regex_extract.specs.Matches.{extents_of}
use Rattle.aql_regex_extract.proofs.CapturedRows.{pushes-span}
use Rattle.aql_regex_extract.proofs.search.push_span_from.Goals as goal

pub returns-in_ok-push-clause-found : goal.returns-in_ok-push-clause-found
returns-in_ok-push-clause-found c =
    pushes-span c.args.least c.args.sought.now.doc.now (extent_of c.args.sought.now.source) c.args.sought.now.groups.now _ _ _ c.start.result c.end-end.result (extent_of c.span_in.result)
    (ap₂ (λ x y. Some (x, y)) c.start.ensures c.end-end.ensures ∙ c.in-Some.ensures.found)
    c.if-least-end.true c.requires.whole c.span_in.ensures.moved
    (ap extents_of c.in_ok-push.ensures.items ∙ map_push _ _ _)
