use Rattle.std.proofs.Common.{◌++◌, ◌≤◌, ◌<◌, ◌∙◌, ap, sym, arith}
use Rattle.std.proofs.lemmas.List.{append-nil}
use Rattle.span_token.specs.Extents.{extent_of}
use Rattle.aql_regex_extract.specs.Matches.{extents_of}
use Rattle.aql_regex_extract.proofs.CapturedRows.{row_of-captures, row_from-enough, row_from-early, end-captures}
use Rattle.aql_regex_extract.proofs.search.push_groups_from.Goals as goal

pub returns-in_ok-push_groups-clause-found : goal.returns-in_ok-push_groups-clause-found
returns-in_ok-push_groups-clause-found c =
    let found = c.in-Some.ensures.found in
    let doc = c.args.sought.now.doc.now in
    let source = extent_of c.args.sought.now.source in
    let groups = c.args.sought.now.groups.now in
    let ends = end-captures c.args.text.now found.0 c.in-Some.captures _ c.end-end.result found.2 c.get_match.ensures.found c.end-end.ensures in
    let late : c.args.least ≤ found.0.trace.end = omega (arith, ends) in
    record {
      it = found.0;
      is_found = found.1;
      ends = ends;
      pushed = c.in_ok-push_groups.ensures.row
          ∙ ap (λ row. extents_of c.args.into.now.items ++ row) (row_of-captures c.args.text.now found.0 c.in-Some.captures doc source groups found.2
          ∙ sym (row_from-enough c.args.least doc source groups found.0 late));
    }

pub returns-else-least-end-clause-found : goal.returns-else-least-end-clause-found
returns-else-least-end-clause-found c =
    let found = c.in-Some.ensures.found in
    let doc = c.args.sought.now.doc.now in
    let source = extent_of c.args.sought.now.source in
    let groups = c.args.sought.now.groups.now in
    let ends = end-captures c.args.text.now found.0 c.in-Some.captures _ c.end-end.result found.2 c.get_match.ensures.found c.end-end.ensures in
    let early : found.0.trace.end < c.args.least = omega (arith, ends) in
    record {
      it = found.0;
      is_found = found.1;
      ends = ends;
      pushed = sym (ap (λ row. extents_of c.args.into.now.items ++ row) (row_from-early c.args.least doc source groups found.0 early)
          ∙ append-nil _);
    }
