use Rattle.std.proofs.Common.{◌++◌, ◌∙◌, ℕ, ap, sym}
use Rattle.std.proofs.lemmas.List.{length-map}
use Rattle.regex.specs.Strings.{matcher_pattern}
use Rattle.span_token.specs.Extents.{extent_of}
use Rattle.aql_regex_extract.specs.Matches.{row_of, matches_of, extents_of}
use Rattle.aql_regex_extract.proofs.MatchesAlike.{rows-of_pattern, count-of_pattern}
use Rattle.aql_regex_extract.specs.LawProofs.RowLaws.{joined}
use Rattle.aql_regex_extract.proofs.search.push_found.Goals as goal

pub returns-clause-rows : goal.returns-clause-rows
returns-clause-rows c = λ pattern finds.
    let re = matcher_pattern c.args.matcher.now in
    let text = c.args.text.now in
    let row = row_of c.args.sought.now.doc.now (extent_of c.args.sought.now.source) c.args.sought.now.groups.now in
    let bytes = λ (k : ℕ). (c.type_inv.text k).fits in (
      c.in_ok-number.ensures.number ∙ count-of_pattern re pattern text finds bytes ∙ sym (length-map (matches_of pattern text) row),
      c.in_ok-number.ensures.matches
          ∙ ap (λ rows. extents_of c.args.into.now.items ++ rows)
          (rows-of_pattern re pattern text c.args.sought.now.doc.now (extent_of c.args.sought.now.source) c.args.sought.now.groups.now finds bytes
          ∙ joined row (matches_of pattern text)),
    )

pub returns-clause-matches : goal.returns-clause-matches
returns-clause-matches c = λ pattern finds.
    c.in_ok-number.ensures.matches
    ∙ ap (λ rows. extents_of c.args.into.now.items ++ rows)
    (rows-of_pattern (matcher_pattern c.args.matcher.now) pattern c.args.text.now c.args.sought.now.doc.now (extent_of c.args.sought.now.source) c.args.sought.now.groups.now finds
    (λ k. (c.type_inv.text k).fits))
