use Rattle.std.proofs.Common.{◌≡◌, ◌++◌, [], ◌∙◌, Option, Some, None, option_map, ℕ, is_some, unwrap_or, false, true≢false, ap, ap₂, sym, subst, refl, arith}
use Rattle.std.proofs.lemmas.List.{append-nil}
use Rattle.regex.specs.Patterns.{Match}
use Rattle.regex.specs.Strings.{matcher_pattern}
use Rattle.span_token.specs.Documents.{Doc, LiesIn, text_in}
use Rattle.span_token.specs.Extents.{extent_of}
use Rattle.span_token.specs.SourceTokens.{run_extent}
use Rattle.aql_regex_extract.specs.Matches.{extents_of, first_match, row_of}
use Rattle.aql_regex_extract.specs.Patterns.{whole_form}
use Rattle.aql_regex_extract.specs.TokenRuns.{whole_row}
use Rattle.aql_regex_extract.proofs.CapturedRows.{row_from-enough}
use Rattle.aql_regex_extract.proofs.TokenRunLemmas.{whole_row-Some, whole_row-None}
use Rattle.aql_regex_extract.proofs.WholeMatchers.{FindsWhole-same}
use Rattle.aql_regex_extract.proofs.runs.push_row.Goals as goal

none_there : (o : Option Match) → is_some o ≡ false → o ≡ None
none_there None h = refl
none_there (Some m) h = absurd (true≢false h)

pub returns-then-not-has_match-clause-row : goal.returns-then-not-has_match-clause-row
returns-then-not-has_match-clause-row c = λ pattern whole.
    let doc = c.args.asked.now.tokens.now.doc in
    let run = run_extent c.args.asked.now.tokens.now.tokens c.args.first c.args.last in
    let none : first_match (whole_form pattern) c.args.text.now ≡ None =
    none_there _ (sym (c.has_match.ensures.found pattern whole) ∙ c.if-not-has_match.true) in
    let row : whole_row pattern doc c.args.asked.now.groups.now run ≡ None =
    ap (option_map (row_of doc run c.args.asked.now.groups.now)) (ap (first_match (whole_form pattern)) (sym c.requires.in_run) ∙ none) in (
      sym (ap is_some row),
      sym (append-nil _) ∙ ap (λ r. extents_of c.args.into.now.items ++ r) (sym (ap (λ o. unwrap_or o []) row)),
    )

pub push_from-requires : goal.push_from-requires
push_from-requires c = record {
  text = record {
    in_document = subst (λ (d : Doc). LiesIn (extent_of c.run-source.result) d) (sym c.doc-doc.ensures.doc) c.run-source.ensures.in_document;
    in_source = c.requires.in_run ∙ ap₂ text_in (sym c.doc-doc.ensures.doc) (sym c.run-source.ensures.run);
  };
}

pub returns-in-None-clause-row : goal.returns-in-None-clause-row
returns-in-None-clause-row c = λ pattern whole.
    let doc = c.args.asked.now.tokens.now.doc in
    let run = run_extent c.args.asked.now.tokens.now.tokens c.args.first c.args.last in
    let pushes = rw c.in-None.is at c.in_ok-push_from.ensures.found in
    let kept = (FindsWhole-same _ _ pattern c.has_match.ensures.same whole).finds in
    let row : whole_row pattern doc c.args.asked.now.groups.now run ≡ None =
    whole_row-None (matcher_pattern c.has_match.new.self.matcher) pattern c.args.text.now doc run c.args.asked.now.groups.now kept
    (λ (k : ℕ). (c.type_inv.text k).fits) c.requires.in_run pushes.0 in (
      sym (ap is_some row),
      pushes.1 ∙ sym (append-nil _) ∙ ap (λ r. extents_of c.args.into.now.items ++ r) (sym (ap (λ o. unwrap_or o []) row)),
    )

pub returns-in-Some-clause-row : goal.returns-in-Some-clause-row
returns-in-Some-clause-row c = λ pattern whole.
    let pushes = rw c.in-Some.is at c.in_ok-push_from.ensures.found in
    let doc = c.doc-doc.result.now in
    let groups = c.args.asked.now.groups.now in
    let source = extent_of c.run-source.result in
    let kept = (FindsWhole-same _ _ pattern c.has_match.ensures.same whole).finds in
    let row : whole_row pattern doc groups source ≡ _ =
    whole_row-Some (matcher_pattern c.has_match.new.self.matcher) pattern c.args.text.now doc source groups pushes.it kept
    (λ (k : ℕ). (c.type_inv.text k).fits)
    (c.requires.in_run ∙ ap₂ text_in (sym c.doc-doc.ensures.doc) (sym c.run-source.ensures.run)) pushes.is_found in
    let here = ap₂ (λ d e. whole_row pattern d groups e) (sym c.doc-doc.ensures.doc) (sym c.run-source.ensures.run) ∙ row in (
      sym (ap is_some here),
      pushes.pushed ∙ ap (λ r. extents_of c.args.into.now.items ++ r)
          (row_from-enough 0 doc source groups pushes.it (omega arith) ∙ sym (ap (λ o. unwrap_or o []) here)),
    )
