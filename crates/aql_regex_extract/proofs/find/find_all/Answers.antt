use Rattle.std.proofs.Common.{All, arith, ◌≡◌, ◌++◌, ◌∙◌, List, ℕ, length, Option, ap, ap₂, sym, subst}
use Rattle.std.proofs.lemmas.List.{length-map}
use Rattle.std.proofs.lemmas.Result.{IfOk-weaker}
use Rattle.std.specs.List.{flat_map}
use Rattle.span_token.specs.Documents.{text_in}
use Rattle.span_token.specs.Extents.{Extent, extent_of}
use Rattle.aql_regex_extract.specs.Matches.{row_of, matches_of, match_rows, PutsRows, IsInside, extents_of, extents_of_rows}
use Rattle.aql_regex_extract.specs.Steps.{cut_rows}
use Rattle.aql_regex_extract.proofs.CutLemmas.{cut-map}
use Rattle.aql_regex_extract.proofs.find.find_all.Goals as goal

pub returns-clause-matches : goal.returns-clause-matches
returns-clause-matches c =
    let doc = c.args.doc.now in
    let source = extent_of c.args.source in
    let groups = c.args.groups.now in
    let pattern = c.args.p.now in
    let rows = match_rows pattern doc source groups in
    let put = subst (λ (p : List ℕ). PutsRows (match_rows p doc source groups) (extents_of c.new-flat.result.items) (extents_of c.append_matches.new.into.items) c.in_ok-number.number)
    c.in_ok-searcher.ensures c.in_ok-number.ensures.rows in
    let flat = ap extents_of c.as_slice.ensures.value ∙ put.1 ∙ ap (λ (old : List (Option Extent)). old ++ flat_map (λ r. r) rows) (ap extents_of c.new-flat.ensures.items) in
    IfOk-weaker c.cut.result
    (λ found. extents_of_rows found.items ≡ cut_rows c.in_ok-number.number (length groups) (extents_of c.as_slice.result.now))
    (λ found. extents_of_rows found.items ≡ rows) (λ found h. h ∙ ap₂ (λ n xs. cut_rows n (length groups) xs) put.0 flat
    ∙ cut-map (row_of doc source groups) (length groups) (λ m. length-map groups _) (matches_of pattern (text_in doc source)))
    c.cut.ensures.rows

pub returns-clause-within : goal.returns-clause-within
returns-clause-within c =
    let source = extent_of c.args.source in
    let none : All (IsInside source) c.new-flat.result.items = rw c.new-flat.ensures.items (λ k d lt. absurd (omega (arith, lt))) in
    c.cut.ensures.within source (subst (All (IsInside source)) (sym c.as_slice.ensures.value) (c.in_ok-number.ensures.within none))
