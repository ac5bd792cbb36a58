use Rattle.std.proofs.Common.{All, arith, ◌≡◌, ◌++◌, ◌∙◌, List, ℕ, length, Option, ap, ap₂, sym, subst}
use Rattle.std.proofs.lemmas.Result.{IfOk-weaker}
use Rattle.std.specs.List.{flat_map}
use Rattle.span_token.specs.Extents.{Extent, extent_of}
use Rattle.aql_regex_extract.specs.Matches.{PutsRows, IsInside, extents_of, extents_of_rows}
use Rattle.aql_regex_extract.specs.Steps.{cut_rows}
use Rattle.aql_regex_extract.specs.TokenRuns.{AreRunRows, run_rows}
use Rattle.aql_regex_extract.proofs.CutLemmas.{cut-runs}
use Rattle.aql_regex_extract.specs.LawProofs.TokenRunLaws.{run_rows-are}
use Rattle.aql_regex_extract.specs.LawProofs.RunRowsUnique.{run_rows-only}
use Rattle.aql_regex_extract.proofs.find.find_token_runs.Goals as goal

pub returns-clause-runs : goal.returns-clause-runs
returns-clause-runs c =
    let doc = c.args.doc.now in
    let source = extent_of c.args.source in
    let groups = c.args.groups.now in
    let rows = run_rows c.args.p.now doc source c.args.low c.args.high groups in
    let put = subst (λ (p : List ℕ). PutsRows (run_rows p doc source c.args.low c.args.high groups) (extents_of c.new-flat.result.items) (extents_of c.append_token_runs.new.into.items) c.in_ok-number.number)
    c.in_ok-searcher.ensures c.in_ok-number.ensures.runs in
    let flat = ap extents_of c.as_slice.ensures.value ∙ put.1 ∙ ap (λ (old : List (Option Extent)). old ++ flat_map (λ r. r) rows) (ap extents_of c.new-flat.ensures.items) in
    IfOk-weaker c.cut.result
    (λ found. extents_of_rows found.items ≡ cut_rows c.in_ok-number.number (length groups) (extents_of c.as_slice.result.now))
    (λ found. extents_of_rows found.items ≡ rows) (λ found h. h ∙ ap₂ (λ n xs. cut_rows n (length groups) xs) put.0 flat
    ∙ cut-runs c.args.p.now doc source c.args.low c.args.high groups)
    c.cut.ensures.rows

pub returns-clause-longest : goal.returns-clause-longest
returns-clause-longest c =
    let source = extent_of c.args.source in
    let rows = run_rows c.args.p.now c.args.doc.now source c.args.low c.args.high c.args.groups.now in
    let are = run_rows-are c.args.p.now c.args.doc.now source c.args.low c.args.high c.args.groups.now in
    IfOk-weaker c.cut.result (λ found. extents_of_rows found.items ≡ rows)
    (λ found. AreRunRows c.args.p.now c.args.doc.now source c.args.low c.args.high c.args.groups.now (extents_of_rows found.items))
    (λ found h. subst (AreRunRows c.args.p.now c.args.doc.now source c.args.low c.args.high c.args.groups.now) (sym h) are)
    (returns-clause-runs c)

pub returns-clause-unique : goal.returns-clause-unique
returns-clause-unique c =
    let source = extent_of c.args.source in
    let rows = run_rows c.args.p.now c.args.doc.now source c.args.low c.args.high c.args.groups.now in
    IfOk-weaker c.cut.result (λ found. extents_of_rows found.items ≡ rows)
    (λ found. (others : List (List (Option Extent)))
    → AreRunRows c.args.p.now c.args.doc.now source c.args.low c.args.high c.args.groups.now others → others ≡ extents_of_rows found.items)
    (λ found h others are. run_rows-only c.args.p.now c.args.doc.now source c.args.low c.args.high c.args.groups.now others are ∙ sym h)
    (returns-clause-runs c)

pub returns-clause-within : goal.returns-clause-within
returns-clause-within c =
    let source = extent_of c.args.source in
    let none : All (IsInside source) c.new-flat.result.items = rw c.new-flat.ensures.items (λ k d lt. absurd (omega (arith, lt))) in
    c.cut.ensures.within source (subst (All (IsInside source)) (sym c.as_slice.ensures.value) (c.in_ok-number.ensures.within none))
