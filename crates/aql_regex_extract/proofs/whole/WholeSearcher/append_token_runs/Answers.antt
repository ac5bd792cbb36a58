use Rattle.std.proofs.Common.{◌≡◌, ◌++◌, ◌∙◌, List, ℕ, Option, length, ap, ap₂, sym, subst}
use Rattle.std.specs.List.{filter_map, flat_map, range_with_len}
use Rattle.span_token.specs.Documents.{Doc}
use Rattle.span_token.specs.Extents.{Extent, extent_of}
use Rattle.span_token.specs.SourceTokens.{tokens_in}
use Rattle.aql_regex_extract.specs.Matches.{PutsRows, extents_of}
use Rattle.aql_regex_extract.specs.TokenRuns.{run_row, run_rows}
use Rattle.aql_regex_extract.specs.LawProofs.TokenRunLaws.{run_rows-are}
use Rattle.aql_regex_extract.specs.LawProofs.RunRowsUnique.{run_rows-only}
use Rattle.aql_regex_extract.proofs.whole.WholeSearcher.append_token_runs.Goals as goal

-- the rows of the tokens of a source
abbrev rows_by : (pattern : List ℕ) (low high : ℕ) (groups : List ℕ) (d : Doc) (tokens : List Extent) → List (List (Option Extent))
rows_by pattern low high groups d tokens = filter_map (run_row pattern d tokens low high groups) (range_with_len 0 (length tokens))

rows_by-source : (pattern : List ℕ) (low high : ℕ) (groups : List ℕ) (d doc : Doc) (tokens : List Extent) (source : Extent) → d ≡ doc →
    tokens ≡ tokens_in doc source → rows_by pattern low high groups d tokens ≡ run_rows pattern doc source low high groups
unfolding run_rows
rows_by-source pattern low high groups d doc tokens source same are = ap₂ (rows_by pattern low high groups) same are

pub returns-clause-runs : goal.returns-clause-runs
returns-clause-runs c =
    let pattern = c.self.inside.pattern.now in
    let source = extent_of c.args.sought.now.source in
    let finds = c.self.invariant in
    let are = rows_by-source pattern c.args.sought.now.low c.args.sought.now.high c.args.sought.now.groups.now c.of-tokens.result.doc c.args.sought.now.doc.now c.of-tokens.result.tokens source
    c.of-tokens.ensures.doc c.of-tokens.ensures.tokens in
    let rows = are ∙ ap (λ (p : List ℕ). run_rows p c.args.sought.now.doc.now source c.args.sought.now.low c.args.sought.now.high c.args.sought.now.groups.now) c.self.view_is in (
      c.in_ok-number.ensures.number pattern finds ∙ ap length rows,
      c.in_ok-number.ensures.runs pattern finds
          ∙ ap (λ (rs : List (List (Option Extent))). extents_of c.args.into.now.items ++ flat_map (λ r. r) rs) rows,
    )

pub returns-clause-longest : goal.returns-clause-longest
returns-clause-longest c =
    let source = extent_of c.args.sought.now.source in (
      run_rows c.args.self.now c.args.sought.now.doc.now source c.args.sought.now.low c.args.sought.now.high c.args.sought.now.groups.now,
      run_rows-are c.args.self.now c.args.sought.now.doc.now source c.args.sought.now.low c.args.sought.now.high c.args.sought.now.groups.now,
      returns-clause-runs c,
    )

pub returns-clause-unique : goal.returns-clause-unique
returns-clause-unique c = λ rows are.
    let source = extent_of c.args.sought.now.source in
    subst (λ (rs : List (List (Option Extent))). PutsRows rs (extents_of c.args.into.now.items) (extents_of c.push_runs.new.into.items) c.in_ok-number.number)
    (sym (run_rows-only c.args.self.now c.args.sought.now.doc.now source c.args.sought.now.low c.args.sought.now.high c.args.sought.now.groups.now rows are)) (returns-clause-runs c)
