-- What a plan gives for a document. Only private clauses cite this.
use Rattle.std.specs.Prelude.{ℕ, List, length, map}
use Rattle.span_token.specs.Documents.{Doc}
use Rattle.algebra.specs.Plans.{Parts}
pub use Rattle.run_pool.specs.Lines.{names_in, rows_by, line_by}
use Rattle.demo_corpus.specs.Summaries.{summary_of}
use Rattle.demo_corpus.specs.Totals.{tally_of}

-- the summary of the plan on documents
abbrev pub summary_by : Parts → List Doc → List ℕ
summary_by plan docs = summary_of (names_in plan) (tally_of (length plan.outputs) (map (rows_by plan) docs))
