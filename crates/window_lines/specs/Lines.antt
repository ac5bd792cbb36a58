-- What a plan gives for a document, and documents whose lines are written.
use Rattle.std.specs.Prelude.{◌≤◌, List, All, length}
use Rattle.corpus_json.specs.declared.input.Input.{Input}
use Rattle.span_token.specs.Limits.{text_limit}
pub use Rattle.run_pool.specs.Lines.{names_in, rows_by, line_by}

-- no text is longer than a document's may be
abbrev pub AreShort : List Input → Type 0
AreShort inputs = All (λ input. length input.text ≤ text_limit) inputs
