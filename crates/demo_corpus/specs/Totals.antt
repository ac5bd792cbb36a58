-- How many rows the outputs have over the documents of a run.
use Rattle.std.specs.Prelude.{ℕ, List, [], length, map, slice_index_or}
use Rattle.std.specs.List.{sum_by, range_with_len}
use Rattle.row_values.specs.Datums.{Datum}
use Rattle.row_values.specs.Rows.{RowList}
use Rattle.corpus_json.specs.Outputs.{rows_of}
use denote.Ref.{Bor}

-- the rows of each output on one document, in the outputs' order
abbrev pub Answer : Type 0
Answer = List (List (List Datum))

-- those of borrowed lists of rows, one list for each output
abbrev pub answer_of : List (Bor RowList) → Answer
answer_of lists = map rows_of lists

-- the number of rows of the output at this index on one document; equal rows count each time
abbrev pub size_at : Answer → ℕ → ℕ
size_at answer output = length (slice_index_or answer output [])

-- and over all documents
abbrev pub total_of : List Answer → ℕ → ℕ
total_of answers output = sum_by (λ answer. size_at answer output) answers

-- how many documents were counted, and how many rows each output has over all of them
pub record Tally : Type 0 where
  pub documents : ℕ
  pub totals : List ℕ

-- of so many outputs, over the answers of the documents
abbrev pub tally_of : ℕ → List Answer → Tally
tally_of outputs answers = record { documents = length answers; totals = map (total_of answers) (range_with_len 0 outputs) }
