-- The summary of a run.
use Rattle.std.specs.Prelude.{ℕ, List, [], ◌∷◌, ◌++◌, codes, fold, map}
use Rattle.std.specs.BTreeMap.{insert_entry}
use Rattle.std.specs.Cmp.Lexicographic.{slice_cmp}
use Rattle.std.specs.Fmt.{decimal}
use Rattle.std.specs.List.{flat_map, zip}
use Rattle.std.specs.Ordering.{nat_cmp}
use Rattle.row_values.specs.Outputs.{OutputNames}
use Rattle.demo_corpus.specs.Totals.{Tally}

-- a name and a number: the name, a space, the number in decimal, and LF
abbrev pub summary_line : List ℕ × ℕ → List ℕ
summary_line (name, number) = name ++ 32 ∷ [] ++ decimal number ++ 10 ∷ []

abbrev pub put_total : List (List ℕ × ℕ) → List ℕ × ℕ → List (List ℕ × ℕ)
put_total totals (name, number) = insert_entry (slice_cmp nat_cmp) totals name number

-- totals by the bytes of their names; of equal names there is one, with the last total
abbrev pub by_name : List (List ℕ × ℕ) → List (List ℕ × ℕ)
by_name totals = fold put_total [] totals

-- the summary: a line with the number of documents, and a line for each output with its total, by the outputs' names
unfoldable pub summary_of : List OutputNames → Tally → List ℕ
summary_of outputs tally =
    summary_line (codes "documents", tally.documents)
    ++ flat_map summary_line (by_name (zip (map (λ output. output.name) outputs) tally.totals))
