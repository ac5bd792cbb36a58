-- What is extracted, one row after another.
use Rattle.std.proofs.Common.{◌≡◌, ◌∙◌, ◌<◌, ◌+◌, ◌++◌, ℕ, List, length, get_or, take, map, ap₂}
use Rattle.std.specs.List.{flat_map}
use Rattle.span_token.specs.Documents.{Doc}
use Rattle.row_values.specs.Datums.{Datum}
use Rattle.scalar_ops.specs.Expressions.{Term}
use Rattle.scalar_ops.specs.Tables.{Lists}
use Rattle.aql_typed.specs.Trees.{Extraction}
use Rattle.aql_typed.specs.Meaning.{Rows, row_of, group_value, found_in, extracted_from}
use Rattle.row_operators.specs.Passes.{given-next}

-- what is extracted from one row more
pub extracted-next : (lists : Lists) (doc : Doc) (items : List Term) (e : Extraction) (rows : Rows) (i : ℕ) (row lead : List Datum) (now : Lists) (before after : Rows)
    → now ≡ lists → i < length rows → row ≡ get_or rows i row → lead ≡ row_of lists doc items row → before ≡ flat_map (extracted_from lists doc items e) (take i rows)
    → after ≡ before ++ map (λ groups. lead ++ map group_value groups) (found_in now doc e row) → after ≡ flat_map (extracted_from lists doc items e) (take (i + 1) rows)
extracted-next lists doc items e rows i row lead now before after same below at is so_far put =
    given-next (extracted_from lists doc items e) rows i row before after below at so_far
    (put ∙ ap₂ (λ (l : Lists) (lead : List Datum). before ++ map (λ groups. lead ++ map group_value groups) (found_in l doc e row)) same is)
