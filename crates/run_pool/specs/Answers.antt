-- What a pool answers for a document, and which pools are sound.
use Rattle.std.specs.Prelude.{◌≡◌, List, [], map, length, All}
use Rattle.std.specs.List.{AllZip}
use Rattle.span_token.specs.Documents.{Doc}
use Rattle.row_values.specs.Rows.{RowList, RowsLieIn}
use Rattle.algebra.specs.Plans.{Parts}
use Rattle.run_pool.specs.declared.answered.Answered.{Answered}
use Rattle.run_pool.specs.declared.answered.Answered.TheVariants.{AsFound, Instead}
use Rattle.run_pool.specs.Lines.{Meaning, AreSameBags, names_in, rows_by}

-- the lists are, for each output of a plan in order, the rows that are meant on a document, in any order, with the output's
-- columns and spans that lie in the document
pub record IsAnswer (meant : Meaning) (plan : Parts) (doc : Doc) (lists : List RowList) : Type 0 where
  pub bags : AreSameBags (map (λ (list : RowList). list.rows) lists) (meant plan doc)
  pub wide : map (λ (list : RowList). list.width) lists ≡ map (λ output. length output.columns) (names_in plan)
  pub lies : All (RowsLieIn doc) (map (λ (list : RowList). list.rows) lists)

-- and this on each document, in order
abbrev pub AreAllAnswers : Meaning → Parts → List Doc → List (List RowList) → Type 0
AreAllAnswers meant plan docs answers = AllZip (IsAnswer meant plan) docs answers

-- the rows that an answer stands for, where these were found
abbrev pub stands_for : List RowList → Answered → List RowList
stands_for found AsFound = found
stands_for found (Instead rows) = rows.items

-- what is meant is, on each document, what the outputs of each plan are worth
abbrev pub IsSound : Meaning → Type 0
IsSound meant = (plan : Parts) (doc : Doc) → AreSameBags (meant plan doc) (rows_by plan doc)

-- for each output no row
abbrev pub no_rows : Meaning
no_rows plan doc = map (λ out. []) plan.outputs
