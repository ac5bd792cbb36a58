-- Rows that are gone through one by one.
use Rattle.std.proofs.Common.{◌≡◌, ◌∙◌, ◌<◌, ◌+◌, ◌++◌, ◌∷◌, [], ℕ, Bool, List, length, get_or, take, map, cond, sym, ap}
use Rattle.std.specs.List.{filter}
use Rattle.std.proofs.lemmas.List.{take_more}
use Rattle.std.proofs.lemmas.List.Elements.{filter_more}
use Rattle.row_values.specs.Datums.{Datum}
use Rattle.row_values.specs.Rows.{RowList, product}
use Rattle.row_values.specs.RowBags.{product-push}

-- a row that passes a test stands behind those before it
pub filtered-next : (p : List Datum → Bool) (rows : List (List Datum)) (i : ℕ) (row : List Datum) (stays : Bool) (before after : List (List Datum)) → i < length rows → row ≡ get_or rows i row
    → stays ≡ p row → before ≡ filter p (take i rows) → after ≡ before ++ cond stays (row ∷ []) [] → after ≡ filter p (take (i + 1) rows)
filtered-next p rows i row stays before after below at is so_far put =
    put ∙ (ap (λ (done : List (List Datum)). done ++ cond stays (row ∷ []) []) so_far
    ∙ (ap (λ (b : Bool). filter p (take i rows) ++ cond b (row ∷ []) []) is
    ∙ (ap (λ (r : List Datum). filter p (take i rows) ++ cond (p r) (r ∷ []) []) at ∙ sym (filter_more p rows i row below))))

-- the row with each of the others
pub crossed-next : (rows right : List (List Datum)) (i width : ℕ) (row : List Datum) (before after : RowList) → i < length rows → row ≡ get_or rows i row
    → before ≡ record { width = width; rows = product (take i rows) right } → after ≡ record { width = before.width; rows = before.rows ++ map (λ other. row ++ other) right }
    → after ≡ record { width = width; rows = product (take (i + 1) rows) right }
crossed-next rows right i width row before after below at so_far put =
    put ∙ (ap (λ (list : RowList). record { width = list.width; rows = list.rows ++ map (λ other. row ++ other) right }) so_far
    ∙ ap (λ (all : List (List Datum)). record { width = width; rows = all })
    (sym (product-push (take i rows) row right)
    ∙ ap (λ (all : List (List Datum)). product all right) (sym (take_more rows i row below ∙ ap (λ (r : List Datum). take i rows ++ r ∷ []) (sym at)))))
