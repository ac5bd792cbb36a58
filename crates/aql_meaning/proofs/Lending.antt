-- Rows that are lent to sources, one after another.
use Rattle.std.proofs.Common.{◌≡◌, ◌∙◌, ℕ, zero, suc, refl, ◌+◌, ◌<◌, ◌≤◌, ◌++◌, List, [], ◌∷◌, map, length, take, get_or, sym, ap, ap₂, subst, arith}
use Rattle.std.specs.List.{All, AllZip}
use Rattle.std.proofs.lemmas.List.{map-append, take_more, take_all}
use Rattle.std.proofs.lemmas.List.Elements.{All-push}
use Rattle.span_token.specs.Documents.{Doc}
use Rattle.row_values.specs.Datums.{Datum}
use Rattle.row_values.specs.Rows.{RowList, RowsLieIn}

-- what holds pair by pair holds at each index
pub pair_at : {A B : Type 0} (R : A → B → Type 0) (xs : List A) (ys : List B) (i : ℕ) (d : A) (e : B) → AllZip R xs ys → i < length xs → R (get_or xs i d) (get_or ys i e)
pair_at R [] ys i d e h l = let no : ⊥ = omega arith in absurd no
pair_at R (x ∷ xs) [] i d e h l = absurd h
pair_at R (x ∷ xs) (y ∷ ys) zero d e h l = h.0
pair_at R (x ∷ xs) (y ∷ ys) (suc i) d e h l = pair_at R xs ys i d e h.1 (omega arith)

pub pair_more : {A B : Type 0} (R : A → B → Type 0) (xs : List A) (ys : List B) (x : A) (y : B) → AllZip R xs ys → R x y → AllZip R (xs ++ x ∷ []) (ys ++ y ∷ [])
pair_more R [] [] x y h r = (r, tt)
pair_more R [] (b ∷ ys) x y h r = absurd h
pair_more R (a ∷ xs) [] x y h r = absurd h
pair_more R (a ∷ xs) (b ∷ ys) x y h r = (h.0, pair_more R xs ys x y h.1 r)

pub pair_length : {A B : Type 0} (R : A → B → Type 0) (xs : List A) (ys : List B) → AllZip R xs ys → length ys ≡ length xs
pair_length R [] [] h = refl
pair_length R [] (b ∷ ys) h = absurd h
pair_length R (a ∷ xs) [] h = absurd h
pair_length R (a ∷ xs) (b ∷ ys) h = ap suc (pair_length R xs ys h.1)

module _ {X S : Type 0} (f : X → RowList) (g : S → RowList) (R : S → RowList → Type 0) where
  -- one source more
  pub lent_more : (sources : List S) (own : List RowList) (before after : List X) (i : ℕ) (source : S) (one : RowList) (lent : X) → (R source one → f lent ≡ g source)
      → source ≡ get_or sources i source → one ≡ get_or own i one → i < length sources → after ≡ before ++ lent ∷ [] → AllZip R sources own
      → map f before ≡ map g (take i sources) → map f after ≡ map g (take (i + 1) sources)
  lent_more sources own before after i source one lent lends at own_at below put each so_far =
      let here : R source one = subst (λ (o : RowList). R source o) (sym own_at) (subst (λ (s : S). R s (get_or own i one)) (sym at) (pair_at R sources own i source one each below)) in
      ap (map f) put ∙ (map-append f before (lent ∷ []) ∙ (ap₂ (λ (a : List RowList) (b : RowList). a ++ b ∷ []) so_far (lends here)
      ∙ (sym (map-append g (take i sources) (source ∷ [])) ∙ ap (map g) (sym (take_more sources i source below ∙ ap (λ (s : S). take i sources ++ s ∷ []) (sym at))))))

  -- and so of all
  pub lent_all : (sources : List S) (lent : List X) (i : ℕ) → length sources ≤ i → map f lent ≡ map g (take i sources) → map f lent ≡ map g sources
  lent_all sources lent i end is = is ∙ ap (map g) (take_all i sources end)

pub one_more_lies : {X : Type 0} (f : X → RowList) (doc : Doc) (before after : List X) (lent : X) → after ≡ before ++ lent ∷ [] → All (λ x. RowsLieIn doc (f x).rows) before
    → RowsLieIn doc (f lent).rows → All (λ x. RowsLieIn doc (f x).rows) after
one_more_lies f doc before after lent put so_far here =
    subst (All (λ x. RowsLieIn doc (f x).rows)) (sym put) (All-push (λ x. RowsLieIn doc (f x).rows) before lent so_far here)

-- the rows that are lent, as those of lists
pub rows_lent : {X : Type 0} (f : X → RowList) (lent : List X) (lists : List RowList) → map f lent ≡ lists → map (λ x. (f x).rows) lent ≡ map (λ list. list.rows) lists
rows_lent f lent lists is = one_by_one f lent ∙ ap (map (λ (list : RowList). list.rows)) is
  where
    one_by_one : {X : Type 0} (f : X → RowList) (xs : List X) → map (λ x. (f x).rows) xs ≡ map (λ list. list.rows) (map f xs)
    one_by_one f [] = refl
    one_by_one f (x ∷ xs) = ap (λ (rest : List (List (List Datum))). (f x).rows ∷ rest) (one_by_one f xs)

-- one pair more
pub pairs_more : {A B : Type 0} (R : A → B → Type 0) (xs : List A) (ys after : List B) (i : ℕ) (x : A) (y : B) → i < length xs → x ≡ get_or xs i x → after ≡ ys ++ y ∷ []
    → AllZip R (take i xs) ys → R x y → AllZip R (take (i + 1) xs) after
pairs_more {A} {B} R xs ys after i x y below at put each here =
    subst (λ (zs : List B). AllZip R (take (i + 1) xs) zs) (sym put)
    (subst (λ (some : List A). AllZip R some (ys ++ y ∷ [])) (sym (take_more xs i x below ∙ ap (λ (a : A). take i xs ++ a ∷ []) (sym at))) (pair_more R (take i xs) ys x y each here))

-- what holds of all holds of the one at an index
pub at_item : {X : Type 0} (P : X → Type 0) (xs : List X) (i : ℕ) (x : X) → i < length xs → x ≡ get_or xs i x → All P xs → P x
at_item P xs i x below is all = subst P (sym is) (all i x below)

-- a list of rows by its rows and its width
pub list_is : (list : RowList) (width : ℕ) (rows : List (List Datum)) → list.width ≡ width → list.rows ≡ rows → list ≡ record { width = width; rows = rows }
list_is list width rows wide are = ap₂ (λ (w : ℕ) (r : List (List Datum)). record { width = w; rows = r }) wide are
