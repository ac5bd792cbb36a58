-- Combinations of rows, made one source after another.
use Rattle.std.proofs.Common.{◌≡◌, ◌∙◌, ℕ, ◌+◌, ◌<◌, ◌++◌, List, [], ◌∷◌, map, length, take, get_or, refl, sym, ap, ap₂, subst, append_assoc, arith}
use Rattle.std.specs.List.{All, sum_by}
use Rattle.std.proofs.lemmas.List.{append-nil, map-append, length-append, take_more}
use Rattle.std.proofs.lemmas.List.Sums.{sum_by-cons}
use Rattle.std.proofs.lemmas.List.Elements.{All-head, All-tail, All-append, filter-append}
use Rattle.span_token.specs.Documents.{Doc}
use Rattle.row_values.specs.Datums.{Datum, IsOfDocument}
use Rattle.row_values.specs.Rows.{RowList, product}
use Rattle.row_values.specs.RowBags.{product-nil, product-push}
use Rattle.scalar_ops.specs.Expressions.{Term}
use Rattle.scalar_ops.specs.Tables.{Lists}
use Rattle.scalar_ops.specs.Values.{holding}
use Rattle.aql_typed.specs.Meaning.{selected}

-- of what holds of all, the first and the rest
pub all_first : {X : Type 0} (P : X → Type 0) (xs rest : List X) (first : X) → xs ≡ first ∷ rest → All P xs → P first
all_first P xs rest first is all = All-head P first rest (subst (All P) is all)

pub all_rest : {X : Type 0} (P : X → Type 0) (xs rest : List X) (first : X) → xs ≡ first ∷ rest → All P xs → All P rest
all_rest P xs rest first is all = All-tail P first rest (subst (All P) is all)

pub shorter : {X : Type 0} (xs rest : List X) (first : X) (t : ℕ) → xs ≡ first ∷ rest → length xs ≡ t → length rest < t
shorter xs rest first t is long = let more = ap length is in omega (arith, more, long)

-- what holds of each row holds of the row at an index
pub at_row : (P : List Datum → Type 0) (rows items : List (List Datum)) (i : ℕ) (row : List Datum) → items ≡ rows → i < length items → row ≡ get_or items i row → All P rows → P row
at_row P rows items i row same below is all = subst P (sym is) (subst (All P) (sym same) all i row below)

pub longer_lies : (doc : Doc) (lead row longer : List Datum) → longer ≡ lead ++ row → All (IsOfDocument doc) lead → All (IsOfDocument doc) row → All (IsOfDocument doc) longer
longer_lies doc lead row longer is first second = subst (All (IsOfDocument doc)) (sym is) (All-append (IsOfDocument doc) lead row first second)

-- the width that is left for the rest
pub widths_left : {X : Type 0} (f : X → RowList) (sources rest : List X) (first : X) (lead row longer : List Datum) (width : ℕ) → sources ≡ first ∷ rest
    → longer ≡ lead ++ row → length row ≡ (f first).width → length lead + sum_by (λ s. (f s).width) sources ≡ width
    → length longer + sum_by (λ s. (f s).width) rest ≡ width
widths_left f sources rest first lead row longer width are is wide all =
    let sums : sum_by (λ s. (f s).width) sources ≡ (f first).width + sum_by (λ s. (f s).width) rest = ap (sum_by (λ s. (f s).width)) are ∙ sum_by-cons (λ s. (f s).width) first rest in
    let lengths = ap length is ∙ length-append lead row in
    omega (arith, sums, lengths, wide, all)

regroup : (lead row : List Datum) (rows : List (List Datum)) → map (λ r. lead ++ r) (map (λ r. row ++ r) rows) ≡ map (λ r. (lead ++ row) ++ r) rows
regroup lead row [] = refl
regroup lead row (r ∷ rows) = ap₂ ◌∷◌ (sym (append_assoc lead row r)) (regroup lead row rows)

module _ (lists : Lists) (doc : Doc) (conds : List Term) (lead : List Datum) (others : List (List Datum)) where
  -- the combinations of some rows with the others, behind `lead`, on which the conditions hold
  abbrev pub those : List (List Datum) → List (List Datum)
  those rows = selected lists doc conds (map (λ r. lead ++ r) (product rows others))

  pub none_yet : (start : List (List Datum)) → start ≡ start ++ those []
  none_yet start = sym (append-nil start) ∙ ap (λ (rows : List (List Datum)). start ++ selected lists doc conds (map (λ r. lead ++ r) rows)) (sym (product-nil others))

  -- those of one row more
  those_more : (rows : List (List Datum)) (row : List Datum) → those (rows ++ row ∷ []) ≡ those rows ++ selected lists doc conds (map (λ r. (lead ++ row) ++ r) others)
  those_more rows row =
      ap (λ (all : List (List Datum)). selected lists doc conds (map (λ r. lead ++ r) all)) (product-push rows row others)
      ∙ (ap (selected lists doc conds) (map-append (λ r. lead ++ r) (product rows others) (map (λ r. row ++ r) others))
      ∙ (filter-append (holding lists doc conds) (map (λ r. lead ++ r) (product rows others)) (map (λ r. lead ++ r) (map (λ r. row ++ r) others))
      ∙ ap (λ (more : List (List Datum)). those rows ++ selected lists doc conds more) (regroup lead row others)))

  pub one_more : (start before after items : List (List Datum)) (row longer : List Datum) (i : ℕ) (now : Lists) → now ≡ lists → longer ≡ lead ++ row → i < length items → row ≡ get_or items i row
      → before ≡ start ++ those (take i items) → after ≡ before ++ selected now doc conds (map (λ r. longer ++ r) others)
      → after ≡ start ++ those (take (i + 1) items)
  one_more start before after items row longer i now same is below at so_far put =
      put ∙ (ap₂ (λ (l : Lists) (longer : List Datum). before ++ selected l doc conds (map (λ r. longer ++ r) others)) same is
      ∙ (ap (λ (rows : List (List Datum)). rows ++ selected lists doc conds (map (λ r. (lead ++ row) ++ r) others)) so_far
      ∙ (append_assoc start (those (take i items)) (selected lists doc conds (map (λ r. (lead ++ row) ++ r) others))
      ∙ (ap (λ (rows : List (List Datum)). start ++ rows) (sym (those_more (take i items) row))
      ∙ ap (λ (rows : List (List Datum)). start ++ those rows) (sym (take_more items i row below ∙ ap (λ (r : List Datum). take i items ++ r ∷ []) (sym at)))))))

behind_none : (rows : List (List Datum)) → map (λ r. [] ++ r) rows ≡ rows
behind_none [] = refl
behind_none (r ∷ rows) = ap (λ (rest : List (List Datum)). r ∷ rest) (behind_none rows)

-- all combinations, where nothing stands in front
pub all_combined : (lists : Lists) (doc : Doc) (seen conds : List Term) (lead : List Datum) (rows start after : List (List Datum)) → seen ≡ conds → lead ≡ [] → start ≡ []
    → after ≡ start ++ selected lists doc seen (map (λ r. lead ++ r) rows) → after ≡ selected lists doc conds rows
all_combined lists doc seen conds lead rows start after same none empty is =
    is ∙ (ap₂ (λ (start : List (List Datum)) (lead : List Datum). start ++ selected lists doc seen (map (λ r. lead ++ r) rows)) empty none
    ∙ (ap (selected lists doc seen) (behind_none rows) ∙ ap (λ (conds : List Term). selected lists doc conds rows) same))
