-- What crates above use of values: which columns count, other numbers of columns, conditions one by one.
use Rattle.std.specs.Prelude.{ℕ, ◌≡◌, ◌<◌, ◌+◌, ◌&&◌, List, [], ◌∷◌, ◌++◌, map, length, All, refl}
use Rattle.std.specs.List.{list_all}
use Rattle.std.proofs.Common.{◌∙◌, ap, subst, arith, lit<}
use Rattle.std.proofs.lemmas.List.{get_or_append_left, get_or-append-add, length-append}
use Rattle.std.proofs.lemmas.List.Folds.{list_all-append}
use Rattle.span_token.specs.Documents.{Doc}
use Rattle.row_values.specs.Datums.{Datum}
use Rattle.row_values.specs.Rows.{value_in}
use Rattle.row_values.specs.RowBags.{value_in-left}
use Rattle.scalar_ops.specs.declared.op.Op.TheVariants.{And}
use Rattle.scalar_ops.specs.Expressions.{Term, column, number, string, call, Terms, none, more, terms, columns_of, columns_in, ReadsBelow, renamed, all_renamed}
use Rattle.scalar_ops.specs.Operators.{is_true}
use Rattle.scalar_ops.specs.Tables.{Lists}
use Rattle.scalar_ops.specs.Values.{applied, value, values, holding}

all-left : {X : Type 0} (P : X → Type 0) (xs ys : List X) → All P (xs ++ ys) → All P xs
all-left P xs ys all k d below =
    subst P (get_or_append_left xs ys d k below) (all k d (omega (arith, below, length-append xs ys)))

all-right : {X : Type 0} (P : X → Type 0) (xs ys : List X) → All P (xs ++ ys) → All P ys
all-right P xs ys all k d below =
    subst P (get_or-append-add xs ys k d) (all (length xs + k) d (omega (arith, below, length-append xs ys)))

module _ (lists : Lists) (doc : Doc) where
  module _ (row more_columns : List Datum) where
    mutual
      -- what reads columns of a row alone is worth the same where more columns follow
      pub value-left : (t : Term) → ReadsBelow (length row) t → value lists doc (row ++ more_columns) t ≡ value lists doc row t
      value-left (column n) reads = value_in-left row more_columns n (reads 0 0 (lit< tt))
      value-left (number n) reads = refl
      value-left (string t) reads = refl
      value-left (call op args) reads = ap (applied lists doc op) (values-left args reads)

      pub values-left : (ts : Terms) → All (λ n. n < length row) (columns_in ts) → values lists doc (row ++ more_columns) ts ≡ values lists doc row ts
      values-left none reads = refl
      values-left (more t ts) reads =
          ap (λ v. v ∷ values lists doc (row ++ more_columns) ts) (value-left t (all-left (λ n. n < length row) (columns_of t) (columns_in ts) reads))
          ∙ ap (λ vs. value lists doc row t ∷ vs) (values-left ts (all-right (λ n. n < length row) (columns_of t) (columns_in ts) reads))

  module _ (rename : ℕ → ℕ) (row other : List Datum) where
    -- the row has under the new number what the other has under the old one
    abbrev pub HasUnder : ℕ → Type 0
    HasUnder n = value_in other (rename n) ≡ value_in row n

    mutual
      -- where a row has under the new numbers of the columns that are read what another has under the old ones, the expression is worth the same
      pub value-renamed : (t : Term) → All HasUnder (columns_of t) → value lists doc other (renamed rename t) ≡ value lists doc row t
      value-renamed (column n) same = same 0 0 (lit< tt)
      value-renamed (number n) same = refl
      value-renamed (string t) same = refl
      value-renamed (call op args) same = ap (applied lists doc op) (values-renamed args same)

      pub values-renamed : (ts : Terms) → All HasUnder (columns_in ts) → values lists doc other (all_renamed rename ts) ≡ values lists doc row ts
      values-renamed none same = refl
      values-renamed (more t ts) same =
          ap (λ v. v ∷ values lists doc other (all_renamed rename ts)) (value-renamed t (all-left HasUnder (columns_of t) (columns_in ts) same))
          ∙ ap (λ vs. value lists doc row t ∷ vs) (values-renamed ts (all-right HasUnder (columns_of t) (columns_in ts) same))

  module _ (row : List Datum) where
    -- the values of some terms, one by one
    pub values-terms : (ts : List Term) → values lists doc row (terms ts) ≡ map (value lists doc row) ts
    values-terms [] = refl
    values-terms (t ∷ ts) = ap (λ vs. value lists doc row t ∷ vs) (values-terms ts)

    -- conditions hold where each of them is true
    pub holding-append : (cs ds : List Term) → holding lists doc (cs ++ ds) row ≡ holding lists doc cs row && holding lists doc ds row
    holding-append cs ds = list_all-append (λ c. is_true (value lists doc row c)) cs ds

    pub list_all-map : (cs : List Term) → list_all is_true (map (value lists doc row) cs) ≡ list_all (λ c. is_true (value lists doc row c)) cs
    list_all-map [] = refl
    list_all-map (c ∷ cs) = ap (λ b. is_true (value lists doc row c) && b) (list_all-map cs)

    -- `And` of a condition and others is true where they hold
    pub holding-and : (c : Term) (cs : List Term) → is_true (value lists doc row (call And (terms (c ∷ cs)))) ≡ holding lists doc (c ∷ cs) row
    holding-and c cs = ap (λ vs. list_all is_true (value lists doc row c ∷ vs)) (values-terms cs) ∙ list_all-map (c ∷ cs)
