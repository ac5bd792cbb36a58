-- Which columns an expression reads: the decided words, and other numbers of columns.
use Rattle.std.specs.Prelude.{ℕ, ◌≡◌, ◌<◌, ◌+◌, ◌-◌, ◌&&◌, nat_lt, nat_le, true, List, [], ◌∷◌, ◌++◌, map, All, refl}
use Rattle.std.specs.List.{list_all}
use Rattle.std.proofs.Common.{◌∙◌, ◌↔◌, ap, ap₂, sym, subst, arith}
use Rattle.std.proofs.lemmas.Bool.{ltb-true, lt-ltb, leb-true, le-leb}
use Rattle.std.proofs.lemmas.List.{map-append}
use Rattle.std.proofs.lemmas.List.Elements.{All-map}
use Rattle.std.proofs.lemmas.List.Sums.{AllPass-from_list_all, list_all-from_AllPass}
use Rattle.std.proofs.lemmas.List.Folds.{list_all-append}
use Rattle.scalar_ops.specs.Expressions.{Term, column, number, string, call, Terms, none, more, terms, columns_of, columns_in, ReadsBelow, ReadsFrom, does_read_below, does_read_from, renamed, all_renamed}

-- the words that are decided are the facts
pub does_read_below-is : (width : ℕ) (t : Term) → (does_read_below width t ≡ true) ↔ ReadsBelow width t
does_read_below-is width t = (
  (λ e k d below. ltb-true _ width (AllPass-from_list_all (λ n. nat_lt n width) (columns_of t) e k d below)),
  (λ reads. list_all-from_AllPass (λ n. nat_lt n width) (columns_of t) (λ k d below. lt-ltb _ width (reads k d below))),
)

pub does_read_from-is : (width : ℕ) (t : Term) → (does_read_from width t ≡ true) ↔ ReadsFrom width t
does_read_from-is width t = (
  (λ e k d below. leb-true width _ (AllPass-from_list_all (λ n. nat_le width n) (columns_of t) e k d below)),
  (λ reads. list_all-from_AllPass (λ n. nat_le width n) (columns_of t) (λ k d below. le-leb width _ (reads k d below))),
)

-- a call reads below a width where each argument does
pub does_read_below-terms : (width : ℕ) (ts : List Term) → list_all (λ n. nat_lt n width) (columns_in (terms ts)) ≡ list_all (does_read_below width) ts
does_read_below-terms width [] = refl
does_read_below-terms width (t ∷ ts) =
    list_all-append (λ n. nat_lt n width) (columns_of t) (columns_in (terms ts)) ∙ ap (λ b. does_read_below width t && b) (does_read_below-terms width ts)

module _ (rename : ℕ → ℕ) where
  mutual
    -- with other numbers of columns it reads the columns of these numbers
    pub columns-renamed : (t : Term) → columns_of (renamed rename t) ≡ map rename (columns_of t)
    columns-renamed (column n) = refl
    columns-renamed (number n) = refl
    columns-renamed (string t) = refl
    columns-renamed (call op args) = columns-all_renamed args

    pub columns-all_renamed : (ts : Terms) → columns_in (all_renamed rename ts) ≡ map rename (columns_in ts)
    columns-all_renamed none = refl
    columns-all_renamed (more t ts) =
        ap₂ ◌++◌ (columns-renamed t) (columns-all_renamed ts) ∙ sym (map-append rename (columns_of t) (columns_in ts))

-- what reads the right side of a joined row reads below its width, with the numbers that columns have there
pub reads-shifted : (width other : ℕ) (t : Term) → ReadsFrom width t → ReadsBelow (width + other) t → ReadsBelow other (renamed (λ n. n - width) t)
reads-shifted width other t reads below =
    subst (All (λ n. n < other)) (sym (columns-renamed (λ n. n - width) t))
    (All-map (λ n. n < other) (λ n. n - width) (columns_of t) (λ k d at. omega (arith, reads k d at, below k d at)))
