-- Rows with their key values: their order, and what is held of them.
use Rattle.std.proofs.Common.{◌≡◌, ℕ, suc, ◌+◌, ◌-◌, ◌<◌, ◌≤◌, Bool, true, false, List, [], ◌∷◌, ◌++◌, length, refl, sym, ap, subst, ◌∙◌, arith, get_or, drop, true≢false, drop-cons}
use Rattle.std.specs.Cmp.{IsTotalOrder}
use Rattle.std.specs.Ordering.{is_lt, is_eq, ordering_then}
use Rattle.std.specs.declared.cmp.Ordering.{Ordering}
use Rattle.std.specs.declared.cmp.Ordering.TheVariants.{Less, Equal, Greater}
use Rattle.std.proofs.lemmas.Cmp.{on_total, then_total, tied_itself}
use Rattle.std.proofs.lemmas.List.{length-append, length-take, length-map}
use Rattle.std.proofs.lemmas.List.Elements.{All-push, All-take}
use Rattle.std.proofs.lemmas.List.Sorted.{length_permutation, All-permutation}
use Rattle.aql_base.specs.Sorting.{sorted_by}
use Rattle.aql_base.specs.SortingLaws.{SameBag-sorted_by}
use Rattle.row_values.specs.Datums.{Datum, null, datum_cmp}
use Rattle.row_values.specs.Rows.{row_cmp, value_in}
use Rattle.row_values.specs.RowOrder.{row_cmp_total, row_cmp_exact}
use Rattle.group_agg.specs.Groups.{key_of}
use Rattle.group_agg.specs.Limits.{keyed_cmp}
use Rattle.group_agg.specs.Candidates.{keyed, pair_cmp, first_of, IsHeld}
use Rattle.group_agg.specs.LawProofs.FirstOf.{firsts-push, firsts-pass, firsts-firsts, sorted_by-firsts, worst-push, less}

abbrev Pair : Type 0
Pair = List Datum × List Datum

pub pair_cmp_total : IsTotalOrder pair_cmp
pair_cmp_total = then_total (on_total (λ (p : Pair). p.0) row_cmp_total) (on_total (λ (p : Pair). p.1) row_cmp_total)

pub keyed_cmp_total : (keys : List ℕ) → IsTotalOrder (keyed_cmp keys)
keyed_cmp_total keys = then_total (on_total (key_of keys) row_cmp_total) row_cmp_total

not_equal : {G : Type 0} (o : Ordering) → is_eq o ≡ false → o ≡ Equal → G
not_equal o h e = absurd (true≢false (sym (ap is_eq e) ∙ h))

then_first : (o p : Ordering) → ordering_then o p ≡ Equal → o ≡ Equal
then_first Less p e = e
then_first Equal p e = refl
then_first Greater p e = e

then_second : (o p : Ordering) → ordering_then o p ≡ Equal → p ≡ Equal
then_second Less p e = not_equal Less refl e
then_second Equal p e = e
then_second Greater p e = not_equal Greater refl e

pub pair_cmp_exact : (p q : Pair) → pair_cmp p q ≡ Equal → p ≡ q
pair_cmp_exact p q e =
    let first = row_cmp_exact p.0 q.0 (then_first (row_cmp p.0 q.0) (row_cmp p.1 q.1) e) in
    let second = row_cmp_exact p.1 q.1 (then_second (row_cmp p.0 q.0) (row_cmp p.1 q.1) e) in
    λ i. (first i, second i)

pub keyed_cmp_exact : (keys : List ℕ) (a b : List Datum) → keyed_cmp keys a b ≡ Equal → a ≡ b
keyed_cmp_exact keys a b e = row_cmp_exact a b (then_second (row_cmp (key_of keys a) (key_of keys b)) (row_cmp a b) e)

-- the comparison from key i on
abbrev pub compared_from : List ℕ → List Datum → Pair → ℕ → Ordering
compared_from keys row held i = ordering_then (row_cmp (key_of (drop i keys) row) (drop i held.0)) (row_cmp row held.1)

-- the comparison of the two values of key i
abbrev pub compared_at : List ℕ → List Datum → Pair → ℕ → Ordering
compared_at keys row held i = datum_cmp (value_in row (get_or keys i 0)) (get_or held.0 i null)

one_key : (keys : List ℕ) (row : List Datum) (held : Pair) (i : ℕ) → i < length keys → length held.0 ≡ length keys → row_cmp (key_of (drop i keys) row) (drop i held.0) ≡ ordering_then (compared_at keys row held i) (row_cmp (key_of (drop (i + 1) keys) row) (drop (i + 1) held.0))
one_key keys row held i below same =
    let step : suc i ≡ i + 1 = omega arith in
    let k : drop i keys ≡ get_or keys i 0 ∷ drop (i + 1) keys = drop-cons keys i 0 below ∙ ap (λ n. get_or keys i 0 ∷ drop n keys) step in
    let v : drop i held.0 ≡ get_or held.0 i null ∷ drop (i + 1) held.0 = drop-cons held.0 i null (omega arith) ∙ ap (λ n. get_or held.0 i null ∷ drop n held.0) step in
    λ j. row_cmp (key_of (k j) row) (v j)

then_tied : (o p : Ordering) → is_eq o ≡ true → ordering_then o p ≡ p
then_tied Less p e = absurd (true≢false (sym e))
then_tied Equal p e = refl
then_tied Greater p e = absurd (true≢false (sym e))

then_decided : (o p q : Ordering) → is_eq o ≡ false → ordering_then (ordering_then o p) q ≡ o
then_decided Less p q e = refl
then_decided Equal p q e = absurd (true≢false e)
then_decided Greater p q e = refl

-- a tie at a key leaves it to the next
pub compared_from-tied : (keys : List ℕ) (row : List Datum) (held : Pair) (i : ℕ) → i < length keys → length held.0 ≡ length keys → is_eq (compared_at keys row held i) ≡ true → compared_from keys row held i ≡ compared_from keys row held (i + 1)
compared_from-tied keys row held i below same tie = ap (λ o. ordering_then o (row_cmp row held.1)) (one_key keys row held i below same ∙ then_tied (compared_at keys row held i) (row_cmp (key_of (drop (i + 1) keys) row) (drop (i + 1) held.0)) tie)

-- anything else decides
pub compared_from-decided : (keys : List ℕ) (row : List Datum) (held : Pair) (i : ℕ) → i < length keys → length held.0 ≡ length keys → is_eq (compared_at keys row held i) ≡ false → compared_from keys row held i ≡ compared_at keys row held i
compared_from-decided keys row held i below same differs = ap (λ o. ordering_then o (row_cmp row held.1)) (one_key keys row held i below same) ∙ then_decided (compared_at keys row held i) (row_cmp (key_of (drop (i + 1) keys) row) (drop (i + 1) held.0)) (row_cmp row held.1) differs

abbrev nobody : Pair
nobody = ([], [])

pub IsHeld-none : (keys : List ℕ) (n : ℕ) → IsHeld keys n [] [] false
IsHeld-none keys n = record {
  firsts = refl;
  long = λ k d below. absurd (omega arith);
  enough = λ e. absurd (true≢false (sym e));
  worst = λ e. absurd (true≢false (sym e));
}

-- one more pair that is held
pub IsHeld-push : (keys : List ℕ) (n : ℕ) (seen held : List Pair) (settled : Bool) (row : List Datum) → 0 < n → IsHeld keys n seen held settled → IsHeld keys n (seen ++ keyed keys row ∷ []) (held ++ keyed keys row ∷ []) settled
IsHeld-push keys n seen held settled row some h = record {
  firsts = firsts-push pair_cmp_total pair_cmp_exact n seen held (keyed keys row) h.firsts;
  long = All-push (λ (p : Pair). length p.0 ≡ length keys) held (keyed keys row) h.long (length-map keys (value_in row));
  enough = λ e. omega (arith, h.enough e, length-append held (keyed keys row ∷ []));
  worst = λ e. worst-push pair_cmp_total pair_cmp_exact (n - 1) held (keyed keys row) nobody (omega (arith, h.enough e)) (h.worst e);
}

-- one more pair that comes after enough others
pub IsHeld-pass : (keys : List ℕ) (n : ℕ) (seen held : List Pair) (settled : Bool) (x : Pair) → 0 < n → IsHeld keys n seen held settled → settled ≡ true → is_lt (pair_cmp x (get_or held (n - 1) nobody)) ≡ false → IsHeld keys n (seen ++ x ∷ []) held settled
IsHeld-pass keys n seen held settled x some h set past = record {
  firsts =
      let past_sorted = (less pair_cmp_total).chain x (get_or held (n - 1) nobody) (get_or (sorted_by pair_cmp held) (n - 1) nobody) past (h.worst set) in
      let is : suc (n - 1) ≡ n = omega arith in
      subst (λ m. first_of m held ≡ first_of m (seen ++ x ∷ [])) is
      (firsts-pass pair_cmp_total pair_cmp_exact (n - 1) seen held x nobody (subst (λ m. first_of m held ≡ first_of m seen) (sym is) h.firsts) (omega (arith, h.enough set)) past_sorted);
  long = h.long;
  enough = h.enough;
  worst = h.worst;
}

-- the first n alone are held
pub IsHeld-settle : (keys : List ℕ) (n : ℕ) (seen held : List Pair) (settled : Bool) → 0 < n → n ≤ length held → IsHeld keys n seen held settled → IsHeld keys n seen (first_of n held) true
IsHeld-settle keys n seen held settled some enough h = record {
  firsts = firsts-firsts pair_cmp_total pair_cmp_exact n held ∙ h.firsts;
  long = All-take (λ (p : Pair). length p.0 ≡ length keys) n (sorted_by pair_cmp held) (All-permutation (λ (p : Pair). length p.0 ≡ length keys) held (sorted_by pair_cmp held) (SameBag-sorted_by pair_cmp_total held) h.long);
  enough = λ e. omega (arith, length-take n (sorted_by pair_cmp held), length_permutation held (sorted_by pair_cmp held) (SameBag-sorted_by pair_cmp_total held));
  worst = λ e.
      let itself = not_before (get_or (first_of n held) (n - 1) nobody) in
      ap (λ xs. is_lt (pair_cmp (get_or (first_of n held) (n - 1) nobody) (get_or xs (n - 1) nobody))) (sorted_by-firsts pair_cmp_total pair_cmp_exact n held) ∙ itself;
}
  where
    not_before : (p : Pair) → is_lt (pair_cmp p p) ≡ false
    not_before p = ap is_lt (tied_itself pair_cmp_total p)
