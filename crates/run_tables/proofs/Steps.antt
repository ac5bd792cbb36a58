-- Each step on a table of claims keeps its rule.
use Rattle.std.proofs.Common.{◌≡◌, ◌≢◌, ℕ, zero, suc, ◌+◌, ◌<◌, List, [], ◌∷◌, length, set, eqb, slice_index, refl, sym, ap, ◌∙◌, subst, ⊎_elim, arith, length-set}
use Rattle.std.specs.List.{sum_by}
use Rattle.std.proofs.lemmas.List.{set-get_or}
use Rattle.std.proofs.lemmas.List.Sums.{sum_by_push}
use Rattle.std.proofs.lemmas.List.Elements.{All-append, All-nil}
use mathlib.Core.Option.{some, none, some-injective, some-ne-none}
use lib.ListN.{get_elem?}
use prog.Atomic.{either}
use Rattle.atomic_table.specs.Table.{State, Me, step, Act, keeps, Valid, stepped, carried_after, Allows, Splits, Joins, opening}
use mathlib.Core.Logic.{dite}
use native.Mathlib.Decide.{ℕ_discrete}
use Rattle.atomic_table.proofs.Lists.{at_set, exchanged, set_else}
use Rattle.run_tables.specs.declared.rule.Win.{Win}
use Rattle.run_tables.specs.declared.rule.View.{View}
use Rattle.run_tables.specs.declared.rule.Sizes.{Sizes}
use Rattle.run_tables.specs.Seats.{with_win, with_read, newcomer, opener, giver, with_joined, gone}
use Rattle.run_tables.specs.ClaimWords.{times, is_won, AreWords}
use Rattle.run_tables.specs.ClaimRule.{IsLive, FitsWords, IsApart, IsClaimState, tried, loaded, looked_over}
use Rattle.run_tables.proofs.Views.{sum_set, one-le-sum, others-zero, one-is-sum, each_set, each_push, Sit, apart_set, apart_push}
use Rattle.run_tables.proofs.Words.{is_won-le, fits_stays, times_push, times_append, fits_win, fits_read, once_more}

abbrev Words : Type 0
Words = State (Unit {0}) View

-- a table of which no item is won, with its first seat
pub opens : (sizes : Sizes) (words : List ℕ) → 0 < sizes.seats → length words ≡ sizes.items → ((i : ℕ) → slice_index words i ≡ 0) → IsClaimState sizes (opening words [] (opener sizes))
opens sizes words seated size free = record {
  size = size;
  fits = fits;
  apart = λ i j v w ne at_i at_j. absurd (alone i j v w ne at_i at_j);
  parts = omega arith;
  once = λ item. sym (ap is_won (free item));
}
  where
    fits : (j : ℕ) (v : View) → get_elem? (opener sizes ∷ []) j ≡ some v → FitsWords sizes.seats words v
    fits zero v e = subst (FitsWords sizes.seats words) (some-injective _ _ e) (record {
      won = All-nil _;
      seen = λ known. absurd (known refl);
      live = λ _. record { seats = refl; number = seated; spare = omega arith; first_gives = λ other. absurd (other refl) };
      spent = λ _. refl;
    })
    fits (suc j) v e = absurd (some-ne-none v (sym e))

    alone : (i j : ℕ) (v w : View) → i ≢ j → get_elem? (opener sizes ∷ []) i ≡ some v → get_elem? (opener sizes ∷ []) j ≡ some w → ⊥
    alone zero zero v w ne at_i at_j = ne refl
    alone zero (suc j) v w ne at_i at_j = some-ne-none w (sym at_j)
    alone (suc i) j v w ne at_i at_j = some-ne-none v (sym at_i)

-- one view changes, but for its number, its spare and its parts
changed : (sizes : Sizes) (s : Words) (words : List ℕ) (id : ℕ) (v w : View) → IsClaimState sizes s → get_elem? s.views id ≡ some v → length words ≡ length s.words
    → ((u : View) → FitsWords sizes.seats s.words u → FitsWords sizes.seats words u) → FitsWords sizes.seats words w → w.number ≡ v.number → w.spare ≡ v.spare → w.parts ≡ v.parts
    → ((item : ℕ) → sum_by (λ u. times item u.won) (set s.views id w) ≡ is_won (slice_index words item))
    → IsClaimState sizes (record { words = words; homes = s.homes; views = set s.views id w })
changed sizes s words id v w kept at long stay mine number spare parts once = record {
  size = long ∙ kept.size;
  fits = each_set (FitsWords sizes.seats words) s.views id w (λ j u _ there. stay u (kept.fits j u there)) mine;
  apart = apart_set s.views id w kept.apart (λ j u ne there. (apart_left j u ne there, apart_right j u ne there));
  parts = let all = sum_set (λ u. u.parts) s.views id v w at in let was = kept.parts in omega arith;
  once = once;
}
  where
    apart_left : (j : ℕ) (u : View) → j ≢ id → get_elem? s.views j ≡ some u → Sit w u
    apart_left j u ne there some_w some_u =
        let a = kept.apart id j v u (λ e. ne (sym e)) at there (subst (λ k. 0 < k) parts some_w) some_u in
        record { numbers = λ e. a.numbers (sym number ∙ e); below = λ e. subst (λ k. k < u.number) (sym spare) (a.below (sym number ∙ e)) }

    apart_right : (j : ℕ) (u : View) → j ≢ id → get_elem? s.views j ≡ some u → Sit u w
    apart_right j u ne there some_u some_w =
        let a = kept.apart j id u v ne there at some_u (subst (λ k. 0 < k) parts some_w) in
        record { numbers = λ e. a.numbers (e ∙ number); below = λ e. subst (λ k. u.spare < k) (sym number) (a.below e) }

-- a view changes, and its list, number, spare and parts stay
same_list : (sizes : Sizes) (s : Words) (id : ℕ) (v w : View) → IsClaimState sizes s → get_elem? s.views id ≡ some v → FitsWords sizes.seats s.words w → w.number ≡ v.number → w.spare ≡ v.spare → w.parts ≡ v.parts → w.won ≡ v.won
    → (words : List ℕ) → words ≡ s.words → IsClaimState sizes (record { words = words; homes = s.homes; views = set s.views id w })
same_list sizes s id v w kept at mine number spare parts won words same =
    subst (λ (ws : List ℕ). IsClaimState sizes (record { words = ws; homes = s.homes; views = set s.views id w })) (sym same)
    (changed sizes s s.words id v w kept at refl (λ u f. f) mine number spare parts
    (λ item. let all = sum_set (λ u. times item u.won) s.views id v w at in let was = kept.once item in let list = ap (times item) won in omega arith))

-- the seat reads a word
pub reads_allowed : (sizes : Sizes) (slots id : ℕ) (me : Me (Unit {0}) View) (i : ℕ) → Allows (IsClaimState sizes) slots id me i (λ n. n) (loaded (step slots i 0 0 none) me)
reads_allowed sizes slots id me i s kept homes at small =
    let w = with_read me.0 i (slice_index s.words i) in (
      w,
      keeps,
      tt,
      same_list sizes s id me.0 w kept at (fits_read sizes.seats s.words i me.0 (kept.fits id me.0 at)) refl refl refl refl (set s.words i (slice_index s.words i)) (set-get_or s.words i 0),
      (refl, refl),
    )

-- the seat looks at its list
pub counts_allowed : (sizes : Sizes) (slots id : ℕ) (me : Me (Unit {0}) View) (i : ℕ) → Allows (IsClaimState sizes) slots id me i (λ n. n) (looked_over (step slots i 0 0 none) me)
counts_allowed sizes slots id me i s kept homes at small = (
  me.0,
  keeps,
  tt,
  same_list sizes s id me.0 me.0 kept at (kept.fits id me.0 at) refl refl refl refl (set s.words i (slice_index s.words i)) (set-get_or s.words i 0),
  (refl, (λ item. let one = one-le-sum (λ u. times item u.won) s.views id me.0 at in let all = kept.once item in let few = is_won-le (slice_index s.words item) in omega arith), refl),
)

-- the seat wins a free item
wins : (sizes : Sizes) (s : Words) (id : ℕ) (v : View) (i : ℕ) → IsClaimState sizes s → get_elem? s.views id ≡ some v → i < sizes.items → 0 < v.parts → slice_index s.words i ≡ 0
    → IsClaimState sizes (record { words = set s.words i (suc v.number); homes = s.homes; views = set s.views id (with_win v i) })
wins sizes s id v i kept at in_range live free =
    let lt : i < length s.words = subst (λ k. i < k) (sym kept.size) in_range in
    changed sizes s (set s.words i (suc v.number)) id v (with_win v i) kept at (length-set s.words i (suc v.number)) (λ u f. fits_stays sizes.seats s.words i (suc v.number) u free f)
    (fits_win sizes.seats s.words i v free lt live (kept.fits id v at)) refl refl refl
    (λ item. once_more s.words i v.number item (sum_by (λ u. times item u.won) s.views) (sum_by (λ u. times item u.won) (set s.views id (with_win v i))) (times item v.won) free lt (kept.once item)
    (sum_set (λ u. times item u.won) s.views id v (with_win v i) at ∙ ap (λ k. sum_by (λ u. times item u.won) s.views + k) (times_push item i v.number v.won)))

-- what a step allows that makes the word n
abbrev Outcome : Sizes → ℕ → ℕ → Me (Unit {0}) View → ℕ → ℕ → Words → ℕ → Type 0
Outcome sizes slots id me i mine s n =
    (w : View) × (a : Act (Unit {0})) × Valid s.homes me.1 a × IsClaimState sizes (stepped s i n id me.1 w a) × tried (step slots i 0 mine none) me (slice_index s.words i) (w, carried_after me.1 a)

-- the seat tries to win an item
pub tries_allowed : (sizes : Sizes) (slots id : ℕ) (me : Me (Unit {0}) View) (i mine : ℕ) → i < sizes.items → 0 < me.0.parts → mine ≡ suc me.0.number
    → Allows (IsClaimState sizes) slots id me i (λ n. either (eqb n 0) mine n) (tried (step slots i 0 mine none) me)
tries_allowed sizes slots id me i mine in_range live is s kept homes at small = exchanged (slice_index s.words i) 0 mine (Outcome sizes slots id me i mine s) hit miss
  where
    hit : slice_index s.words i ≡ 0 → Outcome sizes slots id me i mine s mine
    hit free = (
      with_win me.0 i,
      keeps,
      tt,
      subst (λ n. IsClaimState sizes (record { words = set s.words i n; homes = s.homes; views = set s.views id (with_win me.0 i) })) (sym is) (wins sizes s id me.0 i kept at in_range live free),
      ((λ _. refl), (λ taken. absurd (taken free)), refl),
    )

    miss : slice_index s.words i ≢ 0 → Outcome sizes slots id me i mine s (slice_index s.words i)
    miss taken = (
      with_read me.0 i (slice_index s.words i),
      keeps,
      tt,
      same_list sizes s id me.0 (with_read me.0 i (slice_index s.words i)) kept at (fits_read sizes.seats s.words i me.0 (kept.fits id me.0 at)) refl refl refl refl (set s.words i (slice_index s.words i)) (set-get_or s.words i 0),
      ((λ free. absurd (taken free)), (λ _. refl), refl),
    )

-- the first seat gives out its greatest number
pub splits : (sizes : Sizes) (id : ℕ) (v : View) → 0 < v.parts → 0 < v.spare → Splits (IsClaimState sizes) id v (giver v) (newcomer v.seats v.spare)
splits sizes id v sits spare s kept at = record {
  size = kept.size;
  fits = each_push (FitsWords sizes.seats s.words) (set s.views id (giver v)) new (each_set (FitsWords sizes.seats s.words) s.views id (giver v) (λ j u _ there. kept.fits j u there) fits_giver) fits_new;
  apart = apart_push (set s.views id (giver v)) new (apart_set s.views id (giver v) kept.apart (λ j u ne there. (giver_left j u ne there, giver_right j u ne there))) new_apart;
  parts = let all = sum_set (λ u. u.parts) s.views id v (giver v) at in let was = kept.parts in let more = sum_by_push (λ u. u.parts) (set s.views id (giver v)) new in omega arith;
  once = λ item. let all = sum_set (λ u. times item u.won) s.views id v (giver v) at in let was = kept.once item in let more = sum_by_push (λ u. times item u.won) (set s.views id (giver v)) new in omega arith;
}
  where
    new : View
    new = newcomer v.seats v.spare

    live : IsLive sizes.seats v
    live = (kept.fits id v at).live sits

    first : v.number ≡ 0
    first = dite (ℕ_discrete v.number 0) (λ e. e) (λ ne. let none = live.first_gives ne in absurd (omega arith))

    fits_giver : FitsWords sizes.seats s.words (giver v)
    fits_giver =
        let f = kept.fits id v at in
        let fewer = live.spare in
        record {
          won = f.won;
          seen = f.seen;
          live = λ _. record { seats = live.seats; number = live.number; spare = omega arith; first_gives = λ other. absurd (other first) };
          spent = λ none. absurd (omega arith);
        }

    fits_new : FitsWords sizes.seats s.words new
    fits_new =
        let fewer = live.spare in
        let one = one-le-sum (λ u. u.parts) s.views id v at in
        let all = kept.parts in
        record {
          won = All-nil _;
          seen = λ known. absurd (known refl);
          live = λ _. record { seats = live.seats; number = omega arith; spare = omega arith; first_gives = λ _. refl };
          spent = λ _. refl;
        }

    -- another seat, beside the one that gave
    beside : (j : ℕ) (u : View) → j ≢ id → get_elem? s.views j ≡ some u → 0 < u.parts → IsApart v u
    beside j u ne there some_u = kept.apart id j v u (λ e. ne (sym e)) at there sits some_u

    giver_left : (j : ℕ) (u : View) → j ≢ id → get_elem? s.views j ≡ some u → Sit (giver v) u
    giver_left j u ne there _ some_u =
        let a = beside j u ne there some_u in
        record { numbers = a.numbers; below = λ e. let less = a.below e in omega arith }

    giver_right : (j : ℕ) (u : View) → j ≢ id → get_elem? s.views j ≡ some u → Sit u (giver v)
    giver_right j u ne there some_u _ =
        let a = kept.apart j id u v ne there at some_u sits in
        record { numbers = a.numbers; below = a.below }

    other_new : (j : ℕ) (u : View) → j ≢ id → get_elem? s.views j ≡ some u → Sit new u × Sit u new
    other_new j u ne there = (
      (λ _ some_u. let less = (beside j u ne there some_u).below first in record { numbers = λ e. omega arith; below = λ e. absurd (omega arith) }),
      (λ some_u _. let less = (beside j u ne there some_u).below first in record { numbers = λ e. omega arith; below = λ e. absurd (omega arith) }),
    )

    giver_new : Sit new (giver v) × Sit (giver v) new
    giver_new = (
      (λ _ _. let zero_is = first in record { numbers = λ e. omega arith; below = λ e. absurd (omega arith) }),
      (λ _ _. let zero_is = first in record { numbers = λ e. omega arith; below = λ _. omega arith }),
    )

    new_apart : (j : ℕ) (u : View) → get_elem? (set s.views id (giver v)) j ≡ some u → Sit new u × Sit u new
    new_apart j u there =
        ⊎_elim (λ (t : (j ≡ id) × (giver v ≡ u)). subst (λ x. Sit new x × Sit x new) t.1 giver_new) (λ (t : (j ≢ id) × (get_elem? s.views j ≡ some u)). other_new j u t.0 t.1) (at_set s.views id j (giver v) u there)

-- a seat takes in another's list
pub joins : (sizes : Sizes) (id : ℕ) (v : View) (other : ℕ) (w : View) → 0 < v.parts → Joins (IsClaimState sizes) id v other w (with_joined v w) gone
joins sizes id v other w sits s kept at ne there = record {
  size = kept.size;
  fits = each_set (FitsWords sizes.seats s.words) one other gone (λ j u _ e. each_set (FitsWords sizes.seats s.words) s.views id both (λ k x _ e'. kept.fits k x e') fits_both j u e) fits_gone;
  apart = apart_set one other gone (apart_set s.views id both kept.apart (λ j u apart e. (both_left j u apart e, both_right j u apart e))) (λ j u _ _. ((λ none _. absurd (omega arith)), (λ _ none. absurd (omega arith))));
  parts = let first = sum_set (λ u. u.parts) s.views id v both at in let second = sum_set (λ u. u.parts) one other w gone there in let was = kept.parts in omega arith;
  once = λ item. let first = sum_set (λ u. times item u.won) s.views id v both at in let second = sum_set (λ u. times item u.won) one other w gone there in let was = kept.once item in let both_lists = times_append item v.won w.won in omega arith;
}
  where
    both : View
    both = with_joined v w

    one : List View
    one = set s.views id both

    was_there : get_elem? s.views other ≡ some w
    was_there = sym (set_else s.views id other both ne) ∙ there

    fits_both : FitsWords sizes.seats s.words both
    fits_both =
        let f = kept.fits id v at in
        let live = f.live sits in
        let fewer = live.spare in
        record {
          won = All-append (λ (win : Win). slice_index s.words win.item ≡ suc win.seat) v.won w.won f.won (kept.fits other w was_there).won;
          seen = f.seen;
          live = λ _. record { seats = live.seats; number = live.number; spare = omega arith; first_gives = live.first_gives };
          spent = λ none. absurd (omega arith);
        }

    fits_gone : FitsWords sizes.seats s.words gone
    fits_gone = record {
      won = All-nil _;
      seen = λ known. absurd (known refl);
      live = λ none. absurd (omega arith);
      spent = λ _. refl;
    }

    both_left : (j : ℕ) (u : View) → j ≢ id → get_elem? s.views j ≡ some u → Sit both u
    both_left j u apart e _ some_u =
        let a = kept.apart id j v u (λ same. apart (sym same)) at e sits some_u in
        record { numbers = a.numbers; below = a.below }

    both_right : (j : ℕ) (u : View) → j ≢ id → get_elem? s.views j ≡ some u → Sit u both
    both_right j u apart e some_u _ =
        let a = kept.apart j id u v apart e at some_u sits in
        record { numbers = a.numbers; below = a.below }

-- where one seat stands for all, its list has exactly the items that are won
pub closes : (sizes : Sizes) (s : Words) (id : ℕ) (v : View) → IsClaimState sizes s → get_elem? s.views id ≡ some v → v.parts ≡ sizes.seats → AreWords s.words v.won
closes sizes s id v kept at all = record {
  winners = (kept.fits id v at).won;
  once = λ item. one-is-sum (λ u. times item u.won) refl s.views id v at (λ j u ne there. ap (times item) ((kept.fits j u there).spent (none j u ne there))) ∙ kept.once item;
}
  where
    none : (j : ℕ) (u : View) → j ≢ id → get_elem? s.views j ≡ some u → u.parts ≡ 0
    none j u ne there = others-zero (λ u. u.parts) refl s.views id v at (all ∙ sym kept.parts) j u ne there
