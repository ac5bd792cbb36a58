-- The words of a table of claims, and what seats know of them.
use Rattle.std.proofs.Common.{◌≡◌, ◌≢◌, ℕ, zero, suc, ◌+◌, ◌<◌, ◌≤◌, List, [], ◌∷◌, ◌++◌, length, set, cond, eqb, slice_index, refl, sym, ap, ◌∙◌, arith, zero-add, get_or-set_same, get_or-set_other, eq-eqb, ne_eqb}
use Rattle.std.proofs.lemmas.List.Sums.{sum_by-append}
use Rattle.std.proofs.lemmas.List.Elements.{All-push}
use mathlib.Core.Logic.{dite}
use mathlib.Core.Option.{some, some-injective, some-ne-none}
use lib.ListN.{get_elem?}
use native.Mathlib.Decide.{ℕ_discrete}
use Rattle.run_tables.specs.declared.rule.Win.{Win}
use Rattle.run_tables.specs.declared.rule.View.{View}
use Rattle.run_tables.specs.Seats.{with_win, with_read}
use Rattle.run_tables.specs.ClaimWords.{times, is_won, AreWon}
use Rattle.run_tables.specs.ClaimRule.{FitsWords}

pub is_won-le : (word : ℕ) → is_won word ≤ 1
is_won-le zero = omega arith
is_won-le (suc word) = omega arith

-- an item's word is written where it was 0: another word that isn't 0 stays
word_stays : (words : List ℕ) (i j new word : ℕ) → slice_index words i ≡ 0 → word ≢ 0 → slice_index words j ≡ word → slice_index (set words i new) j ≡ word
word_stays words i j new word free taken is =
    get_or-set_other words i j new 0 (λ e. taken (sym is ∙ ap (slice_index words) e ∙ free)) ∙ is

pub won_stays : (words : List ℕ) (i new : ℕ) (won : List Win) → slice_index words i ≡ 0 → AreWon words won → AreWon (set words i new) won
won_stays words i new won free all k d lt = word_stays words i _ new _ free (λ e. omega arith) (all k d lt)

-- what a seat knows stays so when a free item is won
pub fits_stays : (n : ℕ) (words : List ℕ) (i new : ℕ) (v : View) → slice_index words i ≡ 0 → FitsWords n words v → FitsWords n (set words i new) v
fits_stays n words i new v free f = record {
  won = won_stays words i new v.won free f.won;
  seen = λ known. word_stays words i v.item new v.word free known (f.seen known);
  live = f.live;
  spent = f.spent;
}

-- 1 for the same item, else 0
abbrev pub one_if : ℕ → ℕ → ℕ
one_if i item = cond (eqb i item) 1 0

one_if-same : (i item : ℕ) → i ≡ item → one_if i item ≡ 1
one_if-same i item e = ap (λ b. cond b 1 0) (eq-eqb i item e)

one_if-other : (i item : ℕ) → i ≢ item → one_if i item ≡ 0
one_if-other i item ne = ap (λ b. cond b 1 0) (ne_eqb i item ne)

-- the list with one more item
pub times_push : (item i seat : ℕ) (won : List Win) → times item (won ++ record { item = i; seat = seat } ∷ []) ≡ times item won + one_if i item
times_push item i seat won =
    sum_by-append (λ (win : Win). cond (eqb win.item item) 1 0) won (record { item = i; seat = seat } ∷ []) ∙ ap (λ k. times item won + k) (zero-add (one_if i item))

pub times_append : (item : ℕ) (xs ys : List Win) → times item (xs ++ ys) ≡ times item xs + times item ys
times_append item xs ys = sum_by-append (λ (win : Win). cond (eqb win.item item) 1 0) xs ys

-- the seat that wins a free item
pub fits_win : (n : ℕ) (words : List ℕ) (i : ℕ) (v : View) → slice_index words i ≡ 0 → i < length words → 0 < v.parts → FitsWords n words v → FitsWords n (set words i (suc v.number)) (with_win v i)
fits_win n words i v free lt sits f = record {
  won = All-push (λ (win : Win). slice_index (set words i (suc v.number)) win.item ≡ suc win.seat) v.won (record { item = i; seat = v.number }) (won_stays words i (suc v.number) v.won free f.won) (get_or-set_same words i (suc v.number) 0 lt);
  seen = λ known. word_stays words i v.item (suc v.number) v.word free known (f.seen known);
  live = λ parts. let l = f.live parts in record { seats = l.seats; number = l.number; spare = l.spare; first_gives = l.first_gives };
  spent = λ e. absurd (omega arith);
}

-- the seat that reads a word
pub fits_read : (n : ℕ) (words : List ℕ) (i : ℕ) (v : View) → FitsWords n words v → FitsWords n words (with_read v i (slice_index words i))
fits_read n words i v f = record {
  won = f.won;
  seen = λ known. refl;
  live = λ parts. let l = f.live parts in record { seats = l.seats; number = l.number; spare = l.spare; first_gives = l.first_gives };
  spent = f.spent;
}

-- a won item stands once more, and its word isn't 0 any more
pub once_more : (words : List ℕ) (i seat item sum later had : ℕ) → slice_index words i ≡ 0 → i < length words → sum ≡ is_won (slice_index words item) → later + had ≡ sum + (had + one_if i item) → later ≡ is_won (slice_index (set words i (suc seat)) item)
once_more words i seat item sum later had free lt was after = dite (ℕ_discrete i item) same other
  where
    same : i ≡ item → later ≡ is_won (slice_index (set words i (suc seat)) item)
    same e =
        let none : sum ≡ 0 = was ∙ ap (λ k. is_won (slice_index words k)) (sym e) ∙ ap is_won free in
        let one = one_if-same i item e in
        let taken : is_won (slice_index (set words i (suc seat)) item) ≡ 1 = ap (λ k. is_won (slice_index (set words i (suc seat)) k)) (sym e) ∙ ap is_won (get_or-set_same words i (suc seat) 0 lt) in
        omega arith

    other : i ≢ item → later ≡ is_won (slice_index (set words i (suc seat)) item)
    other ne =
        let none = one_if-other i item ne in
        let still : is_won (slice_index (set words i (suc seat)) item) ≡ is_won (slice_index words item) = ap is_won (get_or-set_other words i item (suc seat) 0 (λ e. ne (sym e))) in
        omega arith

pub read_at : (words : List ℕ) (i word : ℕ) → get_elem? words i ≡ some word → slice_index words i ≡ word
read_at [] i word e = absurd (some-ne-none word (sym e))
read_at (x ∷ xs) zero word e = some-injective x word e
read_at (x ∷ xs) (suc i) word e = read_at xs i word e

-- one more word is read
pub reads_more : (words from : List ℕ) (i word : ℕ) → i < length words → get_elem? from i ≡ some word → ((k : ℕ) → k < i → slice_index words k ≡ slice_index from k)
    → (k : ℕ) → k < i + 1 → slice_index (set words i word) k ≡ slice_index from k
reads_more words from i word lt at before k less =
    dite (ℕ_discrete k i)
    (λ (e : k ≡ i). ap (slice_index (set words i word)) e ∙ get_or-set_same words i word 0 lt ∙ sym (read_at from i word at) ∙ ap (slice_index from) (sym e))
    (λ (ne : k ≢ i). get_or-set_other words i k word 0 ne ∙ before k (omega arith))
