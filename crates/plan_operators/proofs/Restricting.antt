-- What is put after the rows of a restricted join, one stretch after another.
use Rattle.std.proofs.Common.{◌≡◌, ◌∙◌, ◌+◌, ◌-◌, ◌<◌, ◌≤◌, ◌++◌, min, max, ℕ, zero, suc, Bool, true, false, cond, List, [], ◌∷◌, length, map, take, drop, get_or, Option, Some, refl, sym, ap, ap₂, subst, arith, IsUtf8, inl, inr, append_assoc}
use Rattle.std.specs.List.{filter, flat_map, range_with_len}
use Rattle.std.proofs.lemmas.Bool.{cases_Bool, cases_lt}
use Rattle.std.proofs.lemmas.Bool.Decides.{nat_tests}
use Rattle.std.proofs.lemmas.List.{append-nil, get_or_default, length-append, take_at}
use Rattle.std.proofs.lemmas.List.Elements.{filter-append}
use Rattle.span_token.specs.Contexts.{AreWithin}
use Rattle.span_token.specs.Documents.{Doc, characters}
use Rattle.span_token.specs.Extents.{Extent, nth_extent}
use Rattle.span_token.specs.Relations.{does_contain}
use Rattle.span_token.specs.SourceTokens.{run_extent}
use Rattle.span_token.specs.Tokens.{tokens_of}
use Rattle.row_values.specs.Datums.{Datum, span}
use Rattle.row_values.specs.Rows.{RowList, span_in}
use Rattle.scalar_ops.specs.Tables.{Lists}
use Rattle.aql_typed.specs.Meaning.{group_value, found_in}
use Rattle.algebra.specs.declared.node.Local.{Local}
use Rattle.algebra.specs.Operators.{sought_by}
use Rattle.algebra.specs.Shapes.{IsSought}
use Rattle.plan_operators.specs.declared.stretches.Stretch.{Stretch}
use Rattle.plan_operators.specs.Neighbourhoods.{IsIn, IsInSome, FirstsRise, stretch_at, IsReach, BeginIn, PutsStretch, found_from, rows_from, rows_between}
use Rattle.plan_operators.proofs.Found.{found-by_token}
use Rattle.plan_operators.proofs.Numbers.{each-map, filter-none, flat_map-shift, flat_map-split, map-flat_map}
use Rattle.plan_operators.proofs.Reached.{IsFoundNear, found-near, found-limit}
use Rattle.plan_operators.proofs.StretchLemmas.{in-there}
use Rattle.plan_operators.proofs.TokenNumbers.{tokens-in-order, begins-rise, ends-rise}

-- ---- tokens in a run

take-nil : (n : ℕ) → filter (λ (e : Extent). true) [] ≡ take n []
take-nil zero = refl
take-nil (suc n) = refl

part-passing : (p : Extent → Bool) (xs : List Extent) (first past : ℕ) → first ≤ past → ((k : ℕ) (d : Extent) → k < first → k < length xs → p (get_or xs k d) ≡ false)
    → ((k : ℕ) (d : Extent) → first ≤ k → k < past → k < length xs → p (get_or xs k d) ≡ true) → ((k : ℕ) (d : Extent) → past ≤ k → k < length xs → p (get_or xs k d) ≡ false)
    → filter p xs ≡ take (past - first) (drop first xs)
part-passing p [] zero past le low mid high = take-nil (past - 0)
part-passing p [] (suc first) past le low mid high = take-nil (past - suc first)
part-passing p (x ∷ xs) zero zero le low mid high =
    ap (λ b. cond b (x ∷ filter p xs) (filter p xs)) (high 0 x (omega arith) (omega arith))
    ∙ part-passing p xs 0 0 (omega arith) (λ k d a b. absurd (omega (arith, a))) (λ k d a b c. absurd (omega (arith, b))) (λ k d a b. high (suc k) d (omega arith) (omega (arith, b)))
part-passing p (x ∷ xs) zero (suc past) le low mid high =
    let n : suc (past - 0) ≡ suc past - 0 = omega arith in
    ap (λ b. cond b (x ∷ filter p xs) (filter p xs)) (mid 0 x (omega arith) (omega arith) (omega arith))
    ∙ ap (λ ys. x ∷ ys) (part-passing p xs 0 past (omega arith) (λ k d a b. absurd (omega (arith, a)))
    (λ k d a b c. mid (suc k) d (omega arith) (omega (arith, b)) (omega (arith, c))) (λ k d a b. high (suc k) d (omega (arith, a)) (omega (arith, b))))
    ∙ ap (λ m. take m (x ∷ xs)) n
part-passing p (x ∷ xs) (suc first) past le low mid high =
    let n : (past - 1) - first ≡ past - suc first = omega arith in
    ap (λ b. cond b (x ∷ filter p xs) (filter p xs)) (low 0 x (omega arith) (omega arith))
    ∙ part-passing p xs first (past - 1) (omega (arith, le)) (λ k d a b. low (suc k) d (omega (arith, a)) (omega (arith, b)))
    (λ k d a b c. mid (suc k) d (omega (arith, a)) (omega (arith, b)) (omega (arith, c))) (λ k d a b. high (suc k) d (omega (arith, a)) (omega (arith, b)))
    ∙ ap (λ m. take m (drop first xs)) n

module _ (cs : List ℕ) (first past : ℕ) (some : first < past) (there : past ≤ length (tokens_of cs)) where
  in-run : (k : ℕ) (d : Extent) → k < length (tokens_of cs) → get_or (tokens_of cs) k d ≡ nth_extent (tokens_of cs) k
  in-run k d lt = get_or_default (tokens_of cs) k d (record { begin = 0; end = 0 }) lt

  too-early : (k : ℕ) (d : Extent) → k < first → k < length (tokens_of cs) → does_contain (run_extent (tokens_of cs) first (past - 1)) (get_or (tokens_of cs) k d) ≡ false
  too-early k d low lt =
      let order = tokens-in-order cs in
      let filled = order.filled k lt in
      let apart = order.apart k first low (omega (arith, some, there)) in
      let same = in-run k d lt in
      let before : (get_or (tokens_of cs) k d).begin < (nth_extent (tokens_of cs) first).begin = omega (arith, filled, apart, ap (λ (e : Extent). e.begin) same) in
      grind (arith, nat_tests, before)

  within-run : (k : ℕ) (d : Extent) → first ≤ k → k < past → k < length (tokens_of cs) → does_contain (run_extent (tokens_of cs) first (past - 1)) (get_or (tokens_of cs) k d) ≡ true
  within-run k d low high lt =
      let order = tokens-in-order cs in
      let same = in-run k d lt in
      let begins = begins-rise (tokens_of cs) order first k low lt in
      let ends = ends-rise (tokens_of cs) order k (past - 1) (omega (arith, high)) (omega (arith, some, there)) in
      let a : (nth_extent (tokens_of cs) first).begin ≤ (get_or (tokens_of cs) k d).begin = omega (arith, begins, ap (λ (e : Extent). e.begin) same) in
      let b : (get_or (tokens_of cs) k d).end ≤ (nth_extent (tokens_of cs) (past - 1)).end = omega (arith, ends, ap (λ (e : Extent). e.end) same) in
      grind (arith, nat_tests, a, b)

  too-late : (k : ℕ) (d : Extent) → past ≤ k → k < length (tokens_of cs) → does_contain (run_extent (tokens_of cs) first (past - 1)) (get_or (tokens_of cs) k d) ≡ false
  too-late k d low lt =
      let order = tokens-in-order cs in
      let filled = order.filled k lt in
      let apart = order.apart (past - 1) k (omega (arith, low, some)) lt in
      let same = in-run k d lt in
      let behind : (nth_extent (tokens_of cs) (past - 1)).end < (get_or (tokens_of cs) k d).end = omega (arith, filled, apart, ap (λ (e : Extent). e.end) same) in
      grind (arith, nat_tests, behind)

  -- the tokens of a run are those from its first to its last
  pub run-tokens : AreWithin (tokens_of cs) (run_extent (tokens_of cs) first (past - 1)) first past
  run-tokens = record {
    ordered = omega (arith, some);
    in_list = there;
    tokens_are = sym (part-passing (does_contain (run_extent (tokens_of cs) first (past - 1))) (tokens_of cs) first past (omega (arith, some)) too-early within-run too-late);
  }

module _ (lists : Lists) (doc : Doc) (local : Local) (row : List Datum) where
  -- what follows a row for what is found in a source
  pub followed-by_token : (lead row : List Datum) (source : Extent) (first past : ℕ) → AreWithin (tokens_of (characters doc)) source first past → IsSought local → span_in 0 row ≡ Some source
      → map (λ found. lead ++ map group_value found) (found_in lists doc (sought_by local) row) ≡ rows_between lists doc local lead past first past
  followed-by_token lead row source first past within sought at =
      ap (map (λ found. lead ++ map group_value found)) (found-by_token lists doc source first past within local row sought at)
      ∙ map-flat_map (λ found. lead ++ map group_value found) (found_from lists doc local past) (range_with_len first (past - first))

  between-split : (past a b c : ℕ) → a ≤ b → b ≤ c → rows_between lists doc local row past a c ≡ rows_between lists doc local row past a b ++ rows_between lists doc local row past b c
  between-split past a b c ab bc = flat_map-split (rows_from lists doc local row past) a b c ab bc

  between-none : (past a b : ℕ) → b ≤ a → rows_between lists doc local row past a b ≡ []
  between-none past a b le = let n : b - a ≡ 0 = omega (arith, le) in ap (λ k. flat_map (rows_from lists doc local row past) (range_with_len a k)) n

  pub found-behind : (past first stop : ℕ) → first ≤ stop → stop ≤ past → length (rows_between lists doc local row past stop past) ≤ length (rows_between lists doc local row past first past)
  found-behind past first stop ab bc =
      omega (arith, ap length (between-split past first stop past ab bc), length-append (rows_between lists doc local row past first stop) (rows_between lists doc local row past stop past))

  -- the first rows of what is found in some tokens are those of the first tokens
  pub first-found : (past first stop : ℕ) → first ≤ stop → stop ≤ past
      → take (length (rows_between lists doc local row past first past) - length (rows_between lists doc local row past stop past)) (rows_between lists doc local row past first past)
      ≡ rows_between lists doc local row past first stop
  first-found past first stop ab bc =
      let all = between-split past first stop past ab bc in
      let n : length (rows_between lists doc local row past first past) - length (rows_between lists doc local row past stop past) ≡ length (rows_between lists doc local row past first stop) =
      omega (arith, ap length all, length-append (rows_between lists doc local row past first stop) (rows_between lists doc local row past stop past)) in
      ap (λ k. take k (rows_between lists doc local row past first past)) n ∙ ap (take (length (rows_between lists doc local row past first stop))) all
      ∙ take_at (rows_between lists doc local row past first stop) (rows_between lists doc local row past stop past) (length (rows_between lists doc local row past first stop)) refl

  -- and no token behind a match as long as one may be changes them
  pub between-limit : IsUtf8 doc.text → (reach first stop near past : ℕ) → IsReach lists doc local reach → past ≤ length (tokens_of (characters doc)) → near ≤ past → stop + (reach - 1) ≤ near → 1 ≤ reach
      → rows_between lists doc local row near first stop ≡ rows_between lists doc local row past first stop
  between-limit utf8 reach first stop near past reached there inside enough some =
      flat_map-shift (rows_from lists doc local row near) (rows_from lists doc local row past) first first (stop - first)
      (λ i lt. ap (map (λ found. row ++ map group_value found))
      (found-limit doc utf8 lists local reach near (first + i) reached (omega (arith, lt, enough, some)) (omega (arith, inside, there))
      ∙ sym (found-limit doc utf8 lists local reach past (first + i) reached (omega (arith, lt, enough, some, inside)) there)))

  -- ---- what a test passes

  module _ (utf8 : IsUtf8 doc.text) (reach : ℕ) (sought : IsSought local) (reached : IsReach lists doc local reach) (stretches : List Stretch) (keep : List Datum → Bool) (begins : BeginIn doc reach stretches row keep) where
    -- a token in no stretch has no row that passes
    quiet : (past first : ℕ) → past ≤ length (tokens_of (characters doc)) → (IsInSome stretches first → ⊥) → filter keep (rows_from lists doc local row past first) ≡ []
    quiet past first there outside =
        filter-none keep (rows_from lists doc local row past first)
        (each-map (IsFoundNear (tokens_of (characters doc)) reach past first) (λ r. keep r ≡ false) (λ found. row ++ map group_value found) one
        (found_from lists doc local past first) (found-near doc utf8 lists local reach past first sought reached there))
      where
        one : (found : List (Option Extent)) → IsFoundNear (tokens_of (characters doc)) reach past first found → keep (row ++ map group_value found) ≡ false
        one found near = elim (cases_Bool (keep (row ++ span near.extent ∷ []))) [
          | inl passes ↦ absurd (outside (begins near.extent first near.stop near.in_run near.short passes))
          | inr fails ↦ ap (λ (f : List (Option Extent)). keep (row ++ map group_value f)) near.is ∙ fails
        ]

    quiet-between : (past a n : ℕ) → past ≤ length (tokens_of (characters doc)) → ((k : ℕ) → a ≤ k → k < a + n → IsInSome stretches k → ⊥)
        → filter keep (flat_map (rows_from lists doc local row past) (range_with_len a n)) ≡ []
    quiet-between past a zero there outside = refl
    quiet-between past a (suc n) there outside =
        filter-append keep (rows_from lists doc local row past a) (flat_map (rows_from lists doc local row past) (range_with_len (a + 1) n))
        ∙ ap₂ (λ (xs ys : List (List Datum)). xs ++ ys) (quiet past a there (outside a (omega arith) (omega arith)))
        (quiet-between past (a + 1) n there (λ k low high. outside k (omega (arith, low)) (omega (arith, high))))

    -- the rows that pass are those of the tokens so far
    abbrev pub AreKept : ℕ → ℕ → List (List Datum) → ℕ → List (List Datum) → Type 0
    AreKept first past old done new = filter keep new ≡ filter keep (old ++ rows_between lists doc local row past first done)

    kept-more : (xs ys zs : List (List Datum)) → filter keep xs ≡ filter keep ys → filter keep (xs ++ zs) ≡ filter keep (ys ++ zs)
    kept-more xs ys zs same = filter-append keep xs zs ∙ ap (λ ks. ks ++ filter keep zs) same ∙ sym (filter-append keep ys zs)

    kept-skipped : (xs ys zs : List (List Datum)) → filter keep ys ≡ [] → filter keep ((xs ++ ys) ++ zs) ≡ filter keep (xs ++ zs)
    kept-skipped xs ys zs none =
        kept-more (xs ++ ys) xs zs (filter-append keep xs ys ∙ ap (λ ks. filter keep xs ++ ks) none ∙ append-nil (filter keep xs))

    -- all stretches with lower numbers are passed
    abbrev pub ArePassed : ℕ → ℕ → ℕ → Type 0
    ArePassed number past done = (n : ℕ) → n < number → min (stretch_at stretches n).past past ≤ done

    module _ (past first : ℕ) (there : past ≤ length (tokens_of (characters doc))) (rise : FirstsRise stretches) where
      -- tokens from those that are passed to the next stretch are in none
      between-stretches : (number from begin : ℕ) → number < length stretches → ArePassed number past from → begin ≤ max from (stretch_at stretches number).first → begin ≤ past
          → (k : ℕ) → from ≤ k → k < begin → IsInSome stretches k → ⊥
      between-stretches number from begin listed passed in_front within k low high some = elim (cases_lt some.0 number) [
        | inl before ↦
            let over = passed some.0 before in
            let inside = some.1.to in
            absurd (omega (arith, over, inside, low, high, within))
        | inr late ↦
            let inside = some.1.«from» in
            let here = some.1.to in
            let rises = later some.0 late (there_is some.0 k some.1) in
            absurd (omega (arith, inside, rises, in_front, low, high))
      ]
        where
          there_is : (n k : ℕ) → IsIn (stretch_at stretches n).first (stretch_at stretches n).past k → n < length stretches
          there_is n k inside = in-there stretches k n inside

          later : (n : ℕ) → number ≤ n → n < length stretches → (stretch_at stretches number).first ≤ (stretch_at stretches n).first
          later n le lt = rise number n (record { first = 0; past = 0 }) le lt

      -- one stretch after another
      pub kept-next : (number from done : ℕ) (stretch : Stretch) (old mid new : RowList) → number < length stretches → stretch ≡ stretch_at stretches number → first ≤ from
          → ArePassed number past from → AreKept first past old.rows from mid.rows → PutsStretch lists doc local row stretch from past done mid new
          → AreKept first past old.rows done new.rows
      kept-next number from done stretch old mid new listed at ahead passed kept puts =
          let begin = puts.begin in
          let after = puts.after in
          let n : begin - from + from ≡ begin = omega (arith, after) in
          let none : filter keep (rows_between lists doc local row past from begin) ≡ [] =
          quiet-between past from (begin - from) there (λ k low high.
          between-stretches number from begin listed passed (subst (λ (s : Stretch). begin ≤ max from s.first) at puts.in_front) (omega (arith, puts.up_to, puts.within)) k low (omega (arith, high, after))) in
          let rest = rows_between lists doc local row past begin done in
          let before = rows_between lists doc local row past first from in
          ap (λ (l : RowList). filter keep l.rows) puts.put
          ∙ kept-more mid.rows (old.rows ++ before) rest kept
          ∙ sym (kept-skipped (old.rows ++ before) (rows_between lists doc local row past from begin) rest none)
          ∙ ap (filter keep) (regroup old.rows before (rows_between lists doc local row past from begin) rest)
          ∙ ap (λ rows. filter keep (old.rows ++ rows))
          (ap (λ rows. rows ++ rest) (sym (between-split past first from begin ahead after)) ∙ sym (between-split past first begin done (omega (arith, ahead, after)) puts.up_to))
        where
          regroup : (a b c d : List (List Datum)) → ((a ++ b) ++ c) ++ d ≡ a ++ ((b ++ c) ++ d)
          regroup a b c d = ap (λ x. x ++ d) (append_assoc a b c) ∙ append_assoc a (b ++ c) d

      -- the tokens behind all stretches are in none
      pub kept-all : (done : ℕ) (old new : List (List Datum)) → first ≤ done → done ≤ past → ArePassed (length stretches) past done → AreKept first past old done new → AreKept first past old past new
      kept-all done old new ahead within passed kept =
          let before = rows_between lists doc local row past first done in
          let none : filter keep (rows_between lists doc local row past done past) ≡ [] =
          quiet-between past done (past - done) there (λ k low high some. behind k low (omega (arith, high, within)) some) in
          kept
          ∙ (sym (append-nil (filter keep (old ++ before))) ∙ ap (λ ks. filter keep (old ++ before) ++ ks) (sym none) ∙ sym (filter-append keep (old ++ before) (rows_between lists doc local row past done past)))
          ∙ ap (filter keep) (append_assoc old before (rows_between lists doc local row past done past) ∙ ap (λ rows. old ++ rows) (sym (between-split past first done past ahead within)))
        where
          behind : (k : ℕ) → done ≤ k → k < past → IsInSome stretches k → ⊥
          behind k low high some =
              let over = passed some.0 (in-there stretches k some.0 some.1) in
              let inside = some.1.to in
              absurd (omega (arith, over, inside, low, high))

-- one more stretch is passed
pub passed-next : (stretches : List Stretch) (number past from done : ℕ) → ((n : ℕ) → n < number → min (stretch_at stretches n).past past ≤ from) → from ≤ done
    → min (stretch_at stretches number).past past ≤ done → (n : ℕ) → n < number + 1 → min (stretch_at stretches n).past past ≤ done
passed-next stretches number past from done passed later here n lt = elim (cases_lt n number) [
  | inl before ↦ omega (arith, passed n before, later)
  | inr at ↦ let is : n ≡ number = omega (arith, at, lt) in omega (arith, here, ap (λ k. (stretch_at stretches k).past) is)
]
