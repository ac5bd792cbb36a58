-- Lists without a value that stands twice, and the first value that does.
use Rattle.std.proofs.Common.{◌≡◌, ◌∙◌, ◌<◌, ◌≤◌, ◌⊎◌, inl, inr, ⊎_elim, ℕ, zero, suc, List, [], ◌∷◌, ◌++◌, flat_map, length, get_or, Contains, All, refl, ap, sym, subst, append_assoc, arith}
use lib.Dec.{eqb}
use Rattle.std.specs.List.{remove}
use Rattle.std.specs.List.Sorted.{IsPermutation}
use Rattle.std.proofs.lemmas.Bool.{cases_eq, cases_order}
use Rattle.std.proofs.lemmas.Bool.Decides.{Decides-eqb, nat_tests}
use Rattle.std.proofs.lemmas.Map.Keys.{IsDistinct-IsPermutation}
use Rattle.std.proofs.lemmas.Map.Made.{AllPairs-from_IsDistinct, IsDistinct-from_AllPairs}
use Rattle.std.proofs.lemmas.List.{append-nil, get_or_at, get_or_append_left, get_or_default}
use Rattle.std.proofs.lemmas.List.Concat.{flat_map-append}
use Rattle.std.proofs.lemmas.List.Elements.{All-contains, All-cons, All-head, All-tail, Contains-append_right, Contains-append_cases, Contains-push_cases}
use Rattle.std.proofs.lemmas.List.Quantifiers.{all_pairs_push}
use Rattle.std.proofs.lemmas.List.Sorted.{All-permutation, length_permutation, IsPermutation-remove}
use Rattle.view_graph.specs.Names.{AllDiffer}

-- it holds or it doesn't
abbrev pub Or : Type 0 → Type 0
Or P = P ⊎ ¬ P

-- a list of one has that one
pub in_one : {X : Type 0} (x y : X) → Contains (x ∷ []) y → x ≡ y
in_one x y at = ⊎_elim (λ none. absurd (omega (arith, none.1))) (λ same. same) (Contains-push_cases [] x y at)

pub head_same : {X : Type 0} (x y : X) (xs ys : List X) → x ∷ xs ≡ y ∷ ys → x ≡ y
head_same x y xs ys e = cc

pub tail_same : {X : Type 0} (x y : X) (xs ys : List X) → x ∷ xs ≡ y ∷ ys → xs ≡ ys
tail_same x y xs ys e = cc

module _ {X : Type 0} (same : (x y : X) → Or (x ≡ y)) where
  -- a list has a value or not
  pub contains_or : (xs : List X) (x : X) → Or (Contains xs x)
  contains_or [] x = inr (λ at. omega (arith, at.1))
  contains_or (y ∷ ys) x = by (same y x) (contains_or ys x)
    where
      by : Or (y ≡ x) → Or (Contains ys x) → Or (Contains (y ∷ ys) x)
      by (inl is) later = inl (0, omega arith, is)
      by (inr isnt) (inl at) = inl (Contains-append_right (y ∷ []) ys x at)
      by (inr isnt) (inr none) = inr (λ at. ⊎_elim (λ one. isnt (in_one y x one)) none (Contains-append_cases (y ∷ []) ys x at))

-- a value that stood before makes two of it
pub twice : {X : Type 0} (xs more : List X) (x : X) → Contains xs x → AllDiffer (xs ++ x ∷ more) → ⊥
twice xs more x at differ =
    differ at.0 (length xs) x at.1 (shorter xs more x)
    (get_or_append_left xs (x ∷ more) x at.0 at.1 ∙ at.2 ∙ sym (get_or_at xs x more x (length xs) refl))
  where
    shorter : {X : Type 0} (xs more : List X) (x : X) → length xs < length (xs ++ x ∷ more)
    shorter [] more x = omega arith
    shorter (y ∷ ys) more x = omega (arith, shorter ys more x)

-- one more value that wasn't there
pub differ_push : {X : Type 0} (xs : List X) (x : X) → AllDiffer xs → ¬ (Contains xs x) → AllDiffer (xs ++ x ∷ [])
differ_push xs x differ new =
    all_pairs_push (λ a b. ¬ (a ≡ b)) xs x differ (λ k d below is. new (k, below, get_or_default xs k x d below ∙ is))

-- ---- the same list cut at two indexes

-- what stands before the later cut
pub later_cut : {S : Type 0} (b c : List S) (s t : S) (a e : List S) → b ++ s ∷ a ≡ c ++ t ∷ e → length b < length c → (more : List S) × (c ≡ b ++ s ∷ more)
later_cut [] [] s t a e is less = absurd (omega (arith, less))
later_cut [] (y ∷ ys) s t a e is less = (ys, ap (λ z. z ∷ ys) (sym (head_same s y a (ys ++ t ∷ e) is)))
later_cut (x ∷ xs) [] s t a e is less = absurd (omega (arith, less))
later_cut (x ∷ xs) (y ∷ ys) s t a e is less =
    let rest = later_cut xs ys s t a e (tail_same x y (xs ++ s ∷ a) (ys ++ t ∷ e) is) (omega (arith, less)) in
    (rest.0, ap (λ z. z ∷ ys) (sym (head_same x y (xs ++ s ∷ a) (ys ++ t ∷ e) is)) ∙ ap (λ zs. x ∷ zs) rest.1)

pub same_cut : {S : Type 0} (b c : List S) (s t : S) (a e : List S) → b ++ s ∷ a ≡ c ++ t ∷ e → length b ≡ length c → (b ≡ c) × (s ≡ t)
same_cut [] [] s t a e is long = (refl, head_same s t a e is)
same_cut [] (y ∷ ys) s t a e is long = absurd (omega (arith, long))
same_cut (x ∷ xs) [] s t a e is long = absurd (omega (arith, long))
same_cut (x ∷ xs) (y ∷ ys) s t a e is long =
    let rest = same_cut xs ys s t a e (tail_same x y (xs ++ s ∷ a) (ys ++ t ∷ e) is) (omega (arith, long)) in
    (ap (λ z. z ∷ xs) (head_same x y (xs ++ s ∷ a) (ys ++ t ∷ e) is) ∙ ap (λ zs. y ∷ zs) rest.0, rest.1)

-- ---- the first element that gives a value again

module _ {S X : Type 0} (start : List X) (f : S → List X) where
  -- the values before an element
  abbrev pub given : List S → List X
  given before = start ++ flat_map f before

  given-append : (before after : List S) → given (before ++ after) ≡ given before ++ flat_map f after
  given-append before after = ap (λ more. start ++ more) (flat_map-append f before after) ∙ sym (append_assoc start (flat_map f before) (flat_map f after))

  -- the element is the first that gives a value which was given before
  pub record Again (whole : List S) : Type 0 where
    pub before : List S
    pub element : S
    pub after : List S
    pub split : whole ≡ before ++ element ∷ after
    pub value : X
    pub gives : f element ≡ value ∷ []
    pub again : Contains (given before) value
    pub first : AllDiffer (given before)

  pub given_at : (before more : List S) (s : S) (x : X) → f s ≡ x ∷ [] → given (before ++ s ∷ more) ≡ given before ++ x ∷ flat_map f more
  given_at before more s x gives = given-append before (s ∷ more) ∙ ap (λ (xs : List X). given before ++ (xs ++ flat_map f more)) gives

  -- where a value is given again, not all differ
  pub again_not : (whole : List S) → Again whole → ¬ (AllDiffer (given whole))
  again_not whole h differ =
      twice (given h.before) (flat_map f h.after) h.value h.again
      (subst (λ (xs : List X). AllDiffer xs) (ap given h.split ∙ given_at h.before h.after h.element h.value h.gives) differ)

  before_not : (whole : List S) (h k : Again whole) → ¬ (length h.before < length k.before)
  before_not whole h k less =
      let more = later_cut h.before k.before h.element k.element h.after k.after (sym h.split ∙ k.split) less in
      again_not k.before (record { before = h.before; element = h.element; after = more.0; split = more.1; value = h.value; gives = h.gives; again = h.again; first = h.first }) k.first

  -- there is one first
  pub one_again : (whole : List S) (h k : Again whole) → (length h.before ≡ length k.before) × (h.value ≡ k.value)
  one_again whole h k = by (cases_order (length h.before) (length k.before))
    where
      by : (length h.before ≡ length k.before) ⊎ ((length h.before < length k.before) ⊎ (length k.before < length h.before)) → (length h.before ≡ length k.before) × (h.value ≡ k.value)
      by (inl long) =
          let cut = same_cut h.before k.before h.element k.element h.after k.after (sym h.split ∙ k.split) long in
          (long, head_same h.value k.value [] [] (sym h.gives ∙ ap f cut.1 ∙ k.gives))
      by (inr (inl less)) = absurd (before_not whole h k less)
      by (inr (inr more)) = absurd (before_not whole k h more)

  module _ (same : (x y : X) → Or (x ≡ y)) (few : (s : S) → (f s ≡ []) ⊎ ((x : X) × (f s ≡ x ∷ []))) where
    abbrev On : List S → S → List S → Type 0
    On before s ss = AllDiffer (given (before ++ s ∷ [])) → AllDiffer (given (before ++ s ∷ ss)) ⊎ Again (before ++ s ∷ ss)

    -- all differ, or there is a first
    pub again_or : (before rest : List S) → AllDiffer (given before) → AllDiffer (given (before ++ rest)) ⊎ Again (before ++ rest)
    again_or before [] differ = inl (subst (λ (ss : List S). AllDiffer (given ss)) (sym (append-nil before)) differ)
    again_or before (s ∷ ss) differ =
        by (few s) (λ h. subst (λ (whole : List S). AllDiffer (given whole) ⊎ Again whole) (append_assoc before (s ∷ []) ss) (again_or (before ++ s ∷ []) ss h))
      where
        seen : (x : X) → f s ≡ x ∷ [] → On before s ss → Or (Contains (given before) x) → AllDiffer (given (before ++ s ∷ ss)) ⊎ Again (before ++ s ∷ ss)
        seen x gives on (inl at) = inr (record { before = before; element = s; after = ss; split = refl; value = x; gives = gives; again = at; first = differ })
        seen x gives on (inr new) = on (subst (λ (xs : List X). AllDiffer xs) (sym (given_at before [] s x gives)) (differ_push (given before) x differ new))

        by : (f s ≡ []) ⊎ ((x : X) × (f s ≡ x ∷ [])) → On before s ss → AllDiffer (given (before ++ s ∷ ss)) ⊎ Again (before ++ s ∷ ss)
        by (inl none) on = on (subst (λ (xs : List X). AllDiffer xs) (sym (given-append before (s ∷ []) ∙ ap (λ (xs : List X). given before ++ (xs ++ [])) none ∙ append-nil (given before))) differ)
        by (inr one) on = seen one.0 one.1 on (contains_or same (given before) one.0)

-- ---- the first value that doesn't hold

module _ {X : Type 0} (P : X → Type 0) where
  -- it doesn't hold, and all before do
  pub record Fails (xs : List X) : Type 0 where
    pub earlier : List X
    pub value : X
    pub later : List X
    pub split : xs ≡ earlier ++ value ∷ later
    pub fails : ¬ (P value)
    pub first : All P earlier

  in_middle : (xs ys : List X) (x : X) → Contains (xs ++ x ∷ ys) x
  in_middle xs ys x = Contains-append_right xs (x ∷ ys) x (0, omega arith, refl)

  pub fails_not : (xs : List X) → Fails xs → ¬ (All P xs)
  fails_not xs h all = h.fails (All-contains P xs h.value all (subst (λ (ys : List X). Contains ys h.value) (sym h.split) (in_middle h.earlier h.later h.value)))

  earlier_not : (xs : List X) (h k : Fails xs) → ¬ (length h.earlier < length k.earlier)
  earlier_not xs h k less =
      let more = later_cut h.earlier k.earlier h.value k.value h.later k.later (sym h.split ∙ k.split) less in
      fails_not k.earlier (record { earlier = h.earlier; value = h.value; later = more.0; split = more.1; fails = h.fails; first = h.first }) k.first

  pub one_fails : (xs : List X) (h k : Fails xs) → (h.earlier ≡ k.earlier) × (h.value ≡ k.value)
  one_fails xs h k = by (cases_order (length h.earlier) (length k.earlier))
    where
      by : (length h.earlier ≡ length k.earlier) ⊎ ((length h.earlier < length k.earlier) ⊎ (length k.earlier < length h.earlier)) → (h.earlier ≡ k.earlier) × (h.value ≡ k.value)
      by (inl long) = same_cut h.earlier k.earlier h.value k.value h.later k.later (sym h.split ∙ k.split) long
      by (inr (inl less)) = absurd (earlier_not xs h k less)
      by (inr (inr more)) = absurd (earlier_not xs k h more)

  pub fails_or : ((x : X) → Or (P x)) → (xs : List X) → All P xs ⊎ Fails xs
  fails_or holds [] = inl (λ k d below. absurd (omega (arith, below)))
  fails_or holds (x ∷ xs) = by (holds x) (fails_or holds xs)
    where
      by : Or (P x) → All P xs ⊎ Fails xs → All P (x ∷ xs) ⊎ Fails (x ∷ xs)
      by (inr isnt) rest = inr (record { earlier = []; value = x; later = xs; split = refl; fails = isnt; first = λ k d below. absurd (omega (arith, below)) })
      by (inl is) (inl all) = inl (All-cons P x xs is all)
      by (inl is) (inr h) = inr (record { earlier = x ∷ h.earlier; value = h.value; later = h.later; split = ap (λ ys. x ∷ ys) h.split; fails = h.fails; first = All-cons P x h.earlier is h.first })

-- ---- numbers

pub differ_permutation : (xs ys : List ℕ) → IsPermutation xs ys → AllDiffer xs → AllDiffer ys
differ_permutation xs ys moved differ =
    AllPairs-from_IsDistinct Decides-eqb ys (IsDistinct-IsPermutation eqb flips xs ys moved (IsDistinct-from_AllPairs Decides-eqb xs differ))
  where
    flips : (x y : ℕ) → eqb x y ≡ eqb y x
    flips x y = grind (arith, nat_tests)

-- as many distinct numbers below n are at most n
pub at_most : (n : ℕ) (xs : List ℕ) → All (λ x. x < n) xs → AllDiffer xs → length xs ≤ n
at_most zero [] below differ = omega arith
at_most zero (x ∷ xs) below differ = absurd (omega (arith, All-head (λ x. x < zero) x xs below))
at_most (suc n) xs below differ = by (at_most n) (contains_or cases_eq xs n)
  where
    lower : (ys : List ℕ) → All (λ x. x < suc n) ys → ((x : ℕ) → Contains ys x → ¬ (x ≡ n)) → All (λ x. x < n) ys
    lower ys all other = λ k d within.
        let a = all k d within in
        let b = other (get_or ys k d) (k, within, get_or_default ys k (get_or ys k d) d within) in
        omega (arith, a, b)

    by : ((ys : List ℕ) → All (λ x. x < n) ys → AllDiffer ys → length ys ≤ n) → Or (Contains xs n) → length xs ≤ suc n
    by at_most_n (inr none) = omega (arith, at_most_n xs (lower xs below (λ x at is. none (subst (λ (y : ℕ). Contains xs y) is at))) differ)
    by at_most_n (inl at) =
        let moved : IsPermutation xs (n ∷ remove xs at.0) = IsPermutation-remove xs at.0 n at.1 (sym at.2) in
        let apart : AllDiffer (n ∷ remove xs at.0) = differ_permutation xs (n ∷ remove xs at.0) moved differ in
        let all : All (λ x. x < suc n) (n ∷ remove xs at.0) = All-permutation (λ x. x < suc n) xs (n ∷ remove xs at.0) moved below in
        let less : length (remove xs at.0) ≤ n = at_most_n (remove xs at.0)
        (lower (remove xs at.0) (All-tail (λ x. x < suc n) n (remove xs at.0) all) (λ x found is. apart 0 (suc found.0) x (omega arith) (omega (arith, found.1)) (sym is ∙ sym found.2)))
        (λ i j d before within. apart (suc i) (suc j) d (omega (arith, before)) (omega (arith, within))) in
        omega (arith, less, length_permutation xs (n ∷ remove xs at.0) moved)
