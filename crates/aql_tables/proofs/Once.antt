-- One more value at the end of a list in which each stands once.
use Rattle.std.proofs.Common.{◌≡◌, ◌∙◌, ℕ, zero, suc, Some, ◌+◌, ◌<◌, Bool, true, false, not, cond, ◌||◌, List, [], ◌∷◌, ◌++◌, length, get_or, refl, ap, sym, subst, arith, true≢false}
use Rattle.std.specs.List.{filter, list_any, slice_get, All, AllPairs, Contains}
use Rattle.std.proofs.lemmas.Option.{slice_get-get_or}
use Rattle.std.proofs.lemmas.List.Folds.{list_any_at}
use Rattle.std.proofs.lemmas.List.Kept.{AllPairs-filter}
use Rattle.std.proofs.lemmas.List.{append-nil}
use Rattle.std.proofs.lemmas.List.Elements.{filter-append, filter_passes, All-cons, All-head, All-tail, All-filter, All-weaker}
use Rattle.view_graph.specs.Names.{AllDiffer}
use Rattle.std.proofs.lemmas.List.{length-append}
use Rattle.aql_tables.specs.Numbers.{each_once, number_among}
use Rattle.aql_tables.specs.Kept.{IsAt}

module _ {X : Type 0} (same : X → X → Bool) (is : (x y : X) → same x y ≡ true → x ≡ y) (itself : (x : X) → same x x ≡ true) where
  -- with one more value, if it isn't there
  abbrev pub pushed : List X → X → List X
  pushed ks x = cond (list_any (same x) ks) ks (ks ++ x ∷ [])

  any_kept : (p : X → Bool) (x : X) (ks : List X) → p x ≡ true → list_any (same x) (filter p ks) ≡ list_any (same x) ks
  any_kept p x [] passes = refl
  any_kept p x (k ∷ ks) passes = by (p k) (same x k) refl refl (any_kept p x ks passes)
    where
      by : (b s : Bool) → p k ≡ b → same x k ≡ s → list_any (same x) (filter p ks) ≡ list_any (same x) ks
          → list_any (same x) (filter p (k ∷ ks)) ≡ list_any (same x) (k ∷ ks)
      by true s kept told more = rw kept (ap (λ b. same x k || b) more)
      by false false kept told more = rw (kept, told) more
      by false true kept told more = absurd (true≢false (sym passes ∙ (ap p (is x k told) ∙ kept)))

  away : (p : X → Bool) (x : X) (ks : List X) → p x ≡ false → filter p (pushed ks x) ≡ filter p ks
  away p x ks fails = by (list_any (same x) ks)
    where
      by : (b : Bool) → filter p (cond b ks (ks ++ x ∷ [])) ≡ filter p ks
      by true = refl
      by false = filter-append p ks (x ∷ []) ∙ (ap (λ b. filter p ks ++ cond b (x ∷ []) []) fails ∙ append-nil (filter p ks))

  kept : (p : X → Bool) (x : X) (ks : List X) → p x ≡ true → filter p (pushed ks x) ≡ pushed (filter p ks) x
  kept p x ks passes = by (list_any (same x) ks) ∙ ap (λ b. cond b (filter p ks) (filter p ks ++ x ∷ [])) (sym (any_kept p x ks passes))
    where
      by : (b : Bool) → filter p (cond b ks (ks ++ x ∷ [])) ≡ cond b (filter p ks) (filter p ks ++ x ∷ [])
      by true = refl
      by false = filter-append p ks (x ∷ []) ∙ ap (λ b. filter p ks ++ cond b (x ∷ []) []) passes

  pub apart : (x k : X) → same x k ≡ false → same k x ≡ false
  apart x k told = by (same k x) refl
    where
      by : (b : Bool) → same k x ≡ b → same k x ≡ false
      by false e = e
      by true e = absurd (true≢false (sym (itself x) ∙ (ap (same x) (sym (is k x e)) ∙ told)))

  -- one more value
  pub each_once-push : (xs : List X) (x : X) → each_once same (xs ++ x ∷ []) ≡ pushed (each_once same xs) x
  each_once-push [] x = refl
  each_once-push (k ∷ xs) x = by (same x k) refl (each_once-push xs x)
    where
      by : (b : Bool) → same x k ≡ b → each_once same (xs ++ x ∷ []) ≡ pushed (each_once same xs) x
          → each_once same (k ∷ xs ++ x ∷ []) ≡ pushed (each_once same (k ∷ xs)) x
      by true told more =
          ap (λ (ys : List X). k ∷ filter (λ y. not (same k y)) ys) more
          ∙ (ap (λ (ys : List X). k ∷ ys) (away (λ y. not (same k y)) x (each_once same xs) (ap not (ap (same k) (is x k told) ∙ itself k)))
          ∙ ap (λ b. cond (b || list_any (same x) (filter (λ y. not (same k y)) (each_once same xs))) (each_once same (k ∷ xs)) (each_once same (k ∷ xs) ++ x ∷ [])) (sym told))
      by false told more =
          ap (λ (ys : List X). k ∷ filter (λ y. not (same k y)) ys) more
          ∙ (ap (λ (ys : List X). k ∷ ys) (kept (λ y. not (same k y)) x (each_once same xs) (ap not (apart x k told)))
          ∙ (push_behind (list_any (same x) (filter (λ y. not (same k y)) (each_once same xs)))
          ∙ ap (λ b. cond (b || list_any (same x) (filter (λ y. not (same k y)) (each_once same xs))) (each_once same (k ∷ xs)) (each_once same (k ∷ xs) ++ x ∷ [])) (sym told)))
        where
          push_behind : (b : Bool) → k ∷ cond b (filter (λ y. not (same k y)) (each_once same xs)) (filter (λ y. not (same k y)) (each_once same xs) ++ x ∷ [])
              ≡ cond b (each_once same (k ∷ xs)) (each_once same (k ∷ xs) ++ x ∷ [])
          push_behind true = refl
          push_behind false = refl

  -- ---- numbers

  -- what has a number is there
  pub there : (x : X) (ks : List X) → number_among same x ks < length ks → list_any (same x) ks ≡ true
  there x [] within = absurd (omega (arith, within))
  there x (k ∷ ks) within = by (same x k) refl (there x ks)
    where
      by : (b : Bool) → same x k ≡ b → (number_among same x ks < length ks → list_any (same x) ks ≡ true) → list_any (same x) (k ∷ ks) ≡ true
      by true told more = ap (λ b. b || list_any (same x) ks) told
      by false told more = ap (λ b. b || list_any (same x) ks) told ∙ more (grind (arith, told, within))

  -- what has none isn't
  pub not_there : (x : X) (ks : List X) → number_among same x ks ≡ length ks → list_any (same x) ks ≡ false
  not_there x [] past = refl
  not_there x (k ∷ ks) past = by (same x k) refl (not_there x ks)
    where
      by : (b : Bool) → same x k ≡ b → (number_among same x ks ≡ length ks → list_any (same x) ks ≡ false) → list_any (same x) (k ∷ ks) ≡ false
      by true told more = absurd (grind (arith, told, past))
      by false told more = ap (λ b. b || list_any (same x) ks) told ∙ more (grind (arith, told, past))

  -- a value that has a number keeps it
  pub number_kept : (x : X) (ks more : List X) → number_among same x ks < length ks → number_among same x (ks ++ more) ≡ number_among same x ks
  number_kept x [] more within = absurd (omega (arith, within))
  number_kept x (k ∷ ks) more within = by (same x k) refl (number_kept x ks more)
    where
      by : (b : Bool) → same x k ≡ b → (number_among same x ks < length ks → number_among same x (ks ++ more) ≡ number_among same x ks)
          → number_among same x (k ∷ ks ++ more) ≡ number_among same x (k ∷ ks)
      by true told kept = rw told refl
      by false told kept = rw told (ap (λ (n : ℕ). 1 + n) (kept (grind (arith, told, within))))

  -- a value that has none comes to stand after all
  pub number_new : (x : X) (ks more : List X) → number_among same x ks ≡ length ks → number_among same x (ks ++ more) ≡ length ks + number_among same x more
  number_new x [] more past = omega arith
  number_new x (k ∷ ks) more past = by (same x k) refl (number_new x ks more)
    where
      by : (b : Bool) → same x k ≡ b → (number_among same x ks ≡ length ks → number_among same x (ks ++ more) ≡ length ks + number_among same x more)
          → number_among same x (k ∷ ks ++ more) ≡ length (k ∷ ks) + number_among same x more
      by true told after = absurd (grind (arith, told, past))
      by false told after = grind (arith, told, after (grind (arith, told, past)))

  -- at its number stands the value
  pub at_number : (x : X) (ks : List X) (d : X) → number_among same x ks < length ks → get_or ks (number_among same x ks) d ≡ x
  at_number x [] d within = absurd (omega (arith, within))
  at_number x (k ∷ ks) d within = by (same x k) refl (at_number x ks d)
    where
      by : (b : Bool) → same x k ≡ b → (number_among same x ks < length ks → get_or ks (number_among same x ks) d ≡ x)
          → get_or (k ∷ ks) (number_among same x (k ∷ ks)) d ≡ x
      by true told later = rw told (sym (is x k told))
      by false told later = grind (arith, told, later (grind (arith, told, within)))

  -- a value that is added stands last
  pub at_last : (x : X) (ks : List X) → number_among same x ks ≡ length ks → IsAt same (ks ++ x ∷ []) x (length ks)
  at_last x ks past = record {
    number_is = number_new x ks (x ∷ []) past ∙ grind (arith, itself x);
    within = rw (length-append ks (x ∷ [])) (omega arith);
  }

  -- one that was there stays where it is
  pub at_more : (x : X) (ks more : List X) (n : ℕ) → IsAt same ks x n → IsAt same (ks ++ more) x n
  at_more x ks more n at = record {
    number_is = number_kept x ks more (subst (λ (i : ℕ). i < length ks) (sym at.number_is) at.within) ∙ at.number_is;
    within = rw (length-append ks more) (omega (arith, at.within));
  }

  -- one that wasn't there isn't, where another is added
  pub past_more : (x k : X) (ks : List X) → number_among same x ks ≡ length ks → same x k ≡ false → number_among same x (ks ++ k ∷ []) ≡ length (ks ++ k ∷ [])
  past_more x k ks past other = number_new x ks (k ∷ []) past ∙ (grind (arith, other) ∙ sym (length-append ks (k ∷ [])))

  -- one that is there is added to no avail
  pub pushed_known : (x : X) (ks : List X) (n : ℕ) → IsAt same ks x n → pushed ks x ≡ ks
  pushed_known x ks n at = ap (λ b. cond b ks (ks ++ x ∷ [])) (there x ks (subst (λ (i : ℕ). i < length ks) (sym at.number_is) at.within))

  pub pushed_new : (x : X) (ks : List X) → number_among same x ks ≡ length ks → pushed ks x ≡ ks ++ x ∷ []
  pushed_new x ks past = ap (λ b. cond b ks (ks ++ x ∷ [])) (not_there x ks past)

  -- ---- what each stands for

  -- the same values are there
  any_each : (x : X) (xs : List X) → list_any (same x) (each_once same xs) ≡ list_any (same x) xs
  any_each x [] = refl
  any_each x (k ∷ xs) = by (same x k) refl (any_each x xs)
    where
      by : (b : Bool) → same x k ≡ b → list_any (same x) (each_once same xs) ≡ list_any (same x) xs
          → list_any (same x) (each_once same (k ∷ xs)) ≡ list_any (same x) (k ∷ xs)
      by true told more = rw told refl
      by false told more = rw told (any_kept (λ y. not (same k y)) x (each_once same xs) (ap not (apart x k told)) ∙ more)

  within : (x : X) (ks : List X) → list_any (same x) ks ≡ true → number_among same x ks < length ks
  within x [] any = absurd (true≢false (sym any))
  within x (k ∷ ks) any = by (same x k) refl (within x ks)
    where
      by : (b : Bool) → same x k ≡ b → (list_any (same x) ks ≡ true → number_among same x ks < length ks) → number_among same x (k ∷ ks) < length (k ∷ ks)
      by true told later = rw told (omega arith)
      by false told later = rw told (omega (arith, later (ap (λ b. b || list_any (same x) ks) (sym told) ∙ any)))

  -- what stands in the list has its number among those that stand once
  pub found_each : (xs : List X) (x : X) → Contains xs x → slice_get (each_once same xs) (number_among same x (each_once same xs)) ≡ Some x
  found_each xs x at =
      let there = within x (each_once same xs) (any_each x xs ∙ list_any_at (same x) xs at.0 x at.1 (ap (same x) at.2 ∙ itself x)) in
      slice_get-get_or (each_once same xs) (number_among same x (each_once same xs)) x there ∙ ap (λ (y : X). Some y) (at_number x (each_once same xs) x there)

  -- what is true of all is true of those that stand once
  pub all_each : (P : X → Type 0) (xs : List X) → All P xs → All P (each_once same xs)
  all_each P [] all = all
  all_each P (x ∷ xs) all =
      All-cons P x (filter (λ y. not (same x y)) (each_once same xs)) (All-head P x xs all)
      (All-filter (λ y. not (same x y)) P (each_once same xs) (all_each P xs (All-tail P x xs all)))

  pairs_cons : (R : X → X → Type 0) (x : X) (xs : List X) → All (R x) xs → AllPairs R xs → AllPairs R (x ∷ xs)
  pairs_cons R x xs first rest zero zero d before within = absurd (omega (arith, before))
  pairs_cons R x xs first rest zero (suc j) d before within = first j d (omega (arith, within))
  pairs_cons R x xs first rest (suc i) zero d before within = absurd (omega (arith, before))
  pairs_cons R x xs first rest (suc i) (suc j) d before within = rest i j d (omega (arith, before)) (omega (arith, within))

  -- each stands once
  pub differ_each : (xs : List X) → AllDiffer (each_once same xs)
  differ_each [] = λ i j d before within. absurd (omega (arith, within))
  differ_each (x ∷ xs) =
      let others = filter (λ y. not (same x y)) (each_once same xs) in
      pairs_cons (λ a b. ¬ (a ≡ b)) x others
      (All-weaker (λ y. not (same x y) ≡ true) (λ y. ¬ (x ≡ y)) (λ y passes is. true≢false (sym passes ∙ ap not (ap (same x) (sym is) ∙ itself x))) others (filter_passes (λ y. not (same x y)) (each_once same xs)))
      (AllPairs-filter (λ a b. ¬ (a ≡ b)) (λ y. not (same x y)) (each_once same xs) (differ_each xs))
