-- What a set of lists of numbers tells of a list that is put into it.
use Rattle.std.proofs.Common.{◌≡◌, ◌∙◌, ℕ, ℤ, ◌<◌, inl, inr, Bool, true, false, not, cond, List, [], ◌∷◌, ◌++◌, length, map, get_or, set, slice_get, refl, sym, ap, arith, true≢false, Some}
use Rattle.std.specs.List.{list_any}
use Rattle.std.specs.Cmp.{signed_Decides}
use Rattle.share_plan.specs.Indexes.{Key, same, IsInserted}
use Rattle.std.proofs.lemmas.Bool.{cases_lt}
use Rattle.std.proofs.lemmas.List.{get_or-map, get_or-set_same, get_or-set_other, length-append, length-set, get_or_append_left}
use Rattle.std.proofs.lemmas.List.Folds.{list_any_at}
use Rattle.std.proofs.lemmas.Option.{slice_get_within, get_or_from_slice_get, slice_get-get_or}
use Rattle.std.proofs.lemmas.Slice.Eq.{slice_eq-Decides}

-- ---- elements of lists by their numbers

module _ {X : Type 0} (d : X) where
  pub there_in_front : (xs ys : List X) (i : ℕ) → i < length xs → slice_get (xs ++ ys) i ≡ slice_get xs i
  there_in_front xs ys i below =
      slice_get-get_or (xs ++ ys) i d (omega (arith, below, length-append xs ys))
      ∙ (ap (λ (x : X). Some x) (get_or_append_left xs ys d i below) ∙ sym (slice_get-get_or xs i d below))

  pub there_set_other : (xs : List X) (i j : ℕ) (x : X) → j < length xs → (j ≡ i → ⊥) → slice_get (set xs i x) j ≡ slice_get xs j
  there_set_other xs i j x below apart =
      slice_get-get_or (set xs i x) j d (omega (arith, below, length-set xs i x))
      ∙ (ap (λ (y : X). Some y) (get_or-set_other xs i j x d apart) ∙ sym (slice_get-get_or xs j d below))

  pub there_set_same : (xs : List X) (i : ℕ) (x : X) → i < length xs → slice_get (set xs i x) i ≡ Some x
  there_set_same xs i x below =
      slice_get-get_or (set xs i x) i d (omega (arith, below, length-set xs i x)) ∙ ap (λ (y : X). Some y) (get_or-set_same xs i x d below)

-- ---- keys

pub same_told : (x y : Key) → same x y ≡ true → x.items ≡ y.items
same_told x y e = (slice_eq-Decides signed_Decides x.items y.items (same x y) refl).0 e

pub same_items : (x y : Key) → x.items ≡ y.items → same x y ≡ true
same_items x y e = (slice_eq-Decides signed_Decides x.items y.items (same x y) refl).1 e

abbrev pub items_of : List Key → List (List ℤ)
items_of keys = map (λ (key : Key). key.items) keys

module _ (keys later : List Key) (key : Key) (n : ℕ) (is_new : Bool) (put : IsInserted keys later key n is_new) where
  below_later : n < length later
  below_later = slice_get_within later n put.stored.0 put.stored.1

  -- it stands at its number
  pub key_stands : get_or (items_of later) n [] ≡ key.items
  key_stands =
      get_or-map (λ (k : Key). k.items) later n key [] below_later
      ∙ (ap (λ (k : Key). k.items) (get_or_from_slice_get later n put.stored.0 key put.stored.1) ∙ sym (same_told key put.stored.0 put.stored.2))

  found_by_test : is_new ≡ false → list_any (same key) keys ≡ true
  found_by_test old = by (list_any (same key) keys) refl
    where
      by : (b : Bool) → list_any (same key) keys ≡ b → b ≡ true
      by true e = refl
      by false e = absurd (true≢false (sym (put.added ∙ ap not e) ∙ old))

  missed_by_test : is_new ≡ true → list_any (same key) keys ≡ false
  missed_by_test new = by (list_any (same key) keys) refl
    where
      by : (b : Bool) → list_any (same key) keys ≡ b → b ≡ false
      by true e = absurd (true≢false (sym new ∙ (put.added ∙ ap not e)))
      by false e = refl

  -- one that is there changes nothing
  pub keys_stay : is_new ≡ false → later ≡ keys
  keys_stay old = put.keys_are ∙ ap (λ (b : Bool). cond b keys (keys ++ key ∷ [])) (found_by_test old)

  -- and one that isn't goes last
  pub keys_more : is_new ≡ true → later ≡ keys ++ key ∷ []
  keys_more new = put.keys_are ∙ ap (λ (b : Bool). cond b keys (keys ++ key ∷ [])) (missed_by_test new)

  pub key_apart : is_new ≡ true → (i : ℕ) → i < length keys → get_or (items_of keys) i [] ≡ key.items → ⊥
  key_apart new i below e =
      let k = get_or keys i key in
      let equal : k.items ≡ key.items = sym (get_or-map (λ (x : Key). x.items) keys i key [] below) ∙ e in
      true≢false (sym (list_any_at (same key) keys i key below (same_items key k (sym equal))) ∙ missed_by_test new)

  pub key_last : is_new ≡ true → n ≡ length keys
  key_last new = elim (cases_lt n (length keys)) [
    | inl h ↦ absurd (key_apart new n h (before h))
    | inr h ↦ omega (arith, h, below_later, ap length (keys_more new), length-append keys (key ∷ []))
  ]
    where
      before : n < length keys → get_or (items_of keys) n [] ≡ key.items
      before h =
          get_or-map (λ (k : Key). k.items) keys n key [] h
          ∙ (ap (λ (k : Key). k.items) (sym (get_or_append_left keys (key ∷ []) key n h) ∙ ap (λ (ks : List Key). get_or ks n key) (sym (keys_more new)))
          ∙ (sym (get_or-map (λ (k : Key). k.items) later n key [] below_later) ∙ key_stands))
