-- What was handed to a pool, document by document: the first ones of a list.
use Rattle.std.proofs.Common.{◌≡◌, ◌++◌, ◌+◌, ◌<◌, ℕ, List, [], ◌∷◌, Option, Result, Ok, Err, OnOk, IfOk, map, take, drop, length, get_or, sym, ap, ◌∙◌, subst}
use Rattle.std.proofs.lemmas.List.{map-append, take-append-drop, take_more, append_assoc}
use Rattle.run_pool.specs.Entries.{Entry, AreHanded, AreHandedInPart, with_entries}
use Rattle.run_pool.specs.PoolLaws.{part_all, part_none, part_then, with-with}

-- all were handed over, whatever comes of it
pub handed-whole : {T E : Type 0} (before now : Option (List Entry)) (entries : List Entry) (r : Result T E) → now ≡ with_entries before entries → AreHanded before now entries r
handed-whole before now entries (Ok x) all = all
handed-whole before now entries (Err e) all = part_all before now entries all

-- bytes behind others, where they are the same
pub bytes-as : {T E : Type 0} (after before more same : List ℕ) (r : Result T E) → more ≡ same → OnOk r (after ≡ before ++ more) → OnOk r (after ≡ before ++ same)
bytes-as after before more same r are bytes = subst (λ (b : List ℕ). OnOk r (after ≡ before ++ b)) are bytes

-- what holds of a value holds of what it is the same as
pub ok-as : {T E A : Type 0} (P : A → Type 0) (f : T → A) (a : A) (r : Result T E) → P a → IfOk r (λ x. f x ≡ a) → IfOk r (λ x. P (f x))
ok-as P f a (Ok x) p is = subst P (sym is) p
ok-as P f a (Err e) p is = tt

-- one more
pub taken-more : {A : Type 0} (xs : List A) (n : ℕ) (x : A) → n < length xs → x ≡ get_or xs n x → take (n + 1) xs ≡ take n xs ++ x ∷ []
taken-more xs n x below is = take_more xs n x below ∙ ap (λ y. take n xs ++ y ∷ []) (sym is)

module _ {A : Type 0} (f : A → Entry) (before : Option (List Entry)) where
  -- and its entry
  pub handed-more : (xs : List A) (n : ℕ) (x : A) (told now : Option (List Entry)) → n < length xs → x ≡ get_or xs n x
      → told ≡ with_entries before (map f (take n xs)) → now ≡ with_entries told (f x ∷ []) → now ≡ with_entries before (map f (take (n + 1) xs))
  handed-more xs n x told now below is so_far one =
      one ∙ ap (λ (t : Option (List Entry)). with_entries t (f x ∷ [])) so_far ∙ with-with before (map f (take n xs)) (f x ∷ [])
      ∙ ap (with_entries before) (sym (map-append f (take n xs) (x ∷ [])) ∙ ap (map f) (sym (taken-more xs n x below is)))

  -- the first ones, and a part of what is next
  pub handed-so_far : (xs : List A) (n : ℕ) (told now : Option (List Entry)) → told ≡ with_entries before (map f (take n xs)) → now ≡ told → AreHandedInPart before now (map f xs)
  handed-so_far xs n told now so_far same =
      part_then before told now (map f (take n xs)) [] (map f (drop n xs)) (map f xs) so_far (part_none told now [] same)
      (ap (map f) (sym (take-append-drop n xs)) ∙ map-append f (take n xs) (drop n xs))

  pub handed-part : (xs : List A) (n : ℕ) (x : A) (told now : Option (List Entry)) → n < length xs → x ≡ get_or xs n x
      → told ≡ with_entries before (map f (take n xs)) → AreHandedInPart told now (f x ∷ []) → AreHandedInPart before now (map f xs)
  handed-part xs n x told now below is so_far part =
      part_then before told now (map f (take n xs)) (f x ∷ []) (map f (drop (n + 1) xs)) (map f xs) so_far part
      (ap (map f) (sym (take-append-drop (n + 1) xs) ∙ ap (λ ys. ys ++ drop (n + 1) xs) (taken-more xs n x below is) ∙ append_assoc (take n xs) (x ∷ []) (drop (n + 1) xs))
      ∙ map-append f (take n xs) (x ∷ drop (n + 1) xs))
