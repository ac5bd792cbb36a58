-- Rows in the order of their spans, one row on.
use Rattle.std.proofs.Common.{◌≡◌, ℕ, Bool, true, false, nat_lt, ◌+◌, ◌-◌, ◌<◌, ◌≤◌, Option, Some, None, List, [], ◌∷◌, ◌++◌, length, map, take, get_or, refl, sym, ap, subst, ◌∙◌, arith, All}
use Rattle.std.specs.List.Sorted.{IsNonDecreasingBy}
use Rattle.std.specs.Option.{option_map}
use Rattle.std.proofs.lemmas.List.{take_more, get_or_default, get_or-map, get_or-take, length-map, length-take-le, take_all}
use Rattle.std.proofs.lemmas.List.Elements.{All-map, All-push}
use Rattle.std.proofs.lemmas.List.Sorted.{IsNonDecreasingBy-push}
use Rattle.std.proofs.lemmas.Bool.{ltb-true, ltb-false}
use Rattle.span_token.specs.Extents.{extent_of}
use Rattle.span_token.specs.declared.span.Span.{Span}
use Rattle.row_values.specs.Datums.{Datum}
use Rattle.span_joins.specs.declared.side.Key.{Key}
use Rattle.span_joins.specs.declared.rule.By.{By}
use Rattle.span_joins.specs.Joins.{rank, DoRise}
use Rattle.span_joins.specs.Answers.{number_of}
use Rattle.span_joins.specs.Sweeps.{Entry, entry, entry_of, no_entry, AreInOrder, IsProper}

module _ {X Y : Type 0} (n : Y → ℕ) (f : X → Y) where
  pub rise_mapped : (xs : List X) → IsNonDecreasingBy (λ x. n (f x)) xs → IsNonDecreasingBy n (map f xs)
  rise_mapped [] h i j d low high = absurd (omega arith)
  rise_mapped (x ∷ xs) h i j d low high =
      let far : j < length (x ∷ xs) = omega (arith, length-map (x ∷ xs) f) in
      let near : i < length (x ∷ xs) = omega arith in
      rw (get_or-map f (x ∷ xs) i x d near, get_or-map f (x ∷ xs) j x d far) (h i j x low far)

-- rows that rise by the spans in a column are in order where they stand
pub in_order-rows : (by : By) (column : ℕ) (rows : List (List Datum)) → DoRise (number_of by) column rows → AreInOrder by (map (entry column) rows)
in_order-rows by column rows h = rise_mapped (λ e. rank (number_of by) e.span) (entry column) rows h

pub none_of : (o : Option Span) → ((s : Span) → o ≡ Some s → ⊥) → option_map extent_of o ≡ None
none_of None h = refl
none_of (Some s) h = absurd (h s refl)

-- the spans of keys are proper
proper_span : (o : Option Span) → IsProper (option_map extent_of o)
proper_span None = tt
proper_span (Some span) = span.ordered

pub proper_keys : (keys : List Key) → All (λ e. IsProper e.span) (map entry_of keys)
proper_keys keys = All-map (λ (e : Entry). IsProper e.span) entry_of keys (λ k d low. proper_span (get_or keys k d).span)

module _ (entries : List Entry) (i : ℕ) where
  abbrev here : Entry
  here = get_or entries i no_entry

  more : i < length entries → take (i + 1) entries ≡ take i entries ++ here ∷ []
  more below = take_more entries i no_entry below

  past : length entries ≤ i → take (i + 1) entries ≡ take i entries
  past h = take_all (i + 1) entries (omega arith) ∙ sym (take_all i entries h)

  pub in_order-next : (by : By) → AreInOrder by (take i entries)
      → (i < length entries → 0 < i → rank (number_of by) (get_or entries (i - 1) no_entry).span ≤ rank (number_of by) (get_or entries i no_entry).span) → AreInOrder by (take (i + 1) entries)
  in_order-next by h last = cases (nat_lt i (length entries)) refl
    where
      n : Entry → ℕ
      n x = rank (number_of by) x.span

      cases : (b : Bool) → nat_lt i (length entries) ≡ b → AreInOrder by (take (i + 1) entries)
      cases false e = subst (λ xs. IsNonDecreasingBy n xs) (sym (past (ltb-false i (length entries) e))) h
      cases true e =
          let below = ltb-true i (length entries) e in
          let size : length (take i entries) ≡ i = length-take-le i entries (omega arith) in
          subst (λ xs. IsNonDecreasingBy n xs) (sym (more below))
          (IsNonDecreasingBy-push n (take i entries) here h (λ d some.
          let at : get_or (take i entries) (length (take i entries) - 1) d ≡ get_or entries (i - 1) no_entry =
          ap (λ k. get_or (take i entries) (k - 1) d) size ∙ get_or-take i entries (i - 1) d (omega arith) ∙ get_or_default entries (i - 1) d no_entry (omega arith) in
          subst (λ (x : Entry). n x ≤ n here) (sym at) (last below (omega arith))))

  pub proper-next : All (λ x. IsProper x.span) (take i entries) → (i < length entries → IsProper (get_or entries i no_entry).span) → All (λ x. IsProper x.span) (take (i + 1) entries)
  proper-next h p = cases (nat_lt i (length entries)) refl
    where
      cases : (b : Bool) → nat_lt i (length entries) ≡ b → All (λ x. IsProper x.span) (take (i + 1) entries)
      cases false e = subst (λ (xs : List Entry). All (λ x. IsProper x.span) xs) (sym (past (ltb-false i (length entries) e))) h
      cases true e =
          let below = ltb-true i (length entries) e in
          subst (λ (xs : List Entry). All (λ x. IsProper x.span) xs) (sym (more below)) (All-push (λ (x : Entry). IsProper x.span) (take i entries) here h (p below))

module _ {X : Type 0} (P : List X → Type 0) (xs : List X) where
  -- all rows were taken
  pub whole : (i : ℕ) → length xs ≤ i → P (take i xs) → P xs
  whole i h p = subst P (take_all i xs h) p

  pub whole_back : (i : ℕ) → length xs ≤ i → P xs → P (take i xs)
  whole_back i h p = subst P (sym (take_all i xs h)) p
