-- The totals of the first documents, and what was handed over of them.
use Rattle.std.proofs.Common.{◌≡◌, ◌∙◌, ◌++◌, ◌+◌, ◌<◌, ◌≤◌, ℕ, List, [], ◌∷◌, Option, Result, Ok, Err, MatchResult, length, map, drop, sym, ap, zero-add, take-append-drop, arith}
use Rattle.std.proofs.lemmas.List.{length-map, map-append}
use Rattle.std.proofs.lemmas.List.FromFn.{length-map-range_with_len, map-range_with_len_more, take-map-range_with_len}
use Rattle.span_token.specs.Documents.{Doc}
use Rattle.algebra.specs.Plans.{Parts}
use Rattle.demo_corpus.specs.Generator.{generated, first_documents}
use Rattle.demo_corpus.specs.Totals.{Answer, Tally, total_of, tally_of}
use Rattle.run_pool.specs.Entries.{Entry, entry_of, with_entries, AreHandedInPart}
use Rattle.run_pool.specs.Lines.{Meaning}
use Rattle.run_pool.specs.PoolLaws.{with-none, with-with}
use Rattle.aqlx_top.specs.Handing.{pool_ends, IsHandedAll, IsHandedFront}
use Rattle.aqlx_top.specs.Showings.{IsCounted}

-- there is a total for each output
pub as_many : (n : ℕ) (answers : List Answer) → length (tally_of n answers).totals ≡ n
as_many n answers = length-map-range_with_len (total_of answers) 0 n

-- the first documents, one more
more : {A : Type 0} (f : Doc → A) (i : ℕ) → map f (first_documents (i + 1)) ≡ map f (first_documents i) ++ f (generated i) ∷ []
more f i = ap (map f) (map-range_with_len_more generated 0 i i (zero-add i)) ∙ map-append f (first_documents i) (generated i ∷ [])

module _ (n : ℕ) (f : Doc → Answer) where
  -- so many documents are counted
  pub documents_counted : (i : ℕ) → (tally_of n (map f (first_documents i))).documents ≡ i
  documents_counted i = length-map (first_documents i) f ∙ length-map-range_with_len generated 0 i

  -- one document more
  pub counted_more : (i : ℕ) (before now : Tally) → before ≡ tally_of n (map f (first_documents i)) → IsCounted n (f (generated i)) before now → now ≡ tally_of n (map f (first_documents (i + 1)))
  counted_more i before now is counted = counted.counted (map f (first_documents i)) is ∙ ap (tally_of n) (sym (more f i))

module _ (means : Meaning) (plan : Parts) (first : Option (List Entry)) where
  abbrev entries : ℕ → List Entry
  entries i = map (entry_of means plan) (first_documents i)

  -- one document more is handed over
  pub handed_more : (i : ℕ) (told now : Option (List Entry)) → told ≡ with_entries first (entries i) → now ≡ with_entries told (entry_of means plan (generated i) ∷ [])
      → now ≡ with_entries first (entries (i + 1))
  handed_more i told now so_far one =
      one ∙ ap (λ (t : Option (List Entry)). with_entries t (entry_of means plan (generated i) ∷ [])) so_far
      ∙ with-with first (entries i) (entry_of means plan (generated i) ∷ []) ∙ ap (with_entries first) (sym (more (entry_of means plan) i))

  -- the first documents are handed over, of so many
  pub handed_so_far : (count i : ℕ) (told : Option (List Entry)) → i ≤ count → told ≡ with_entries first (entries i) → IsHandedFront (pool_ends means first told) plan (first_documents count)
  handed_so_far count i told within so_far = record {
    front = first_documents i;
    behind = drop i (first_documents count);
    split = sym (take-append-drop i (first_documents count)) ∙ ap (λ (docs : List Doc). docs ++ drop i (first_documents count)) (take-map-range_with_len generated 0 count i within);
    handed = so_far;
  }

  -- none is yet
  pub handed_none : (count : ℕ) → IsHandedFront (pool_ends means first first) plan (first_documents count)
  handed_none count = handed_so_far count 0 first (omega arith) (sym (with-none first))

  handed_part : (count i : ℕ) (told now : Option (List Entry)) (handed others : List Entry) → i < count → told ≡ with_entries first (entries i)
      → entry_of means plan (generated i) ∷ [] ≡ handed ++ others → now ≡ with_entries told handed → IsHandedFront (pool_ends means first now) plan (first_documents count)
  handed_part count i told now [] others below so_far split is = handed_so_far count i now (omega arith) (is ∙ with-none told ∙ so_far)
  handed_part count i told now (x ∷ []) others below so_far split is =
      let same : entry_of means plan (generated i) ≡ x = cc in
      handed_so_far count (i + 1) now (omega arith) (handed_more i told now so_far (is ∙ ap (λ (e : Entry). with_entries told (e ∷ [])) (sym same)))
  handed_part count i told now (x ∷ y ∷ handed) others below so_far split is = absurd (cc)

  -- memory was wanting for the next one
  pub handed_wanting : (count i : ℕ) (told now : Option (List Entry)) → i < count → told ≡ with_entries first (entries i)
      → AreHandedInPart told now (entry_of means plan (generated i) ∷ []) → IsHandedFront (pool_ends means first now) plan (first_documents count)
  handed_wanting count i told now below so_far part = handed_part count i told now part.handed part.others below so_far part.split part.told

  -- all are handed over, whatever comes of it
  pub handed_end : {T E : Type 0} (count i : ℕ) (told : Option (List Entry)) (r : Result T E) → i ≡ count → told ≡ with_entries first (entries i)
      → MatchResult r (λ x. IsHandedAll (pool_ends means first told) plan (first_documents count)) (λ e. IsHandedFront (pool_ends means first told) plan (first_documents count))
  handed_end count i told (Ok x) at_end so_far = so_far ∙ ap (λ (n : ℕ). with_entries first (entries n)) at_end
  handed_end count i told (Err e) at_end so_far = handed_so_far count i told (omega arith) so_far
