-- What is told of a text as a pattern is what `IsPattern` and `HasFault` say.
use Rattle.std.specs.Prelude.{◌≡◌, ℕ, ◌*◌, Bool, true, false, if◌then◌else◌, List, length, Option, Some, None, is_none, IsSome, nat_lt, refl}
use Rattle.std.proofs.Common.{◌∙◌, sym, subst, true≢false, inl, inr, ⊎_elim, ap₂}
use Rattle.std.specs.Bool.{Decides}
use Rattle.std.proofs.lemmas.Bool.Decides.{Decides-or, Decides-ltb, not_from_Decides}
use Rattle.std.proofs.lemmas.Option.{none-some}
use Rattle.aql_regex_extract.specs.declared.pattern.PatternFault.{PatternFault}
use Rattle.aql_regex_extract.specs.declared.pattern.PatternFault.TheVariants.{Bad, Large}
use Rattle.aql_regex_extract.specs.Faults.{IsPattern, HasFault}
use Rattle.aql_regex_extract.specs.Patterns.{tree_of, whole_form, IsBad}
use Rattle.aql_regex_extract.specs.Weight.{weight_of, IsLarge}
use Rattle.aql_tables.specs.Verdicts.{is_large, is_bad, pattern_fault, IsVerdict}

-- the test tells whether the text is large
pub Decides-is_large : (text : List ℕ) → Decides (is_large text) (IsLarge text)
unfolding is_large
Decides-is_large text = Decides-or (nat_lt 1000 (length text)) (nat_lt 50000 (length text * weight_of text)) (Decides-ltb 1000 (length text)) (Decides-ltb 50000 (length text * weight_of text))

Decides-is_none : {X : Type 0} (o : Option X) → Decides (is_none o) (o ≡ None)
Decides-is_none None = (λ t. refl, λ none. refl)
Decides-is_none (Some x) = (λ t. absurd (true≢false (sym t)), λ none. absurd (none-some x (sym none)))

-- the test tells whether the text isn't read
pub Decides-is_bad : (text : List ℕ) → Decides (is_bad text) (IsBad text)
unfolding is_bad
Decides-is_bad text = Decides-or (is_none (tree_of text)) (is_none (tree_of (whole_form text))) (Decides-is_none (tree_of text)) (Decides-is_none (tree_of (whole_form text)))

abbrev by_tests : Bool → Bool → List ℕ → Option PatternFault
by_tests large bad text = if large then Some (Large (length text) (weight_of text)) else if bad then Some Bad else None

fault_by_tests : (text : List ℕ) → pattern_fault text ≡ by_tests (is_large text) (is_bad text) text
unfolding pattern_fault
fault_by_tests text = refl

some_same : {X : Type 0} (x y : X) → Some x ≡ Some y → x ≡ y
some_same x y e = cc

is_some_unless : {X : Type 0} (o : Option X) → ¬ (o ≡ None) → IsSome o
is_some_unless None never = absurd (never refl)
is_some_unless (Some x) never = refl

is_none_never : {X : Type 0} (o : Option X) → IsSome o → ¬ (o ≡ None)
is_none_never None some none = true≢false (sym some)
is_none_never (Some x) some none = none-some x (sym none)

module _ (text : List ℕ) where
  told : (large bad : Bool) → Decides large (IsLarge text) → Decides bad (IsBad text) → (fault : PatternFault) → HasFault text fault → by_tests large bad text ≡ Some fault
  told true bad l b Bad has = absurd (has.0 (l.0 refl))
  told true bad l b (Large bytes weight) has = ap₂ (λ n w. Some (Large n w)) (sym has.1) (sym has.2)
  told false true l b Bad has = refl
  told false false l b Bad has = absurd (true≢false (sym (b.1 has.1)))
  told false bad l b (Large bytes weight) has = absurd (true≢false (sym (l.1 has.0)))

  has : (large bad : Bool) → Decides large (IsLarge text) → Decides bad (IsBad text) → (fault : PatternFault) → by_tests large bad text ≡ Some fault → HasFault text fault
  has true bad l b fault e = subst (HasFault text) (some_same (Large (length text) (weight_of text)) fault e) (l.0 refl, refl, refl)
  has false true l b fault e = subst (HasFault text) (some_same Bad fault e) (not_from_Decides false l refl, b.0 refl)
  has false false l b fault e = absurd (none-some fault e)

  faultless : (large bad : Bool) → Decides large (IsLarge text) → Decides bad (IsBad text) → IsPattern text → by_tests large bad text ≡ None
  faultless true bad l b is = absurd (is.not_large (l.0 refl))
  faultless false true l b is = absurd (⊎_elim (is_none_never (tree_of text) is.is_read) (is_none_never (tree_of (whole_form text)) is.whole_is_read) (b.0 refl))
  faultless false false l b is = refl

  pattern : (large bad : Bool) → Decides large (IsLarge text) → Decides bad (IsBad text) → by_tests large bad text ≡ None → IsPattern text
  pattern true bad l b e = absurd (none-some (Large (length text) (weight_of text)) (sym e))
  pattern false true l b e = absurd (none-some Bad (sym e))
  pattern false false l b e = record {
    not_large = not_from_Decides false l refl;
    is_read = is_some_unless (tree_of text) (λ none. not_from_Decides false b refl (inl none));
    whole_is_read = is_some_unless (tree_of (whole_form text)) (λ none. not_from_Decides false b refl (inr none));
  }

  -- the fault that a text has is the one that is told, and a pattern has none
  pub fault_told : (fault : PatternFault) → HasFault text fault → pattern_fault text ≡ Some fault
  fault_told fault h = fault_by_tests text ∙ told (is_large text) (is_bad text) (Decides-is_large text) (Decides-is_bad text) fault h

  pub fault_has : (fault : PatternFault) → pattern_fault text ≡ Some fault → HasFault text fault
  fault_has fault e = has (is_large text) (is_bad text) (Decides-is_large text) (Decides-is_bad text) fault (sym (fault_by_tests text) ∙ e)

  pub pattern_told : IsPattern text → pattern_fault text ≡ None
  pattern_told is = fault_by_tests text ∙ faultless (is_large text) (is_bad text) (Decides-is_large text) (Decides-is_bad text) is

  pub pattern_is : pattern_fault text ≡ None → IsPattern text
  pattern_is e = pattern (is_large text) (is_bad text) (Decides-is_large text) (Decides-is_bad text) (sym (fault_by_tests text) ∙ e)

  -- what is told is the verdict
  pub verdict_is : (fault : Option PatternFault) → fault ≡ pattern_fault text → IsVerdict text fault
  verdict_is None e = pattern_is (sym e)
  verdict_is (Some fault) e = fault_has fault (sym e)
