-- One more statement: what is known of outputs.
use Rattle.std.proofs.Common.{◌≡◌, ◌∙◌, ◌+◌, ◌⊎◌, inl, inr, ℕ, Bool, true, false, if◌then◌else◌, List, [], ◌∷◌, ◌++◌, length, Contains, refl, ap, sym, subst, true≢false}
use Rattle.std.specs.Str.{bytes_eq}
use Rattle.std.proofs.lemmas.Slice.Eq.{bytes_eq-Decides}
use Rattle.std.proofs.lemmas.List.{append-nil, get_or_default}
use Rattle.std.proofs.lemmas.List.Elements.{Contains-push, Contains-push_cases, Contains-append_left}
use Rattle.std.proofs.lemmas.List.Quantifiers.{all_pairs_push}
use Rattle.aql_syntax.specs.Trees.{Statement}
use Rattle.view_graph.specs.declared.fault.NameFault.{NameFault}
use Rattle.view_graph.specs.declared.fault.NameFault.TheVariants.{DuplicateOutput}
use Rattle.view_graph.specs.Names.{output_of, outputs_of, AllDiffer}
use Rattle.view_graph.specs.Indexes.{AddsText}
use Rattle.view_graph.specs.Outputs.{HasSeen, IsOutputAgain}
use Rattle.view_graph.proofs.Defining.{flat_map-push}

module _ (before : List Statement) (s : Statement) (there : List ℕ → Bool) (seen : HasSeen before there) where
  -- a statement that is no output
  pub seen_none : output_of s ≡ [] → HasSeen (before ++ s ∷ []) there
  seen_none none =
      let same : outputs_of (before ++ s ∷ []) ≡ outputs_of before = flat_map-push output_of before s ∙ ap (λ (more : List (List ℕ)). outputs_of before ++ more) none ∙ append-nil (outputs_of before) in
      record {
        known = λ name is. subst (λ (names : List (List ℕ)). Contains names name) (sym same) (seen.known name is);
        unknown = λ name is at. seen.unknown name is (subst (λ (names : List (List ℕ)). Contains names name) same at);
        distinct = subst (λ (names : List (List ℕ)). AllDiffer names) (sym same) seen.distinct;
      }

  module _ (name : List ℕ) (one : output_of s ≡ name ∷ []) (new : List ℕ → Bool) where
    same_outputs : outputs_of (before ++ s ∷ []) ≡ outputs_of before ++ name ∷ []
    same_outputs = flat_map-push output_of before s ∙ ap (λ (more : List (List ℕ)). outputs_of before ++ more) one

    seen_known : AddsText there new name true → (q : List ℕ) (b : Bool) → bytes_eq name q ≡ b → new q ≡ true → Contains (outputs_of before ++ name ∷ []) q
    seen_known added q true e h = subst (λ (text : List ℕ). Contains (outputs_of before ++ name ∷ []) text) ((bytes_eq-Decides name q).0 e) (Contains-push (outputs_of before) name)
    seen_known added q false e h = Contains-append_left (outputs_of before) (name ∷ []) q (seen.known q (sym (added.1 q ∙ ap (λ (t : Bool). if t then true else there q) e) ∙ h))

    seen_unknown : AddsText there new name true → (q : List ℕ) (b : Bool) → bytes_eq name q ≡ b → new q ≡ false → Contains (outputs_of before) q ⊎ (name ≡ q) → ⊥
    seen_unknown added q true e h at = true≢false (sym (added.1 q ∙ ap (λ (t : Bool). if t then true else there q) e) ∙ h)
    seen_unknown added q false e h (inl old) = seen.unknown q (sym (added.1 q ∙ ap (λ (t : Bool). if t then true else there q) e) ∙ h) old
    seen_unknown added q false e h (inr same) = true≢false (sym ((bytes_eq-Decides name q).1 same) ∙ e)

    -- an output whose name wasn't there
    pub seen_more : (fresh : Bool) → fresh ≡ true → AddsText there new name fresh → HasSeen (before ++ s ∷ []) new
    seen_more fresh is adds =
        let added : AddsText there new name true = subst (λ (b : Bool). AddsText there new name b) is adds in
        record {
          known = λ q is. subst (λ (names : List (List ℕ)). Contains names q) (sym same_outputs) (seen_known added q (bytes_eq name q) refl is);
          unknown = λ q is at. seen_unknown added q (bytes_eq name q) refl is (Contains-push_cases (outputs_of before) name q (subst (λ (names : List (List ℕ)). Contains names q) same_outputs at));
          distinct = subst (λ (names : List (List ℕ)). AllDiffer names) (sym same_outputs)
              (all_pairs_push (λ a b. ¬ (a ≡ b)) (outputs_of before) name seen.distinct
              (λ k d below same. seen.unknown name added.0 (k, below, get_or_default (outputs_of before) k name d below ∙ same)));
        }

    -- an output whose name was there
    pub seen_again : (fresh : Bool) → fresh ≡ false → AddsText there new name fresh → (after : List Statement) (number : ℕ) (fault : NameFault) → number ≡ length before + 1 → fault ≡ DuplicateOutput number name
        → IsOutputAgain (before ++ s ∷ after) fault
    seen_again fresh is adds after number fault number_is fault_is =
        let was : there name ≡ true = subst (λ (b : Bool). AddsText there new name b) is adds in
        record {
          number = number;
          name = name;
          is = fault_is;
          again = record {
            before = before;
            statement = s;
            numbered = record { after = after; split = refl; number_is = number_is };
            names = one;
            again = seen.known name was;
            first = seen.distinct;
          };
        }
