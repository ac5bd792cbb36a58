-- What one statement's maps and its fault say, from what the code's calls answer.
use Rattle.std.proofs.Common.{◌≡◌, ◌∙◌, ◌+◌, ℕ, Bool, true, false, List, [], ◌∷◌, ◌++◌, length, Option, Some, IsSome, Contains, refl, ap, sym, subst}
use Rattle.std.specs.Str.{bytes_eq}
use Rattle.std.specs.Map.{update}
use Rattle.span_token.specs.declared.refusal.Failure.{Failure}
use Rattle.span_token.specs.declared.refusal.Failure.TheVariants.{OutOfMemory, Fault}
use Rattle.aql_syntax.specs.Trees.{Statement}
use Rattle.aql_syntax.specs.declared.tree.Statement as declared
use Rattle.aql_syntax.specs.declared.tree.Statement.TheVariants as variant
use Rattle.aql_syntax.specs.declared.tree.Ident.{Ident}
use Rattle.aql_syntax.specs.declared.tree.Query.{Query}
use Rattle.aql_syntax.specs.Views.{statement_of}
use Rattle.view_graph.specs.declared.fault.NameFault.{NameFault}
use Rattle.view_graph.specs.declared.fault.NameFault.TheVariants.{DuplicateName}
use Rattle.view_graph.specs.Names.{Named, view_named, dictionary_named, defined_by, names_defined}
use Rattle.span_token.specs.Refusals.{OfFault}
use Rattle.view_graph.specs.Answers.{IsNameFault}
use Rattle.view_graph.specs.Indexes.{Adds, IndexesNames}
use Rattle.view_graph.proofs.Defining.{index_view, index_dictionary, defined_twice}

pub OfFault-weaker : (P Q : NameFault → Type 0) → ((fault : NameFault) → P fault → Q fault) → (failure : Failure NameFault) → OfFault P failure → OfFault Q failure
OfFault-weaker P Q weaker OutOfMemory h = tt
OfFault-weaker P Q weaker (Fault fault) h = weaker fault h

-- a statement that creates no view and no dictionary defines nothing
pub nothing_defined : (s : declared.Statement) → ((name : Ident) (query : Query) → s ≡ variant.View name query → ⊥) → ((name : Ident) (entries : _) → s ≡ variant.Dictionary name entries → ⊥)
    → defined_by (statement_of s) ≡ []
nothing_defined (variant.Module name) no_view no_dictionary = refl
nothing_defined variant.Require no_view no_dictionary = refl
nothing_defined (variant.Export name) no_view no_dictionary = refl
nothing_defined (variant.Dictionary name entries) no_view no_dictionary = absurd (no_dictionary name entries refl)
nothing_defined (variant.View name query) no_view no_dictionary = absurd (no_view name query refl)
nothing_defined (variant.Output name alias) no_view no_dictionary = refl

module _ (before : List Statement) (s : Statement) (name text : List ℕ) (same : text ≡ name) (index : ℕ) (at : length before ≡ index)
    (entry : List ℕ → Option (Option ℕ)) (there : List ℕ → Option ℕ) (names : IndexesNames before entry there) where
  fault_at : (after : List Statement) (named : Named) → defined_by s ≡ named ∷ [] → Contains (names_defined before) named → (fault : NameFault) → fault ≡ DuplicateName (index + 1) text
      → ((number : ℕ) → number ≡ length before + 1 → IsNameFault (before ++ s ∷ after) (DuplicateName number text)) → IsNameFault (before ++ s ∷ after) fault
  fault_at after named one again fault is shown =
      subst (λ (fault : NameFault). IsNameFault (before ++ s ∷ after) fault) (sym is) (shown (index + 1) (ap (λ (n : ℕ). n + 1) (sym at)))

  module _ (one : defined_by s ≡ view_named name ∷ []) (new : List ℕ → Option (Option ℕ)) where
    pub view_added : (fresh : Bool) → fresh ≡ true → Adds entry new text (Some index) fresh → IndexesNames (before ++ s ∷ []) new there
    view_added fresh is adds =
        let added : Adds entry new text (Some index) true = subst (λ (b : Bool). Adds entry new text (Some index) b) is adds in
        index_view before s text (one ∙ ap (λ (n : List ℕ). view_named n ∷ []) (sym same)) entry new added.0
        (subst (λ (n : ℕ). (q : List ℕ) → new q ≡ update bytes_eq entry text (Some (Some n)) q) (sym at) added.1) there names

    pub view_again : (fresh : Bool) → fresh ≡ false → Adds entry new text (Some index) fresh → (after : List Statement) (fault : NameFault) → fault ≡ DuplicateName (index + 1) text → IsNameFault (before ++ s ∷ after) fault
    view_again fresh is adds after fault fault_is =
        let was : IsSome (entry text) = subst (λ (b : Bool). Adds entry new text (Some index) b) is adds in
        fault_at after (view_named text) (one ∙ ap (λ (n : List ℕ). view_named n ∷ []) (sym same)) (names.views.known text was) fault fault_is
        (λ number number_is. defined_twice before s after (view_named text) text number (one ∙ ap (λ (n : List ℕ). view_named n ∷ []) (sym same)) refl number_is (names.views.known text was) names.distinct)

  module _ (one : defined_by s ≡ dictionary_named name ∷ []) (new : List ℕ → Option ℕ) where
    pub dictionary_added : (fresh : Bool) → fresh ≡ true → Adds there new text index fresh → IndexesNames (before ++ s ∷ []) entry new
    dictionary_added fresh is adds =
        let added : Adds there new text index true = subst (λ (b : Bool). Adds there new text index b) is adds in
        index_dictionary before s text (one ∙ ap (λ (n : List ℕ). dictionary_named n ∷ []) (sym same)) there new added.0
        (subst (λ (n : ℕ). (q : List ℕ) → new q ≡ update bytes_eq there text (Some n) q) (sym at) added.1) entry names

    pub dictionary_again : (fresh : Bool) → fresh ≡ false → Adds there new text index fresh → (after : List Statement) (fault : NameFault) → fault ≡ DuplicateName (index + 1) text → IsNameFault (before ++ s ∷ after) fault
    dictionary_again fresh is adds after fault fault_is =
        let was : IsSome (there text) = subst (λ (b : Bool). Adds there new text index b) is adds in
        fault_at after (dictionary_named text) (one ∙ ap (λ (n : List ℕ). dictionary_named n ∷ []) (sym same)) (names.dictionaries.known text was) fault fault_is
        (λ number number_is. defined_twice before s after (dictionary_named text) text number (one ∙ ap (λ (n : List ℕ). dictionary_named n ∷ []) (sym same)) refl number_is (names.dictionaries.known text was) names.distinct)
