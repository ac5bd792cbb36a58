-- The first argument that isn't what is wanted, at the number that a loop has come to.
use Rattle.std.proofs.Common.{◌≡◌, ◌∙◌, ◌<◌, ◌≤◌, ◌+◌, ℕ, zero, suc, List, [], ◌∷◌, ◌++◌, Some, None, true, map, length, drop, get_or, slice_get, refl, ap, ap₂, sym, subst}
use Rattle.std.proofs.lemmas.List.{drop_more, drop_all}
use Rattle.std.proofs.lemmas.Option.{none-some, slice_get_within, get_or_from_slice_get}
use Rattle.span_token.specs.declared.refusal.Failure.{Failure}
use Rattle.scalar_ops.specs.declared.kind.Kind.TheVariants.{Nothing}
use Rattle.clause_types.specs.declared.fault.Breach.{Breach}
use Rattle.clause_types.specs.declared.fault.TypeRule.TheVariants.{WrongArgument}
use Rattle.clause_types.specs.declared.given.Given.{Given}
use Rattle.clause_types.specs.declared.wanted.Wanted.{Wanted}
use Rattle.clause_types.specs.Faults.{broken}
use Rattle.clause_types.specs.Functions.{kind_wanted}
use Rattle.clause_types.specs.Calls.{wrong_argument, wrong_arguments}
use Rattle.clause_types.specs.Known.{Known}
use Rattle.clause_types.specs.Refusals.{IsFirst}
use Rattle.clause_types.specs.Views.{seen}
use Rattle.clause_types.specs.FaultLaws.{first_here}

there : {X : Type 0} (xs : List X) (i : ℕ) (x : X) → slice_get xs i ≡ Some x → drop i xs ≡ x ∷ drop (i + 1) xs
there xs i x is =
    drop_more xs i x (slice_get_within xs i x is) ∙ ap (λ y. y ∷ drop (i + 1) xs) (get_or_from_slice_get xs i x x is)

past : {X : Type 0} (xs : List X) (i : ℕ) → slice_get xs i ≡ None → drop i xs ≡ []
past [] zero is = refl
past [] (suc i) is = refl
past (x ∷ xs) zero is = absurd (none-some x (sym is))
past (x ∷ xs) (suc i) is = past xs i is

module _ (known : Known) (at : ℕ) (wanted : List Wanted) (args : List Given) (i : ℕ)
    (so_far : wrong_arguments known at (drop i wanted) (map seen (drop i args)) ≡ wrong_arguments known at wanted (map seen args)) where
  rest_is : (ws : List Wanted) (gs : List Given) → drop i wanted ≡ ws → drop i args ≡ gs
      → wrong_arguments known at ws (map seen gs) ≡ wrong_arguments known at wanted (map seen args)
  rest_is ws gs w g = sym (ap₂ (λ (x : List Wanted) (y : List Given). wrong_arguments known at x (map seen y)) w g) ∙ so_far

  module _ (x : Given) (is : x ≡ get_or args i x) (within : i < length args) where
    arg_is : drop i args ≡ x ∷ drop (i + 1) args
    arg_is = drop_more args i x within ∙ ap (λ (y : Given). y ∷ drop (i + 1) args) (sym is)

    pub fitting : (w : Wanted) → slice_get wanted i ≡ Some w → wrong_argument known w (seen x) ≡ []
        → wrong_arguments known at (drop (i + 1) wanted) (map seen (drop (i + 1) args)) ≡ wrong_arguments known at wanted (map seen args)
    fitting w wants fits =
        sym (ap (λ (fs : List Breach). fs ++ wrong_arguments known at (drop (i + 1) wanted) (map seen (drop (i + 1) args))) fits)
        ∙ rest_is (w ∷ drop (i + 1) wanted) (x ∷ drop (i + 1) args) (there wanted i w wants) arg_is

    pub not_fitting : (w : Wanted) → slice_get wanted i ≡ Some w → (failure : Failure Breach) → IsFirst (wrong_argument known w (seen x)) failure
        → IsFirst (wrong_arguments known at wanted (map seen args)) failure
    not_fitting w wants failure wrong =
        subst (λ (fs : List Breach). IsFirst fs failure) (rest_is (w ∷ drop (i + 1) wanted) (x ∷ drop (i + 1) args) (there wanted i w wants) arg_is)
        (first_here (wrong_argument known w (seen x)) (wrong_arguments known at (drop (i + 1) wanted) (map seen (drop (i + 1) args))) failure wrong)

    pub surplus : slice_get wanted i ≡ None → (failure : Failure Breach) → IsFirst (broken true x.at (WrongArgument Nothing x.kind)) failure
        → IsFirst (wrong_arguments known at wanted (map seen args)) failure
    surplus none failure wrong =
        subst (λ (fs : List Breach). IsFirst fs failure) (rest_is [] (x ∷ drop (i + 1) args) (past wanted i none) arg_is)
        (first_here (broken true x.at (WrongArgument Nothing x.kind)) (wrong_arguments known at [] (map seen (drop (i + 1) args))) failure wrong)

  module _ (end : length args ≤ i) where
    pub all_fit : slice_get wanted i ≡ None → wrong_arguments known at wanted (map seen args) ≡ []
    all_fit none = sym (rest_is [] [] (past wanted i none) (drop_all i args end))

    pub missing : (w : Wanted) → slice_get wanted i ≡ Some w → (failure : Failure Breach) → IsFirst (broken true at (WrongArgument (kind_wanted w) Nothing)) failure
        → IsFirst (wrong_arguments known at wanted (map seen args)) failure
    missing w wants failure wrong =
        subst (λ (fs : List Breach). IsFirst fs failure) (rest_is (w ∷ drop (i + 1) wanted) [] (there wanted i w wants) (drop_all i args end))
        (first_here (broken true at (WrongArgument (kind_wanted w) Nothing)) (wrong_arguments known at (drop (i + 1) wanted) []) failure wrong)
