-- Expressions of a list.
use Rattle.std.proofs.Common.{◌≡◌, ◌∙◌, ℕ, List, [], ◌∷◌, map, refl, ap}
use Rattle.std.specs.declared.vec.Vec.{Vec}
use Rattle.std.specs.declared.alloc.Global.{Global}
use Rattle.aql_syntax.specs.declared.tree.Ast.{Ast}
use Rattle.aql_syntax.specs.declared.tree.Form.TheVariants as form
use Rattle.aql_syntax.specs.Nodes.{call_view}
use Rattle.aql_syntax.specs.Trees.{Term, as_terms}
use Rattle.aql_syntax.specs.Views.{term_at, term_of}
use Rattle.clause_types.specs.Calls.{typing_of_call}
use Rattle.clause_types.specs.Expressions.{typing, typings}
use Rattle.clause_types.specs.Known.{Known}
use Rattle.clause_types.specs.Scopes.{Scope}
use Rattle.clause_types.specs.Typings.{Typing}

module _ (known : Known) (scope : Scope) where
  pub typings-as_terms : (ts : List Term) → typings known scope (as_terms ts) ≡ map (typing known scope) ts
  typings-as_terms [] = refl
  typings-as_terms (t ∷ ts) = ap (λ (rest : List Typing). typing known scope t ∷ rest) (typings-as_terms ts)

  -- what is said of a call, in words of the list of its arguments
  pub call_typing : (at : ℕ) (name : List ℕ) (args : Vec Ast Global)
      → typing known scope (term_at at (form.Call name args)) ≡ typing_of_call known at name (map (typing known scope) (map term_of args.items))
  call_typing at name args =
      ap (typing known scope) (call_view at name args)
      ∙ ap (typing_of_call known at name) (typings-as_terms (map term_of args.items))
