-- An aggregate as a whole item.
use Rattle.std.proofs.Common.{◌≡◌, ◌∙◌, ℕ, Option, Some, map, ap, List}
use Rattle.std.specs.declared.vec.Vec.{Vec}
use Rattle.std.specs.declared.alloc.Global.{Global}
use Rattle.aql_syntax.specs.declared.tree.Ast.{Ast}
use Rattle.aql_syntax.specs.declared.tree.Form.{Form}
use Rattle.aql_syntax.specs.declared.tree.Form.TheVariants as form
use Rattle.aql_syntax.specs.declared.tree.Item as declared
use Rattle.aql_syntax.specs.Nodes.{call_view}
use Rattle.aql_syntax.specs.Trees.{call, as_terms}
use Rattle.aql_syntax.specs.Views.{term_at, term_of, item_of}
use Rattle.clause_types.specs.declared.function.Aggregate.{Aggregate}
use Rattle.clause_types.specs.Expressions.{typing, typings}
use Rattle.clause_types.specs.Functions.{aggregate_named}
use Rattle.clause_types.specs.Items.{output_name, aggregate_item, item_of_call, item_of_expr, select_item}
use Rattle.clause_types.specs.Known.{Known}
use Rattle.clause_types.specs.Scopes.{Scope}
use Rattle.clause_types.specs.Typings.{Typing}
use Rattle.clause_types.proofs.Terms.{typings-as_terms}

module _ (known : Known) (scope : Scope) where
  pub select_aggregate : (item : declared.Item) (name : List ℕ) (args : Vec Ast Global) (a : Aggregate) → item.expr.form ≡ form.Call name args
      → aggregate_named name ≡ Some a
      → select_item known scope (item_of item) ≡ aggregate_item known (output_name (item_of item)) item.expr.at a (map (typing known scope) (map term_of args.items))
  select_aggregate item name args a is named =
      let label = output_name (item_of item) in
      let at = item.expr.at in
      let ts = map term_of args.items in
      ap (λ (f : Form). item_of_expr known scope label (term_at at f)) is
      ∙ (ap (item_of_expr known scope label) (call_view at name args)
      ∙ (ap (λ (x : Option Aggregate). item_of_call known scope label at name (typings known scope (as_terms ts)) (typing known scope (call at name (as_terms ts))) x) named
      ∙ ap (λ (xs : List Typing). aggregate_item known label at a xs) (typings-as_terms known scope ts)))
