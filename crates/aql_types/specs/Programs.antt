-- Programs: the views by rank and then by statement, the first fault, and the typed program.
use Rattle.std.specs.Prelude.{ℕ, ◌≡◌, List, [], ◌∷◌, ◌++◌, Option, Some, None, map, flat_map}
use Rattle.std.specs.Str.{bytes_eq}
use Rattle.std.specs.List.{position}
use Rattle.std.specs.Ordering.{nat_cmp}
use Rattle.std.specs.Cmp.Lexicographic.{slice_cmp}
use Rattle.std.specs.declared.cmp.Ordering.{Ordering}
use Rattle.aql_base.specs.Sorting.{sorted_by}
use Rattle.aql_syntax.specs.Trees.{Name, Statement, create, output}
use Rattle.aql_syntax.specs.Naming.{output_name}
use Rattle.view_graph.specs.Uses.{statement_numbered}
use Rattle.scalar_ops.specs.Tables.{Lists}
use Rattle.aql_typed.specs.Trees as typed
use Rattle.aql_typed.specs.declared.tree.TypedView.{TypedView}
use Rattle.aql_typed.specs.declared.tree.Output.{Output}
use Rattle.aql_typed.specs.Views.{body_of}
use Rattle.clause_types.specs.declared.fault.Breach.{Breach}
use Rattle.aql_types.specs.declared.fault.TypeFault.{TypeFault}
use Rattle.clause_types.specs.Faults.{first}
use Rattle.clause_types.specs.Known.{Known}
use Rattle.aql_types.specs.QueryTypings.{QueryTyping}
use Rattle.aql_types.specs.Queries.{View, typing_of_query}

-- the fault of the statement with this number, from 1
abbrev pub fault_in : ℕ → Breach → TypeFault
fault_in number breach = record { statement = number; at = breach.at; rule = breach.rule }

-- what is said of a view: its faults, and what it is without one
pub record ViewTyping : Type 0 where
  pub faults : List TypeFault
  pub view : View

abbrev pub view_of : List ℕ → QueryTyping → View
view_of name query = record { name = name; columns = query.columns; body = query.body }

-- what stands for a statement that creates no view
abbrev pub no_view : View
no_view = record { name = []; columns = []; body = typed.union typed.no_queries }

module _ (known : Known) where
  -- the view of a statement, above the views below it
  abbrev pub typing_of_statement : List View → ℕ → Statement → ViewTyping
  typing_of_statement below number (create name query) =
      let t = typing_of_query known below query in
      record { faults = map (fault_in number) t.faults; view = view_of name.text t }
  typing_of_statement below number statement = record { faults = []; view = no_view }

  module _ (program : List Statement) where
    -- the views with these numbers, in their order, each above those before it
    abbrev pub typings_from : List View → List ℕ → List ViewTyping
    typings_from below [] = []
    typings_from below (number ∷ numbers) =
        let t = typing_of_statement below number (statement_numbered program number) in
        t ∷ typings_from (below ++ t.view ∷ []) numbers

    -- the views of a program in an order
    abbrev pub typings_of_program : List ℕ → List ViewTyping
    typings_of_program order = typings_from [] order

    -- all faults of a program: view by view in the order, and of a view in the order of checking
    abbrev pub faults_of_program : List ℕ → List TypeFault
    faults_of_program order = flat_map (λ t. t.faults) (typings_of_program order)

    abbrev pub views_of_program : List ℕ → List View
    views_of_program order = map (λ t. t.view) (typings_of_program order)

-- the number of the view with a name, from 0; `Document` has none
abbrev pub view_number : List ℕ → List View → Option ℕ
view_number name views = position (λ v. bytes_eq v.name name) views

abbrev pub output_with : List View → Name → Option (List ℕ) → List Output
output_with views name None = []
output_with views name (Some text) = record { name = text; view = view_number name.text views } ∷ []

-- the output that a statement is, if it is one
abbrev pub output_in : List View → Statement → List Output
output_in views (output name alias) = output_with views name (output_name (output name alias))
output_in views statement = []

-- the outputs, in the order of their statements
abbrev pub outputs_in : List View → List Statement → List Output
outputs_in views program = flat_map (output_in views) program

-- by the bytes of their names
abbrev pub by_name : Output → Output → Ordering
by_name a b = slice_cmp nat_cmp a.name b.name

-- the outputs of a program
abbrev pub outputs_of_program : List View → List Statement → List Output
outputs_of_program views program = sorted_by by_name (outputs_in views program)

-- a view of the code
abbrev pub view_seen : TypedView → View
view_seen v = record { name = v.name; columns = v.columns.items; body = body_of v }

-- the typed program of statements in an order: they have no fault, and it has their views, outputs, patterns and
-- dictionaries
pub record IsTyped (known : Known) (lists : Lists) (program : List Statement) (order : List ℕ) (typed : List TypedView × (Lists × List Output)) : Type 0 where
  pub faultless : faults_of_program known program order ≡ []
  pub views : map view_seen typed.0 ≡ views_of_program known program order
  pub lists_are : typed.1.0 ≡ lists
  pub outputs : typed.1.1 ≡ outputs_of_program (views_of_program known program order) program

-- the fault is the first: by rank, by statement, and then in the order of checking
abbrev pub IsTypeFault : Known → List Statement → List ℕ → TypeFault → Type 0
IsTypeFault known program order fault = first (faults_of_program known program order) ≡ Some fault
