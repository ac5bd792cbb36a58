-- A query without a fault is what its parts are.
use Rattle.std.proofs.Common.{◌≡◌, ◌∙◌, ℕ, List, [], ap}
use Rattle.aql_typed.specs.Trees.{Query}
use Rattle.aql_typed.specs.Views.{query_of}
use Rattle.aql_typed.specs.declared.tree.Column.{Column}
use Rattle.clause_types.specs.declared.fault.Breach.{Breach}
use Rattle.aql_types.specs.declared.source.CheckedQuery.{CheckedQuery}
use Rattle.aql_types.specs.QueryTypings.{QueryTyping}
use Rattle.aql_types.specs.Sources.{query_seen}

pub query_is : (at : ℕ) (faults : List Breach) (columns : List Column) (body : Query) (q : CheckedQuery) → at ≡ q.at → faults ≡ [] → columns ≡ q.columns.items
    → body ≡ query_of q.body → ◌≡◌ {A = QueryTyping} (record { at = at; faults = faults; columns = columns; body = body }) (query_seen q)
query_is at faults columns body q same_at none same_columns same_body =
    ap (λ (n : ℕ). record { at = n; faults = faults; columns = columns; body = body }) same_at
    ∙ (ap (λ (fs : List Breach). record { at = q.at; faults = fs; columns = columns; body = body }) none
    ∙ (ap (λ (cs : List Column). record { at = q.at; faults = []; columns = cs; body = body }) same_columns
    ∙ ap (λ (b : Query). record { at = q.at; faults = []; columns = q.columns.items; body = b }) same_body))
