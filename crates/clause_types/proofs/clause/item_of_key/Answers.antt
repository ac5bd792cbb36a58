use Rattle.std.proofs.Common.{◌≡◌, ◌∙◌, ◌≤◌, ℕ, Bool, true, false, not, List, map, length, nat_lt, ap, ap₂, sym, subst, rules}
use Rattle.std.proofs.lemmas.List.{length-map}
use Rattle.aql_syntax.specs.declared.tree.Ast.{Ast}
use Rattle.aql_syntax.specs.declared.tree.Item as declared
use Rattle.aql_syntax.specs.Views.{term_of, item_of}
use Rattle.clause_types.specs.declared.fault.Breach.{Breach}
use Rattle.clause_types.specs.declared.fault.TypeRule.TheVariants.{UnknownColumn}
use Rattle.clause_types.specs.Clauses.{name_kept, no_item}
use Rattle.clause_types.specs.Faults.{broken}
use Rattle.clause_types.specs.Items.{at_of}
use Rattle.clause_types.specs.Keys.{item_number, has_item}
use Rattle.clause_types.specs.Refusals.{IsFirst}
use Rattle.clause_types.proofs.Labels.{same_at}
use Rattle.clause_types.proofs.clause.item_of_key.Goals as goal

not_below : (m n : ℕ) → n ≤ m → nat_lt m n ≡ false
not_below m n h = search rules

no_item_is : (items : List declared.Item) (key : Ast) (n : ℕ) (text : List ℕ) → n ≡ item_number (map item_of items) (term_of key) → length items ≤ n
    → text ≡ name_kept (term_of key) → broken true key.at (UnknownColumn text) ≡ no_item (map item_of items) (term_of key)
no_item_is items key n text is end kept =
    let none : has_item (map item_of items) (term_of key) ≡ false =
    ap₂ (λ (a b : ℕ). nat_lt a b) (sym is) (length-map items item_of) ∙ not_below n (length items) end in
    ap (λ (b : Bool). broken b key.at (UnknownColumn text)) (sym (ap not none))
    ∙ (ap (λ (at : ℕ). broken (not (has_item (map item_of items) (term_of key))) at (UnknownColumn text)) (sym (same_at key.at key.form))
    ∙ ap (λ (t : List ℕ). broken (not (has_item (map item_of items) (term_of key))) (at_of (term_of key)) (UnknownColumn t)) kept)

pub returns-then-found-items-clause-fault : goal.returns-then-found-items-clause-fault
returns-then-found-items-clause-fault c =
    subst (λ (fs : List Breach). IsFirst fs c.unknown_column.result)
    (no_item_is c.args.items.now c.args.key.now c.item_number-found.result c.name_kept.result.now c.item_number-found.ensures c.if-found-items.true c.name_kept.ensures)
    c.unknown_column.ensures
