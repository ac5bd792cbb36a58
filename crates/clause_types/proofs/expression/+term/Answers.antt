use Rattle.std.proofs.Common.{◌≡◌, ◌∙◌, ℕ, List, map, ap, ap₂, sym, subst, IfOk, IfErr}
use Rattle.aql_syntax.specs.declared.tree.Ast.{Ast}
use Rattle.aql_syntax.specs.declared.tree.Form.{Form}
use Rattle.aql_syntax.specs.Views.{term_at, term_of}
use Rattle.clause_types.specs.Calls.{typing_of_call}
use Rattle.clause_types.specs.Expressions.{typing}
use Rattle.clause_types.specs.Refusals.{IsFirst}
use Rattle.clause_types.specs.Knowns.{known_of}
use Rattle.clause_types.specs.Typings.{Typing}
use Rattle.clause_types.specs.Views.{seen, scope_of}
use Rattle.clause_types.proofs.Terms.{call_typing}
use Rattle.clause_types.proofs.expression.+term.Goals as goal

pub term-returns-in-Call-clause-ok : goal.term-returns-in-Call-clause-ok
term-returns-in-Call-clause-ok t c =
    let said = typing (known_of c.args.known.now) (scope_of c.args.scope.now) in
    let is = ap (λ (f : Form). said (term_at c.args.ast.now.at f)) c.in-Call.is
    ∙ (call_typing (known_of c.args.known.now) (scope_of c.args.scope.now) c.args.ast.now.at c.in-Call.name c.in-Call.args
    ∙ ap₂ (λ (name : List ℕ) (args : List Ast). typing_of_call (known_of c.args.known.now) c.args.ast.now.at name (map said (map term_of args)))
    (sym c.as_str-in-Call.ensures) (sym c.deref.ensures.value)) in
    subst (λ (x : Typing). IfOk c.called.result (λ given. x ≡ seen given)) (sym is) c.called.ensures.ok

pub term-returns-in-Call-clause-fault : goal.term-returns-in-Call-clause-fault
term-returns-in-Call-clause-fault t c =
    let said = typing (known_of c.args.known.now) (scope_of c.args.scope.now) in
    let is = ap (λ (f : Form). said (term_at c.args.ast.now.at f)) c.in-Call.is
    ∙ (call_typing (known_of c.args.known.now) (scope_of c.args.scope.now) c.args.ast.now.at c.in-Call.name c.in-Call.args
    ∙ ap₂ (λ (name : List ℕ) (args : List Ast). typing_of_call (known_of c.args.known.now) c.args.ast.now.at name (map said (map term_of args)))
    (sym c.as_str-in-Call.ensures) (sym c.deref.ensures.value)) in
    subst (λ (x : Typing). IfErr c.called.result (IsFirst x.faults)) (sym is) c.called.ensures.fault
