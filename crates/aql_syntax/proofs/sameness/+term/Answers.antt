use Rattle.std.proofs.Common.{◌∙◌, ◌&&◌, Bool, map, ap, sym}
use Rattle.std.proofs.lemmas.List.{length-map}
use Rattle.aql_syntax.specs.Trees.{Term, call, as_terms}
use Rattle.aql_syntax.specs.Views.{term_of}
use Rattle.aql_syntax.specs.Sameness.{is_same, are_same}
use Rattle.aql_syntax.specs.LawProofs.SameTerms.{called, not_as_long}
use Rattle.aql_syntax.proofs.sameness.+term.Goals as goal

pub is_call-returns-then-eq : goal.is_call-returns-then-eq
is_call-returns-then-eq t c =
    let args = as_terms (map term_of c.args.args.now) in
    let others = as_terms (map term_of c.deref.result.now) in
    c.terms.ensures
    ∙ ap (λ (same : Bool). same && are_same args others) (sym c.if-eq.true ∙ c.eq.ensures)
    ∙ ap (λ (other : Term). is_same (call 0 c.args.word.now args) other)
    (sym (called c.args.ast.now.at c.args.ast.now.form c.in-Call.name c.in-Call.others c.in-Call.is c.as_str.result.now c.as_str.ensures c.deref.result.now c.deref.ensures.value))

pub term-returns-in-Call : goal.term-returns-in-Call
term-returns-in-Call t c =
    c.is_call.ensures
    ∙ ap (λ (term : Term). is_same term (term_of c.args.b.now))
    (sym (called c.args.a.now.at c.args.a.now.form c.in-Call.name c.in-Call.args c.in-Call.is c.as_str-in-Call.result.now c.as_str-in-Call.ensures c.deref.result.now c.deref.ensures.value))

pub terms-returns-then-args-others : goal.terms-returns-then-args-others
terms-returns-then-args-others t c =
    sym (not_as_long (map term_of c.args.args.now) (map term_of c.args.others.now)
    (λ same. c.if-args-others.true (sym (length-map c.args.args.now term_of) ∙ same ∙ length-map c.args.others.now term_of)))
