use Rattle.std.proofs.Common.{◌∙◌, ◌&&◌, Bool, map, ap, sym}
use Rattle.std.proofs.lemmas.List.{length-map}
use Rattle.aql_syntax.specs.Trees.{Term, call, as_terms}
use Rattle.aql_syntax.specs.Views.{term_of, item_of}
use Rattle.aql_syntax.specs.Sameness.{is_same, are_same}
use Rattle.clause_types.specs.Keys.{written_out}
use Rattle.clause_types.proofs.KeyLists.{called, written_call}
use Rattle.aql_syntax.specs.SamenessLaws.{not_as_long}
use Rattle.clause_types.proofs.key.+key.Goals as goal

pub args_same-returns-then-args-others : goal.args_same-returns-then-args-others
args_same-returns-then-args-others t c =
    let out = written_out (map item_of c.args.items.now) in
    let terms = map term_of c.args.args.now in
    sym (not_as_long (map out terms) (map term_of c.args.others.now)
    (λ same. c.if-args-others.true
    (sym (length-map c.args.args.now term_of) ∙ (sym (length-map terms out) ∙ (same ∙ length-map c.args.others.now term_of)))))

pub call_same-returns-then-eq : goal.call_same-returns-then-eq
call_same-returns-then-eq t c =
    let args = as_terms (map (written_out (map item_of c.args.items.now)) (map term_of c.args.args.now)) in
    let others = as_terms (map term_of c.deref.result.now) in
    c.args_same.ensures
    ∙ (ap (λ (same : Bool). same && are_same args others) (sym c.if-eq.true ∙ c.eq.ensures)
    ∙ ap (λ (other : Term). is_same (call 0 c.args.word.now args) other)
    (sym (called c.args.expr.now.at c.args.expr.now.form c.in-Call.name c.in-Call.others c.in-Call.is c.as_str.result.now c.as_str.ensures c.deref.result.now c.deref.ensures.value)))

pub key_same-returns-in-Call : goal.key_same-returns-in-Call
key_same-returns-in-Call t c =
    c.call_same.ensures
    ∙ ap (λ (term : Term). is_same term (term_of c.args.expr.now))
    (sym (written_call (map item_of c.args.items.now) c.args.key.now.at c.args.key.now.form c.in-Call.name c.in-Call.args c.in-Call.is c.as_str.result.now c.as_str.ensures c.deref.result.now c.deref.ensures.value))
