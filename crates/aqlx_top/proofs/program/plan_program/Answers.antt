use Rattle.std.proofs.Common.{map}
use Rattle.std.proofs.lemmas.Result.{IfOk-weaker, IfErr-weaker, err_from_is_err_and}
use Rattle.aql_syntax.specs.Views.{statement_of}
use Rattle.aqlx_top.proofs.Compiling as law
use Rattle.aqlx_top.proofs.program.plan_program.Goals as goal

pub returns-in_err-check_sizes-clause-fault : goal.returns-in_err-check_sizes-clause-fault
returns-in_err-check_sizes-clause-fault c =
    let p = err_from_is_err_and c.from_residual-in_err-check_sizes.result c.from_residual-in_err-check_sizes.ensures.1 in
    rw (p.1, p.2) (law.refused_sizes c.args.text.now c.in_ok-toks.toks.items c.tokens_of.ensures.decided c.in_ok-toks.ensures.tokens _ (rw c.deref.ensures.value at c.in_err-check_sizes.ensures.fault))

pub returns-in-Err-Fault-clause-fault : goal.returns-in-Err-Fault-clause-fault
returns-in-Err-Fault-clause-fault c =
    rw c.in-Err-Fault.field-0-is
    (law.refused_syntax c.args.text.now c.in_ok-toks.toks.items c.tokens_of.ensures.decided c.in_ok-toks.ensures.tokens
    (rw c.deref.ensures.value at c.in_ok-check_sizes.ensures.within) (rw c.deref-2.ensures.value at c.parse.ensures.decided)
    c.in-Err-Fault.fault (rw (c.in-Err-Fault.field-0-is, c.deref-2.ensures.value) at c.in-Err-Fault.ensures.fault))

pub returns-in-Ok-clause-planned : goal.returns-in-Ok-clause-planned
returns-in-Ok-clause-planned c =
    IfOk-weaker c.build.result _ _
    (law.built_from c.args.text.now c.in_ok-toks.toks.items c.tokens_of.ensures.decided c.in_ok-toks.ensures.tokens
    (rw c.deref.ensures.value at c.in_ok-check_sizes.ensures.within) (rw c.deref-2.ensures.value at c.parse.ensures.decided)
    (map statement_of c.in-Ok.statements.items) (rw c.deref-2.ensures.value at c.in-Ok.ensures.trees) (rw c.deref-2.ensures.value at c.in-Ok.ensures.placed) c.build.ensures.decided)
    c.build.ensures.built

pub returns-in-Ok-clause-fault : goal.returns-in-Ok-clause-fault
returns-in-Ok-clause-fault c =
    IfErr-weaker c.build.result _ _
    (law.refused_form c.args.text.now c.in_ok-toks.toks.items c.tokens_of.ensures.decided c.in_ok-toks.ensures.tokens
    (rw c.deref.ensures.value at c.in_ok-check_sizes.ensures.within) (rw c.deref-2.ensures.value at c.parse.ensures.decided)
    (map statement_of c.in-Ok.statements.items) (rw c.deref-2.ensures.value at c.in-Ok.ensures.trees) (rw c.deref-2.ensures.value at c.in-Ok.ensures.placed) c.build.ensures.decided)
    (rw c.deref-in-Ok.ensures.value at c.build.ensures.fault)
