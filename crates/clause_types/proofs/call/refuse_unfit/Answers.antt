use Rattle.std.proofs.Common.{◌≡◌, ◌∙◌, ap, sym, map, true, subst, arith, ◌≤◌, length, slice_get}
use Rattle.scalar_ops.specs.declared.kind.Kind.{Kind}
use Rattle.scalar_ops.specs.declared.kind.Kind.TheVariants.{Nothing}
use Rattle.clause_types.specs.declared.fault.TypeRule.TheVariants.{WrongArgument}
use Rattle.clause_types.specs.Faults.{broken}
use Rattle.clause_types.specs.Refusals.{IsFirst}
use Rattle.clause_types.specs.Callees.{wanted_of}
use Rattle.clause_types.specs.Calls.{wrong_arguments}
use Rattle.clause_types.specs.Knowns.{known_of}
use Rattle.clause_types.specs.Typings.{kinds_of}
use Rattle.clause_types.specs.Views.{seen}
use Rattle.clause_types.specs.FaultLaws.{raised}
use Rattle.clause_types.proofs.Unfit.{fitting, not_fitting, surplus, all_fit, missing}
use Rattle.clause_types.proofs.call.refuse_unfit.Goals as goal

pub returns-in_err-refuse_wrong-in-Some-clause-fault : goal.returns-in_err-refuse_wrong-in-Some-clause-fault
returns-in_err-refuse_wrong-in-Some-clause-fault c =
    let ws = wanted_of c.args.callee (kinds_of (map seen c.args.args.now)) in
    let faults = wrong_arguments (known_of c.args.known.now) c.args.at ws (map seen c.args.args.now) in
    let x = c.index-args-number in
    raised c.from_residual.result faults c.in_err-refuse_wrong-in-Some.field-0.0 c.from_residual.ensures.1
    (not_fitting (known_of c.args.known.now) c.args.at ws c.args.args.now c.loop-number.number c.loop-number.invariant x.result x.is c.loop-number-test.true
    c.in-Some.wanted (sym c.wanted.ensures ∙ c.in-Some.is) c.in_err-refuse_wrong-in-Some.field-0.0 c.in_err-refuse_wrong-in-Some.ensures.fault)

pub returns-in-None-clause-fault : goal.returns-in-None-clause-fault
returns-in-None-clause-fault c =
    let ws = wanted_of c.args.callee (kinds_of (map seen c.args.args.now)) in
    let x = c.index-args-number in
    surplus (known_of c.args.known.now) c.args.at ws c.args.args.now c.loop-number.number c.loop-number.invariant x.result x.is c.loop-number-test.true
    (sym c.wanted.ensures ∙ c.in-None.is) c.refusal.result c.refusal.ensures

pub loop-number-preserved : goal.loop-number-preserved
loop-number-preserved c =
    let ws = wanted_of c.args.callee (kinds_of (map seen c.args.args.now)) in
    let x = c.index-args-number in
    fitting (known_of c.args.known.now) c.args.at ws c.args.args.now c.loop-number.number c.loop-number.invariant x.result x.is c.loop-number-test.true
    c.in-Some.wanted (sym c.wanted.ensures ∙ c.in-Some.is) c.in_ok-refuse_wrong-in-Some.ensures.ok

pub returns-in-None-wanted-clause-ok : goal.returns-in-None-wanted-clause-ok
returns-in-None-wanted-clause-ok c =
    let ws = wanted_of c.args.callee (kinds_of (map seen c.args.args.now)) in
    let end : length c.args.args.now ≤ c.loop-number.number = omega (arith, c.loop-number-test.false) in
    let short : c.loop-number.number ≤ length c.args.args.now = omega (arith, c.loop-number.auto) in
    let at : c.loop-number.number ≡ length c.args.args.now = omega (arith, end, short) in
    all_fit (known_of c.args.known.now) c.args.at ws c.args.args.now c.loop-number.number c.loop-number.invariant end
    (ap (λ i. slice_get ws i) at ∙ (sym c.wanted-2.ensures ∙ c.in-None-wanted.is))

pub returns-in-Some-wanted-clause-fault : goal.returns-in-Some-wanted-clause-fault
returns-in-Some-wanted-clause-fault c =
    let ws = wanted_of c.args.callee (kinds_of (map seen c.args.args.now)) in
    let end : length c.args.args.now ≤ c.loop-number.number = omega (arith, c.loop-number-test.false) in
    let short : c.loop-number.number ≤ length c.args.args.now = omega (arith, c.loop-number.auto) in
    let at : c.loop-number.number ≡ length c.args.args.now = omega (arith, end, short) in
    missing (known_of c.args.known.now) c.args.at ws c.args.args.now c.loop-number.number c.loop-number.invariant end
    c.in-Some-wanted.wanted (ap (λ i. slice_get ws i) at ∙ (sym c.wanted-2.ensures ∙ c.in-Some-wanted.is)) c.refusal-in-Some-wanted.result
    (subst (λ (k : Kind). IsFirst (broken true c.args.at (WrongArgument k Nothing)) c.refusal-in-Some-wanted.result) c.kind.ensures c.refusal-in-Some-wanted.ensures)
