use Rattle.std.proofs.Common.{◌≡◌, List, map, IfSome, ap, subst}
use Rattle.row_values.specs.Datums.{Datum, int}
use Rattle.scalar_ops.specs.Values.{applied, value}
use Rattle.scalar_ops.specs.Views.{term_of}
use Rattle.scalar_ops.specs.declared.expr.Expr.{Expr}
use Rattle.scalar_ops.proofs.Viewing.{found_of_call}
use Rattle.scalar_ops.proofs.comparisons.integer.Goals as goal

pub returns-in-Call : goal.returns-in-Call
returns-in-Call c = λ lists doc.
    let f : Expr → Datum = λ e. value lists doc c.args.row.now (term_of e) in
    let of_args : List Expr → Datum = λ xs. applied lists doc c.in-Call.op (map f xs) in
    let P : Datum → Type 0 = λ d. IfSome c.number.result (λ n. d ≡ int n) in
    subst P (found_of_call lists doc c.args.row.now c.args.expr.now c.in-Call.op c.in-Call.args (of_args c.as_slice.result.now) c.in-Call.is (ap of_args c.as_slice.ensures.value))
    (c.number.ensures lists doc)
