use Rattle.std.proofs.Common.{◌≡◌, drop}
use Rattle.std.specs.List.{list_all}
use Rattle.scalar_ops.specs.Expressions.{does_read_from}
use Rattle.scalar_ops.specs.Views.{term_of}
use Rattle.push_select.proofs.reading.+reads_from.Given as goal

-- what is left decides
abbrev pub invariant-all_read_from-loop-expr : goal.invariant-all_read_from-loop-expr
invariant-all_read_from-loop-expr l =
    list_all (λ e. does_read_from l.width (term_of e)) (drop l.expr-index l.exprs) ≡ list_all (λ e. does_read_from l.width (term_of e)) l.exprs
