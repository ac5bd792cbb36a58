use Rattle.std.proofs.Common.{take}
use Rattle.std.specs.List.{All}
use Rattle.scalar_ops.specs.declared.expr.Expr.{Expr}
use Rattle.scalar_ops.specs.Views.{term_of}
use Rattle.push_select.specs.Joins.{join_of, IsOfOtherRank}
use Rattle.push_select.proofs.join.first_of.Given as goal

abbrev pub invariant-loop-number : goal.invariant-loop-number
invariant-loop-number l = All (λ (cond : Expr). IsOfOtherRank l.rank (join_of l.width (term_of cond))) (take l.number l.conds)
