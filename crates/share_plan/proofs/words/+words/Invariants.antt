use Rattle.std.proofs.Common.{◌≡◌, ◌++◌, map, take}
use Rattle.scalar_ops.specs.Views.{term_of}
use Rattle.share_plan.specs.ExprWords.{list_words}
use Rattle.share_plan.proofs.words.+words.Given as goal

abbrev pub invariant-push_exprs-loop-expr : goal.invariant-push_exprs-loop-expr
invariant-push_exprs-loop-expr l = l.words.items ≡ l.fn.words.items ++ list_words (map term_of (take l.expr-index l.exprs))
