-- The condition of a selection that a join stands for.
use Rattle.std.specs.Prelude.{ℕ}
use Rattle.scalar_ops.specs.declared.op.Op.TheVariants as op
use Rattle.scalar_ops.specs.declared.op.Op.{Op}
use Rattle.scalar_ops.specs.Expressions.{Term, column, call, none, more}
use Rattle.algebra.specs.declared.node.JoinKind.{JoinKind}
use Rattle.algebra.specs.declared.node.JoinKind.TheVariants as kind

-- an operator of two columns
abbrev pub of_columns : Op → ℕ → ℕ → Term
of_columns o a b = call o (more (column a) (more (column b) none))

-- the predicate of a join as a condition, of the left column and the right one
abbrev pub predicate : JoinKind → ℕ → ℕ → Term
predicate (kind.Follows min max) a b = of_columns (op.Follows min max) a b
predicate (kind.FollowsTok min max) a b = of_columns (op.FollowsTok min max) a b
predicate kind.Overlaps a b = of_columns op.Overlaps a b
predicate kind.Contains a b = of_columns op.Contains a b
predicate (kind.FollowsBack min max) a b = of_columns (op.Follows min max) b a
predicate (kind.FollowsTokBack min max) a b = of_columns (op.FollowsTok min max) b a
predicate kind.ContainsBack a b = of_columns op.Contains b a
