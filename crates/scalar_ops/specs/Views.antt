-- How definitions see the expressions of the code.
use Rattle.scalar_ops.specs.declared.expr.Expr.{Expr, Row_of-Expr, end_of-Expr, more_of-Expr}
use Rattle.scalar_ops.specs.declared.expr.Expr.TheVariants as expr
use Rattle.scalar_ops.specs.Expressions.{Term, column, number, string, call, Terms, none, more}

abbrev mutual
  -- an expression of the code as a term
  pub term_of : Expr → Term
  term_of (expr.Column n) = column n
  term_of (expr.Int n) = number n
  term_of (expr.Str t) = string t
  term_of (expr.Call' op shape args) = call op (terms_of args)

  pub terms_of : {n : _} → Row_of-Expr n → Terms
  terms_of end_of-Expr = none
  terms_of (more_of-Expr arg rest) = more (term_of arg) (terms_of rest)
