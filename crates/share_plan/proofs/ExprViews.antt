-- An expression that is made of a list is seen through its elements.
use Rattle.std.proofs.Common.{◌≡◌, ◌∙◌, List, map, refl, ap}
use Rattle.std.specs.declared.vec.Vec.{Vec}
use Rattle.std.specs.declared.alloc.Global.{Global}
use mathlib.Core.Former.{Count}
use Rattle.scalar_ops.specs.declared.op.Op.{Op}
use Rattle.scalar_ops.specs.declared.expr.Expr.{Expr, Row_of-Expr, end_of-Expr, more_of-Expr, items-the_row-Expr, items_hidden-the_row-Expr-0}
use Rattle.scalar_ops.specs.declared.expr.Expr.TheVariants as expr
use Rattle.scalar_ops.specs.Expressions.{call, more, terms}
use Rattle.scalar_ops.specs.Views.{term_of, terms_of}

args_view : (n : Count) (row : Row_of-Expr n) → terms_of row ≡ terms (map term_of (items-the_row-Expr n row))
args_view n end_of-Expr = refl
args_view n (more_of-Expr arg rest) = ap (more (term_of arg)) (args_view _ rest)

abbrev args_of : Expr → (n : Count) × Row_of-Expr n
args_of (expr.Call' op shape row) = (_, row)
args_of _ = (_, end_of-Expr)

-- a call is seen through the list of its arguments
pub call_view : (op : Op) (args : Vec Expr Global) → term_of (expr.Call op args) ≡ call op (terms (map term_of args.items))
call_view op args =
    let row = args_of (expr.Call op args) in
    ap (call op) (args_view row.0 row.1 ∙ ap (λ (xs : List Expr). terms (map term_of xs)) (items_hidden-the_row-Expr-0 args))
