use Rattle.std.proofs.Common.{◌∙◌, ◌++◌, ◌∷◌, List, [], map, ap, sym, append_assoc, arith}
use Rattle.std.proofs.lemmas.List.{map-append}
use Rattle.scalar_ops.specs.Expressions.{Term, column}
use Rattle.scalar_ops.specs.Views.{term_of}
use Rattle.scalar_ops.specs.declared.expr.Expr.TheVariants as expr
use Rattle.algebra.specs.ExtractionLaws.{columns_from}
use Rattle.restrict_eval.proofs.Nearing.{columns_more}
use Rattle.restrict_eval.proofs.rebuilding.push_first.Goals as goal

pub loop-n-preserved : goal.loop-n-preserved
loop-n-preserved c =
    let n = c.loop-n.n in
    let last : List Term = column n ∷ [] in
    ap (map term_of) c.in_ok-push.ensures.items
    ∙ (map-append term_of c.loop-n.items.items (expr.Column n ∷ [])
    ∙ (ap (λ (ts : List Term). ts ++ last) c.loop-n.invariant
    ∙ (append_assoc (map term_of c.args.items.now.items) (columns_from 0 n) last
    ∙ ap (λ (ts : List Term). map term_of c.args.items.now.items ++ ts) (sym (columns_more 0 n n (omega arith))))))
