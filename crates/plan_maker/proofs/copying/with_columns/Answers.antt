use Rattle.std.proofs.Common.{◌≡◌, ◌∙◌, ◌++◌, ◌∷◌, ◌+◌, List, [], map, ap, sym, append_assoc, refl}
use Rattle.std.proofs.lemmas.List.{map-append}
use Rattle.scalar_ops.specs.Expressions.{Term, column}
use Rattle.scalar_ops.specs.Views.{term_of}
use Rattle.scalar_ops.specs.declared.expr.Expr.{Expr}
use Rattle.scalar_ops.specs.declared.expr.Expr.TheVariants as expr
use Rattle.algebra.specs.ExtractionLaws.{columns_from}
use Rattle.plan_maker.proofs.Numbers.{columns_more}
use Rattle.plan_maker.proofs.copying.with_columns.Goals as goal

pub loop-number-preserved : goal.loop-number-preserved
loop-number-preserved c =
    let n = c.loop-number.number in
    let last : List Term = column (c.args.first + n) ∷ [] in
    ap (map term_of) c.in_ok-push.ensures.items
    ∙ (map-append term_of c.loop-number.all.items (expr.Column (c.args.first + n) ∷ [])
    ∙ (ap (λ (ts : List Term). ts ++ last) c.loop-number.invariant
    ∙ (append_assoc (map term_of c.args.items.now) (columns_from c.args.first n) last
    ∙ ap (λ (ts : List Term). map term_of c.args.items.now ++ ts) (sym (columns_more c.args.first n (c.args.first + n) refl)))))
