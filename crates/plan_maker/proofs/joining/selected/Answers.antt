use Rattle.std.proofs.Common.{rules, ◌≡◌, ◌∙◌, List, [], ◌∷◌, length, refl, ap, sym, arith, Bor}
use Rattle.scalar_ops.specs.declared.expr.Expr.{Expr}
use Rattle.scalar_ops.specs.Expressions.{Term}
use Rattle.aql_typed.specs.Meaning.{selected}
use Rattle.plan_maker.specs.Grounds.{terms_lent}
use Rattle.plan_maker.proofs.Combining.{no_item, selected-none}
use Rattle.plan_maker.proofs.Giving.{valid-select, gives-select, gives-is}
use Rattle.plan_maker.proofs.joining.selected.Goals as goal

pub returns-then-is_empty-clause-gives : goal.returns-then-is_empty-clause-gives
returns-then-is_empty-clause-gives c = λ can.
    let are : c.args.conds.now ≡ [] = no_item c.args.conds.now (search rules) in
    gives-is _ _ _ _ _ (λ lists doc. sym (selected-none lists doc (can.rows lists doc)) ∙ ap (λ (cs : List (Bor Expr)). selected lists doc (terms_lent cs) (can.rows lists doc)) (sym are)) can.gives

pub add-requires : goal.add-requires
add-requires c = record { valid = valid-select _ _ _ _ c.requires.can.gives _ (terms_lent c.args.conds.now) c.in_ok-conds.ensures c.requires.can.wanted }

pub returns-clause-gives : goal.returns-clause-gives
returns-clause-gives c = λ can. gives-select _ _ _ _ can.gives _ (terms_lent c.args.conds.now) c.in_ok-conds.ensures _ _ c.in_ok-n.ensures.stands
