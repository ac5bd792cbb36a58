use Rattle.std.proofs.Common.{rules, ◌≡◌, List, length, map, sym, subst}
use Rattle.std.specs.Prelude.{slice_get}
use Rattle.scalar_ops.specs.Expressions.{Term}
use Rattle.scalar_ops.specs.Views.{term_of}
use Rattle.algebra.specs.declared.node.Node.TheVariants.{Select}
use Rattle.algebra.specs.Nodes.{IsNode}
use Rattle.algebra.specs.Shapes.{shapes_of}
use Rattle.push_select.specs.Pushed.{StandAbove}
use Rattle.push_select.proofs.Replacing.{terms_none, stands-none}
use Rattle.push_select.proofs.Standing.{pushed-add}
use Rattle.push_select.proofs.joining.filtered.Goals as goal

pub returns-then-is_empty-clause-stands : goal.returns-then-is_empty-clause-stands
returns-then-is_empty-clause-stands c =
    let none : length c.args.conds.items ≡ 0 = search rules in
    stands-none c.args.nodes.now c.args.input (map term_of c.args.conds.items) (terms_none c.args.conds.items none) c.requires.plain c.requires.valid

pub returns-clause-pushed : goal.returns-clause-pushed
returns-clause-pushed c =
    pushed-add c.args.nodes.now c.add.new.self (Select c.args.input c.from-conds.result) c.in_ok-n.ensures.ok.1
    (subst (λ (cs : List Term). IsNode (shapes_of c.args.nodes.now) (Select c.args.input cs)) (sym c.from-conds.ensures) c.requires.valid) c.requires.pushed
    (subst (λ (cs : List Term). StandAbove c.args.nodes.now cs (slice_get c.args.nodes.now c.args.input)) (sym c.from-conds.ensures) c.requires.above)
    tt
