use Rattle.std.proofs.Common.{◌≡◌, ◌∙◌, List, map, sym, subst}
use Rattle.scalar_ops.specs.Expressions.{Term, column}
use Rattle.algebra.specs.declared.node.Node.TheVariants.{Project}
use Rattle.algebra.specs.Growth.{Stands}
use Rattle.algebra.specs.Nodes.{IsNode}
use Rattle.algebra.specs.Shapes.{shapes_of}
use Rattle.push_select.proofs.projecting.shown_of.Goals as goal

pub projected-requires-clause-valid : goal.projected-requires-clause-valid
projected-requires-clause-valid c =
    let items : c.from-items.result ≡ map column c.args.shown.now = c.from-items.ensures ∙ c.in_ok-items.ensures in
    subst (λ (ts : List Term). IsNode (shapes_of c.args.nodes.now) (Project c.args.input ts)) (sym items) c.requires.valid

pub returns-clause-stands : goal.returns-clause-stands
returns-clause-stands c =
    let items : c.from-items.result ≡ map column c.args.shown.now = c.from-items.ensures ∙ c.in_ok-items.ensures in
    subst (λ (ts : List Term). Stands c.args.nodes.now c.projected.new.nodes c.in_ok-n.n (Project c.args.input ts)) items c.in_ok-n.ensures.stands
