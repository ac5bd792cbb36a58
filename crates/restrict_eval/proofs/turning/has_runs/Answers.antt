use Rattle.std.proofs.Common.{◌≡◌, sym, subst, Option, Some, true≢false}
use Rattle.std.specs.Prelude.{slice_get}
use Rattle.std.specs.Option.{IfSome, IfNone}
use Rattle.algebra.specs.declared.node.Node.TheVariants.{Doc}
use Rattle.restrict_eval.specs.declared.nearness.Near.{Near}
use Rattle.restrict_eval.specs.Restricting.{Finds, HasFound}
use Rattle.restrict_eval.proofs.Sides.{found_runs, told_runs}
use Rattle.restrict_eval.proofs.turning.has_runs.Goals as goal

pub returns-in-Some : goal.returns-in-Some
returns-in-Some c =
    let nodes = c.args.nodes.now in
    let near = c.in-Some.near in
    let found = subst (λ (o : Option Near). IfSome o (λ near. Finds nodes c.args.n near.source near.sought × (slice_get nodes near.source ≡ Some Doc))) c.in-Some.is c.sought_by.ensures.some in
    told_runs nodes c.args.n near.source near.sought c.is_pattern.result found.0 found.1 c.is_pattern.ensures.pattern c.is_pattern.ensures.other

pub returns-in-None : goal.returns-in-None
returns-in-None c =
    let none = subst (λ (o : Option Near). IfNone o (HasFound c.args.nodes.now c.args.n → ⊥)) c.in-None.is c.sought_by.ensures.none in
    (λ test. absurd (true≢false (sym test)), λ runs. absurd (none (found_runs c.args.nodes.now c.args.n runs)))
