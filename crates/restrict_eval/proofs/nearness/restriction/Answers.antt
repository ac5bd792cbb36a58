use Rattle.std.proofs.Common.{◌∙◌, ℕ, length, refl, sym, ap, subst, Option, Some, true≢false}
use Rattle.std.specs.Option.{IfSome, IfNone}
use Rattle.std.proofs.lemmas.Option.{slice_get_read}
use Rattle.algebra.specs.declared.node.Node.{Node}
use Rattle.restrict_eval.specs.declared.nearness.Near.{Near}
use Rattle.restrict_eval.specs.Nears.{IsNear}
use Rattle.restrict_eval.specs.Restricting.{HasFound, ShowsMatch}
use Rattle.restrict_eval.proofs.Fates.{only_both, restriction_of, left_other, left_join}
use Rattle.restrict_eval.proofs.nearness.restriction.Goals.{else-is_live-via-then-is_live+then-is_only+else-is_only-2, else-is_live-via-then-is_live+else-is_only, else-is_live-via-else-is_live}
use Rattle.restrict_eval.proofs.nearness.restriction.Goals as goal

pub returns-then-is_only-2 : goal.returns-then-is_only-2
returns-then-is_only-2 c outputs are =
    let nodes = c.args.nodes.now in
    let is = slice_get_read nodes (length nodes) c.args.j c.get.result.now refl c.requires.there c.get.ensures.node ∙ ap (λ (x : Node). Some x) c.in-SpanJoin.is in
    let near = c.in-Some.near in
    let is_near : IsNear nodes c.in-SpanJoin.right c.in-SpanJoin.rc near =
    subst (λ (o : Option Near). IfSome o (λ near. IsNear nodes c.in-SpanJoin.right c.in-SpanJoin.rc near)) c.in-Some.is c.in_ok-near-in-SpanJoin.ensures.some in
    restriction_of nodes outputs c.args.j c.in-SpanJoin.right c.in-SpanJoin.rc c.in-SpanJoin.left c.in-SpanJoin.lc c.in-SpanJoin.kind c.in-SpanJoin.conditional near is is_near
    ((c.is_live.ensures nodes outputs are).0 c.if-is_live.true)
    ((c.is_only.ensures nodes outputs are).0 c.if-is_only.true)
    ((c.is_only-then-is_only.ensures nodes outputs are).0 c.if-is_only-2.true)

pub returns-else-is_live : goal.returns-else-is_live
returns-else-is_live c outputs are =
    let nodes = c.args.nodes.now in
    let is = slice_get_read nodes (length nodes) c.args.j c.get.result.now refl c.requires.there c.get.ensures.node ∙ ap (λ (x : Node). Some x) c.in-SpanJoin.is in
    let near = c.in-Some.near in
    let is_near : IsNear nodes c.in-SpanJoin.right c.in-SpanJoin.rc near =
    subst (λ (o : Option Near). IfSome o (λ near. IsNear nodes c.in-SpanJoin.right c.in-SpanJoin.rc near)) c.in-Some.is c.in_ok-near-in-SpanJoin.ensures.some in
    left_join nodes outputs c.args.j c.in-SpanJoin.left c.in-SpanJoin.right c.in-SpanJoin.lc c.in-SpanJoin.rc c.in-SpanJoin.kind c.in-SpanJoin.conditional is (λ live may.
    let only = only_both nodes outputs c.args.j c.in-SpanJoin.right c.in-SpanJoin.rc near is_near may in
    elim c.else-is_live.branch [
      | else-is_live-via-then-is_live+then-is_only+else-is_only-2 w ↦ true≢false (sym ((w.is_only-then-is_only.ensures nodes outputs are).1 only.1) ∙ w.if-is_only-2.false)
      | else-is_live-via-then-is_live+else-is_only w ↦ true≢false (sym ((w.is_only.ensures nodes outputs are).1 only.0) ∙ w.if-is_only.false)
      | else-is_live-via-else-is_live w ↦ true≢false (sym ((c.is_live.ensures nodes outputs are).1 live) ∙ w.if-is_live.false)
    ])

pub returns-in-None : goal.returns-in-None
returns-in-None c outputs are =
    let nodes = c.args.nodes.now in
    let is = slice_get_read nodes (length nodes) c.args.j c.get.result.now refl c.requires.there c.get.ensures.node ∙ ap (λ (x : Node). Some x) c.in-SpanJoin.is in
    let none : (t : ℕ) → HasFound nodes t → ShowsMatch nodes t c.in-SpanJoin.right c.in-SpanJoin.rc → ⊥ =
    subst (λ (o : Option Near). IfNone o ((t : ℕ) → HasFound nodes t → ShowsMatch nodes t c.in-SpanJoin.right c.in-SpanJoin.rc → ⊥)) c.in-None.is c.in_ok-near-in-SpanJoin.ensures.none in
    left_join nodes outputs c.args.j c.in-SpanJoin.left c.in-SpanJoin.right c.in-SpanJoin.lc c.in-SpanJoin.rc c.in-SpanJoin.kind c.in-SpanJoin.conditional is (λ live may. none may.t may.found may.match)

pub returns-in_default : goal.returns-in_default
returns-in_default c outputs are =
    let nodes = c.args.nodes.now in
    let is = slice_get_read nodes (length nodes) c.args.j c.get.result.now refl c.requires.there c.get.ensures.node in
    left_other nodes outputs c.args.j c.get.result.now is (λ l r lc rc kind conditional e. c.in_default.not-SpanJoin l r kind lc rc conditional e)
