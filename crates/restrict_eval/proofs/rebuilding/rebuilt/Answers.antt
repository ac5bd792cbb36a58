use Rattle.std.proofs.Common.{rules, ◌≡◌, ◌∙◌, ◌<◌, ◌+◌, ℕ, List, [], ◌∷◌, ◌++◌, length, map, get_or, drop, ap, ap₂, sym, subst, Global, Option, None, arith}
use Rattle.std.proofs.lemmas.Iterator.Adapters.{YieldsList-from_vec}
use Rattle.std.proofs.lemmas.Iterator.Consumers.{YieldsList-turn, YieldsList-so_far, YieldsList-end}
use Rattle.std.proofs.lemmas.List.{length-append, map-id}
use Rattle.algebra.specs.declared.node.Node.{Node}
use Rattle.restrict_eval.specs.declared.nearness.Near.{Near}
use Rattle.restrict_eval.specs.Nears.{IsFate}
use Rattle.restrict_eval.specs.Putting.{put_for, MayPut}
use Rattle.restrict_eval.proofs.Fates.{fate_read}
use Rattle.restrict_eval.proofs.Growing.{IsBuilt, built_all, taken, may_put, one_more}
use Rattle.restrict_eval.proofs.rebuilding.rebuilt.Goals as goal

pub put-requires : goal.put-requires
put-requires c =
    let items = c.into_vec-node-items.result.items in
    let list = YieldsList-from_vec {Z = Global} items (search rules) (search rules) in
    let turn = YieldsList-turn list c.loop-node.yielded c.loop-node.node-iterator c.loop-node.yielded_by c.next.result c.next.new.self c.in-Some.node c.in-Some.is c.next.ensures.steps in
    let so_far = YieldsList-so_far list c.loop-node.yielded c.loop-node.node-iterator c.loop-node.yielded_by in
    let rest = drop (length c.loop-node.yielded + 1) items in
    let whole : c.args.old ≡ c.loop-node.yielded ++ c.in-Some.node ∷ rest = sym c.into_vec-node-items.ensures.nodes ∙ taken items c.loop-node.yielded c.in-Some.node so_far turn.0 turn.1 in
    let outs = map (λ out. out.node) c.args.outputs.now in
    let j = length c.loop-node.yielded in
    let fate = get_or c.in_ok-found.found.items j None in
    let below : j < length c.args.old = omega (arith, ap length whole, length-append c.loop-node.yielded (c.in-Some.node ∷ rest)) in
    let is_fate : IsFate c.args.old outs j fate = c.in_ok-found.ensures.each j below in
    let at_end : c.len.result ≡ j = omega (arith, c.len.ensures, c.loop-node.to.ok.0, c.loop-node.invariant.mapped.long) in
    let near_is : c.index.result.now ≡ fate =
    fate_read c.in_ok-found.found.items c.len.result j c.index.result.now at_end (omega (arith, below, c.in_ok-found.ensures.long)) c.index.ensures in
    record {
      may = subst (λ (to : List ℕ). MayPut c.loop-node.nodes to c.index.result.now c.in-Some.node) (sym c.as_slice.ensures.value)
          (subst (λ (near : Option Near). MayPut c.loop-node.nodes c.loop-node.to.items near c.in-Some.node) (sym near_is)
          (may_put c.args.old outs c.loop-node.yielded c.loop-node.nodes c.loop-node.to.items c.in-Some.node rest whole c.into_vec-node-items.ensures.plan c.loop-node.invariant fate is_fate));
    }

pub loop-node-preserved : goal.loop-node-preserved
loop-node-preserved c =
    let items = c.into_vec-node-items.result.items in
    let list = YieldsList-from_vec {Z = Global} items (search rules) (search rules) in
    let turn = YieldsList-turn list c.loop-node.yielded c.loop-node.node-iterator c.loop-node.yielded_by c.next.result c.next.new.self c.in-Some.node c.in-Some.is c.next.ensures.steps in
    let so_far = YieldsList-so_far list c.loop-node.yielded c.loop-node.node-iterator c.loop-node.yielded_by in
    let rest = drop (length c.loop-node.yielded + 1) items in
    let whole : c.args.old ≡ c.loop-node.yielded ++ c.in-Some.node ∷ rest = sym c.into_vec-node-items.ensures.nodes ∙ taken items c.loop-node.yielded c.in-Some.node so_far turn.0 turn.1 in
    let outs = map (λ out. out.node) c.args.outputs.now in
    let j = length c.loop-node.yielded in
    let fate = get_or c.in_ok-found.found.items j None in
    let below : j < length c.args.old = omega (arith, ap length whole, length-append c.loop-node.yielded (c.in-Some.node ∷ rest)) in
    let is_fate : IsFate c.args.old outs j fate = c.in_ok-found.ensures.each j below in
    let at_end : c.len.result ≡ j = omega (arith, c.len.ensures, c.loop-node.to.ok.0, c.loop-node.invariant.mapped.long) in
    let near_is : c.index.result.now ≡ fate =
    fate_read c.in_ok-found.found.items c.len.result j c.index.result.now at_end (omega (arith, below, c.in_ok-found.ensures.long)) c.index.ensures in
    let added : c.put.new.nodes ≡ c.loop-node.nodes ++ put_for c.loop-node.nodes c.loop-node.to.items fate c.in-Some.node =
    c.in_ok-n.ensures.added ∙ ap₂ (λ (to : List ℕ) (near : Option Near). c.loop-node.nodes ++ put_for c.loop-node.nodes to near c.in-Some.node) c.as_slice.ensures.value near_is in
    subst (λ (to : List ℕ). IsBuilt c.args.old outs (c.loop-node.yielded ++ c.in-Some.node ∷ []) c.put.new.nodes to) (sym c.in_ok-push.ensures.items)
    (one_more c.args.old outs c.loop-node.yielded c.loop-node.nodes c.loop-node.to.items c.in-Some.node rest whole c.into_vec-node-items.ensures.plan c.loop-node.invariant c.put.new.nodes c.in_ok-n.n fate is_fate added c.in_ok-n.ensures.last)

pub returns-clause-rebuilt : goal.returns-clause-rebuilt
returns-clause-rebuilt c =
    let items = c.into_vec-node-items.result.items in
    let outs = map (λ out. out.node) c.args.outputs.now in
    let list = YieldsList-from_vec {Z = Global} items (search rules) (search rules) in
    let all = YieldsList-end list c.loop-node.yielded c.loop-node.node-iterator c.loop-node.yielded_by c.next.result c.next.new.self c.in-None.is c.next.ensures.steps in
    let is : c.loop-node.yielded ≡ c.args.old = sym (map-id c.loop-node.yielded) ∙ (all.0 ∙ c.into_vec-node-items.ensures.nodes) in
    built_all c.args.old outs c.loop-node.nodes c.loop-node.to.items (subst (λ (front : List Node). IsBuilt c.args.old outs front c.loop-node.nodes c.loop-node.to.items) is c.loop-node.invariant)
