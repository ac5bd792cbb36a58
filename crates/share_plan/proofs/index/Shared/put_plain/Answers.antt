use Rattle.std.proofs.Common.{rules, ◌≡◌, Bool, true, false, List, sym, subst}
use Rattle.algebra.specs.declared.node.Node.{Node}
use Rattle.algebra.specs.Growth.{Stands}
use Rattle.share_plan.specs.Indexes.{IsInserted, IsIndex}
use Rattle.share_plan.proofs.Extending.{found-there, put-last}
use Rattle.share_plan.proofs.Indexing.{plain-at, plain-there}
use Rattle.share_plan.proofs.Putting.{last_number, plain-stands, plain-index}
use Rattle.share_plan.proofs.index.Shared.put_plain.Goals as goal

pub returns-then-not-is_new-clause-stands : goal.returns-then-not-is_new-clause-stands
returns-then-not-is_new-clause-stands c =
    let old : c.in_ok-number.is_new ≡ false = search rules in
    plain-there _ _ _ _ _ _ c.requires.index c.in_ok-number.ensures old c.args.node c.requires.plain c.in_ok-key.ensures

pub returns-clause-stands : goal.returns-clause-stands
returns-clause-stands c =
    let new : c.in_ok-number.is_new ≡ true = search rules in
    let put = subst (λ (b : Bool). IsInserted c.args.self.now.index.keys c.put_key.new.index.keys c.in_ok-key.key c.in_ok-number.number b) new c.in_ok-number.ensures in
    subst (λ (list : List Node). Stands c.args.self.now.nodes.items list c.in_ok-number.number c.args.node) (sym c.in_ok-push.ensures.items) (plain-stands _ _ _ _ _ c.requires.index put c.args.node)

pub returns-clause-index : goal.returns-clause-index
returns-clause-index c =
    let new : c.in_ok-number.is_new ≡ true = search rules in
    let put = subst (λ (b : Bool). IsInserted c.args.self.now.index.keys c.put_key.new.index.keys c.in_ok-key.key c.in_ok-number.number b) new c.in_ok-number.ensures in
    subst (λ (list : List Node). IsIndex list c.put_key.new.index.keys) (sym c.in_ok-push.ensures.items) (plain-index _ _ _ _ _ c.requires.index put c.args.node c.requires.plain c.requires.valid c.in_ok-key.ensures)

pub returns-then-not-is_new-clause-found_or_put : goal.returns-then-not-is_new-clause-found_or_put
returns-then-not-is_new-clause-found_or_put c =
    let old : c.in_ok-number.is_new ≡ false = search rules in
    found-there _ _ _ (plain-at _ _ _ _ _ _ c.requires.index c.in_ok-number.ensures old c.args.node c.requires.plain c.in_ok-key.ensures)

pub returns-clause-found_or_put : goal.returns-clause-found_or_put
returns-clause-found_or_put c =
    let new : c.in_ok-number.is_new ≡ true = search rules in
    let put = subst (λ (b : Bool). IsInserted c.args.self.now.index.keys c.put_key.new.index.keys c.in_ok-key.key c.in_ok-number.number b) new c.in_ok-number.ensures in
    put-last _ _ _ c.args.node c.in_ok-push.ensures.items (last_number _ _ _ _ _ c.requires.index put)
