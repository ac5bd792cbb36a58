use Rattle.std.proofs.Common.{rules, ◌≡◌, Bool, true, false, subst}
use Rattle.share_plan.specs.Indexes.{IsInserted}
use Rattle.share_plan.proofs.Extending.{extends-same}
use Rattle.share_plan.proofs.Putting.{part-at, part-stays, part-more}
use Rattle.share_plan.proofs.index.Shared.put_dictionary.Goals as goal

pub returns-then-not-is_new-clause-found : goal.returns-then-not-is_new-clause-found
returns-then-not-is_new-clause-found c =
    let old : c.in_ok-number.is_new ≡ false = search rules in
    let put = subst (λ (b : Bool). IsInserted c.args.self.now.index.keys c.put_key.new.index.keys c.in_ok-key.key c.in_ok-number.number b) old c.in_ok-number.ensures in
    λ source column is. part-stays _ _ _ _ _ c.args.input c.args.dict source column is.0 c.requires.index put c.in_ok-key.ensures is.1

pub returns-clause-found : goal.returns-clause-found
returns-clause-found c =
    let new : c.in_ok-number.is_new ≡ true = search rules in
    let put = subst (λ (b : Bool). IsInserted c.args.self.now.index.keys c.put_key.new.index.keys c.in_ok-key.key c.in_ok-number.number b) new c.in_ok-number.ensures in
    λ source column is.
    let wide = c.in_ok-part_number.ensures source column is.0 is.1 in
    (part-more _ _ _ _ _ c.args.input c.args.dict c.in_ok-part_number.part_number c.requires.index put c.in_ok-key.ensures c.push_dictionary.new.nodes.items c.push.new.self.items source column is.0 is.1 wide.0 wide.1 c.in_ok-push.ensures.items).found

pub returns-clause-keeps : goal.returns-clause-keeps
returns-clause-keeps c =
    let new : c.in_ok-number.is_new ≡ true = search rules in
    let put = subst (λ (b : Bool). IsInserted c.args.self.now.index.keys c.put_key.new.index.keys c.in_ok-key.key c.in_ok-number.number b) new c.in_ok-number.ensures in
    let there = c.requires.there in
    let wide = c.in_ok-part_number.ensures there.0 there.1 there.2.0 there.2.1 in
    (part-more _ _ _ _ _ c.args.input c.args.dict c.in_ok-part_number.part_number c.requires.index put c.in_ok-key.ensures c.push_dictionary.new.nodes.items c.push.new.self.items there.0 there.1 there.2.0 there.2.1 wide.0 wide.1 c.in_ok-push.ensures.items).keeps

pub returns-clause-index : goal.returns-clause-index
returns-clause-index c =
    let new : c.in_ok-number.is_new ≡ true = search rules in
    let put = subst (λ (b : Bool). IsInserted c.args.self.now.index.keys c.put_key.new.index.keys c.in_ok-key.key c.in_ok-number.number b) new c.in_ok-number.ensures in
    let there = c.requires.there in
    let wide = c.in_ok-part_number.ensures there.0 there.1 there.2.0 there.2.1 in
    (part-more _ _ _ _ _ c.args.input c.args.dict c.in_ok-part_number.part_number c.requires.index put c.in_ok-key.ensures c.push_dictionary.new.nodes.items c.push.new.self.items there.0 there.1 there.2.0 there.2.1 wide.0 wide.1 c.in_ok-push.ensures.items).index

pub returns-then-not-is_new-clause-extends : goal.returns-then-not-is_new-clause-extends
returns-then-not-is_new-clause-extends c = extends-same _

pub returns-then-not-is_new-clause-part : goal.returns-then-not-is_new-clause-part
returns-then-not-is_new-clause-part c =
    let old : c.in_ok-number.is_new ≡ false = search rules in
    let put = subst (λ (b : Bool). IsInserted c.args.self.now.index.keys c.put_key.new.index.keys c.in_ok-key.key c.in_ok-number.number b) old c.in_ok-number.ensures in
    let there = c.requires.there in
    part-at _ _ _ _ _ c.args.input c.args.dict there.0 there.1 there.2.0 c.requires.index put c.in_ok-key.ensures there.2.1

pub returns-clause-extends : goal.returns-clause-extends
returns-clause-extends c =
    let new : c.in_ok-number.is_new ≡ true = search rules in
    let put = subst (λ (b : Bool). IsInserted c.args.self.now.index.keys c.put_key.new.index.keys c.in_ok-key.key c.in_ok-number.number b) new c.in_ok-number.ensures in
    let there = c.requires.there in
    let wide = c.in_ok-part_number.ensures there.0 there.1 there.2.0 there.2.1 in
    (part-more _ _ _ _ _ c.args.input c.args.dict c.in_ok-part_number.part_number c.requires.index put c.in_ok-key.ensures c.push_dictionary.new.nodes.items c.push.new.self.items there.0 there.1 there.2.0 there.2.1 wide.0 wide.1 c.in_ok-push.ensures.items).extends

pub returns-clause-part : goal.returns-clause-part
returns-clause-part c =
    let new : c.in_ok-number.is_new ≡ true = search rules in
    let put = subst (λ (b : Bool). IsInserted c.args.self.now.index.keys c.put_key.new.index.keys c.in_ok-key.key c.in_ok-number.number b) new c.in_ok-number.ensures in
    let there = c.requires.there in
    let wide = c.in_ok-part_number.ensures there.0 there.1 there.2.0 there.2.1 in
    (part-more _ _ _ _ _ c.args.input c.args.dict c.in_ok-part_number.part_number c.requires.index put c.in_ok-key.ensures c.push_dictionary.new.nodes.items c.push.new.self.items there.0 there.1 there.2.0 there.2.1 wide.0 wide.1 c.in_ok-push.ensures.items).part
