use Rattle.std.proofs.Common.{rules, ◌≡◌, ◌∙◌, ◌++◌, ◌∷◌, [], ℕ, Bool, true, false, List, ap, sym, subst}
use Rattle.algebra.specs.declared.node.Node.{Node}
use Rattle.algebra.specs.declared.node.Node.TheVariants.{Dict}
use Rattle.share_plan.specs.Indexes.{IsInserted, IsIndex}
use Rattle.share_plan.specs.Putting.{Extends, IsDictOf}
use Rattle.share_plan.proofs.Extending.{extends-same, extends-dict}
use Rattle.share_plan.proofs.Indexing.{dict-there}
use Rattle.share_plan.proofs.Putting.{dict-stands, dict-index}
use Rattle.share_plan.proofs.index.Shared.put_dict.Goals as goal

pub returns-then-not-is_new-clause-there : goal.returns-then-not-is_new-clause-there
returns-then-not-is_new-clause-there c =
    let old : c.in_ok-number.is_new ≡ false = search rules in
    dict-there _ _ _ _ _ _ c.requires.index c.in_ok-number.ensures old c.args.input c.args.column c.in_ok-key.ensures

pub returns-clause-there : goal.returns-clause-there
returns-clause-there c =
    let nodes = c.args.self.now.nodes.items in
    let is : c.push.new.self.items ≡ nodes ++ Dict c.args.input c.args.column [] ∷ [] =
    c.in_ok-push.ensures.items ∙ ap (λ (dicts : List ℕ). nodes ++ Dict c.args.input c.args.column dicts ∷ []) c.new-dicts.ensures in
    let new : c.in_ok-number.is_new ≡ true = search rules in
    let put = subst (λ (b : Bool). IsInserted c.args.self.now.index.keys c.put_key.new.index.keys c.in_ok-key.key c.in_ok-number.number b) new c.in_ok-number.ensures in
    subst (λ (list : List Node). IsDictOf list c.in_ok-number.number c.args.input c.args.column) (sym is) (dict-stands _ _ _ _ _ c.requires.index put c.args.input c.args.column)

pub returns-clause-index : goal.returns-clause-index
returns-clause-index c =
    let nodes = c.args.self.now.nodes.items in
    let is : c.push.new.self.items ≡ nodes ++ Dict c.args.input c.args.column [] ∷ [] =
    c.in_ok-push.ensures.items ∙ ap (λ (dicts : List ℕ). nodes ++ Dict c.args.input c.args.column dicts ∷ []) c.new-dicts.ensures in
    let new : c.in_ok-number.is_new ≡ true = search rules in
    let put = subst (λ (b : Bool). IsInserted c.args.self.now.index.keys c.put_key.new.index.keys c.in_ok-key.key c.in_ok-number.number b) new c.in_ok-number.ensures in
    subst (λ (list : List Node). IsIndex list c.put_key.new.index.keys) (sym is) (dict-index _ _ _ _ _ c.requires.index put c.args.input c.args.column c.requires.valid c.in_ok-key.ensures)

pub returns-then-not-is_new-clause-extends : goal.returns-then-not-is_new-clause-extends
returns-then-not-is_new-clause-extends c = extends-same _

pub returns-clause-extends : goal.returns-clause-extends
returns-clause-extends c =
    let nodes = c.args.self.now.nodes.items in
    let is : c.push.new.self.items ≡ nodes ++ Dict c.args.input c.args.column [] ∷ [] =
    c.in_ok-push.ensures.items ∙ ap (λ (dicts : List ℕ). nodes ++ Dict c.args.input c.args.column dicts ∷ []) c.new-dicts.ensures in
    subst (λ (list : List Node). Extends nodes list) (sym is) (extends-dict nodes c.args.input c.args.column)
