use Rattle.std.proofs.Common.{◌≡◌, ◌∙◌, ℕ, ◌<◌, Bool, List, [], ◌∷◌, ◌++◌, set, get_or, slice_get, true, ap, sym, subst, arith, Some, None}
use Rattle.std.proofs.lemmas.Option.{slice_get-get_or}
use Rattle.algebra.specs.declared.node.Node.{Node}
use Rattle.algebra.specs.declared.node.Node.TheVariants.{Doc}
use Rattle.algebra.specs.Items.{output_nodes}
use Rattle.share_plan.specs.Walks.{IsWalked, IsWay, missing, steps_left}
use Rattle.share_plan.proofs.Parts.{is_node}
use Rattle.share_plan.proofs.Walking.{last, all_within, way-down, walked-back, way-back, still-on, steps-down, steps-back}
use Rattle.share_plan.proofs.ordering.step.Goals as goal

pub returns-in_ok-push-in-Some-2-clause-way : goal.returns-in_ok-push-in-Some-2-clause-way
returns-in_ok-push-in-Some-2-clause-way c =
    let nodes = c.args.plan.now.nodes in
    let shown = output_nodes c.args.plan.now in
    let order = c.args.order.now in
    let node = get_or nodes c.args.n Doc in
    let on = last nodes shown order.numbers.items order.marks.items c.requires.walked c.args.way.now.items c.args.n c.requires.way in
    let at : slice_get nodes c.args.n ≡ Some node = slice_get-get_or nodes c.args.n Doc on.there in
    let is : missing order.marks.items node ≡ Some c.in-Some.i =
    ap (λ (marks : List Bool). missing marks node) (sym c.as_slice.ensures.value)
    ∙ (sym (c.first_missing.ensures.first node (subst (λ (ns : List Node). node ≡ get_or ns c.args.n node) (sym c.nodes.ensures) (is_node nodes c.args.n node at))) ∙ c.in-Some.is) in
    subst (IsWay nodes shown order.numbers.items order.marks.items) (sym (c.in_ok-push-in-Some-2.ensures.items ∙ ap (λ (xs : List ℕ). xs ++ c.in-Some.i ∷ []) c.in_ok-push-in-Some.ensures.items))
    (way-down nodes shown order.numbers.items order.marks.items c.requires.walked c.args.way.now.items c.args.n c.requires.way node at c.in-Some.i is c.in-Some.ensures.lower)

pub returns-in_ok-push-in-Some-2-clause-fewer : goal.returns-in_ok-push-in-Some-2-clause-fewer
returns-in_ok-push-in-Some-2-clause-fewer c =
    let marks = c.args.order.now.marks.items in
    subst (λ (way : List ℕ). steps_left marks way < steps_left marks (c.args.way.now.items ++ c.args.n ∷ []))
    (sym (c.in_ok-push-in-Some-2.ensures.items ∙ ap (λ (xs : List ℕ). xs ++ c.in-Some.i ∷ []) c.in_ok-push-in-Some.ensures.items))
    (steps-down marks c.args.way.now.items c.args.n c.in-Some.i c.in-Some.ensures.lower)

pub returns-in_ok-push-in-None-clause-walked : goal.returns-in_ok-push-in-None-clause-walked
returns-in_ok-push-in-None-clause-walked c =
    let nodes = c.args.plan.now.nodes in
    let shown = output_nodes c.args.plan.now in
    let order = c.args.order.now in
    let node = get_or nodes c.args.n Doc in
    let on = last nodes shown order.numbers.items order.marks.items c.requires.walked c.args.way.now.items c.args.n c.requires.way in
    let at : slice_get nodes c.args.n ≡ Some node = slice_get-get_or nodes c.args.n Doc on.there in
    let is : missing order.marks.items node ≡ None =
    ap (λ (marks : List Bool). missing marks node) (sym c.as_slice.ensures.value)
    ∙ (sym (c.first_missing.ensures.first node (subst (λ (ns : List Node). node ≡ get_or ns c.args.n node) (sym c.nodes.ensures) (is_node nodes c.args.n node at))) ∙ c.in-None.is) in
    subst (λ (numbers : List ℕ). IsWalked nodes shown numbers (set order.marks.items c.args.n true)) (sym c.in_ok-push-in-None.ensures.items)
    (walked-back nodes shown order.numbers.items order.marks.items c.requires.walked c.args.way.now.items c.args.n c.requires.way node at is)

pub returns-in_ok-push-in-None-clause-way : goal.returns-in_ok-push-in-None-clause-way
returns-in_ok-push-in-None-clause-way c =
    let nodes = c.args.plan.now.nodes in
    let shown = output_nodes c.args.plan.now in
    let order = c.args.order.now in
    subst (λ (numbers : List ℕ). IsWay nodes shown numbers (set order.marks.items c.args.n true) c.args.way.now.items) (sym c.in_ok-push-in-None.ensures.items)
    (way-back nodes shown order.numbers.items order.marks.items c.requires.walked c.args.way.now.items c.args.n c.requires.way)

pub returns-in_ok-push-in-None-clause-on : goal.returns-in_ok-push-in-None-clause-on
returns-in_ok-push-in-None-clause-on c =
    still-on c.args.plan.now.nodes (output_nodes c.args.plan.now) c.args.order.now.numbers.items c.args.order.now.marks.items c.requires.walked c.args.way.now.items c.args.n c.requires.way

pub returns-in_ok-push-in-None-clause-fewer : goal.returns-in_ok-push-in-None-clause-fewer
returns-in_ok-push-in-None-clause-fewer c =
    let nodes = c.args.plan.now.nodes in
    let shown = output_nodes c.args.plan.now in
    let order = c.args.order.now in
    let on = last nodes shown order.numbers.items order.marks.items c.requires.walked c.args.way.now.items c.args.n c.requires.way in
    steps-back order.marks.items c.args.way.now.items c.args.n (omega (arith, on.there, c.requires.walked.long)) on.fresh
    (all_within nodes shown order.numbers.items order.marks.items c.requires.walked c.args.way.now.items c.args.n c.requires.way)
