use Rattle.std.proofs.Common.{rules, ◌≡◌, ◌∙◌, ℕ, List, length, refl, sym, ap, subst, Some, None, true≢false}
use Rattle.std.specs.Prelude.{slice_get}
use Rattle.std.proofs.lemmas.Option.{none-some, same_Some, slice_get_read}
use Rattle.scalar_ops.specs.Expressions.{Term}
use Rattle.algebra.specs.declared.node.Node.{Node}
use Rattle.algebra.specs.declared.node.Node.TheVariants.{Project}
use Rattle.restrict_eval.specs.Nears.{plain_columns}
use Rattle.restrict_eval.proofs.Fates.{plain_are, none_other, none_columns, none_then, some_near}
use Rattle.restrict_eval.proofs.nearness.near_of.Goals as goal

pub returns-then-is_match-clause-some : goal.returns-then-is_match-clause-some
returns-then-is_match-clause-some c =
    let nodes = c.args.nodes.now in
    let is : slice_get nodes c.args.right ≡ Some (Project c.in-Project.input c.in-Project.items) =
    slice_get_read nodes (length nodes) c.args.right c.get.result.now refl c.requires.there c.get.ensures.node ∙ ap (λ (x : Node). Some x) c.in-Project.is in
    let plain : plain_columns c.in-Project.items ≡ Some c.in-Some.columns = sym (ap plain_columns c.as_slice.ensures) ∙ (sym c.in_ok-columns-in-Project.ensures ∙ c.in-Some.is) in
    let match : slice_get c.in-Some.columns c.args.rc ≡ Some 1 = subst (λ (cs : List ℕ). slice_get cs c.args.rc ≡ Some 1) c.as_slice-in-Some.ensures (c.is_match.ensures.0 c.if-is_match.true) in
    some_near nodes c.args.right c.args.rc c.in-Project.input (Some c.in-Some.columns) c.sought_by.result c.sought_by.ensures.base c.sought_by.ensures.some
    (is ∙ ap (λ (items : List Term). Some (Project c.in-Project.input items)) (plain_are c.in-Project.items c.in-Some.columns plain), match)

pub returns-then-is_match-clause-none : goal.returns-then-is_match-clause-none
returns-then-is_match-clause-none c =
    let nodes = c.args.nodes.now in
    let is : slice_get nodes c.args.right ≡ Some (Project c.in-Project.input c.in-Project.items) =
    slice_get_read nodes (length nodes) c.args.right c.get.result.now refl c.requires.there c.get.ensures.node ∙ ap (λ (x : Node). Some x) c.in-Project.is in
    none_then c.sought_by.result (λ none. none_columns nodes c.args.right c.args.rc c.in-Project.input c.in-Project.items is (λ cs plain at runs. none runs)) c.sought_by.ensures.none

pub returns-else-is_match-clause-none : goal.returns-else-is_match-clause-none
returns-else-is_match-clause-none c =
    let nodes = c.args.nodes.now in
    let is : slice_get nodes c.args.right ≡ Some (Project c.in-Project.input c.in-Project.items) =
    slice_get_read nodes (length nodes) c.args.right c.get.result.now refl c.requires.there c.get.ensures.node ∙ ap (λ (x : Node). Some x) c.in-Project.is in
    let found : plain_columns c.in-Project.items ≡ Some c.in-Some.columns = sym (ap plain_columns c.as_slice.ensures) ∙ (sym c.in_ok-columns-in-Project.ensures ∙ c.in-Some.is) in
    none_columns nodes c.args.right c.args.rc c.in-Project.input c.in-Project.items is (λ cs plain at runs.
    let same : cs ≡ c.in-Some.columns = same_Some cs c.in-Some.columns (sym plain ∙ found) in
    let here : slice_get c.as_slice-in-Some.result.now c.args.rc ≡ Some 1 = subst (λ (ds : List ℕ). slice_get ds c.args.rc ≡ Some 1) (same ∙ sym c.as_slice-in-Some.ensures) at in
    true≢false (sym (c.is_match.ensures.1 here) ∙ c.if-is_match.false))

pub returns-in-None-clause-none : goal.returns-in-None-clause-none
returns-in-None-clause-none c =
    let nodes = c.args.nodes.now in
    let is : slice_get nodes c.args.right ≡ Some (Project c.in-Project.input c.in-Project.items) =
    slice_get_read nodes (length nodes) c.args.right c.get.result.now refl c.requires.there c.get.ensures.node ∙ ap (λ (x : Node). Some x) c.in-Project.is in
    let found : plain_columns c.in-Project.items ≡ None = sym (ap plain_columns c.as_slice.ensures) ∙ (sym c.in_ok-columns-in-Project.ensures ∙ c.in-None.is) in
    none_columns nodes c.args.right c.args.rc c.in-Project.input c.in-Project.items is (λ cs plain at runs. none-some cs (sym found ∙ plain))

pub returns-then-rc-eq1 : goal.returns-then-rc-eq1
returns-then-rc-eq1 c =
    let nodes = c.args.nodes.now in
    let is : slice_get nodes c.args.right ≡ Some c.get.result.now = slice_get_read nodes (length nodes) c.args.right c.get.result.now refl c.requires.there c.get.ensures.node in
    let one : c.args.rc ≡ 1 = search rules in
    record {
      some = some_near nodes c.args.right c.args.rc c.args.right None c.sought_by-then-rc-eq1.result c.sought_by-then-rc-eq1.ensures.base c.sought_by-then-rc-eq1.ensures.some (refl, one);
      none = none_then c.sought_by-then-rc-eq1.result (λ none. none_other nodes c.args.right c.args.rc c.get.result.now is c.in_default.not-Project (λ e runs. none runs)) c.sought_by-then-rc-eq1.ensures.none;
    }

pub returns-else-rc-eq1 : goal.returns-else-rc-eq1
returns-else-rc-eq1 c =
    let nodes = c.args.nodes.now in
    let is : slice_get nodes c.args.right ≡ Some c.get.result.now = slice_get_read nodes (length nodes) c.args.right c.get.result.now refl c.requires.there c.get.ensures.node in
    let other : c.args.rc ≡ 1 → ⊥ = search rules in
    record { some = tt; none = none_other nodes c.args.right c.args.rc c.get.result.now is c.in_default.not-Project (λ e runs. other e) }
