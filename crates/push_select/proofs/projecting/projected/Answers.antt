use Rattle.std.proofs.Common.{◌≡◌, map, subst}
use Rattle.scalar_ops.specs.Expressions.{column}
use Rattle.algebra.specs.declared.node.Node.{Node}
use Rattle.algebra.specs.declared.node.Node.TheVariants.{Project}
use Rattle.algebra.specs.Growth.{IsAt}
use Rattle.push_select.specs.Replacing.{IsBelow}
use Rattle.push_select.specs.Pushed.{MayStand}
use Rattle.push_select.proofs.BelowViews.{shows-none}
use Rattle.push_select.proofs.ExprViews.{named-terms}
use Rattle.push_select.proofs.Going.{may-at, items-below, items-stands}
use Rattle.push_select.proofs.Replacing.{node_there}
use Rattle.push_select.proofs.Standing.{pushed-add, shows-there}
use Rattle.push_select.proofs.projecting.projected.Goals as goal

pub get-requires : goal.get-requires
get-requires c = record { in_range = node_there c.args.nodes.now c.args.input c.requires.valid.left_below }

pub add-requires : goal.add-requires
add-requires c =
    let is : c.get.result.now ≡ Project c.in-Columns.from (map column c.in-Columns.shown.items) = subst (IsBelow c.get.result.now) c.in-Columns.is c.in_ok-below.ensures in
    let at = subst (λ (node : Node). IsAt c.args.nodes.now c.args.input node) is c.get.ensures.at in
    record {
      valid = items-below c.args.nodes.now c.args.input c.in-Columns.from c.in-Columns.shown.items at c.args.items c.requires.valid c.from-items.result
          (named-terms c.as_slice-in-Columns.result.now c.in-Columns.shown.items c.as_slice.result.now c.in_ok-items-in-Columns.items.items c.args.items c.from-items.result c.as_slice-in-Columns.ensures.value c.as_slice.ensures c.in_ok-items-in-Columns.ensures c.from-items.ensures);
    }

pub returns-in_ok-n-in-Columns-clause-stands : goal.returns-in_ok-n-in-Columns-clause-stands
returns-in_ok-n-in-Columns-clause-stands c =
    let is : c.get.result.now ≡ Project c.in-Columns.from (map column c.in-Columns.shown.items) = subst (IsBelow c.get.result.now) c.in-Columns.is c.in_ok-below.ensures in
    let at = subst (λ (node : Node). IsAt c.args.nodes.now c.args.input node) is c.get.ensures.at in
    items-stands c.args.nodes.now c.args.input c.in-Columns.from c.in-Columns.shown.items at c.args.items c.requires.valid c.from-items.result
    (named-terms c.as_slice-in-Columns.result.now c.in-Columns.shown.items c.as_slice.result.now c.in_ok-items-in-Columns.items.items c.args.items c.from-items.result c.as_slice-in-Columns.ensures.value c.as_slice.ensures c.in_ok-items-in-Columns.ensures c.from-items.ensures)
    c.add.new.self c.in_ok-n-in-Columns.n c.in_ok-n-in-Columns.ensures.stands

pub returns-in_ok-n-in-Columns-clause-pushed : goal.returns-in_ok-n-in-Columns-clause-pushed
returns-in_ok-n-in-Columns-clause-pushed c =
    let is : c.get.result.now ≡ Project c.in-Columns.from (map column c.in-Columns.shown.items) = subst (IsBelow c.get.result.now) c.in-Columns.is c.in_ok-below.ensures in
    let at = subst (λ (node : Node). IsAt c.args.nodes.now c.args.input node) is c.get.ensures.at in
    pushed-add c.args.nodes.now c.add.new.self (Project c.in-Columns.from c.from-items.result) c.in_ok-n-in-Columns.ensures.ok.1
    (items-below c.args.nodes.now c.args.input c.in-Columns.from c.in-Columns.shown.items at c.args.items c.requires.valid c.from-items.result
    (named-terms c.as_slice-in-Columns.result.now c.in-Columns.shown.items c.as_slice.result.now c.in_ok-items-in-Columns.items.items c.args.items c.from-items.result c.as_slice-in-Columns.ensures.value c.as_slice.ensures c.in_ok-items-in-Columns.ensures c.from-items.ensures))
    c.requires.pushed
    (subst (MayStand c.args.nodes.now) is
    (may-at c.args.nodes.now c.requires.pushed.pushed c.args.input c.get.result.now (node_there c.args.nodes.now c.args.input c.requires.valid.left_below) c.get.ensures.node))
    tt

pub returns-in_ok-n-in_default-clause-pushed : goal.returns-in_ok-n-in_default-clause-pushed
returns-in_ok-n-in_default-clause-pushed c =
    pushed-add c.args.nodes.now c.add-in_default.new.self (Project c.args.input c.args.items) c.in_ok-n-in_default.ensures.ok.1 c.requires.valid c.requires.pushed
    (shows-there c.args.nodes.now c.args.input c.get.result.now (node_there c.args.nodes.now c.args.input c.requires.valid.left_below) c.get.ensures.node
    (shows-none c.get.result.now c.in_ok-below.below c.in_ok-below.ensures c.in_default.not-Columns))
    tt
