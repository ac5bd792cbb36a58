use Rattle.std.proofs.Common.{false, refl}
use Rattle.algebra.specs.declared.node.Node.TheVariants.{SpanJoin}
use Rattle.push_select.proofs.Searching.{source-there, whole-valid, whole-stands}
use Rattle.push_select.proofs.Standing.{pushed-add}
use Rattle.push_select.proofs.unrestricting.unrestricted.Goals as goal

pub searched-requires-clause-there : goal.searched-requires-clause-there
searched-requires-clause-there c = source-there c.args.nodes.now c.args.outer c.args.source c.args.kind c.args.lc c.args.sought c.requires.valid

pub add-requires : goal.add-requires
add-requires c = record {
  valid = whole-valid c.args.nodes.now c.args.outer c.args.source c.args.kind c.args.lc c.args.sought c.requires.valid c.searched.new.nodes c.in_ok-found.found c.in_ok-found.ensures.searches;
}

pub returns-clause-stands : goal.returns-clause-stands
returns-clause-stands c =
    whole-stands c.args.nodes.now c.args.outer c.args.source c.args.kind c.args.lc c.args.sought c.requires.valid c.searched.new.nodes c.in_ok-found.found c.in_ok-found.ensures.searches
    c.add.new.self c.in_ok-n.n c.in_ok-n.ensures.stands

pub returns-clause-pushed : goal.returns-clause-pushed
returns-clause-pushed c =
    pushed-add c.searched.new.nodes c.add.new.self (SpanJoin c.args.outer c.in_ok-found.found c.args.kind c.args.lc 1 false) c.in_ok-n.ensures.ok.1
    (whole-valid c.args.nodes.now c.args.outer c.args.source c.args.kind c.args.lc c.args.sought c.requires.valid c.searched.new.nodes c.in_ok-found.found c.in_ok-found.ensures.searches)
    c.in_ok-found.ensures.pushed tt refl
