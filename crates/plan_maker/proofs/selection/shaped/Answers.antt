use Rattle.plan_maker.proofs.Clauses.{can_project, can_limit, shaped_gives}
use Rattle.plan_maker.proofs.selection.shaped.Goals as goal

pub projected-requires : goal.projected-requires
projected-requires c = record { can = can_project c.args.nodes.now c.args.input c.args.clauses.now c.consolidated.new.nodes c.in_ok-stay.stay c.in_ok-stay.ensures.gives c.requires.can }

pub limited-requires : goal.limited-requires
limited-requires c = record {
  can = can_limit c.args.nodes.now c.args.input c.args.clauses.now c.consolidated.new.nodes c.in_ok-stay.stay c.in_ok-stay.ensures.gives c.projected.new.nodes c.in_ok-columns.columns c.in_ok-columns.ensures.gives
      c.as_slice.result.now c.as_slice.ensures.value c.requires.can;
}

pub returns-clause-gives : goal.returns-clause-gives
returns-clause-gives c = λ can.
    shaped_gives c.args.nodes.now c.args.input c.args.clauses.now c.consolidated.new.nodes c.in_ok-stay.stay c.in_ok-stay.ensures.gives c.projected.new.nodes c.in_ok-columns.columns c.in_ok-columns.ensures.gives
    c.as_slice.result.now c.as_slice.ensures.value _ _ c.in_ok-n.ensures.gives can
