use Rattle.std.proofs.Common.{◌≡◌, ◌∙◌, ap}
use Rattle.scalar_ops.specs.Views.{term_of}
use Rattle.plan_maker.specs.Grounds.{terms_lent}
use Rattle.plan_maker.proofs.Clauses.{can_select, can_keep_found, can_limit_found, extraction_gives}
use Rattle.plan_maker.proofs.extraction.extraction.Goals as goal

pub selected-requires : goal.selected-requires
selected-requires c =
    let are = ap terms_lent c.as_slice-2.ensures.value ∙ (c.in_ok-conds.ensures ∙ c.as_slice.ensures) in
    record { can = can_select c.args.nodes.now c.args.input c.args.clauses.now c.extracted.new.nodes c.in_ok-found.found c.in_ok-found.ensures.gives c.as_slice-2.result.now are c.requires.can }

pub consolidated-requires : goal.consolidated-requires
consolidated-requires c =
    let are = ap terms_lent c.as_slice-2.ensures.value ∙ (c.in_ok-conds.ensures ∙ c.as_slice.ensures) in
    record {
      can = can_keep_found c.args.nodes.now c.args.input c.args.clauses.now c.extracted.new.nodes c.in_ok-found.found c.in_ok-found.ensures.gives c.as_slice-2.result.now are
          c.selected.new.nodes c.in_ok-held.held c.in_ok-held.ensures.gives c.requires.can;
    }

pub limited-requires : goal.limited-requires
limited-requires c =
    let are = ap terms_lent c.as_slice-2.ensures.value ∙ (c.in_ok-conds.ensures ∙ c.as_slice.ensures) in
    record {
      can = can_limit_found c.args.nodes.now c.args.input c.args.clauses.now c.extracted.new.nodes c.in_ok-found.found c.in_ok-found.ensures.gives c.as_slice-2.result.now are
          c.selected.new.nodes c.in_ok-held.held c.in_ok-held.ensures.gives c.consolidated.new.nodes c.in_ok-stay.stay c.in_ok-stay.ensures.gives c.requires.can;
    }

pub returns-clause-gives : goal.returns-clause-gives
returns-clause-gives c = λ can.
    let are = ap terms_lent c.as_slice-2.ensures.value ∙ (c.in_ok-conds.ensures ∙ c.as_slice.ensures) in
    extraction_gives c.args.nodes.now c.args.input c.args.clauses.now c.extracted.new.nodes c.in_ok-found.found c.in_ok-found.ensures.gives c.as_slice-2.result.now are
    c.selected.new.nodes c.in_ok-held.held c.in_ok-held.ensures.gives c.consolidated.new.nodes c.in_ok-stay.stay c.in_ok-stay.ensures.gives _ _ c.in_ok-n.ensures.gives can
