use Rattle.plan_maker.proofs.Giving.{valid-cross, gives-cross}
use Rattle.plan_maker.proofs.joining.crossed.Goals as goal

pub add-requires : goal.add-requires
add-requires c = record { valid = valid-cross _ _ _ _ _ _ _ c.requires.can_left.gives c.requires.can_right.gives _ }

pub narrowed-requires : goal.narrowed-requires
narrowed-requires c = record {
  can = record {
    width = _;
    rows = _;
    gives = gives-cross _ _ _ _ _ _ _ c.requires.can_left.gives c.requires.can_right.gives _ _ _ c.in_ok-both.ensures.stands;
    wanted = tt;
  };
}

pub returns-clause-narrows : goal.returns-clause-narrows
returns-clause-narrows c = λ a b.
    c.in_ok-n.ensures.narrows (record { width = _; rows = _; gives = gives-cross _ _ _ _ _ _ _ a.gives b.gives _ _ _ c.in_ok-both.ensures.stands; wanted = tt })
