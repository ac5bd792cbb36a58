use Rattle.push_select.proofs.Standing.{pushed-none}
use Rattle.push_select.proofs.pushing.push.Goals as goal

pub rewritten-requires : goal.rewritten-requires
rewritten-requires c = record { knows = pushed-none }

pub returns-clause-pushed : goal.returns-clause-pushed
returns-clause-pushed c = c.in_ok-new.ensures.knows.pushed

pub returns-clause-unrestricted : goal.returns-clause-unrestricted
returns-clause-unrestricted c = c.in_ok-new.ensures.knows.unrestricted
