use Rattle.std.proofs.Common.{rules}
use Rattle.run_tables.proofs.Steps.{tries_allowed}
use Rattle.run_tables.proofs.claims.Claims.claim.Goals as goal

pub compare_exchange-found-requires : goal.compare_exchange-found-requires
compare_exchange-found-requires c = (search rules, search rules, tries_allowed _ _ _ _ _ _ (search rules) c.seat.invariant.2 (search rules))
