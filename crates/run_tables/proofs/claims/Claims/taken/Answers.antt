use Rattle.std.proofs.Common.{rules}
use Rattle.run_tables.proofs.Steps.{reads_allowed}
use Rattle.run_tables.proofs.claims.Claims.taken.Goals as goal

pub load-word-requires : goal.load-word-requires
load-word-requires c = (search rules, search rules, reads_allowed _ _ _ _ _)
