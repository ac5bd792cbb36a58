use denote.Param.Send.{sendable}
use Rattle.std.proofs.Crossing.{crosses}
use Rattle.aql_regex_extract.proofs.Crosses.{patterns}
use Rattle.aql_regex_extract_tests.proofs.threads.try_in_threads.Goals as goal

pub for_each_mut-requires-sync-F : goal.for_each_mut-requires-sync-F
for_each_mut-requires-sync-F g c κs within = search (patterns, crosses, sendable) depth 60 fits 20000
