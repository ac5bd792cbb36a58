use denote.Param.Send.{sendable}
use Rattle.std.proofs.Crossing.{crosses}
use Rattle.aql_regex_extract.proofs.Crosses.{searchers}
use Rattle.aql_regex_extract_tests.proofs.threads.search_in_threads.Goals as goal

pub for_each_mut-requires-send-T : goal.for_each_mut-requires-send-T
for_each_mut-requires-send-T g c κs within = search (searchers, crosses, sendable) depth 60 fits 20000
