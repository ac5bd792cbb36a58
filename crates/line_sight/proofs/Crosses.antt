-- What is shared among threads, and sent to them.
use denote.Param.Send.{IsSend, IsSync, sendable}
use denote.Ref.{NamedLft}
use denote.RattleType.{RattleType}
use Rattle.std.proofs.Crossing.{crosses}
use Rattle.std.proofs.vec.Vec.TheSendSync as vec
use Rattle.aql_io.specs.declared.source.Source.{Ghosts as Sources}
use Rattle.line_sight.specs.contracts.seen.Seen as Seen
use Rattle.line_sight.specs.contracts.sight.Sight as Sight

-- what is seen may be shared, of a source that may be
pub Seen-sync : (a : NamedLft) (S : RattleType) (sources : Sources S.Denot) → IsSync S → IsSync (Seen.the_row a S sources)
Seen-sync a S sources shared = search (crosses, sendable) depth 40

-- a sight may be sent
pub Sight-send : IsSend Sight.the_row
Sight-send = search (vec.the_send, crosses, sendable) depth 40
