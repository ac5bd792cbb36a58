-- What is shared among threads, and sent to them.
use denote.Param.Send.{IsSend, IsSync, sendable}
use denote.RattleType.{RattleType}
use Rattle.std.proofs.Crossing.{crosses}
use Rattle.std.proofs.vec.Vec.TheSendSync as vec
use Rattle.line_parts.specs.declared.turn.Turn.{Ghosts}
use Rattle.line_parts.specs.contracts.turn.Done as Done

-- a part that is done may be sent
pub Done-send : (W : RattleType) (w : Ghosts W.Denot) → IsSend W → IsSend (Done.the_row W w)
Done-send W w named = search (vec.the_send, crosses, sendable) depth 40
