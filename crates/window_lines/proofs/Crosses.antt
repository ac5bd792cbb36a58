-- What the threads that write lines share.
use denote.Param.Send.{IsSend, IsSync, sendable}
use denote.Ref.{NamedLft}
use denote.RattleType.{RattleType}
use denote.Struct.Tuple.{TupleAt}
use mir.Syntax.{Sym}
use Rattle.std.specs.Prelude.{[], ◌∷◌}
use Rattle.std.proofs.Crossing.{crosses}
use Rattle.std.proofs.vec.Vec.TheSendSync as vec
use Rattle.span_token.proofs.document.Document.TheSendSync as document
use Rattle.std.proofs.sync.atomic.AtomicUsize.TheSendSync as word
use Rattle.corpus_json.proofs.write.layout.Layout.TheSendSync as layout
use Rattle.line_sight.proofs.Crosses.{Seen-sync, Sight-send}
use Rattle.line_parts.proofs.Crosses.{Done-send}
use Rattle.line_parts.specs.declared.turn.Turn.{Ghosts as Turns}
use Rattle.shared_queue.proofs.queue.SharedQueue.TheSendSync as queue
use Rattle.scalar_ops.proofs.Crosses.{tools}
use Rattle.plan_operators.specs.contracts.schedule.Schedule as Schedule
use Rattle.worker_pool.proofs.Crosses.{Plan-sync}
use Rattle.run_pool.specs.declared.pool.Pool.{Ghosts}
use Rattle.aql_io.specs.declared.source.Source.{Ghosts as Sources}
use Rattle.window_lines.specs.contracts.lines.Writing as Writing
use Rattle.window_lines.specs.contracts.hands.Hand as Hand
use Rattle.window_lines.specs.contracts.pieces.Ready as Ready

-- what they share may be shared, with a pool that may be
pub Writing-sync : (a l d : NamedLft) (P : RattleType) (ghosts : Ghosts P.Denot) → IsSync P → IsSync (Writing.the_row a l d P ghosts)
Writing-sync a l d P ghosts shared = search (Plan-sync, layout.the_sync, document.the_sync, vec.the_sync, crosses, sendable) depth 60 fits 20000

pub one_captured_sync : (ν : Sym) (A : RattleType) → IsSync A → IsSync (TupleAt ν (A ∷ []))
one_captured_sync ν A a = search sendable depth 20

Schedule-sync : (p : NamedLft) → IsSync (Schedule.the_row p)
Schedule-sync p = search (Plan-sync, vec.the_sync, crosses, sendable) depth 60 fits 20000

-- what threads share that answer lines, with a turn's name, a pool and a source that may be shared
pub Ready-sync : (a l p : NamedLft) (W P S : RattleType) (w : Turns W.Denot) (ghosts : Ghosts P.Denot) (sources : Sources S.Denot)
    → IsSend W → IsSync W → IsSync P → IsSync S → IsSync (Ready.the_row a l p W P S w ghosts sources)
Ready-sync a l p W P S w ghosts sources named known shared shown =
    search (Schedule-sync, Seen-sync, Done-send, queue.the_sync, layout.the_sync, word.the_sync, crosses, sendable) depth 60 fits 20000

-- a hand may be sent: its tools, and room
pub Hand-send : (p : NamedLft) → IsSend (Hand.the_row p)
Hand-send p = search (tools, Sight-send, vec.the_send, crosses, sendable) depth 60 fits 20000

-- two captures of a closure
pub two_captured_send : (ν : Sym) (A B : RattleType) → IsSend A → IsSend B → IsSend (TupleAt ν (A ∷ B ∷ []))
two_captured_send ν A B a b = search sendable depth 20
