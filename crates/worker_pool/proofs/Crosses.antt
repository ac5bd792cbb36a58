-- What workers share by `&`, and what is sent to their threads.
use denote.Param.Send.{IsSend, IsSync, sendable}
use denote.Ref.{NamedLft}
use denote.RattleType.{RattleType}
use denote.Struct.Tuple.{TupleAt}
use mir.Syntax.{Sym}
use Rattle.std.specs.Prelude.{[], ◌∷◌}
use Rattle.std.proofs.Crossing.{crosses}
use Rattle.std.proofs.vec.Vec.TheSendSync as vec
use Rattle.std.proofs.option.Option.TheSendSync as option
use Rattle.span_token.proofs.document.Document.TheSendSync as document
use Rattle.span_token.proofs.owned.OwnedList.TheSendSync as list
use Rattle.row_values.proofs.output.Output.TheSendSync as output
use Rattle.span_sets.proofs.policy.Policy.TheSendSync as policy
use Rattle.group_agg.proofs.agg.Agg.TheSendSync as agg
use Rattle.scalar_ops.proofs.Crosses.{tools, exprs}
use Rattle.algebra.proofs.node.JoinKind.TheSendSync as kind
use Rattle.algebra.proofs.node.Local.TheSendSync as local_part
use Rattle.algebra.proofs.shape.Shape.TheSendSync as shape
use Rattle.algebra.specs.contracts.node.Target as Target
use Rattle.algebra.specs.contracts.node.Node as Node
use Rattle.algebra.specs.contracts.nodes.Nodes as Nodes
use Rattle.algebra.specs.contracts.output.PlanOut as PlanOut
use Rattle.algebra.specs.contracts.plan.Plan as Plan
use Rattle.run_tables.specs.declared.work.Work as Work
use Rattle.run_tables.proofs.claims.ClaimSeat.TheSendSync as seat
use Rattle.run_tables.proofs.claims.Claims.TheSendSync as claims
use Rattle.run_tables.proofs.results.Results.TheSendSync as results
use Rattle.worker_pool.specs.contracts.crew.Worker as Worker
use Rattle.worker_pool.specs.contracts.window.Window as Window
use Rattle.worker_pool.specs.contracts.window.Shared as Shared

Target-sync : IsSync Target.the_row
Target-sync = search (exprs, crosses, sendable) depth 40 fits 20000

Node-sync : IsSync (Node.the_field).row
Node-sync = search (exprs, Target-sync, kind.the_field_sync, local_part.the_field_sync, policy.the_field_sync, agg.the_field_sync, list.the_sync, option.the_field_sync, crosses, sendable) depth 40 fits 20000

Nodes-sync : IsSync Nodes.the_row
Nodes-sync = search (Node-sync, shape.the_field_sync, vec.the_sync, crosses, sendable) depth 40 fits 20000

PlanOut-sync : IsSync (PlanOut.the_field).row
PlanOut-sync = search (output.the_sync, crosses, sendable) depth 40 fits 20000

-- a plan may be shared
pub Plan-sync : IsSync Plan.the_row
Plan-sync = search (Nodes-sync, PlanOut-sync, tools, vec.the_sync, crosses, sendable) depth 40 fits 20000

-- a worker may be sent: its seat, and its tools
pub Worker-send : (p : NamedLft) → IsSend (Worker.the_row p)
Worker-send p = search (tools, seat.the_send, option.the_field_send, crosses, sendable) depth 60 fits 20000

module _ (a d : NamedLft) (W : RattleType) (w : Work.Ghosts W.Denot) (G : RattleType) where
  Window-sync : IsSend W → IsSync W → IsSync G → IsSync (Window.the_row a d W G w)
  Window-sync ws wy gy = search (Plan-sync, document.the_sync, results.the_sync, crosses, sendable) depth 60 fits 20000

  -- what workers share may be shared
  pub Shared-sync : IsSend W → IsSync W → IsSync G → IsSync (Shared.the_row a d W G w)
  Shared-sync ws wy gy = search (Window-sync, claims.the_sync, crosses, sendable) depth 60 fits 20000

pub two_captured_sync : (ν : Sym) (A B : RattleType) → IsSync A → IsSync B → IsSync (TupleAt ν (A ∷ B ∷ []))
two_captured_sync ν A B a b = search sendable depth 20
