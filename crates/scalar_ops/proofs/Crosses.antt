-- Expressions and the tables of a program may be shared by threads, and the tools of a worker may be sent to one.
use denote.Param.Send.{IsSend, IsSync, sendable}
use denote.Ref.{NamedLft}
use Rattle.std.proofs.Crossing.{crosses}
use Rattle.std.proofs.vec.Vec.TheSendSync as vec
use Rattle.std.proofs.option.Option.TheSendSync as option
use Rattle.aql_regex_extract.proofs.Crosses.{patterns, searchers}
use Rattle.dict_match.proofs.pass.DictPass.TheSendSync as pass
use Rattle.dict_match.proofs.pass.DictScratch.TheSendSync as scratch
use Rattle.span_token.proofs.owned.OwnedText.TheSendSync as text
use Rattle.scalar_ops.proofs.op.Op.TheSendSync as op
use Rattle.scalar_ops.proofs.expr.Expr.TheLaws.TheKnot as knot
use Rattle.scalar_ops.specs.contracts.expr.Expr as Expr
use Rattle.scalar_ops.specs.contracts.expr.Exprs as Exprs
use Rattle.scalar_ops.specs.contracts.tables.Tables as Tables
use Rattle.scalar_ops.specs.contracts.tools.Tools as Tools

pub Tables-sync : IsSync Tables.the_row
Tables-sync = search (patterns, pass.the_sync, vec.the_sync, crosses, sendable) depth 40 fits 20000

pub Tools-send : (p : NamedLft) → IsSend (Tools.the_row p)
Tools-send p = search (Tables-sync, searchers, scratch.the_field_send, vec.the_send, option.the_field_send, crosses, sendable) depth 40 fits 20000

-- what a caller lists in its `search` where tables are shared or tools are sent
pub ruleset tools = (Tables-sync, Tools-send)

pub Expr-sync : IsSync (Expr.the_field).row
Expr-sync = search (knot.sync-Expr, op.the_field_sync, text.the_sync, crosses, sendable) depth 40 fits 20000

pub Exprs-sync : IsSync Exprs.the_row
Exprs-sync = search (Expr-sync, vec.the_sync, crosses, sendable) depth 40 fits 20000

pub Expr-send : IsSend (Expr.the_field).row
Expr-send = search (knot.send-Expr, op.the_field_send, text.the_send, crosses, sendable) depth 40 fits 20000

pub Exprs-send : IsSend Exprs.the_row
Exprs-send = search (Expr-send, vec.the_send, crosses, sendable) depth 40 fits 20000

-- what a caller lists where expressions cross
pub ruleset exprs = (Expr-sync, Exprs-sync, Expr-send, Exprs-send)
