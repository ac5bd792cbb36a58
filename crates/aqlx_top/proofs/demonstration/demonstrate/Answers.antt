use Rattle.std.proofs.Common.{◌∙◌}
use Rattle.std.proofs.lemmas.Result.{err_from_is_err_and}
use Rattle.aqlx_top.specs.Devices.{sink_ends}
use Rattle.aqlx_top.specs.Handing.{pool_ends}
use Rattle.aqlx_top.proofs.Following as law
use Rattle.aqlx_top.proofs.demonstration.demonstrate.Goals as goal

pub returns-in-Ok-clause-sent : goal.returns-in-Ok-clause-sent
returns-in-Ok-clause-sent g c =
    law.summary_sent (pool_ends (g.P.Pool.means c.args.pool.now) (g.P.Pool.told c.args.pool.now) (g.P.Pool.told c.summary.new.pool)) c.args.count c.in-Ok.plan (sink_ends (g.O.Sink.held c.args.out.now) (g.O.Sink.held c.send.new.out) (g.O.Sink.flushed c.args.out.now) (g.O.Sink.flushed c.send.new.out) (g.O.Sink.faults c.args.out.now) (g.O.Sink.faults c.send.new.out))
    c.send.result c.as_bytes.result.now c.told_of.ensures.nodes c.told_of.ensures.outputs c.in-Ok.ensures.planned c.in_ok-text-in-Ok.ensures.handed (c.as_bytes.ensures.value ∙ c.in_ok-text-in-Ok.ensures.text) c.send.ensures

pub returns-in_err-text-in-Ok-clause-handed : goal.returns-in_err-text-in-Ok-clause-handed
returns-in_err-text-in-Ok-clause-handed g c =
    let p = err_from_is_err_and c.from_residual.result c.from_residual.ensures.1 in
    rw p.1
    (law.counted_in_part (pool_ends (g.P.Pool.means c.args.pool.now) (g.P.Pool.told c.args.pool.now) (g.P.Pool.told c.summary.new.pool)) c.args.count c.in-Ok.plan
    c.told_of.ensures.nodes c.told_of.ensures.outputs c.in-Ok.ensures.planned c.in_err-text-in-Ok.ensures.handed)
