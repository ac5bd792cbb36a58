use Rattle.std.proofs.Common.{◌≡◌, ◌-◌}
use Rattle.corpus_json.specs.Limits.{corpus_limit}
use Rattle.aqlx_top.specs.Devices.{source_ends}
use Rattle.aqlx_top.specs.Handing.{pool_ends}
use Rattle.aqlx_top.specs.PoolTurns.{StandsBy}
use Rattle.aqlx_top.specs.Progress.{IsGoing}
use Rattle.aqlx_top.proofs.run.run.Given as goal

abbrev pub invariant-lines : goal.invariant-lines
invariant-lines g l = record {
  stands : StandsBy (pool_ends (g.P.Pool.means l.initial.pool) (g.P.Pool.told l.initial.pool) (g.P.Pool.told l.pool)) l.fn.plan
      (source_ends (g.S.Source.left l.initial.corpus) (g.S.Source.left l.corpus) (g.S.Source.faults l.initial.corpus) (g.S.Source.faults l.corpus))
      (g.O.Sink.held l.initial.out) (g.O.Sink.held l.out) l.work.reader l.work.pending.items l.work.number;
  means : g.P.Pool.means l.pool ≡ g.P.Pool.means l.initial.pool;
  plan : l.work.schedule ≡ l.fn.plan;
  layout : l.work.layout ≡ l.fn.outputs;
  tables : l.work.tools ≡ l.fn.plan.lists;
  going : IsGoing l.work.reader;
  unfailed : g.O.Sink.faults l.out ≡ g.O.Sink.faults l.initial.out;
}

abbrev pub decreases-lines : goal.decreases-lines
decreases-lines g l = corpus_limit - l.work.number
