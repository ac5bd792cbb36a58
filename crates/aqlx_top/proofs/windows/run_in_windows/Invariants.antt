use Rattle.std.proofs.Common.{◌≡◌, ◌<◌, ◌-◌, length}
use Rattle.corpus_json.specs.Limits.{corpus_limit}
use Rattle.aqlx_top.specs.Devices.{source_ends}
use Rattle.aqlx_top.specs.Progress.{Stands, IsGoing}
use Rattle.aqlx_top.specs.Planned.{line_by}
use Rattle.aqlx_top.specs.Windows.{meant_by, Fits}
use Rattle.aqlx_top.proofs.windows.run_in_windows.Given as goal

abbrev pub invariant-lines : goal.invariant-lines
invariant-lines g l = record {
  stands : Stands (line_by l.fn.plan)
      (source_ends (g.S.Source.left l.initial.corpus) (g.S.Source.left l.corpus) (g.S.Source.faults l.initial.corpus) (g.S.Source.faults l.corpus))
      (g.O.Sink.held l.initial.out) (g.O.Sink.held l.out) l.work.reader (meant_by (line_by l.fn.plan) l.work.pending l.work.window.items) l.work.number;
  fits : Fits l.fn.plan l.work;
  below : length l.work.window.items < l.work.most;
  going : IsGoing l.work.reader;
  means : g.P.Pool.means l.pool ≡ g.P.Pool.means l.initial.pool;
  told : g.P.Pool.told l.pool ≡ g.P.Pool.told l.initial.pool;
  unfailed : g.O.Sink.faults l.out ≡ g.O.Sink.faults l.initial.out;
}

abbrev pub decreases-lines : goal.decreases-lines
decreases-lines g l = corpus_limit - l.work.number
