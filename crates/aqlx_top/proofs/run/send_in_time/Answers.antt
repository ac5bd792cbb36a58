use Rattle.std.proofs.lemmas.Result.{err_from_is_err_and}
use Rattle.aqlx_top.specs.Devices.{source_ends}
use Rattle.aqlx_top.proofs.Handings as by
use Rattle.aqlx_top.proofs.run.send_in_time.Goals as goal

pub returns-in_err-put-clause-sent : goal.returns-in_err-put-clause-sent
returns-in_err-put-clause-sent g c = λ pool plan left_before left_now faults_before faults_now before stands.
    let p = err_from_is_err_and c.from_residual.result c.from_residual.ensures.1 in
    let front = rw c.deref.ensures.value at c.in_err-put.ensures.bytes in
    rw p.1
    (by.sent_in_part_by pool plan left_before left_now faults_before faults_now before (g.O.Sink.held c.args.out.now) (g.O.Sink.held c.put.new.out) c.args.work.now.reader c.args.work.now.pending.items c.args.work.now.number front.0 stands front.1)

pub returns-in_ok-put-clause-sent : goal.returns-in_ok-put-clause-sent
returns-in_ok-put-clause-sent g c = λ pool plan left_before left_now faults_before faults_now before stands.
    let whole = rw c.deref.ensures.value at c.in_ok-put.ensures.bytes in
    rw c.clear.ensures.items
    (by.sent_whole_by pool plan (source_ends left_before left_now faults_before faults_now) before (g.O.Sink.held c.args.out.now) (g.O.Sink.held c.put.new.out) c.args.work.now.reader c.args.work.now.pending.items c.args.work.now.number stands whole)
