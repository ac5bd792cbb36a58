use Rattle.std.proofs.Common.{[], sym}
use Rattle.std.proofs.lemmas.Result.{err_from_is_err_and}
use Rattle.aqlx_top.specs.Devices.{source_ends}
use Rattle.aqlx_top.specs.Windows.{meant_by}
use Rattle.aqlx_top.proofs.Turns as law
use Rattle.aqlx_top.proofs.Windowing as more
use Rattle.aqlx_top.proofs.windows.send_between.Goals as goal

pub returns-in_err-put_all-clause-sent : goal.returns-in_err-put_all-clause-sent
returns-in_err-put_all-clause-sent g c = λ piece left_before left_now faults_before faults_now before stands.
    let p = err_from_is_err_and c.from_residual.result c.from_residual.ensures.1 in
    let front = c.in_err-put_all.ensures.bytes in
    let alone = more.meant_alone piece c.args.work.now.pending c.args.work.now.window.items (c.is_to_send.ensures c.if-is_to_send.true) in
    rw p.1
    (law.sent_in_part piece left_before left_now faults_before faults_now before (g.O.Sink.held c.args.out.now) (g.O.Sink.held c.put_all.new.out) c.args.work.now.reader c.args.work.now.pending c.args.work.now.number front.0
    (more.stands_with piece (source_ends left_before left_now faults_before faults_now) before (g.O.Sink.held c.args.out.now) c.args.work.now.reader (meant_by piece c.args.work.now.pending c.args.work.now.window.items) c.args.work.now.pending c.args.work.now.number alone stands) front.1)

pub returns-in_ok-put_all-clause-sent : goal.returns-in_ok-put_all-clause-sent
returns-in_ok-put_all-clause-sent g c = λ piece left_before left_now faults_before faults_now before stands.
    let whole = c.in_ok-put_all.ensures.bytes in
    let empty = c.is_to_send.ensures c.if-is_to_send.true in
    let alone = more.meant_alone piece c.args.work.now.pending c.args.work.now.window.items empty in
    let none = more.meant_alone piece [] c.args.work.now.window.items empty in
    rw c.clear.ensures
    (more.stands_with piece (source_ends left_before left_now faults_before faults_now) before (g.O.Sink.held c.put_all.new.out) c.args.work.now.reader [] (meant_by piece [] c.args.work.now.window.items) c.args.work.now.number (sym none)
    (law.sent_whole piece (source_ends left_before left_now faults_before faults_now) before (g.O.Sink.held c.args.out.now) (g.O.Sink.held c.put_all.new.out) c.args.work.now.reader c.args.work.now.pending c.args.work.now.number
    (more.stands_with piece (source_ends left_before left_now faults_before faults_now) before (g.O.Sink.held c.args.out.now) c.args.work.now.reader (meant_by piece c.args.work.now.pending c.args.work.now.window.items) c.args.work.now.pending c.args.work.now.number alone stands) whole))
