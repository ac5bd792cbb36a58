use Rattle.std.proofs.Common.{map, string_bytes, sym}
use Rattle.aqlx_top.specs.Devices.{files_ends, source_ends, sink_ends}
use Rattle.aqlx_top.specs.Handing.{pool_ends}
use Rattle.aqlx_top.specs.Orders.{asked_told}
use Rattle.aqlx_top.proofs.Answers.{other_order}
use Rattle.aqlx_top.proofs.Following as law
use Rattle.aqlx_top.proofs.top.carry_out.Goals as goal

pub returns-in-Some-clause-cause : goal.returns-in-Some-clause-cause
returns-in-Some-clause-cause g c =
    law.asked_cause (map string_bytes c.args.words.now.items) (asked_told c.in-Some.asked) (files_ends (g.F.Files.told c.args.files.now) (g.F.Files.faults c.args.files.now) (g.F.Files.faults c.follow.new.files)) (pool_ends (g.P.Pool.means c.args.pool.now) (g.P.Pool.told c.args.pool.now) (g.P.Pool.told c.follow.new.pool)) (source_ends (g.S.Source.left c.args.corpus.now) (g.S.Source.left c.follow.new.corpus) (g.S.Source.faults c.args.corpus.now) (g.S.Source.faults c.follow.new.corpus)) (sink_ends (g.O.Sink.held c.args.out.now) (g.O.Sink.held c.follow.new.out) (g.O.Sink.flushed c.args.out.now) (g.O.Sink.flushed c.follow.new.out) (g.O.Sink.faults c.args.out.now) (g.O.Sink.faults c.follow.new.out))
    c.follow.result (sym c.in-Some.ensures.order) c.follow.ensures.cause

pub returns-in-Some-clause-front : goal.returns-in-Some-clause-front
returns-in-Some-clause-front g c =
    law.asked_front (map string_bytes c.args.words.now.items) (asked_told c.in-Some.asked) (files_ends (g.F.Files.told c.args.files.now) (g.F.Files.faults c.args.files.now) (g.F.Files.faults c.follow.new.files)) (pool_ends (g.P.Pool.means c.args.pool.now) (g.P.Pool.told c.args.pool.now) (g.P.Pool.told c.follow.new.pool)) (source_ends (g.S.Source.left c.args.corpus.now) (g.S.Source.left c.follow.new.corpus) (g.S.Source.faults c.args.corpus.now) (g.S.Source.faults c.follow.new.corpus)) (sink_ends (g.O.Sink.held c.args.out.now) (g.O.Sink.held c.follow.new.out) (g.O.Sink.flushed c.args.out.now) (g.O.Sink.flushed c.follow.new.out) (g.O.Sink.faults c.args.out.now) (g.O.Sink.faults c.follow.new.out))
    c.follow.result (sym c.in-Some.ensures.order) c.follow.ensures.front

pub returns-in-Some-clause-unread : goal.returns-in-Some-clause-unread
returns-in-Some-clause-unread g c = λ none.
    c.follow.ensures.unread (other_order (map string_bytes c.args.words.now.items) (asked_told c.in-Some.asked) (sym c.in-Some.ensures.order) none)
