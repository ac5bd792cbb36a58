use Rattle.std.proofs.Common.{◌≡◌, ℕ, ◌+◌, ◌-◌, ◌≤◌, ◌<◌, ◌∙◌, refl, sym, arith}
use Rattle.corpus_json.specs.Limits.{corpus_limit}
use Rattle.aqlx_top.specs.Devices.{source_ends}
use Rattle.aqlx_top.specs.Handing.{pool_ends}
use Rattle.run_pool.specs.Lines.{line_from}
use Rattle.aqlx_top.proofs.Handings as by
use Rattle.aqlx_top.proofs.Turns as law
use Rattle.aqlx_top.proofs.run.run.Goals as goal

falls_to : (most before kept now : ℕ) → now ≤ most → now ≡ kept + 1 → kept ≡ before → most - now < most - before
falls_to most before kept now few counts same = omega arith

pub returns-in_err-work-clause-part : goal.returns-in_err-work-clause-part
returns-in_err-work-clause-part g c =
    law.at_err _ c.from_residual.result
    (by.part_of_by (pool_ends (g.P.Pool.means c.args.pool.now) (g.P.Pool.told c.args.pool.now) (g.P.Pool.told c.args.pool.now)) c.args.plan.now (g.S.Source.left c.args.corpus.now) (g.S.Source.left c.args.corpus.now) (g.S.Source.faults c.args.corpus.now) (g.S.Source.faults c.args.corpus.now) (g.O.Sink.held c.args.out.now) (g.O.Sink.held c.args.out.now) _ _ _ (by.begins_by (g.P.Pool.means c.args.pool.now) (g.P.Pool.told c.args.pool.now) c.args.plan.now (g.S.Source.left c.args.corpus.now) (g.O.Sink.held c.args.out.now) (g.S.Source.faults c.args.corpus.now)))

pub lines-init : goal.lines-init
lines-init g c =
    let b = c.in_ok-work.ensures in
    record {
      stands = rw (b.reader, b.pending, b.number) (by.begins_by (g.P.Pool.means c.args.pool.now) (g.P.Pool.told c.args.pool.now) c.args.plan.now (g.S.Source.left c.args.corpus.now) (g.O.Sink.held c.args.out.now) (g.S.Source.faults c.args.corpus.now));
      means = refl;
      plan = b.plan_is;
      layout = b.outputs_are;
      tables = b.tables;
      going = rw b.reader tt;
      unfailed = refl;
    }

pub returns-in-Err-clause-ran : goal.returns-in-Err-clause-ran
returns-in-Err-clause-ran g c = (
  law.rose_later (g.O.Sink.faults c.args.out.now) (g.O.Sink.faults c.lines.out) (g.O.Sink.faults c.send_in_time.new.out) c.lines.invariant.unfailed c.in-Err.ensures.cause,
  c.in-Err.ensures.sent (pool_ends (g.P.Pool.means c.args.pool.now) (g.P.Pool.told c.args.pool.now) (g.P.Pool.told c.lines.pool)) c.args.plan.now (g.S.Source.left c.args.corpus.now) (g.S.Source.left c.lines.corpus) (g.S.Source.faults c.args.corpus.now) (g.S.Source.faults c.lines.corpus) (g.O.Sink.held c.args.out.now) c.lines.invariant.stands,
)

pub take_turn-requires-clause-room : goal.take_turn-requires-clause-room
take_turn-requires-clause-room g c = λ κs within.
    let sent = c.in-Ok.ensures.sent (pool_ends (g.P.Pool.means c.args.pool.now) (g.P.Pool.told c.args.pool.now) (g.P.Pool.told c.lines.pool)) c.args.plan.now (g.S.Source.left c.args.corpus.now) (g.S.Source.left c.lines.corpus) (g.S.Source.faults c.args.corpus.now) (g.S.Source.faults c.lines.corpus) (g.O.Sink.held c.args.out.now) c.lines.invariant.stands in
    let few = law.number_within (line_from (g.P.Pool.means c.args.pool.now) c.args.plan.now) (g.S.Source.left c.args.corpus.now) (g.S.Source.left c.lines.corpus) (g.S.Source.faults c.args.corpus.now) (g.S.Source.faults c.lines.corpus) (g.O.Sink.held c.args.out.now) (g.O.Sink.held c.send_in_time.new.out) c.send_in_time.new.work.reader c.send_in_time.new.work.pending.items c.send_in_time.new.work.number sent.stands in
    omega arith

pub lines-smaller : goal.lines-smaller
lines-smaller g c =
    let same = c.in-Ok.ensures.same in
    let same_plan : c.send_in_time.new.work.schedule ≡ c.args.plan.now = same.schedule ∙ c.lines.invariant.plan in
    let sent = c.in-Ok.ensures.sent (pool_ends (g.P.Pool.means c.args.pool.now) (g.P.Pool.told c.args.pool.now) (g.P.Pool.told c.lines.pool)) c.args.plan.now (g.S.Source.left c.args.corpus.now) (g.S.Source.left c.lines.corpus) (g.S.Source.faults c.args.corpus.now) (g.S.Source.faults c.lines.corpus) (g.O.Sink.held c.args.out.now) c.lines.invariant.stands in
    let turned = c.in_ok-take_turn.ensures.turned (g.P.Pool.told c.args.pool.now) (g.S.Source.left c.args.corpus.now) (g.S.Source.faults c.args.corpus.now) (g.O.Sink.held c.args.out.now) (g.O.Sink.held c.send_in_time.new.out)
    (by.stands_as (g.P.Pool.means c.lines.pool) (g.P.Pool.means c.args.pool.now) c.send_in_time.new.work.schedule c.args.plan.now (g.P.Pool.told c.args.pool.now) (g.P.Pool.told c.lines.pool) (sym c.lines.invariant.means) (sym same_plan) (source_ends (g.S.Source.left c.args.corpus.now) (g.S.Source.left c.lines.corpus) (g.S.Source.faults c.args.corpus.now) (g.S.Source.faults c.lines.corpus)) (g.O.Sink.held c.args.out.now) (g.O.Sink.held c.send_in_time.new.out) c.send_in_time.new.work.reader c.send_in_time.new.work.pending.items c.send_in_time.new.work.number sent) in
    let own = rw c.in-Next.is at turned in
    let few = law.number_within (line_from (g.P.Pool.means c.lines.pool) c.send_in_time.new.work.schedule) (g.S.Source.left c.args.corpus.now) (g.S.Source.left c.take_turn.new.corpus) (g.S.Source.faults c.args.corpus.now) (g.S.Source.faults c.take_turn.new.corpus) (g.O.Sink.held c.args.out.now) (g.O.Sink.held c.send_in_time.new.out) c.take_turn.new.work.reader c.take_turn.new.work.pending.items c.take_turn.new.work.number own.stands in
    let counts = c.in_ok-take_turn.ensures.counts c.in-Next.is in
    falls_to corpus_limit c.lines.work.number c.send_in_time.new.work.number c.take_turn.new.work.number few counts same.number

pub lines-preserved : goal.lines-preserved
lines-preserved g c =
    let same = c.in-Ok.ensures.same in
    let same_plan : c.send_in_time.new.work.schedule ≡ c.args.plan.now = same.schedule ∙ c.lines.invariant.plan in
    let sent = c.in-Ok.ensures.sent (pool_ends (g.P.Pool.means c.args.pool.now) (g.P.Pool.told c.args.pool.now) (g.P.Pool.told c.lines.pool)) c.args.plan.now (g.S.Source.left c.args.corpus.now) (g.S.Source.left c.lines.corpus) (g.S.Source.faults c.args.corpus.now) (g.S.Source.faults c.lines.corpus) (g.O.Sink.held c.args.out.now) c.lines.invariant.stands in
    let turned = c.in_ok-take_turn.ensures.turned (g.P.Pool.told c.args.pool.now) (g.S.Source.left c.args.corpus.now) (g.S.Source.faults c.args.corpus.now) (g.O.Sink.held c.args.out.now) (g.O.Sink.held c.send_in_time.new.out)
    (by.stands_as (g.P.Pool.means c.lines.pool) (g.P.Pool.means c.args.pool.now) c.send_in_time.new.work.schedule c.args.plan.now (g.P.Pool.told c.args.pool.now) (g.P.Pool.told c.lines.pool) (sym c.lines.invariant.means) (sym same_plan) (source_ends (g.S.Source.left c.args.corpus.now) (g.S.Source.left c.lines.corpus) (g.S.Source.faults c.args.corpus.now) (g.S.Source.faults c.lines.corpus)) (g.O.Sink.held c.args.out.now) (g.O.Sink.held c.send_in_time.new.out) c.send_in_time.new.work.reader c.send_in_time.new.work.pending.items c.send_in_time.new.work.number sent) in
    let own = rw c.in-Next.is at turned in
    record {
      stands = by.stands_as (g.P.Pool.means c.args.pool.now) (g.P.Pool.means c.lines.pool) c.args.plan.now c.send_in_time.new.work.schedule (g.P.Pool.told c.args.pool.now) (g.P.Pool.told c.take_turn.new.pool) c.lines.invariant.means same_plan (source_ends (g.S.Source.left c.args.corpus.now) (g.S.Source.left c.take_turn.new.corpus) (g.S.Source.faults c.args.corpus.now) (g.S.Source.faults c.take_turn.new.corpus)) (g.O.Sink.held c.args.out.now) (g.O.Sink.held c.send_in_time.new.out) c.take_turn.new.work.reader c.take_turn.new.work.pending.items c.take_turn.new.work.number own;
      means = c.in_ok-take_turn.ensures.means ∙ c.lines.invariant.means;
      plan = c.in_ok-take_turn.ensures.same.2 ∙ same_plan;
      layout = c.in_ok-take_turn.ensures.same.0 ∙ same.layout ∙ c.lines.invariant.layout;
      tables = c.in_ok-take_turn.ensures.same.1 ∙ same.tools ∙ c.lines.invariant.tables;
      going = c.in_ok-take_turn.ensures.going c.in-Next.is;
      unfailed = c.in-Ok.ensures.stands ∙ c.lines.invariant.unfailed;
    }

pub returns-in_err-take_turn-clause-part : goal.returns-in_err-take_turn-clause-part
returns-in_err-take_turn-clause-part g c =
    let same = c.in-Ok.ensures.same in
    let same_plan : c.send_in_time.new.work.schedule ≡ c.args.plan.now = same.schedule ∙ c.lines.invariant.plan in
    let sent = c.in-Ok.ensures.sent (pool_ends (g.P.Pool.means c.args.pool.now) (g.P.Pool.told c.args.pool.now) (g.P.Pool.told c.lines.pool)) c.args.plan.now (g.S.Source.left c.args.corpus.now) (g.S.Source.left c.lines.corpus) (g.S.Source.faults c.args.corpus.now) (g.S.Source.faults c.lines.corpus) (g.O.Sink.held c.args.out.now) c.lines.invariant.stands in
    let turned = c.in_err-take_turn.ensures.turned (g.P.Pool.told c.args.pool.now) (g.S.Source.left c.args.corpus.now) (g.S.Source.faults c.args.corpus.now) (g.O.Sink.held c.args.out.now) (g.O.Sink.held c.send_in_time.new.out)
    (by.stands_as (g.P.Pool.means c.lines.pool) (g.P.Pool.means c.args.pool.now) c.send_in_time.new.work.schedule c.args.plan.now (g.P.Pool.told c.args.pool.now) (g.P.Pool.told c.lines.pool) (sym c.lines.invariant.means) (sym same_plan) (source_ends (g.S.Source.left c.args.corpus.now) (g.S.Source.left c.lines.corpus) (g.S.Source.faults c.args.corpus.now) (g.S.Source.faults c.lines.corpus)) (g.O.Sink.held c.args.out.now) (g.O.Sink.held c.send_in_time.new.out) c.send_in_time.new.work.reader c.send_in_time.new.work.pending.items c.send_in_time.new.work.number sent) in
    law.at_err _ c.from_residual-in_err-take_turn.result (by.part_as (g.P.Pool.means c.args.pool.now) (g.P.Pool.means c.lines.pool) c.args.plan.now c.send_in_time.new.work.schedule (g.P.Pool.told c.args.pool.now) (g.P.Pool.told c.take_turn.new.pool) c.lines.invariant.means same_plan (source_ends (g.S.Source.left c.args.corpus.now) (g.S.Source.left c.take_turn.new.corpus) (g.S.Source.faults c.args.corpus.now) (g.S.Source.faults c.take_turn.new.corpus)) (g.O.Sink.held c.args.out.now) (g.O.Sink.held c.send_in_time.new.out) turned)

pub returns-in-Ended-clause-ran : goal.returns-in-Ended-clause-ran
returns-in-Ended-clause-ran g c =
    let same = c.in-Ok.ensures.same in
    let same_plan : c.send_in_time.new.work.schedule ≡ c.args.plan.now = same.schedule ∙ c.lines.invariant.plan in
    let sent = c.in-Ok.ensures.sent (pool_ends (g.P.Pool.means c.args.pool.now) (g.P.Pool.told c.args.pool.now) (g.P.Pool.told c.lines.pool)) c.args.plan.now (g.S.Source.left c.args.corpus.now) (g.S.Source.left c.lines.corpus) (g.S.Source.faults c.args.corpus.now) (g.S.Source.faults c.lines.corpus) (g.O.Sink.held c.args.out.now) c.lines.invariant.stands in
    let turned = c.in_ok-take_turn.ensures.turned (g.P.Pool.told c.args.pool.now) (g.S.Source.left c.args.corpus.now) (g.S.Source.faults c.args.corpus.now) (g.O.Sink.held c.args.out.now) (g.O.Sink.held c.send_in_time.new.out)
    (by.stands_as (g.P.Pool.means c.lines.pool) (g.P.Pool.means c.args.pool.now) c.send_in_time.new.work.schedule c.args.plan.now (g.P.Pool.told c.args.pool.now) (g.P.Pool.told c.lines.pool) (sym c.lines.invariant.means) (sym same_plan) (source_ends (g.S.Source.left c.args.corpus.now) (g.S.Source.left c.lines.corpus) (g.S.Source.faults c.args.corpus.now) (g.S.Source.faults c.lines.corpus)) (g.O.Sink.held c.args.out.now) (g.O.Sink.held c.send_in_time.new.out) c.send_in_time.new.work.reader c.send_in_time.new.work.pending.items c.send_in_time.new.work.number sent) in
    let own = rw c.in-Ended.is at turned in
    let ended = by.finished_as (g.P.Pool.means c.args.pool.now) (g.P.Pool.means c.lines.pool) c.args.plan.now c.send_in_time.new.work.schedule (g.P.Pool.told c.args.pool.now) (g.P.Pool.told c.take_turn.new.pool) c.lines.invariant.means same_plan (source_ends (g.S.Source.left c.args.corpus.now) (g.S.Source.left c.take_turn.new.corpus) (g.S.Source.faults c.args.corpus.now) (g.S.Source.faults c.take_turn.new.corpus)) (g.O.Sink.held c.args.out.now) (g.O.Sink.held c.send_in_time.new.out) c.take_turn.new.work.pending.items c.in-Ended.status own in
    let finish = rw c.deref.ensures.value at c.finish.ensures in
    finish (pool_ends (g.P.Pool.means c.args.pool.now) (g.P.Pool.told c.args.pool.now) (g.P.Pool.told c.take_turn.new.pool)) c.args.plan.now (source_ends (g.S.Source.left c.args.corpus.now) (g.S.Source.left c.take_turn.new.corpus) (g.S.Source.faults c.args.corpus.now) (g.S.Source.faults c.take_turn.new.corpus)) (g.O.Sink.held c.args.out.now) (g.O.Sink.flushed c.args.out.now) (g.O.Sink.faults c.args.out.now) (c.in-Ok.ensures.stands ∙ c.lines.invariant.unfailed) ended
