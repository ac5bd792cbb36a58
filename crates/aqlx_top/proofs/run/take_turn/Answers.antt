use Rattle.std.proofs.Common.{◌≡◌, ◌+◌, ℕ, List, [], ◌∷◌, map, not, refl, sym, ap, subst, ◌∙◌}
use Rattle.corpus_json.specs.Documents.{documents, is_bad_line}
use Rattle.std.proofs.lemmas.Result.{err_from_is_err_and}
use Rattle.run_pool.specs.Entries.{entry_of, with_entries, AreHandedInPart}
use Rattle.run_pool.specs.Lines.{line_from}
use Rattle.aqlx_top.specs.Endings.{written_for}
use Rattle.aqlx_top.proofs.Handings as by
use Rattle.aqlx_top.proofs.Turns as law
use Rattle.aqlx_top.proofs.run.take_turn.Goals as goal

pub returns-in_err-next_line-clause-turned : goal.returns-in_err-next_line-clause-turned
returns-in_err-next_line-clause-turned g c = λ told left faults before now s.
    let p = err_from_is_err_and c.from_residual.result c.from_residual.ensures.1 in
    let going = law.going_at_err (c.next_line.new.source ≡ c.args.corpus.now) c.args.work.now.reader.last c.in_err-next_line.field-0.0 c.in_err-next_line.ensures.lasting in
    rw p.1
    (by.part_of_taken_by (g.P.Pool.means c.args.pool.now) c.args.work.now.schedule told (g.P.Pool.told c.args.pool.now) (g.P.Pool.told c.args.pool.now) left (g.S.Source.left c.args.corpus.now) (g.S.Source.left c.next_line.new.source) faults (g.S.Source.faults c.args.corpus.now) (g.S.Source.faults c.next_line.new.source) before now c.args.work.now.reader.ready c.args.work.now.reader.taken c.args.work.now.reader.last c.args.work.now.pending.items c.args.work.now.number
    s going c.in_err-next_line.ensures.err refl)

pub answer_line-requires-clause-short : goal.answer_line-requires-clause-short
answer_line-requires-clause-short g c = λ κs within.
    let next = rw c.in-Line.is at c.in_ok-next_line.ensures.answer in
    rw c.deref.ensures.value
    (law.line_is_short (g.S.Source.left c.args.corpus.now) (g.S.Source.left c.next_line.new.source) (g.S.Source.faults c.args.corpus.now) (g.S.Source.faults c.next_line.new.source)
    c.args.work.now.reader.ready c.args.work.now.reader.taken c.args.work.now.reader.last c.next_line.new.self c.next_line.new.line.items c.requires.going next)

pub returns-in_err-answer_line-in-Line-clause-turned :
    goal.returns-in_err-answer_line-in-Line-clause-turned
returns-in_err-answer_line-in-Line-clause-turned g c = λ told left faults before now s.
    let p = err_from_is_err_and c.from_residual-in_err-answer_line-in-Line.result c.from_residual-in_err-answer_line-in-Line.ensures.1 in
    let next = rw c.in-Line.is at c.in_ok-next_line.ensures.answer in
    rw p.1
    (by.wanting_by (g.P.Pool.means c.args.pool.now) c.args.work.now.schedule told (g.P.Pool.told c.args.pool.now) (g.P.Pool.told c.answer_line.new.pool) left (g.S.Source.left c.args.corpus.now) (g.S.Source.left c.next_line.new.source) faults (g.S.Source.faults c.args.corpus.now) (g.S.Source.faults c.next_line.new.source) before now c.args.work.now.reader c.next_line.new.self c.args.work.now.pending.items c.next_line.new.line.items c.args.work.now.number s next
    (subst (λ (line : List ℕ). AreHandedInPart (g.P.Pool.told c.args.pool.now) (g.P.Pool.told c.answer_line.new.pool) (map (entry_of (g.P.Pool.means c.args.pool.now) c.args.work.now.schedule) (documents (line ∷ [])))) c.deref.ensures.value c.in_err-answer_line-in-Line.ensures.handed))

pub returns-then-branch-clause-turned : goal.returns-then-branch-clause-turned
returns-then-branch-clause-turned g c = λ told left faults before now s.
    let next = rw c.in-Line.is at c.in_ok-next_line.ensures.answer in
    let good = ap is_bad_line (sym c.deref.ensures.value) ∙ c.in_ok-answer_line-in-Line.ensures.good ∙ ap not c.if-branch.true in
    let piece = line_from (g.P.Pool.means c.args.pool.now) c.args.work.now.schedule in
    rw c.in_ok-answer_line-in-Line.ensures.bytes
    (by.next_line_by (g.P.Pool.means c.args.pool.now) c.args.work.now.schedule told (g.P.Pool.told c.args.pool.now) (g.P.Pool.told c.answer_line.new.pool) left (g.S.Source.left c.args.corpus.now) (g.S.Source.left c.next_line.new.source) faults (g.S.Source.faults c.args.corpus.now) (g.S.Source.faults c.next_line.new.source) before now c.args.work.now.reader c.next_line.new.self c.args.work.now.pending.items (written_for piece (c.deref.result.now ∷ [])) c.next_line.new.line.items c.args.work.now.number (c.args.work.now.number + 1)
    s next c.taken-taken.ensures.below good (ap (λ (each : List ℕ). written_for piece (each ∷ [])) c.deref.ensures.value) refl
    (subst (λ (line : List ℕ). g.P.Pool.told c.answer_line.new.pool ≡ with_entries (g.P.Pool.told c.args.pool.now) (map (entry_of (g.P.Pool.means c.args.pool.now) c.args.work.now.schedule) (documents (line ∷ [])))) c.deref.ensures.value c.in_ok-answer_line-in-Line.ensures.handed))

pub returns-else-branch-clause-turned : goal.returns-else-branch-clause-turned
returns-else-branch-clause-turned g c = λ told left faults before now s.
    let next = rw c.in-Line.is at c.in_ok-next_line.ensures.answer in
    let bad = c.in_ok-answer_line-in-Line.ensures.good ∙ ap not c.if-branch.false in
    let line = c.next_line.new.line.items in
    let same = ap is_bad_line (sym c.deref.ensures.value) in
    let short = law.line_is_short (g.S.Source.left c.args.corpus.now) (g.S.Source.left c.next_line.new.source) (g.S.Source.faults c.args.corpus.now) (g.S.Source.faults c.next_line.new.source)
    c.args.work.now.reader.ready c.args.work.now.reader.taken c.args.work.now.reader.last c.next_line.new.self c.next_line.new.line.items c.requires.going next in
    rw (law.pending_for_bad (line_from (g.P.Pool.means c.args.pool.now) c.args.work.now.schedule) c.args.work.now.pending.items c.answer_line.new.pending.items c.deref.result.now bad c.in_ok-answer_line-in-Line.ensures.bytes)
    (by.ended_bad_by (g.P.Pool.means c.args.pool.now) c.args.work.now.schedule told (g.P.Pool.told c.args.pool.now) (g.P.Pool.told c.answer_line.new.pool) left (g.S.Source.left c.args.corpus.now) (g.S.Source.left c.next_line.new.source) faults (g.S.Source.faults c.args.corpus.now) (g.S.Source.faults c.next_line.new.source) before now c.args.work.now.reader c.next_line.new.self c.args.work.now.pending.items c.next_line.new.line.items c.args.work.now.number (c.args.work.now.number + 1)
    s next (same ∙ bad) (law.short_is line short) refl
    (by.unasked_for_bad (g.P.Pool.means c.args.pool.now) c.args.work.now.schedule (g.P.Pool.told c.args.pool.now) (g.P.Pool.told c.answer_line.new.pool) c.deref.result.now bad c.in_ok-answer_line-in-Line.ensures.handed))

pub returns-in-End-clause-turned : goal.returns-in-End-clause-turned
returns-in-End-clause-turned g c = λ told left faults before now s.
    by.ended_done_by (g.P.Pool.means c.args.pool.now) c.args.work.now.schedule told (g.P.Pool.told c.args.pool.now) (g.P.Pool.told c.args.pool.now) left (g.S.Source.left c.args.corpus.now) (g.S.Source.left c.next_line.new.source) faults (g.S.Source.faults c.args.corpus.now) (g.S.Source.faults c.next_line.new.source) before now c.args.work.now.reader c.next_line.new.self c.args.work.now.pending.items c.next_line.new.line.items c.args.work.now.number s (rw c.in-End.is at c.in_ok-next_line.ensures.answer) c.in_ok-next_line.ensures.told refl

pub returns-in-Long-clause-turned : goal.returns-in-Long-clause-turned
returns-in-Long-clause-turned g c = λ told left faults before now s.
    by.ended_long_by (g.P.Pool.means c.args.pool.now) c.args.work.now.schedule told (g.P.Pool.told c.args.pool.now) (g.P.Pool.told c.args.pool.now) left (g.S.Source.left c.args.corpus.now) (g.S.Source.left c.next_line.new.source) faults (g.S.Source.faults c.args.corpus.now) (g.S.Source.faults c.next_line.new.source) before now c.args.work.now.reader c.next_line.new.self c.args.work.now.pending.items c.next_line.new.line.items c.args.work.now.number (c.args.work.now.number + 1) s (rw c.in-Long.is at c.in_ok-next_line.ensures.answer) refl refl

pub returns-in-Failed-clause-turned : goal.returns-in-Failed-clause-turned
returns-in-Failed-clause-turned g c = λ told left faults before now s.
    by.ended_failed_by (g.P.Pool.means c.args.pool.now) c.args.work.now.schedule told (g.P.Pool.told c.args.pool.now) (g.P.Pool.told c.args.pool.now) left (g.S.Source.left c.args.corpus.now) (g.S.Source.left c.next_line.new.source) faults (g.S.Source.faults c.args.corpus.now) (g.S.Source.faults c.next_line.new.source) before now c.args.work.now.reader c.next_line.new.self c.args.work.now.pending.items c.next_line.new.line.items c.args.work.now.number s (rw c.in-Failed.is at c.in_ok-next_line.ensures.answer) refl

pub returns-in-Limit-clause-turned : goal.returns-in-Limit-clause-turned
returns-in-Limit-clause-turned g c = λ told left faults before now s.
    by.ended_limit_by (g.P.Pool.means c.args.pool.now) c.args.work.now.schedule told (g.P.Pool.told c.args.pool.now) (g.P.Pool.told c.args.pool.now) left (g.S.Source.left c.args.corpus.now) (g.S.Source.left c.next_line.new.source) faults (g.S.Source.faults c.args.corpus.now) (g.S.Source.faults c.next_line.new.source) before now c.args.work.now.reader c.next_line.new.self c.args.work.now.pending.items c.next_line.new.line.items c.args.work.now.number s (rw c.in-Limit.is at c.in_ok-next_line.ensures.answer) refl

pub returns-then-branch-clause-going : goal.returns-then-branch-clause-going
returns-then-branch-clause-going g c = λ e.
    let next = rw c.in-Line.is at c.in_ok-next_line.ensures.answer in
    law.goes_on (g.S.Source.left c.args.corpus.now) (g.S.Source.left c.next_line.new.source) (g.S.Source.faults c.args.corpus.now) (g.S.Source.faults c.next_line.new.source)
    c.args.work.now.reader.ready c.args.work.now.reader.taken c.args.work.now.reader.last c.next_line.new.self c.next_line.new.line.items c.requires.going next
