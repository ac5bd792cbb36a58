use Rattle.std.proofs.Common.{◌≡◌, map, take}
use Rattle.std.specs.Arc.{arc_value}
use Rattle.run_pool.specs.Answers.{AreAllAnswers}
use Rattle.run_pool.specs.Entries.{entry_of, with_entries}
use Rattle.window_lines.proofs.answers.answers_of.Given as goal

abbrev pub invariant-loop-d : goal.invariant-loop-d
invariant-loop-d g l = record {
  alike : g.P.Pool.means l.pool ≡ g.P.Pool.means l.initial.pool;
  answers : AreAllAnswers (g.P.Pool.means l.initial.pool) l.plan (take l.d l.docs) (map (λ rows. map arc_value rows.items) l.answers.items);
  handed : g.P.Pool.told l.pool ≡ with_entries (g.P.Pool.told l.initial.pool) (map (entry_of (g.P.Pool.means l.initial.pool) l.plan) (take l.d l.docs));
}
