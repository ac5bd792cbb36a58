use Rattle.std.proofs.Common.{◌≡◌, ◌∙◌, ◌∷◌, [], length, map, sym, ap, subst, arith}
use Rattle.std.proofs.lemmas.List.{length-map}
use Rattle.std.proofs.lemmas.Result.{err_from_is_err_and}
use Rattle.algebra.specs.Plans.{Parts}
use Rattle.algebra.specs.declared.output.PlanOut.{PlanOut}
use Rattle.demo_corpus.specs.Generator.{generated, first_documents}
use Rattle.demo_corpus.specs.Totals.{Tally}
use Rattle.run_pool.specs.Entries.{entry_of, with_entries, AreHandedInPart}
use Rattle.run_pool.specs.Lines.{Meaning}
use Rattle.aqlx_top.specs.Showings.{IsCounted}
use Rattle.aqlx_top.proofs.Counting as law
use Rattle.aqlx_top.proofs.demonstration.summary.Goals as goal

pub count_document-requires-clause-one_of_each : goal.count_document-requires-clause-one_of_each
count_document-requires-clause-one_of_each g c = λ κs within.
    let plan : Parts = c.args.plan.now in
    ap (λ (tally : Tally). length tally.totals) c.documents.invariant.counted ∙ law.as_many (length plan.outputs) (map ((g.P.Pool.means c.args.pool.now) plan) (first_documents c.documents.i))
    ∙ ap (λ (p : Parts). length p.outputs) (sym c.in_ok-schedule.ensures)

pub count_document-requires-clause-countable : goal.count_document-requires-clause-countable
count_document-requires-clause-countable g c = λ κs within.
    let plan : Parts = c.args.plan.now in
    let so_many : c.documents.totals.documents ≡ c.documents.i =
    ap (λ (tally : Tally). tally.documents) c.documents.invariant.counted ∙ law.documents_counted (length plan.outputs) ((g.P.Pool.means c.args.pool.now) plan) c.documents.i in
    omega (arith, so_many, c.documents-test.true)

pub documents-preserved : goal.documents-preserved
documents-preserved g c =
    let plan : Parts = c.args.plan.now in
    let means : Meaning = g.P.Pool.means c.args.pool.now in
    let before : Tally = c.documents.totals in
    let now : Tally = c.count_document.new.totals in
    record {
      tables = c.in_ok-count_document.ensures.same ∙ c.documents.invariant.tables;
      means = c.in_ok-count_document.ensures.means ∙ c.documents.invariant.means;
      counted = law.counted_more (length plan.outputs) (means plan) c.documents.i before now c.documents.invariant.counted
          (subst (λ (p : Parts). IsCounted (length p.outputs) (means p (generated c.documents.i)) before now) c.in_ok-schedule.ensures
          (subst (λ (m : Meaning). IsCounted (length c.in_ok-schedule.schedule.outputs) (m c.in_ok-schedule.schedule (generated c.documents.i)) before now) c.documents.invariant.means c.in_ok-count_document.ensures.counted));
      handed = law.handed_more means plan (g.P.Pool.told c.args.pool.now) c.documents.i (g.P.Pool.told c.documents.pool) (g.P.Pool.told c.count_document.new.pool) c.documents.invariant.handed
          (subst (λ (p : Parts). g.P.Pool.told c.count_document.new.pool ≡ with_entries (g.P.Pool.told c.documents.pool) (entry_of means p (generated c.documents.i) ∷ [])) c.in_ok-schedule.ensures
          (subst (λ (m : Meaning). g.P.Pool.told c.count_document.new.pool ≡ with_entries (g.P.Pool.told c.documents.pool) (entry_of m c.in_ok-schedule.schedule (generated c.documents.i) ∷ [])) c.documents.invariant.means c.in_ok-count_document.ensures.handed));
    }

pub summary-requires : goal.summary-requires
summary-requires g c =
    let plan : Parts = c.args.plan.now in
    record {
      one_of_each = ap length (c.deref-2.ensures.value ∙ c.in_ok-outputs.ensures) ∙ length-map plan.outputs (λ (out : PlanOut). out.names)
          ∙ sym (ap (λ (tally : Tally). length tally.totals) c.documents.invariant.counted ∙ law.as_many (length plan.outputs) (map ((g.P.Pool.means c.args.pool.now) plan) (first_documents c.documents.i)));
    }

pub returns-in_err-count_document-clause-handed : goal.returns-in_err-count_document-clause-handed
returns-in_err-count_document-clause-handed g c =
    let p = err_from_is_err_and c.from_residual-in_err-count_document.result c.from_residual-in_err-count_document.ensures.1 in
    let means : Meaning = g.P.Pool.means c.args.pool.now in
    rw p.1
    (law.handed_wanting means c.args.plan.now (g.P.Pool.told c.args.pool.now) c.args.count c.documents.i (g.P.Pool.told c.documents.pool) (g.P.Pool.told c.count_document.new.pool)
    c.documents-test.true c.documents.invariant.handed
    (subst (λ (q : Parts). AreHandedInPart (g.P.Pool.told c.documents.pool) (g.P.Pool.told c.count_document.new.pool) (entry_of means q (generated c.documents.i) ∷ [])) c.in_ok-schedule.ensures
    (subst (λ (m : Meaning). AreHandedInPart (g.P.Pool.told c.documents.pool) (g.P.Pool.told c.count_document.new.pool) (entry_of m c.in_ok-schedule.schedule (generated c.documents.i) ∷ [])) c.documents.invariant.means c.in_err-count_document.ensures.handed)))

pub returns-in_err-schedule-clause-handed : goal.returns-in_err-schedule-clause-handed
returns-in_err-schedule-clause-handed g c =
    let p = err_from_is_err_and c.from_residual.result c.from_residual.ensures.1 in
    rw p.1 (law.handed_none (g.P.Pool.means c.args.pool.now) c.args.plan.now (g.P.Pool.told c.args.pool.now) c.args.count)

pub returns-in_err-tools-clause-handed : goal.returns-in_err-tools-clause-handed
returns-in_err-tools-clause-handed g c =
    let p = err_from_is_err_and c.from_residual-in_err-tools.result c.from_residual-in_err-tools.ensures.1 in
    rw p.1 (law.handed_none (g.P.Pool.means c.args.pool.now) c.args.plan.now (g.P.Pool.told c.args.pool.now) c.args.count)

pub returns-in_err-outputs-clause-handed : goal.returns-in_err-outputs-clause-handed
returns-in_err-outputs-clause-handed g c =
    let p = err_from_is_err_and c.from_residual-in_err-outputs.result c.from_residual-in_err-outputs.ensures.1 in
    rw p.1 (law.handed_none (g.P.Pool.means c.args.pool.now) c.args.plan.now (g.P.Pool.told c.args.pool.now) c.args.count)

pub returns-in_err-layout-clause-handed : goal.returns-in_err-layout-clause-handed
returns-in_err-layout-clause-handed g c =
    let p = err_from_is_err_and c.from_residual-in_err-layout.result c.from_residual-in_err-layout.ensures.1 in
    rw p.1 (law.handed_none (g.P.Pool.means c.args.pool.now) c.args.plan.now (g.P.Pool.told c.args.pool.now) c.args.count)

pub returns-in_err-totals-clause-handed : goal.returns-in_err-totals-clause-handed
returns-in_err-totals-clause-handed g c =
    let p = err_from_is_err_and c.from_residual-in_err-totals.result c.from_residual-in_err-totals.ensures.1 in
    rw p.1 (law.handed_none (g.P.Pool.means c.args.pool.now) c.args.plan.now (g.P.Pool.told c.args.pool.now) c.args.count)

pub returns-clause-handed : goal.returns-clause-handed
returns-clause-handed g c =
    let at_end : c.documents.i ≡ c.args.count = omega (arith, c.documents-test.false) in
    law.handed_end (g.P.Pool.means c.args.pool.now) c.args.plan.now (g.P.Pool.told c.args.pool.now) c.args.count c.documents.i (g.P.Pool.told c.documents.pool) c.summary.result at_end c.documents.invariant.handed
