use Rattle.std.proofs.Common.{◌≡◌, length, map}
use Rattle.demo_corpus.specs.Generator.{first_documents}
use Rattle.demo_corpus.specs.Totals.{tally_of}
use Rattle.run_pool.specs.Entries.{entry_of, with_entries}
use Rattle.aqlx_top.proofs.demonstration.summary.Given as goal

abbrev pub invariant-documents : goal.invariant-documents
invariant-documents g l = record {
  tables : l.tools ≡ l.fn.plan.lists;
  means : g.P.Pool.means l.pool ≡ g.P.Pool.means l.initial.pool;
  counted : l.totals ≡ tally_of (length l.fn.plan.outputs) (map (g.P.Pool.means l.initial.pool l.fn.plan) (first_documents l.i));
  handed : g.P.Pool.told l.pool ≡ with_entries (g.P.Pool.told l.initial.pool) (map (entry_of (g.P.Pool.means l.initial.pool) l.fn.plan) (first_documents l.i));
}
