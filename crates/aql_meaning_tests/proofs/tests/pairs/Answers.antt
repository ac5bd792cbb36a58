use Rattle.std.proofs.Common.{◌≡◌, ◌<◌, ℕ, [], None, length, map, sym, subst}
use Rattle.std.specs.List.{All}
use Rattle.std.proofs.lemmas.List.Elements.{All-nil}
use Rattle.aql_typed.specs.declared.tree.Projection.TheVariants.{Plain}
use Rattle.aql_typed.specs.declared.tree.TypedQuery.TheVariants as query
use Rattle.aql_typed.specs.declared.tree.TypedSelect.{TypedSelect}
use Rattle.aql_typed.specs.Fitting.{AllSourcesFit, all_widths, FitsSelect, SelectReads, Fits}
use Rattle.aql_typed.specs.Nodes.{select_view}
use Rattle.aql_typed.specs.Trees.{as_sources}
use Rattle.aql_typed.specs.Views.{query_of, select_clauses_of, source_of}
use Rattle.aql_meaning_tests.proofs.tests.pairs.Goals as goal

-- a selection fits where its sources and its clauses do, and the columns that it reads are there
fits : (s : TypedSelect) (width : ℕ) → AllSourcesFit [] (as_sources (map source_of s.sources.items)) → all_widths [] (as_sources (map source_of s.sources.items)) ≡ width
    → FitsSelect (select_clauses_of s.clauses) → SelectReads width (select_clauses_of s.clauses) → Fits [] (query_of (query.Select s))
fits s width sources wide clauses reads =
    subst (Fits []) (sym (select_view s)) (sources, clauses, subst (λ (n : ℕ). SelectReads n (select_clauses_of s.clauses)) (sym wide) reads)

pub returns : goal.returns
returns c =
    let below : ℕ → Type 0 = λ column. column < length c.in_ok-items.items in
    fits (record {
      sources = c.in_ok-sources.sources;
      clauses = record { conds = c.in_ok-conds.conds; consolidate = None; projection = Plain c.in_ok-items.items; order = c.new.result; limit = None };
    }) 2 c.in_ok-sources.ensures.fit c.in_ok-sources.ensures.width (tt, subst (All below) (sym c.new.ensures.items) (All-nil below))
    (record { conds = c.in_ok-conds.ensures; target = tt; items = c.in_ok-items.ensures })
