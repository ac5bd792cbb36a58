use Rattle.std.proofs.Common.{◌≡◌, ◌∙◌, ◌+◌, ◌++◌, ◌∷◌, [], ap, sym, subst, List, ℕ, map, drop, All}
use Rattle.std.proofs.lemmas.List.{drop_more, map-append}
use Rattle.std.proofs.lemmas.List.Elements.{All-push}
use Rattle.aql_syntax.specs.declared.tree.Statement as declared
use Rattle.aql_syntax.specs.Views.{statement_of}
use Rattle.view_graph.specs.declared.search.Mark.TheVariants.{Ranked}
use Rattle.view_graph.specs.Uses.{views_from, views_of}
use Rattle.view_graph.specs.Search.{mark_at}
use Rattle.view_graph.proofs.Ranking.{step_view, step_other}
use Rattle.view_graph.proofs.order.with_ranks.Goals as goal
use Rattle.view_graph.proofs.order.with_ranks.Goals.{in-View+in_ok-push, in_default}

pub loop-index-preserved : goal.loop-index-preserved
loop-index-preserved c =
    let x = c.index-statements-index in
    let i = c.loop-index.index in
    let all = views_of (map statement_of c.args.statements.now) in
    let rest = map statement_of (drop (i + 1) c.args.statements.now) in
    let before = map (λ (view : ℕ × ℕ). view.1) c.loop-index.views.items in
    let now : before ++ views_from i (statement_of x.result ∷ rest) ≡ all =
    ap (λ (s : declared.Statement). before ++ views_from i (statement_of s ∷ rest)) x.is
    ∙ (sym (ap (λ (ss : List declared.Statement). before ++ views_from i (map statement_of ss)) (drop_more c.args.statements.now i x.result c.loop-index-test.true)) ∙ c.loop-index.invariant.0) in
    elim c.match-statement.branch [
      | in-View+in_ok-push w ↦
          let items : c.match-statement.views.items ≡ c.loop-index.views.items ++ (w.rank_of.result, i) ∷ [] = ap (λ v. v.items) w.views-is ∙ w.in_ok-push.ensures.items in (
            ap (λ (vs : List (ℕ × ℕ)). map (λ (view : ℕ × ℕ). view.1) vs ++ views_from (i + 1) rest) items
                ∙ (ap (λ (ps : List ℕ). ps ++ views_from (i + 1) rest) (map-append (λ (view : ℕ × ℕ). view.1) c.loop-index.views.items ((w.rank_of.result, i) ∷ []))
                ∙ step_view before all i x.result w.in-View.name w.in-View.query rest w.in-View.is now),
            subst (λ (vs : List (ℕ × ℕ)). All (λ view. (rank : ℕ) → mark_at c.args.marks.now view.1 ≡ Ranked rank → view.0 ≡ rank) vs) (sym items)
                (All-push (λ view. (rank : ℕ) → mark_at c.args.marks.now view.1 ≡ Ranked rank → view.0 ≡ rank) c.loop-index.views.items (w.rank_of.result, i) c.loop-index.invariant.1 w.rank_of.ensures),
          )
      | in_default w ↦ (
        ap (λ v. map (λ (view : ℕ × ℕ). view.1) v.items ++ views_from (i + 1) rest) w.views-is
            ∙ step_other before all i x.result rest w.in_default.not-View now,
        subst (λ v. All (λ view. (rank : ℕ) → mark_at c.args.marks.now view.1 ≡ Ranked rank → view.0 ≡ rank) v.items) (sym w.views-is) c.loop-index.invariant.1,
      )
    ]
