-- A plan that shows the row of the document twice, and events that publish its items in the order of their numbers.
use Rattle.std.specs.Prelude.{ℕ, ◌≡◌, ◌≢◌, ◌<◌, List, [], ◌∷◌, Option, Some, None, IsSome, Contains, length, map, true, refl}
use Rattle.std.proofs.Common.{get_or, inl, inr, ap, sym, subst, arith, ◌≤◌}
use Rattle.std.proofs.lemmas.Option.{none-some, same_Some}
use Rattle.aql_base.specs.BagLaws.{SameBag-refl}
use Rattle.span_token.specs.Documents.{Doc as Document, whole_of}
use Rattle.row_values.specs.Datums.{span}
use Rattle.row_values.specs.Rows.{RowList}
use Rattle.scalar_ops.specs.Tables.{Lists}
use Rattle.algebra.specs.declared.node.Node.{Node}
use Rattle.algebra.specs.declared.node.Node.TheVariants.{Doc, Union}
use Rattle.algebra.specs.declared.output.PlanOut.{PlanOut}
use Rattle.algebra.specs.Items.{output_nodes}
use Rattle.algebra.specs.Plans.{Parts}
use Rattle.run_core.specs.declared.event.Event.TheVariants.{Claim, Publish, Late}
use Rattle.run_core.specs.Boards.{State, fresh, published_on}
use Rattle.run_core.specs.Events.{IsLegal, MayClaim, MayPublish, after}
use Rattle.run_core.specs.Histories.{Happening, AreLegal, after_all}
use Rattle.run_core.specs.Wanted.{AsksFor, IsWanted, output, input, IsReady}

-- the row of the document, and the same row twice
abbrev pub doubled_nodes : List Node
doubled_nodes = Doc ∷ Union 0 0 ∷ []

abbrev pub once : Document → RowList
once doc = record { width = 1; rows = (span (whole_of doc) ∷ []) ∷ [] }

abbrev pub twice : Document → RowList
twice doc = record { width = 1; rows = (span (whole_of doc) ∷ []) ∷ (span (whole_of doc) ∷ []) ∷ [] }

-- both items are claimed and published, the second one by a helper; who claimed it comes late
abbrev pub doubled_events : Document → List Happening
doubled_events doc =
    record { event = Claim 0 0; rows = None }
    ∷ record { event = Publish 0 0; rows = Some (once doc) }
    ∷ record { event = Claim 1 1; rows = None }
    ∷ record { event = Publish 0 1; rows = Some (twice doc) }
    ∷ record { event = Late 1 1; rows = None }
    ∷ []

module _ (lists : Lists) (outputs : List PlanOut) (shown : Contains (map (λ out. out.node) outputs) 1) (doc : Document) where
  abbrev plan : Parts
  plan = record { nodes = doubled_nodes; lists = lists; outputs = outputs }

  wanted_1 : (published : ℕ → Option RowList) → IsWanted plan published 1
  wanted_1 published = output 1 shown

  wanted_0 : (published : ℕ → Option RowList) → IsWanted plan published 0
  wanted_0 published = input 1 0 (Union 0 0) refl (inl refl) (wanted_1 published)

  ready_0 : (published : ℕ → Option RowList) → IsReady plan published Doc
  ready_0 published i (inl e) = absurd (none-some i e)
  ready_0 published i (inr e) = absurd (none-some i e.0)

  ready_1 : (published : ℕ → Option RowList) → IsSome (published 0) → IsReady plan published (Union 0 0)
  ready_1 published there i (inl e) = subst (λ (k : ℕ). IsSome (published k)) (same_Some 0 i e) there
  ready_1 published there i (inr e) = subst (λ (k : ℕ). IsSome (published k)) (same_Some 0 i e.0) there

  legal : AreLegal (fresh plan (doc ∷ [])) (doubled_events doc)
  legal = (
    record { of_item = record { d = 0; n = 0; doc = doc; node = Doc; is = refl; doc_is = refl; node_is = refl }; wanted = wanted_0 _; ready = ready_0 _; unclaimed = refl },
    (
      record { of_item = record { d = 0; n = 0; doc = doc; node = Doc; is = refl; doc_is = refl; node_is = refl }; wanted = wanted_0 _; ready = ready_0 _; unpublished = refl; bag = SameBag-refl _ },
      (
        record { of_item = record { d = 0; n = 1; doc = doc; node = Union 0 0; is = refl; doc_is = refl; node_is = refl }; wanted = wanted_1 _; ready = ready_1 _ refl; unclaimed = refl },
        (
          record { of_item = record { d = 0; n = 1; doc = doc; node = Union 0 0; is = refl; doc_is = refl; node_is = refl }; wanted = wanted_1 _; ready = ready_1 _ refl; unpublished = refl; bag = SameBag-refl _ },
          (refl, tt),
        ),
      ),
    ),
  )

-- on a plan of these nodes that shows the last one they are legal
pub doubled-legal : (plan : Parts) (docs : List Document) (doc : Document) → plan.nodes ≡ doubled_nodes → output_nodes plan ≡ 1 ∷ [] → docs ≡ doc ∷ [] → AreLegal (fresh plan docs) (doubled_events doc)
doubled-legal plan docs doc nodes shown one =
    subst (λ (ds : List Document). AreLegal (fresh plan ds) (doubled_events doc)) (sym one)
    (subst (λ (ns : List Node). AreLegal (fresh (record { nodes = ns; lists = plan.lists; outputs = plan.outputs }) (doc ∷ [])) (doubled_events doc)) (sym nodes)
    (legal plan.lists plan.outputs (subst (λ (ns : List ℕ). Contains ns 1) (sym shown) (0, omega arith, refl)) doc))

-- documents that are one are the first alone
pub only_one : (docs : List Document) (doc : Document) → length docs ≡ 1 → doc ≡ get_or docs 0 doc → docs ≡ doc ∷ []
only_one [] doc one is = absurd (omega (arith, one))
only_one (d ∷ []) doc one is = ap (λ (x : Document). x ∷ []) (sym is)
only_one (d ∷ e ∷ docs) doc one is = absurd (omega (arith, one))
