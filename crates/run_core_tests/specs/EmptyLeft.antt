-- A plan with a conditional join whose left side has no row, and events that publish what is wanted of it.
use Rattle.std.specs.Prelude.{ℕ, zero, suc, slice_get, ◌≡◌, ◌≢◌, ◌<◌, List, [], ◌∷◌, Option, Some, None, IsSome, Contains, length, map, true, refl}
use Rattle.std.proofs.Common.{inl, inr, ap, sym, subst, arith, ◌≤◌}
use Rattle.std.proofs.lemmas.Option.{none-some, same_Some, slice_get_within}
use Rattle.aql_base.specs.BagLaws.{SameBag-refl, SameBag-is}
use Rattle.span_token.specs.Documents.{Doc as Document, whole_of}
use Rattle.row_values.specs.Datums.{span}
use Rattle.row_values.specs.RowBags.{product-nil}
use Rattle.row_values.specs.Rows.{RowList}
use Rattle.dict_match.specs.declared.dict_use.DictUse.{DictUse}
use Rattle.scalar_ops.specs.Tables.{Lists}
use Rattle.algebra.specs.declared.node.Node.{Node}
use Rattle.algebra.specs.declared.node.Node.TheVariants.{Doc, Regex, Project, Cross}
use Rattle.algebra.specs.declared.output.PlanOut.{PlanOut}
use Rattle.algebra.specs.Items.{output_nodes, item_at}
use Rattle.algebra.specs.Plans.{Parts}
use Rattle.run_core.specs.declared.event.Event.TheVariants.{Claim, Publish}
use Rattle.run_core.specs.Boards.{State, fresh, published_on}
use Rattle.run_core.specs.Histories.{Happening, AreLegal, after_all}
use Rattle.run_core.specs.StepLaws.{rows-fresh}
use Rattle.run_core.specs.Wanted.{rows_of, AsksFor, IsWanted, output, input, IsReady}

-- the row of the document, the matches in it of a pattern that isn't there, a row without a value, and the conditional join of
-- the last two
abbrev pub joined_nodes : List Node
joined_nodes = Doc ∷ Regex 0 0 0 [] ∷ Project 0 [] ∷ Cross 1 2 true ∷ []

abbrev pub row_of_document : Document → RowList
row_of_document doc = record { width = 1; rows = (span (whole_of doc) ∷ []) ∷ [] }

abbrev pub no_row : RowList
no_row = record { width = 1; rows = [] }

-- the right input, item 2, takes no part
abbrev pub joined_events : Document → List Happening
joined_events doc =
    record { event = Claim 0 0; rows = None }
    ∷ record { event = Publish 0 0; rows = Some (row_of_document doc) }
    ∷ record { event = Claim 0 1; rows = None }
    ∷ record { event = Publish 0 1; rows = Some no_row }
    ∷ record { event = Claim 0 3; rows = None }
    ∷ record { event = Publish 0 3; rows = Some no_row }
    ∷ []

module _ (dicts : List DictUse) (outputs : List PlanOut) (shown : Contains (map (λ out. out.node) outputs) 3) (doc : Document) where
  abbrev plan : Parts
  plan = record { nodes = joined_nodes; lists = record { patterns = []; dicts = dicts }; outputs = outputs }

  wanted_3 : (published : ℕ → Option RowList) → IsWanted plan published 3
  wanted_3 published = output 3 shown

  wanted_1 : (published : ℕ → Option RowList) → IsWanted plan published 1
  wanted_1 published = input 3 1 (Cross 1 2 true) refl (inl refl) (wanted_3 published)

  wanted_0 : (published : ℕ → Option RowList) → IsWanted plan published 0
  wanted_0 published = input 1 0 (Regex 0 0 0 []) refl (inl refl) (wanted_1 published)

  ready_0 : (published : ℕ → Option RowList) → IsReady plan published Doc
  ready_0 published i (inl e) = absurd (none-some i e)
  ready_0 published i (inr e) = absurd (none-some i e.0)

  ready_1 : (published : ℕ → Option RowList) → IsSome (published 0) → IsReady plan published (Regex 0 0 0 [])
  ready_1 published there i (inl e) = subst (λ (k : ℕ). IsSome (published k)) (same_Some 0 i e) there
  ready_1 published there i (inr e) = absurd (none-some i e.0)

  -- its left input is published without a row, so the join doesn't ask for the right one
  ready_3 : (published : ℕ → Option RowList) → published 1 ≡ Some no_row → IsReady plan published (Cross 1 2 true)
  ready_3 published there i (inl e) = subst (λ (k : ℕ). IsSome (published k)) (same_Some 1 i e) (rw there refl)
  ready_3 published there i (inr e) = absurd (e.1 refl (rw there refl))

  legal : AreLegal (fresh plan (doc ∷ [])) (joined_events doc)
  legal = (
    record { of_item = record { d = 0; n = 0; doc = doc; node = Doc; is = refl; doc_is = refl; node_is = refl }; wanted = wanted_0 _; ready = ready_0 _; unclaimed = refl },
    (
      record { of_item = record { d = 0; n = 0; doc = doc; node = Doc; is = refl; doc_is = refl; node_is = refl }; wanted = wanted_0 _; ready = ready_0 _; unpublished = refl; bag = SameBag-refl _ },
      (
        record { of_item = record { d = 0; n = 1; doc = doc; node = Regex 0 0 0 []; is = refl; doc_is = refl; node_is = refl }; wanted = wanted_1 _; ready = ready_1 _ refl; unclaimed = refl },
        (
          record { of_item = record { d = 0; n = 1; doc = doc; node = Regex 0 0 0 []; is = refl; doc_is = refl; node_is = refl }; wanted = wanted_1 _; ready = ready_1 _ refl; unpublished = refl; bag = SameBag-refl _ },
          (
            record { of_item = record { d = 0; n = 3; doc = doc; node = Cross 1 2 true; is = refl; doc_is = refl; node_is = refl }; wanted = wanted_3 _; ready = ready_3 _ refl; unclaimed = refl },
            (
              record { of_item = record { d = 0; n = 3; doc = doc; node = Cross 1 2 true; is = refl; doc_is = refl; node_is = refl }; wanted = wanted_3 _; ready = ready_3 _ refl; unpublished = refl; bag = SameBag-is _ _ (sym (product-nil [])) },
              tt,
            ),
          ),
        ),
      ),
    ),
  )

-- on a plan of these nodes, without a pattern, that shows the last one they are legal
pub joined-legal : (plan : Parts) (docs : List Document) (doc : Document) → plan.nodes ≡ joined_nodes → plan.lists.patterns ≡ [] → output_nodes plan ≡ 3 ∷ [] → docs ≡ doc ∷ [] → AreLegal (fresh plan docs) (joined_events doc)
joined-legal plan docs doc nodes none shown one =
    subst (λ (ds : List Document). AreLegal (fresh plan ds) (joined_events doc)) (sym one)
    (subst (λ (ns : List Node). AreLegal (fresh (record { nodes = ns; lists = plan.lists; outputs = plan.outputs }) (doc ∷ [])) (joined_events doc)) (sym nodes)
    (subst (λ (patterns : List (List ℕ)). AreLegal (fresh (record { nodes = joined_nodes; lists = record { patterns = patterns; dicts = plan.lists.dicts }; outputs = plan.outputs }) (doc ∷ [])) (joined_events doc)) (sym none)
    (legal plan.lists.dicts plan.outputs (subst (λ (ns : List ℕ). Contains ns 3) (sym shown) (0, omega arith, refl)) doc)))

-- a node that no output shows and no node asks for isn't wanted: so the right input of conditional joins alone, none of
-- which has a left row
unasked-unwanted : (parts : Parts) (published : ℕ → Option RowList) (n : ℕ) → (Contains (output_nodes parts) n → ⊥)
    → ((k : ℕ) (node : Node) → slice_get parts.nodes k ≡ Some node → AsksFor parts published node n → ⊥) → IsWanted parts published n → ⊥
unasked-unwanted parts published _ hidden unasked (output n listed) = hidden listed
unasked-unwanted parts published _ hidden unasked (input k n node is asks wanted) = unasked k node is asks

-- node n isn't wanted on the first document of the board
abbrev pub IsUnwanted : State → ℕ → Type 0
IsUnwanted board n = IsWanted board.plan (published_on board 0) n → ⊥

not_shown : Contains {X = ℕ} (3 ∷ []) 2 → ⊥
not_shown (zero, below, is) = absurd (omega (arith, is))
not_shown (suc k, below, is) = absurd (omega (arith, below))

module _ (plan : Parts) (published : ℕ → Option RowList) where
  by_document : AsksFor plan published Doc 2 → ⊥
  by_document (inl e) = none-some 2 e
  by_document (inr e) = none-some 2 e.0

  by_matches : AsksFor plan published (Regex 0 0 0 []) 2 → ⊥
  by_matches (inl e) = omega (arith, same_Some 0 2 e)
  by_matches (inr e) = none-some 2 e.0

  by_row : AsksFor plan published (Project 0 []) 2 → ⊥
  by_row (inl e) = omega (arith, same_Some 0 2 e)
  by_row (inr e) = none-some 2 e.0

  by_join : rows_of (published 1) ≡ [] → AsksFor plan published (Cross 1 2 true) 2 → ⊥
  by_join empty (inl e) = omega (arith, same_Some 1 2 e)
  by_join empty (inr e) = e.1 refl empty

  -- no node asks for the right input while no left row is published
  unasked : rows_of (published 1) ≡ [] → (k : ℕ) (node : Node) → slice_get joined_nodes k ≡ Some node → AsksFor plan published node 2 → ⊥
  unasked empty zero node is = subst (λ (n : Node). AsksFor plan published n 2 → ⊥) (same_Some Doc node is) by_document
  unasked empty (suc zero) node is = subst (λ (n : Node). AsksFor plan published n 2 → ⊥) (same_Some (Regex 0 0 0 []) node is) by_matches
  unasked empty (suc (suc zero)) node is = subst (λ (n : Node). AsksFor plan published n 2 → ⊥) (same_Some (Project 0 []) node is) by_row
  unasked empty (suc (suc (suc zero))) node is = subst (λ (n : Node). AsksFor plan published n 2 → ⊥) (same_Some (Cross 1 2 true) node is) (by_join empty)
  unasked empty (suc (suc (suc (suc k)))) node is = λ asks. absurd (omega (arith, slice_get_within joined_nodes (suc (suc (suc (suc k)))) node is))

-- so it isn't wanted then
pub joined-unwanted : (board : State) → board.plan.nodes ≡ joined_nodes → output_nodes board.plan ≡ 3 ∷ [] → rows_of (published_on board 0 1) ≡ [] → IsUnwanted board 2
joined-unwanted board nodes shown empty =
    unasked-unwanted board.plan (published_on board 0) 2 (λ listed. not_shown (subst (λ (ns : List ℕ). Contains ns 2) shown listed))
    (λ k node is. unasked board.plan (published_on board 0) empty k node (subst (λ (ns : List Node). slice_get ns k ≡ Some node) nodes is))

-- neither at the start
pub start-unwanted : (plan : Parts) (docs : List Document) (board : State) → plan.nodes ≡ joined_nodes → output_nodes plan ≡ 3 ∷ [] → board ≡ fresh plan docs → IsUnwanted board 2
start-unwanted plan docs board nodes shown is =
    subst (λ (b : State). IsUnwanted b 2) (sym is) (joined-unwanted (fresh plan docs) nodes shown (ap rows_of (rows-fresh plan docs (item_at plan 0 1))))

left_none : (plan : Parts) (docs : List Document) (doc : Document) → plan.nodes ≡ joined_nodes → docs ≡ doc ∷ []
    → rows_of (published_on (after_all (fresh plan docs) (joined_events doc)) 0 1) ≡ []
left_none plan docs doc nodes one =
    subst (λ (ds : List Document). rows_of (published_on (after_all (fresh plan ds) (joined_events doc)) 0 1) ≡ []) (sym one)
    (subst (λ (ns : List Node). rows_of (published_on (after_all (fresh (record { nodes = ns; lists = plan.lists; outputs = plan.outputs }) (doc ∷ [])) (joined_events doc)) 0 1) ≡ []) (sym nodes) refl)

-- nor after those events
pub end-unwanted : (plan : Parts) (docs : List Document) (doc : Document) (board : State) → plan.nodes ≡ joined_nodes → output_nodes plan ≡ 3 ∷ [] → docs ≡ doc ∷ []
    → board ≡ after_all (fresh plan docs) (joined_events doc) → IsUnwanted board 2
end-unwanted plan docs doc board nodes shown one is =
    subst (λ (b : State). IsUnwanted b 2) (sym is) (joined-unwanted (after_all (fresh plan docs) (joined_events doc)) nodes shown (left_none plan docs doc nodes one))
