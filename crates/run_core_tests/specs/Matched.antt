-- A plan that shows the matches of a pattern, and events by two workers that claim and publish its items in the order of
-- their numbers.
use Rattle.std.specs.Prelude.{ℕ, ◌≡◌, ◌++◌, List, [], ◌∷◌, Option, Some, None, IsSome, Contains, length, map, refl}
use Rattle.std.proofs.Common.{inl, inr, ap, ap₂, sym, subst, arith, ◌∙◌}
use Rattle.std.proofs.lemmas.List.{append-nil}
use Rattle.std.proofs.lemmas.Option.{none-some, same_Some}
use Rattle.aql_base.specs.BagLaws.{SameBag-refl, SameBag-is}
use Rattle.span_token.specs.Documents.{Doc as Document, whole_of}
use Rattle.row_values.specs.Datums.{Datum, span}
use Rattle.row_values.specs.Rows.{RowList}
use Rattle.scalar_ops.specs.Expressions.{Term, column}
use Rattle.scalar_ops.specs.Tables.{Lists}
use Rattle.aql_typed.specs.Meaning.{Rows, group_value, found_in, row_of}
use Rattle.aql_typed.specs.Trees.{regex}
use Rattle.algebra.specs.declared.node.Node.{Node}
use Rattle.algebra.specs.declared.node.Node.TheVariants.{Doc, Regex, Project}
use Rattle.algebra.specs.declared.output.PlanOut.{PlanOut}
use Rattle.algebra.specs.Items.{output_nodes}
use Rattle.algebra.specs.Plans.{Parts}
use Rattle.run_core.specs.declared.event.Event.TheVariants.{Claim, Publish}
use Rattle.run_core.specs.Boards.{fresh}
use Rattle.run_core.specs.Histories.{Happening, AreLegal}
use Rattle.run_core.specs.Wanted.{IsWanted, output, input, IsReady}

-- the document, each match of a pattern in it, and the matches alone
abbrev pub matched_nodes : List Node
matched_nodes = Doc ∷ Regex 0 0 0 (0 ∷ []) ∷ Project 1 (column 1 ∷ []) ∷ []

abbrev pub document_row : Document → List Datum
document_row doc = span (whole_of doc) ∷ []

-- their rows
abbrev pub document_list : Document → RowList
document_list doc = record { width = 1; rows = document_row doc ∷ [] }

abbrev pub match_list : Lists → Document → RowList
match_list lists doc = record { width = 2; rows = map (λ groups. document_row doc ++ map group_value groups) (found_in lists doc (regex 0 0 (0 ∷ [])) (document_row doc)) }

abbrev pub alone_list : Lists → Document → RowList
alone_list lists doc = record { width = 1; rows = map (row_of lists doc (column 1 ∷ [])) (match_list lists doc).rows }

abbrev pub matched_events : Lists → Document → List Happening
matched_events lists doc =
    record { event = Claim 0 0; rows = None }
    ∷ record { event = Publish 0 0; rows = Some (document_list doc) }
    ∷ record { event = Claim 1 1; rows = None }
    ∷ record { event = Publish 1 1; rows = Some (match_list lists doc) }
    ∷ record { event = Claim 0 2; rows = None }
    ∷ record { event = Publish 0 2; rows = Some (alone_list lists doc) }
    ∷ []

-- a list of rows by its parts
pub list_by : (list : RowList) (width : ℕ) (rows : Rows) → list.width ≡ width → list.rows ≡ rows → list ≡ record { width = width; rows = rows }
list_by list width rows wide are = ap₂ (λ (w : ℕ) (rs : Rows). let made : RowList = record { width = w; rows = rs } in made) wide are

-- the values of the second column of all matches
pub alone-is : (lists : Lists) (doc : Document) (matches list : RowList) (rows : Rows) (items : List Term) → matches ≡ match_list lists doc → rows ≡ matches.rows → items ≡ column 1 ∷ []
    → list.width ≡ length items → list.rows ≡ map (row_of lists doc items) rows → list ≡ alone_list lists doc
alone-is lists doc matches list rows items matches_are rows_are items_are wide are =
    list_by list 1 (alone_list lists doc).rows (wide ∙ ap (λ (is : List Term). length is) items_are)
    (are ∙ (ap (λ (is : List Term). map (row_of lists doc is) rows) items_are
    ∙ (ap (λ (rs : Rows). map (row_of lists doc (column 1 ∷ [])) rs) rows_are
    ∙ ap (λ (m : RowList). map (row_of lists doc (column 1 ∷ [])) m.rows) matches_are)))

module _ (lists : Lists) (outputs : List PlanOut) (shown : Contains (map (λ out. out.node) outputs) 2) (doc : Document) where
  abbrev plan : Parts
  plan = record { nodes = matched_nodes; lists = lists; outputs = outputs }

  wanted_2 : (published : ℕ → Option RowList) → IsWanted plan published 2
  wanted_2 published = output 2 shown

  wanted_1 : (published : ℕ → Option RowList) → IsWanted plan published 1
  wanted_1 published = input 2 1 (Project 1 (column 1 ∷ [])) refl (inl refl) (wanted_2 published)

  wanted_0 : (published : ℕ → Option RowList) → IsWanted plan published 0
  wanted_0 published = input 1 0 (Regex 0 0 0 (0 ∷ [])) refl (inl refl) (wanted_1 published)

  ready_0 : (published : ℕ → Option RowList) → IsReady plan published Doc
  ready_0 published i (inl e) = absurd (none-some i e)
  ready_0 published i (inr e) = absurd (none-some i e.0)

  ready_1 : (published : ℕ → Option RowList) → IsSome (published 0) → IsReady plan published (Regex 0 0 0 (0 ∷ []))
  ready_1 published there i (inl e) = subst (λ (k : ℕ). IsSome (published k)) (same_Some 0 i e) there
  ready_1 published there i (inr e) = absurd (none-some i e.0)

  ready_2 : (published : ℕ → Option RowList) → IsSome (published 1) → IsReady plan published (Project 1 (column 1 ∷ []))
  ready_2 published there i (inl e) = subst (λ (k : ℕ). IsSome (published k)) (same_Some 1 i e) there
  ready_2 published there i (inr e) = absurd (none-some i e.0)

  legal : AreLegal (fresh plan (doc ∷ [])) (matched_events lists doc)
  legal = (
    record { of_item = record { d = 0; n = 0; doc = doc; node = Doc; is = refl; doc_is = refl; node_is = refl }; wanted = wanted_0 _; ready = ready_0 _; unclaimed = refl },
    (
      record { of_item = record { d = 0; n = 0; doc = doc; node = Doc; is = refl; doc_is = refl; node_is = refl }; wanted = wanted_0 _; ready = ready_0 _; unpublished = refl; bag = SameBag-refl _ },
      (
        record { of_item = record { d = 0; n = 1; doc = doc; node = Regex 0 0 0 (0 ∷ []); is = refl; doc_is = refl; node_is = refl }; wanted = wanted_1 _; ready = ready_1 _ refl; unclaimed = refl },
        (
          record { of_item = record { d = 0; n = 1; doc = doc; node = Regex 0 0 0 (0 ∷ []); is = refl; doc_is = refl; node_is = refl }; wanted = wanted_1 _; ready = ready_1 _ refl; unpublished = refl; bag = SameBag-is _ _ (sym (append-nil (match_list lists doc).rows)) },
          (
            record { of_item = record { d = 0; n = 2; doc = doc; node = Project 1 (column 1 ∷ []); is = refl; doc_is = refl; node_is = refl }; wanted = wanted_2 _; ready = ready_2 _ refl; unclaimed = refl },
            (
              record { of_item = record { d = 0; n = 2; doc = doc; node = Project 1 (column 1 ∷ []); is = refl; doc_is = refl; node_is = refl }; wanted = wanted_2 _; ready = ready_2 _ refl; unpublished = refl; bag = SameBag-refl _ },
              tt,
            ),
          ),
        ),
      ),
    ),
  )

-- on a plan of these nodes that shows the last one they are legal
pub matched-legal : (plan : Parts) (docs : List Document) (doc : Document) → plan.nodes ≡ matched_nodes → output_nodes plan ≡ 2 ∷ [] → docs ≡ doc ∷ []
    → AreLegal (fresh plan docs) (matched_events plan.lists doc)
matched-legal plan docs doc nodes shown one =
    subst (λ (ds : List Document). AreLegal (fresh plan ds) (matched_events plan.lists doc)) (sym one)
    (subst (λ (ns : List Node). AreLegal (fresh (record { nodes = ns; lists = plan.lists; outputs = plan.outputs }) (doc ∷ [])) (matched_events plan.lists doc)) (sym nodes)
    (legal plan.lists plan.outputs (subst (λ (ns : List ℕ). Contains ns 2) (sym shown) (0, omega arith, refl)) doc))
