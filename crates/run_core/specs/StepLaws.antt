-- Laws of one event: a legal one keeps what is claimed and published, and that each is needed and each published item
-- holds its value.
use Rattle.std.proofs.Common.{◌≡◌, ◌≢◌, ◌⊎◌, inl, inr, ℕ, ◌<◌, List, length, get_or, set, refl, sym, ap, subst, ◌∙◌, arith, Option, Some, None, true≢false}
use Rattle.std.specs.Prelude.{IsSome, is_some, slice_get, replicate}
use Rattle.std.proofs.lemmas.Bool.{cases_eq, cases_lt}
use Rattle.std.proofs.lemmas.List.{length-set, length-replicate, get_or-set_same, get_or-set_other, get_or-replicate, get_or_past}
use Rattle.std.proofs.lemmas.Option.{none-some, same_Some}
use Rattle.aql_base.specs.Bags.{SameBag}
use Rattle.aql_base.specs.BagLaws.{SameBag-trans}
use Rattle.span_token.specs.Documents.{Doc as Document}
use Rattle.row_values.specs.Rows.{RowList}
use Rattle.algebra.specs.ItemLaws.{is_item_at, item-below, at-each}
use Rattle.algebra.specs.Items.{IsItem, item_count, item_at}
use Rattle.algebra.specs.Nodes.{IsPlan}
use Rattle.algebra.specs.Plans.{Parts}
use Rattle.algebra.specs.Values.{val}
use Rattle.run_core.specs.declared.event.Event.{Event}
use Rattle.run_core.specs.declared.event.Event.TheVariants.{Claim, Publish, Late}
use Rattle.run_core.specs.Boards.{Standing, State, IsSized, untouched, fresh, standing, published_on}
use Rattle.run_core.specs.Events.{MayClaim, MayPublish, IsLegal, item_of, after}
use Rattle.run_core.specs.Promises.{IsNeededAt, IsValueAt, HoldsValues, Keeps}
use Rattle.run_core.specs.Wanted.{IsWanted}
use Rattle.run_core.specs.WantedLaws.{Agrees, wanted-needed, ready-value}

-- an item of the list that was written, or another one
set_cases : (items : List Standing) (i j : ℕ) (put : Standing) → j < length items
    → ((i ≡ j) × (get_or (set items j put) i untouched ≡ put)) ⊎ ((i ≢ j) × (get_or (set items j put) i untouched ≡ get_or items i untouched))
set_cases items i j put below = elim (cases_eq i j) [
  | inl e ↦ inl (e, ap (λ (k : ℕ). get_or (set items j put) k untouched) e ∙ get_or-set_same items j put untouched below)
  | inr other ↦ inr (other, get_or-set_other items j i put untouched other)
]

module _ (board : State) (worker item : ℕ) (rows : Option RowList) (below : item < length board.items) where
  -- a claim leaves the rows of all items, and the claims of others
  pub rows-after_claim : (i : ℕ) → (standing (after board (Claim worker item) rows) i).rows ≡ (standing board i).rows
  rows-after_claim i = elim (set_cases board.items i item (record (standing board item) { claim = Some worker }) below) [
    | inl here ↦ ap (λ (s : Standing). s.rows) here.1 ∙ ap (λ (k : ℕ). (standing board k).rows) (sym here.0)
    | inr there ↦ ap (λ (s : Standing). s.rows) there.1
  ]

  pub claim-after_claim : (i : ℕ) → ((i ≡ item) × ((standing (after board (Claim worker item) rows) i).claim ≡ Some worker))
      ⊎ ((i ≢ item) × ((standing (after board (Claim worker item) rows) i).claim ≡ (standing board i).claim))
  claim-after_claim i = elim (set_cases board.items i item (record (standing board item) { claim = Some worker }) below) [
    | inl here ↦ inl (here.0, ap (λ (s : Standing). s.claim) here.1)
    | inr there ↦ inr (there.0, ap (λ (s : Standing). s.claim) there.1)
  ]

  -- a publication leaves the claims of all items, and the rows of others
  pub claim-after_publish : (i : ℕ) → (standing (after board (Publish worker item) rows) i).claim ≡ (standing board i).claim
  claim-after_publish i = elim (set_cases board.items i item (record (standing board item) { rows = rows }) below) [
    | inl here ↦ ap (λ (s : Standing). s.claim) here.1 ∙ ap (λ (k : ℕ). (standing board k).claim) (sym here.0)
    | inr there ↦ ap (λ (s : Standing). s.claim) there.1
  ]

  pub rows-after_publish : (i : ℕ) → ((i ≡ item) × ((standing (after board (Publish worker item) rows) i).rows ≡ rows))
      ⊎ ((i ≢ item) × ((standing (after board (Publish worker item) rows) i).rows ≡ (standing board i).rows))
  rows-after_publish i = elim (set_cases board.items i item (record (standing board item) { rows = rows }) below) [
    | inl here ↦ inl (here.0, ap (λ (s : Standing). s.rows) here.1)
    | inr there ↦ inr (there.0, ap (λ (s : Standing). s.rows) there.1)
  ]

-- an event changes no item but its own
pub standing-after : (board : State) (event : Event) (rows : Option RowList) (i : ℕ) → i ≢ item_of event → standing (after board event rows) i ≡ standing board i
standing-after board (Claim worker item) rows i other = get_or-set_other board.items item i (record (standing board item) { claim = Some worker }) untouched other
standing-after board (Publish worker item) rows i other = get_or-set_other board.items item i (record (standing board item) { rows = rows }) untouched other
standing-after board (Late worker item) rows i other = refl

-- at its own a claim sets the claim, and a publication the rows
pub claim-here : (board : State) (worker item : ℕ) (rows : Option RowList) → item < length board.items
    → standing (after board (Claim worker item) rows) item ≡ record (standing board item) { claim = Some worker }
claim-here board worker item rows below = get_or-set_same board.items item (record (standing board item) { claim = Some worker }) untouched below

pub publish-here : (board : State) (worker item : ℕ) (rows : Option RowList) → item < length board.items
    → standing (after board (Publish worker item) rows) item ≡ record (standing board item) { rows = rows }
publish-here board worker item rows below = get_or-set_same board.items item (record (standing board item) { rows = rows }) untouched below

-- what is published after it: the same as before, but of its own item
pub published-after : (board : State) (event : Event) (rows : Option RowList) (d n : ℕ) → item_at board.plan d n ≢ item_of event
    → published_on (after board event rows) d n ≡ published_on board d n
published-after board event rows d n other = ap (λ (s : Standing). s.rows) (standing-after board event rows (item_at board.plan d n) other)

-- and what is claimed
pub claimed-after : (board : State) (event : Event) (rows : Option RowList) (i : ℕ) → i ≢ item_of event
    → (standing (after board event rows) i).claim ≡ (standing board i).claim
claimed-after board event rows i other = ap (λ (s : Standing). s.claim) (standing-after board event rows i other)

-- the item of a legal event is one of the items
pub claimed-below : (board : State) (item : ℕ) → IsSized board → MayClaim board item → item < length board.items
claimed-below board item sized may = omega (arith, sized, item-below board.plan board.docs item may.of_item)

pub published-below : (board : State) (item : ℕ) (list : RowList) → IsSized board → MayPublish board item list → item < length board.items
published-below board item list sized may = omega (arith, sized, item-below board.plan board.docs item may.of_item)

pub there-below : (board : State) (item : ℕ) → IsSome (standing board item).rows → item < length board.items
there-below board item there = elim (cases_lt item (length board.items)) [
  | inl below ↦ below
  | inr past ↦ absurd (true≢false (sym there ∙ ap (λ (s : Standing). is_some s.rows) (get_or_past board.items item untouched past)))
]

pub legal-below : (board : State) (event : Event) (rows : Option RowList) → IsSized board → IsLegal board event rows → item_of event < length board.items
legal-below board (Claim worker item) None sized may = claimed-below board item sized may
legal-below board (Claim worker item) (Some rows) sized legal = absurd legal
legal-below board (Publish worker item) None sized legal = absurd legal
legal-below board (Publish worker item) (Some rows) sized may = published-below board item rows sized may
legal-below board (Late worker item) None sized there = there-below board item there
legal-below board (Late worker item) (Some rows) sized legal = absurd legal

pub sized-after : (board : State) (event : Event) (rows : Option RowList) → IsSized board → IsSized (after board event rows)
sized-after board (Claim worker item) rows sized = length-set board.items item (record (standing board item) { claim = Some worker }) ∙ sized
sized-after board (Publish worker item) rows sized = length-set board.items item (record (standing board item) { rows = rows }) ∙ sized
sized-after board (Late worker item) rows sized = sized

untouched_all : (n i : ℕ) → get_or (replicate n untouched) i untouched ≡ untouched
untouched_all n i = elim (cases_lt i n) [
  | inl below ↦ get_or-replicate n i untouched untouched below
  | inr past ↦ get_or_past (replicate n untouched) i untouched (omega (arith, length-replicate n untouched, past))
]

pub rows-fresh : (plan : Parts) (docs : List Document) (i : ℕ) → (standing (fresh plan docs) i).rows ≡ None
rows-fresh plan docs i = ap (λ (s : Standing). s.rows) (untouched_all (item_count plan docs) i)

pub claim-fresh : (plan : Parts) (docs : List Document) (i : ℕ) → (standing (fresh plan docs) i).claim ≡ None
claim-fresh plan docs i = ap (λ (s : Standing). s.claim) (untouched_all (item_count plan docs) i)

pub sized-fresh : (plan : Parts) (docs : List Document) → IsSized (fresh plan docs)
sized-fresh plan docs = length-replicate (item_count plan docs) untouched

pub holds-fresh : (plan : Parts) (docs : List Document) → HoldsValues (fresh plan docs)
holds-fresh plan docs = record {
  sized = sized-fresh plan docs;
  values = λ i list is. absurd (none-some list (sym (rows-fresh plan docs i) ∙ is));
  published = λ i list is. absurd (none-some list (sym (rows-fresh plan docs i) ∙ is));
  claimed = λ i worker is. absurd (none-some worker (sym (claim-fresh plan docs i) ∙ is));
}

-- the value of an item, that of its node on its document
pub value-at : (plan : Parts) (docs : List Document) (i : ℕ) (list : RowList) → IsValueAt plan docs i list → (of_item : IsItem plan docs i)
    → SameBag list.rows (val plan.lists of_item.doc plan.nodes of_item.n)
value-at plan docs i list value of_item = at-each plan docs (λ doc n. SameBag list.rows (val plan.lists doc plan.nodes n)) i i refl value.of_item of_item value.same

-- so what is published on a document are the values there
pub agrees-holding : (board : State) → HoldsValues board → (d : ℕ) (doc : Document) → slice_get board.docs d ≡ Some doc → Agrees board.plan doc (published_on board d)
agrees-holding board holds d doc doc_is = record {
  same = λ n list below is.
      value-at board.plan board.docs (item_at board.plan d n) list (holds.values (item_at board.plan d n) list is) (is_item_at board.plan board.docs d n doc doc_is below);
}

module _ (board : State) (planned : IsPlan board.plan.nodes) (holds : HoldsValues board) where
  -- a wanted item is needed
  needed_at : (item : ℕ) (of_item : IsItem board.plan board.docs item) → IsWanted board.plan (published_on board of_item.d) of_item.n → IsNeededAt board.plan board.docs item
  needed_at item of_item wanted = record {
    of_item = of_item;
    needed = wanted-needed board.plan of_item.doc planned (published_on board of_item.d) (agrees-holding board holds of_item.d of_item.doc of_item.doc_is) of_item.n wanted;
  }

  holds_claim : (worker item : ℕ) → MayClaim board item → HoldsValues (after board (Claim worker item) None)
  holds_claim worker item may =
      let below = claimed-below board item holds.sized may in
      record {
        sized = sized-after board (Claim worker item) None holds.sized;
        values = λ i list is. holds.values i list (sym (rows-after_claim board worker item None below i) ∙ is);
        published = λ i list is. holds.published i list (sym (rows-after_claim board worker item None below i) ∙ is);
        claimed = λ i who is. elim (claim-after_claim board worker item None below i) [
          | inl here ↦ subst (λ (k : ℕ). IsNeededAt board.plan board.docs k) (sym here.0) (needed_at item may.of_item may.wanted)
          | inr there ↦ holds.claimed i who (sym there.1 ∙ is)
        ];
      }

  holds_publish : (worker item : ℕ) (rows : RowList) → MayPublish board item rows → HoldsValues (after board (Publish worker item) (Some rows))
  holds_publish worker item rows may =
      let below = published-below board item rows holds.sized may in
      let agrees = agrees-holding board holds may.of_item.d may.of_item.doc may.of_item.doc_is in
      let value : IsValueAt board.plan board.docs item rows = record {
        of_item = may.of_item;
        same = SameBag-trans _ _ _ may.bag (ready-value board.plan may.of_item.doc planned (published_on board may.of_item.d) agrees may.of_item.n may.of_item.node may.of_item.node_is may.ready);
      } in
      record {
        sized = sized-after board (Publish worker item) (Some rows) holds.sized;
        values = λ i list is. elim (rows-after_publish board worker item (Some rows) below i) [
          | inl here ↦ subst (λ (l : RowList). IsValueAt board.plan board.docs i l) (same_Some rows list (sym here.1 ∙ is)) (subst (λ (k : ℕ). IsValueAt board.plan board.docs k rows) (sym here.0) value)
          | inr there ↦ holds.values i list (sym there.1 ∙ is)
        ];
        published = λ i list is. elim (rows-after_publish board worker item (Some rows) below i) [
          | inl here ↦ subst (λ (k : ℕ). IsNeededAt board.plan board.docs k) (sym here.0) (needed_at item may.of_item may.wanted)
          | inr there ↦ holds.published i list (sym there.1 ∙ is)
        ];
        claimed = λ i who is. holds.claimed i who (sym (claim-after_publish board worker item (Some rows) below i) ∙ is);
      }

  pub holds-after : (event : Event) (rows : Option RowList) → IsLegal board event rows → HoldsValues (after board event rows)
  holds-after (Claim worker item) None legal = holds_claim worker item legal
  holds-after (Claim worker item) (Some rows) legal = absurd legal
  holds-after (Publish worker item) None legal = absurd legal
  holds-after (Publish worker item) (Some rows) legal = holds_publish worker item rows legal
  holds-after (Late worker item) None legal = holds
  holds-after (Late worker item) (Some rows) legal = absurd legal

-- a legal event takes back no claim and no rows
pub keeps-after : (board : State) (event : Event) (rows : Option RowList) → IsSized board → IsLegal board event rows → Keeps board (after board event rows)
keeps-after board (Claim worker item) None sized may =
    let below = claimed-below board item sized may in
    record {
      plan = refl;
      docs = refl;
      claims = λ i who is. elim (claim-after_claim board worker item None below i) [
        | inl here ↦ absurd (none-some who (sym may.unclaimed ∙ (ap (λ (k : ℕ). (standing board k).claim) (sym here.0) ∙ is)))
        | inr there ↦ there.1 ∙ is
      ];
      rows = λ i list is. rows-after_claim board worker item None below i ∙ is;
    }
keeps-after board (Claim worker item) (Some rows) sized legal = absurd legal
keeps-after board (Publish worker item) None sized legal = absurd legal
keeps-after board (Publish worker item) (Some rows) sized may =
    let below = published-below board item rows sized may in
    record {
      plan = refl;
      docs = refl;
      claims = λ i who is. claim-after_publish board worker item (Some rows) below i ∙ is;
      rows = λ i list is. elim (rows-after_publish board worker item (Some rows) below i) [
        | inl here ↦ absurd (none-some list (sym may.unpublished ∙ (ap (λ (k : ℕ). (standing board k).rows) (sym here.0) ∙ is)))
        | inr there ↦ there.1 ∙ is
      ];
    }
keeps-after board (Late worker item) None sized legal = record { plan = refl; docs = refl; claims = λ i who is. is; rows = λ i list is. is }
keeps-after board (Late worker item) (Some rows) sized legal = absurd legal
