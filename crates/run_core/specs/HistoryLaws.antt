-- Laws of legal lists of events: what holds of every board that one reaches.
use Rattle.std.proofs.Common.{◌≡◌, inl, inr, ℕ, ◌<◌, eqb, Bool, true, false, if◌then◌else◌, List, [], ◌∷◌, ◌++◌, length, refl, sym, ap, subst, ◌∙◌, arith, Option, Some, None, true≢false}
use Rattle.std.specs.Prelude.{IsSome, IsSomeAnd, All, option_to_list}
use Rattle.std.specs.List.{AllZip, AllByRecursion, cons_option}
use Rattle.std.proofs.lemmas.Bool.Decides.{eqb_tells}
use Rattle.std.proofs.lemmas.List.Elements.{recursion_from_All}
use Rattle.std.proofs.lemmas.List.{append-nil}
use Rattle.aql_base.specs.Bags.{SameBag}
use Rattle.aql_base.specs.BagLaws.{SameBag-sym, SameBag-trans}
use Rattle.span_token.specs.Documents.{Doc as Document}
use Rattle.row_values.specs.Rows.{RowList}
use Rattle.aql_typed.specs.Meaning.{Rows}
use Rattle.algebra.specs.declared.output.PlanOut.{PlanOut}
use Rattle.algebra.specs.FoldLaws.{length-each}
use Rattle.algebra.specs.Items.{IsItem, item_at}
use Rattle.algebra.specs.Nodes.{IsPlan}
use Rattle.algebra.specs.Plans.{Parts, AreOutputs}
use Rattle.algebra.specs.Shapes.{shape_by, no_shape}
use Rattle.algebra.specs.Values.{val}
use Rattle.run_core.specs.declared.event.Event.{Event}
use Rattle.run_core.specs.declared.event.Event.TheVariants.{Claim, Publish, Late}
use Rattle.run_core.specs.Boards.{Standing, State, IsSized, fresh, standing, published_on}
use Rattle.run_core.specs.Wanted.{IsWanted, IsReady}
use Rattle.run_core.specs.Events.{MayPublish, IsLegal, after}
use Rattle.run_core.specs.Histories.{Happening, AreLegal, after_all, IsReachedBy, IsReached, claim_in, rows_in, claims_in_all, rows_in_all}
use Rattle.run_core.specs.Promises.{IsNeededAt, IsValueAt, MayGoOn, Keeps, HoldsValues, IsSound, HasOnce}
use Rattle.run_core.specs.StepLaws.{holds-fresh, holds-after, keeps-after, sized-after, sized-fresh, value-at, agrees-holding, rows-fresh, claim-fresh, claimed-below, published-below, rows-after_claim, claim-after_claim, rows-after_publish, claim-after_publish}
use Rattle.run_core.specs.WantedLaws.{Agrees, Ready, needed-wanted, ready-value, some-ready}

-- lists one after the other
pub after_all-append : (board : State) (xs ys : List Happening) → after_all board (xs ++ ys) ≡ after_all (after_all board xs) ys
after_all-append board [] ys = refl
after_all-append board (x ∷ xs) ys = after_all-append (after board x.event x.rows) xs ys

pub legal-append : (board : State) (xs ys : List Happening) → AreLegal board xs → AreLegal (after_all board xs) ys → AreLegal board (xs ++ ys)
legal-append board [] ys legal more = more
legal-append board (x ∷ xs) ys legal more = (legal.0, legal-append (after board x.event x.rows) xs ys legal.1 more)

pub legal-behind : (board : State) (xs ys : List Happening) → AreLegal board (xs ++ ys) → AreLegal (after_all board xs) ys
legal-behind board [] ys legal = legal
legal-behind board (x ∷ xs) ys legal = legal-behind (after board x.event x.rows) xs ys legal.1

-- the plan and the documents stay
pub plan-after_all : (board : State) (events : List Happening) → (after_all board events).plan ≡ board.plan
plan-after_all board [] = refl
plan-after_all board (h ∷ events) = plan-after_all (after board h.event h.rows) events

pub docs-after_all : (board : State) (events : List Happening) → (after_all board events).docs ≡ board.docs
docs-after_all board [] = refl
docs-after_all board (h ∷ events) = docs-after_all (after board h.event h.rows) events

-- a board that legal events make of the first one is reached by them
pub reached-by : (plan : Parts) (docs : List Document) (events : List Happening) (board : State) → AreLegal (fresh plan docs) events → board ≡ after_all (fresh plan docs) events → IsReachedBy board events
reached-by plan docs events board legal is =
    let plan_is : plan ≡ board.plan = sym (ap (λ (b : State). b.plan) is ∙ plan-after_all (fresh plan docs) events) in
    let docs_are : docs ≡ board.docs = sym (ap (λ (b : State). b.docs) is ∙ docs-after_all (fresh plan docs) events) in
    let first : fresh plan docs ≡ fresh board.plan board.docs = ap (λ (p : Parts). fresh p docs) plan_is ∙ ap (λ (ds : List Document). fresh board.plan ds) docs_are in
    record {
      legal = subst (λ (b : State). AreLegal b events) first legal;
      is = is ∙ ap (λ (b : State). after_all b events) first;
    }

pub reached-fresh : (plan : Parts) (docs : List Document) → IsReached (fresh plan docs)
reached-fresh plan docs = record { events = []; by = record { legal = tt; is = refl } }

-- one legal event more
pub reached-after : (board : State) (event : Event) (rows : Option RowList) → IsReached board → IsLegal board event rows → IsReached (after board event rows)
reached-after board event rows reached legal =
    let first = fresh board.plan board.docs in
    let h : Happening = record { event = event; rows = rows } in
    record {
      events = reached.events ++ h ∷ [];
      by = record {
        legal = legal-append first reached.events (h ∷ []) reached.by.legal (subst (λ (b : State). IsLegal b event rows) reached.by.is legal, tt);
        is = ap (λ (b : State). after b event rows) reached.by.is ∙ sym (after_all-append first reached.events (h ∷ []));
      };
    }

holds-all : (board : State) → IsPlan board.plan.nodes → HoldsValues board → (events : List Happening) → AreLegal board events → HoldsValues (after_all board events)
holds-all board planned holds [] legal = holds
holds-all board planned holds (h ∷ events) legal =
    holds-all (after board h.event h.rows) planned (holds-after board planned holds h.event h.rows legal.0) events legal.1

pub holds-reached : (board : State) (events : List Happening) → IsPlan board.plan.nodes → IsReachedBy board events → HoldsValues board
holds-reached board events planned by =
    subst HoldsValues (sym by.is) (holds-all (fresh board.plan board.docs) planned (holds-fresh board.plan board.docs) events by.legal)

-- legal events take back no claim and no rows
keeps_same : (board : State) → Keeps board board
keeps_same board = record { plan = refl; docs = refl; claims = λ i who is. is; rows = λ i list is. is }

keeps_trans : (a b c : State) → Keeps a b → Keeps b c → Keeps a c
keeps_trans a b c one more = record {
  plan = more.plan ∙ one.plan;
  docs = more.docs ∙ one.docs;
  claims = λ i who is. more.claims i who (one.claims i who is);
  rows = λ i list is. more.rows i list (one.rows i list is);
}

pub keeps-all : (board : State) (events : List Happening) → IsSized board → AreLegal board events → Keeps board (after_all board events)
keeps-all board [] sized legal = keeps_same board
keeps-all board (h ∷ events) sized legal =
    let next = after board h.event h.rows in
    keeps_trans board next (after_all next events) (keeps-after board h.event h.rows sized legal.0)
    (keeps-all next events (sized-after board h.event h.rows sized) legal.1)

-- an event adds the rows that it publishes, and its claim
module _ (i : ℕ) where
  put_rows : (old : Option RowList) (rows : RowList) (b : Bool) (rest : List RowList) → (b ≡ true → old ≡ None)
      → option_to_list old ++ cons_option (if b then Some rows else None) rest ≡ option_to_list (if b then Some rows else old) ++ rest
  put_rows old rows true rest first = ap (λ (o : Option RowList). option_to_list o ++ rows ∷ rest) (first refl)
  put_rows old rows false rest first = refl

  put_claim : (old : Option ℕ) (worker : ℕ) (b : Bool) (rest : List ℕ) → (b ≡ true → old ≡ None)
      → option_to_list old ++ cons_option (if b then Some worker else None) rest ≡ option_to_list (if b then Some worker else old) ++ rest
  put_claim old worker true rest first = ap (λ (o : Option ℕ). option_to_list o ++ worker ∷ rest) (first refl)
  put_claim old worker false rest first = refl

  chosen_rows : (board : State) (worker item : ℕ) (rows : RowList) → item < length board.items
      → (standing (after board (Publish worker item) (Some rows)) i).rows ≡ (if eqb item i then Some rows else (standing board i).rows)
  chosen_rows board worker item rows below = elim (eqb_tells item i) [
    | inl same ↦ elim (rows-after_publish board worker item (Some rows) below i) [
      | inl here ↦ here.1 ∙ sym (ap (λ (b : Bool). if b then Some rows else (standing board i).rows) same.0)
      | inr there ↦ absurd (there.0 (sym same.1))
    ]
    | inr other ↦ elim (rows-after_publish board worker item (Some rows) below i) [
      | inl here ↦ absurd (other.1 (sym here.0))
      | inr there ↦ there.1 ∙ sym (ap (λ (b : Bool). if b then Some rows else (standing board i).rows) other.0)
    ]
  ]

  chosen_claim : (board : State) (worker item : ℕ) → item < length board.items
      → (standing (after board (Claim worker item) None) i).claim ≡ (if eqb item i then Some worker else (standing board i).claim)
  chosen_claim board worker item below = elim (eqb_tells item i) [
    | inl same ↦ elim (claim-after_claim board worker item None below i) [
      | inl here ↦ here.1 ∙ sym (ap (λ (b : Bool). if b then Some worker else (standing board i).claim) same.0)
      | inr there ↦ absurd (there.0 (sym same.1))
    ]
    | inr other ↦ elim (claim-after_claim board worker item None below i) [
      | inl here ↦ absurd (other.1 (sym here.0))
      | inr there ↦ there.1 ∙ sym (ap (λ (b : Bool). if b then Some worker else (standing board i).claim) other.0)
    ]
  ]

  -- where an item is written, it held nothing
  empty_there : {X : Type 0} (board : State) (item : ℕ) (part : Standing → Option X) → part (standing board item) ≡ None → eqb item i ≡ true → part (standing board i) ≡ None
  empty_there board item part none same = elim (eqb_tells item i) [
    | inl e ↦ ap (λ (k : ℕ). part (standing board k)) (sym e.1) ∙ none
    | inr other ↦ absurd (true≢false (sym same ∙ other.0))
  ]

  rows_once : (board : State) (event : Event) (rows : Option RowList) (rest : List RowList) → IsSized board → IsLegal board event rows
      → option_to_list (standing board i).rows ++ cons_option (rows_in i event rows) rest ≡ option_to_list (standing (after board event rows) i).rows ++ rest
  rows_once board (Claim worker item) None rest sized may =
      ap (λ (o : Option RowList). option_to_list o ++ rest) (sym (rows-after_claim board worker item None (claimed-below board item sized may) i))
  rows_once board (Claim worker item) (Some rows) rest sized legal = absurd legal
  rows_once board (Publish worker item) None rest sized legal = absurd legal
  rows_once board (Publish worker item) (Some rows) rest sized may =
      put_rows (standing board i).rows rows (eqb item i) rest (empty_there board item (λ s. s.rows) may.unpublished)
      ∙ ap (λ (o : Option RowList). option_to_list o ++ rest) (sym (chosen_rows board worker item rows (published-below board item rows sized may)))
  rows_once board (Late worker item) None rest sized legal = refl
  rows_once board (Late worker item) (Some rows) rest sized legal = absurd legal

  claim_once : (board : State) (event : Event) (rows : Option RowList) (rest : List ℕ) → IsSized board → IsLegal board event rows
      → option_to_list (standing board i).claim ++ cons_option (claim_in i event) rest ≡ option_to_list (standing (after board event rows) i).claim ++ rest
  claim_once board (Claim worker item) None rest sized may =
      put_claim (standing board i).claim worker (eqb item i) rest (empty_there board item (λ s. s.claim) may.unclaimed)
      ∙ ap (λ (o : Option ℕ). option_to_list o ++ rest) (sym (chosen_claim board worker item (claimed-below board item sized may)))
  claim_once board (Claim worker item) (Some rows) rest sized legal = absurd legal
  claim_once board (Publish worker item) None rest sized legal = absurd legal
  claim_once board (Publish worker item) (Some rows) rest sized may =
      ap (λ (o : Option ℕ). option_to_list o ++ rest) (sym (claim-after_publish board worker item (Some rows) (published-below board item rows sized may) i))
  claim_once board (Late worker item) None rest sized legal = refl
  claim_once board (Late worker item) (Some rows) rest sized legal = absurd legal

  rows_in-all : (board : State) (events : List Happening) → IsSized board → AreLegal board events
      → option_to_list (standing board i).rows ++ rows_in_all i events ≡ option_to_list (standing (after_all board events) i).rows
  rows_in-all board [] sized legal = append-nil (option_to_list (standing board i).rows)
  rows_in-all board (h ∷ events) sized legal =
      rows_once board h.event h.rows (rows_in_all i events) sized legal.0
      ∙ rows_in-all (after board h.event h.rows) events (sized-after board h.event h.rows sized) legal.1

  claims_in-all : (board : State) (events : List Happening) → IsSized board → AreLegal board events
      → option_to_list (standing board i).claim ++ claims_in_all i events ≡ option_to_list (standing (after_all board events) i).claim
  claims_in-all board [] sized legal = append-nil (option_to_list (standing board i).claim)
  claims_in-all board (h ∷ events) sized legal =
      claim_once board h.event h.rows (claims_in_all i events) sized legal.0
      ∙ claims_in-all (after board h.event h.rows) events (sized-after board h.event h.rows sized) legal.1

-- each published item was published by exactly one event, and each claimed one claimed by exactly one
pub has-once : (board : State) (events : List Happening) → IsReachedBy board events → HasOnce board events
has-once board events by =
    let first = fresh board.plan board.docs in
    let sized = sized-fresh board.plan board.docs in
    record {
      published = λ i.
          ap (λ (o : Option RowList). option_to_list o ++ rows_in_all i events) (sym (rows-fresh board.plan board.docs i))
          ∙ (rows_in-all i first events sized by.legal ∙ ap (λ (b : State). option_to_list (standing b i).rows) (sym by.is));
      claimed = λ i.
          ap (λ (o : Option ℕ). option_to_list o ++ claims_in_all i events) (sym (claim-fresh board.plan board.docs i))
          ∙ (claims_in-all i first events sized by.legal ∙ ap (λ (b : State). option_to_list (standing b i).claim) (sym by.is));
    }

-- a wanted, ready and unpublished item may be published with its value
pub publish-holding : (board : State) (item : ℕ) (of_item : IsItem board.plan board.docs item) → IsPlan board.plan.nodes → HoldsValues board
    → IsWanted board.plan (published_on board of_item.d) of_item.n → IsReady board.plan (published_on board of_item.d) of_item.node → (standing board item).rows ≡ None
    → (list : RowList) → IsValueAt board.plan board.docs item list → MayPublish board item list
publish-holding board item of_item planned holds wanted ready none list value = record {
  of_item = of_item;
  wanted = wanted;
  ready = ready;
  unpublished = none;
  bag = SameBag-trans _ _ _ (value-at board.plan board.docs item list value of_item) (SameBag-sym _ _
      (ready-value board.plan of_item.doc planned (published_on board of_item.d) (agrees-holding board holds of_item.d of_item.doc of_item.doc_is) of_item.n of_item.node of_item.node_is ready));
}

-- so may the ready item of a document
goes_by : (board : State) (i : ℕ) (of_item : IsItem board.plan board.docs i) → IsPlan board.plan.nodes → HoldsValues board → Ready board.plan (published_on board of_item.d) → MayGoOn board
goes_by board i of_item planned holds ready =
    let item = item_at board.plan of_item.d ready.n in
    let here : IsItem board.plan board.docs item = record {
      d = of_item.d;
      n = ready.n;
      doc = of_item.doc;
      node = ready.node;
      is = refl;
      doc_is = of_item.doc_is;
      node_is = ready.is;
    } in
    record {
      item = item;
      of_item = here;
      legal = publish-holding board item here planned holds ready.wanted ready.ready ready.unpublished;
    }

goes-on : (board : State) → IsPlan board.plan.nodes → AreOutputs board.plan.nodes board.plan.outputs → HoldsValues board
    → (i : ℕ) → IsNeededAt board.plan board.docs i → (standing board i).rows ≡ None → MayGoOn board
goes-on board planned valid holds i needed none =
    let of_item = needed.of_item in
    let published = published_on board of_item.d in
    let here : published of_item.n ≡ None = ap (λ (k : ℕ). (standing board k).rows) (sym of_item.is) ∙ none in
    elim (needed-wanted board.plan of_item.doc planned published (agrees-holding board holds of_item.d of_item.doc of_item.doc_is) of_item.n needed.needed) [
      | inl wanted ↦ goes_by board i of_item planned holds (some-ready board.plan planned valid published of_item.n wanted here)
      | inr gap ↦ goes_by board i of_item planned holds (some-ready board.plan planned valid published gap.0 gap.1 gap.2)
    ]

some_list : (found : Option RowList) (rows worth : Rows) → IsSome found → ((list : RowList) → found ≡ Some list → SameBag list.rows worth) → SameBag worth rows → IsSomeAnd found (λ list. SameBag list.rows rows)
some_list None rows worth there value meant = absurd (true≢false (sym there))
some_list (Some list) rows worth there value meant = SameBag-trans _ _ _ (value list refl) meant

shown_all : (board : State) (d : ℕ) (doc : Document) → Agrees board.plan doc (published_on board d)
    → (meant : List Rows) (outs : List PlanOut) → AllByRecursion (λ out. out.node < length board.plan.nodes) outs → AllByRecursion (λ out. IsSome (published_on board d out.node)) outs
    → AllZip (λ rows out. SameBag (val board.plan.lists doc board.plan.nodes out.node) rows) meant outs
    → AllZip (λ rows out. IsSomeAnd (published_on board d out.node) (λ list. SameBag list.rows rows)) meant outs
shown_all board d doc agrees [] [] below there are = are
shown_all board d doc agrees (rows ∷ meant) [] below there are = are
shown_all board d doc agrees [] (out ∷ outs) below there are = are
shown_all board d doc agrees (rows ∷ meant) (out ∷ outs) below there are = (
  some_list (published_on board d out.node) rows (val board.plan.lists doc board.plan.nodes out.node) there.0 (λ list is. agrees.same out.node list below.0 is) are.0,
  shown_all board d doc agrees meant outs below.1 there.1 are.1,
)

-- the promise of a board whose items hold their values
pub sound-holding : (board : State) → IsPlan board.plan.nodes → AreOutputs board.plan.nodes board.plan.outputs → HoldsValues board → IsSound board
sound-holding board planned valid holds = record {
  planned = planned;
  valid = valid;
  holds = holds;
  once = has-once board;
  lasting = λ events legal. keeps-all board events holds.sized legal;
  goes_on = goes-on board planned valid holds;
  outputs = λ d doc meant doc_is there are.
      let below : All (λ (out : PlanOut). out.node < length board.plan.nodes) board.plan.outputs = λ i d within. omega (arith, (valid.each i d within).there, length-each no_shape shape_by board.plan.nodes) in
      shown_all board d doc (agrees-holding board holds d doc doc_is) meant board.plan.outputs
      (recursion_from_All (λ out. out.node < length board.plan.nodes) board.plan.outputs below)
      (recursion_from_All (λ out. IsSome (published_on board d out.node)) board.plan.outputs there) are;
}

-- so each board that legal events reach keeps its promise
pub sound-reached : (board : State) → IsPlan board.plan.nodes → AreOutputs board.plan.nodes board.plan.outputs → IsReached board → IsSound board
sound-reached board planned valid reached = sound-holding board planned valid (holds-reached board reached.events planned reached.by)
