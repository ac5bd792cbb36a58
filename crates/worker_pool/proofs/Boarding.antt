-- Boards that are filled document by document, with the results of pages.
use Rattle.std.proofs.Common.{◌≡◌, inl, inr, ℕ, ◌<◌, ◌+◌, false, List, length, set, refl, sym, ap, subst, ◌∙◌, arith, add-mul, Option, Some, None, true≢false}
use Rattle.std.specs.Prelude.{IsSome, is_some, option_map, slice_get, replicate, Contains}
use Rattle.std.proofs.lemmas.Bool.{cases_eq, cases_lt}
use Rattle.std.proofs.lemmas.List.{length-set, length-replicate, get_or-replicate, get_or_past}
use Rattle.std.proofs.lemmas.List.Elements.{All-contains, All-map, All-weaker}
use Rattle.std.proofs.lemmas.Option.{slice_get_within}
use Rattle.span_token.specs.Documents.{Doc as Document}
use Rattle.row_values.specs.Rows.{RowList}
use Rattle.algebra.specs.declared.node.Node.{Node}
use Rattle.algebra.specs.declared.output.PlanOut.{PlanOut}
use Rattle.algebra.specs.ItemLaws.{is_item_at}
use Rattle.algebra.specs.Items.{item_at, item_count, output_nodes}
use Rattle.algebra.specs.Nodes.{IsPlan}
use Rattle.algebra.specs.Plans.{Parts}
use Rattle.run_core.specs.declared.event.Event.TheVariants.{Claim, Publish}
use Rattle.run_core.specs.Boards.{Standing, State, untouched, fresh, standing, published_on}
use Rattle.run_core.specs.Events.{MayClaim, after}
use Rattle.run_core.specs.Promises.{IsNeededAt, IsValueAt, IsSound}
use Rattle.run_core.specs.StepLaws.{standing-after, claim-here, publish-here}
use Rattle.run_core.specs.Wanted.{IsWanted, IsReady}
use Rattle.run_core.specs.WantedLaws.{wanted-grows, ready-grows, wanted-least, all-published}
use Rattle.run_tables.specs.Items.{ItemRows}
use Rattle.worker_pool.specs.Evaluations.{IsComplete}
use Rattle.worker_pool.specs.Filling.{IsDoneOn, IsFilledTo, IsFilling, HasPut}
use Rattle.worker_pool.specs.Pages.{known_at, rows_on, AreKnown, IsBlank, IsResultOf, IsPage, IsNext}
use Rattle.worker_pool.proofs.Paging.{document_at, set_known, more-set, page-set, result-has, agrees}

not_some : {X : Type 0} (o : Option X) → is_some o ≡ false → o ≡ None
not_some None e = refl
not_some (Some x) e = absurd (true≢false e)

some_of : {X : Type 0} (o : Option X) → IsSome o → (x : X) × (o ≡ Some x)
some_of None e = absurd (true≢false (sym e))
some_of (Some x) e = (x, refl)

-- an item that is claimed and published
pub has-put : (board : State) (worker item : ℕ) (list : RowList) → item < length board.items
    → HasPut board (after (after board (Claim worker item) None) (Publish worker item) (Some list)) item list
has-put board worker item list below =
    let mid = after board (Claim worker item) None in
    let there : item < length mid.items = omega (arith, below, length-set board.items item (record (standing board item) { claim = Some worker })) in
    let here = publish-here mid worker item (Some list) there in
    record {
      plan = refl;
      docs = refl;
      rows = ap (λ (s : Standing). s.rows) here;
      claim = ap (λ (s : Standing). is_some s.claim) here ∙ ap (λ (s : Standing). is_some s.claim) (claim-here board worker item None below);
      others = λ i other. standing-after mid (Publish worker item) (Some list) i other ∙ standing-after board (Claim worker item) None i other;
    }

-- where nothing is known, there are no rows
blank_rows : (known : List (Option ItemRows)) → IsBlank known → (n : ℕ) → rows_on known n ≡ None
blank_rows known blank n = ap (λ (x : Option ItemRows). option_map (λ (y : ItemRows). y.rows) x) (blank n)

fresh_at : (plan : Parts) (docs : List Document) (i : ℕ) → standing (fresh plan docs) i ≡ untouched
fresh_at plan docs i = elim (cases_lt i (item_count plan docs)) [
  | inl below ↦ get_or-replicate (item_count plan docs) i untouched untouched below
  | inr past ↦ get_or_past (replicate (item_count plan docs) untouched) i untouched (omega (arith, length-replicate (item_count plan docs) untouched, past))
]

fresh_filled : (plan : Parts) (docs : List Document) → IsFilledTo plan docs 0 (item_at plan 0 0) (fresh plan docs)
fresh_filled plan docs = record {
  plan_is = refl;
  docs_are = refl;
  before = λ e below. absurd (omega (arith, below));
  together = λ i. ap (λ (s : Standing). is_some s.claim) (fresh_at plan docs i) ∙ sym (ap (λ (s : Standing). is_some s.rows) (fresh_at plan docs i));
  behind = λ i past. fresh_at plan docs i;
}

-- before the first document
pub filled-fresh : (plan plan' : Parts) (docs docs' : List Document) (board : State) → plan' ≡ plan → docs' ≡ docs → board ≡ fresh plan' docs' → IsFilledTo plan docs 0 (item_at plan 0 0) board
filled-fresh plan plan' docs docs' board plan_is docs_are is =
    subst (λ (p : Parts). IsFilledTo p docs 0 (item_at p 0 0) board) plan_is
    (subst (λ (ds : List Document). IsFilledTo plan' ds 0 (item_at plan' 0 0) board) docs_are
    (subst (IsFilledTo plan' docs' 0 (item_at plan' 0 0)) (sym is) (fresh_filled plan' docs')))

-- the first item of the next document
next_first : (plan : Parts) (d : ℕ) → item_at plan (d + 1) 0 ≡ item_at plan d 0 + length plan.nodes
next_first plan d = omega (arith, add-mul d 1 (length plan.nodes))

module _ (board : State) (d : ℕ) where
  -- a document begins
  start : (known : List (Option ItemRows)) → IsFilledTo board.plan board.docs d (item_at board.plan d 0) board → IsPage board.plan board.docs d known → IsBlank known
      → IsFilling board.plan board.docs d board known
  start known filled page blank = record {
    filled = record {
      plan_is = refl;
      docs_are = refl;
      before = filled.before;
      together = filled.together;
      behind = λ i past. filled.behind i (omega (arith, past, next_first board.plan d));
    };
    page = page;
    shown = λ n. ap (λ (s : Standing). s.rows) (filled.behind (item_at board.plan d n) (omega arith)) ∙ sym (blank_rows known blank n);
    closed = λ n node is there. absurd (true≢false (sym there ∙ ap is_some (blank_rows known blank n)));
  }

  module _ (known : List (Option ItemRows)) (filling : IsFilling board.plan board.docs d board known) where
    more_shown : (m : ℕ) (list : RowList) → rows_on known m ≡ Some list → published_on board d m ≡ Some list
    more_shown m list is = filling.shown m ∙ is

    module _ (n : ℕ) (next : IsNext board.plan known n) where
      unpublished : (standing board (item_at board.plan d n)).rows ≡ None
      unpublished = filling.shown n ∙ ap (λ (x : Option ItemRows). option_map (λ (y : ItemRows). y.rows) x) next.unseen

      may_claim : MayClaim board (item_at board.plan d n)
      may_claim =
          let doc = document_at board.docs d filling.page.there in
          let of_item = is_item_at board.plan board.docs d n doc.0 doc.1 next.there in
          record {
            of_item = of_item;
            wanted = wanted-grows board.plan (rows_on known) (published_on board d) more_shown n next.wanted;
            ready = ready-grows board.plan (rows_on known) (published_on board d) more_shown of_item.node (next.ready of_item.node of_item.node_is);
            unclaimed = not_some (standing board (item_at board.plan d n)).claim (filling.filled.together (item_at board.plan d n) ∙ ap is_some unpublished);
          }

      module _ (found : ItemRows) (result : IsResultOf board.plan board.docs d n found) where
        value : IsValueAt board.plan board.docs (item_at board.plan d n) found.rows
        value =
            let doc = document_at board.docs d filling.page.there in
            record {
              of_item = is_item_at board.plan board.docs d n doc.0 doc.1 next.there;
              same = (result-has board.plan board.docs d doc.0 doc.1 n found next.there result).same;
            }

        module _ (new : State) (put : HasPut board new (item_at board.plan d n) found.rows) where
          abbrev item : ℕ
          item = item_at board.plan d n

          abbrev known' : List (Option ItemRows)
          known' = set known n (Some found)

          below : n < length known
          below = omega (arith, next.there, filling.page.sized)

          ready_more : (node : Node) → IsReady board.plan (rows_on known) node → IsReady board.plan (rows_on known') node
          ready_more node ready = ready-grows board.plan (rows_on known) (rows_on known') (more-set known n found below next.unseen) node ready

          still : (i : ℕ) → IsSome (standing board i).rows → IsSome (standing new i).rows
          still i there = elim (cases_eq i item) [
            | inl e ↦ ap (λ (k : ℕ). is_some (standing new k).rows) e ∙ ap is_some put.rows
            | inr other ↦ ap (λ (s : Standing). is_some s.rows) (put.others i other) ∙ there
          ]

          together : (i : ℕ) → is_some (standing new i).claim ≡ is_some (standing new i).rows
          together i = elim (cases_eq i item) [
            | inl e ↦ ap (λ (k : ℕ). is_some (standing new k).claim) e ∙ (put.claim ∙ sym (ap (λ (k : ℕ). is_some (standing new k).rows) e ∙ ap is_some put.rows))
            | inr other ↦ ap (λ (s : Standing). is_some s.claim) (put.others i other) ∙ (filling.filled.together i ∙ sym (ap (λ (s : Standing). is_some s.rows) (put.others i other)))
          ]

          shown : (m : ℕ) → (standing new (item_at board.plan d m)).rows ≡ rows_on known' m
          shown m = elim (set_known known n m (Some found) below) [
            | inl here ↦ ap (λ (k : ℕ). (standing new (item_at board.plan d k)).rows) here.0 ∙ (put.rows ∙ sym (ap (λ (x : Option ItemRows). option_map (λ (y : ItemRows). y.rows) x) here.1))
            | inr there ↦ ap (λ (s : Standing). s.rows) (put.others (item_at board.plan d m) (λ e. there.0 (omega (arith, e))))
                ∙ (filling.shown m ∙ sym (ap (λ (x : Option ItemRows). option_map (λ (y : ItemRows). y.rows) x) there.1))
          ]

          closed : (m : ℕ) (node : Node) → slice_get board.plan.nodes m ≡ Some node → IsSome (rows_on known' m) → IsReady board.plan (rows_on known') node
          closed m node is seen = elim (set_known known n m (Some found) below) [
            | inl here ↦ ready_more node (next.ready node (ap (λ (k : ℕ). slice_get board.plan.nodes k) (sym here.0) ∙ is))
            | inr there ↦ ready_more node (filling.closed m node is (sym (ap (λ (x : Option ItemRows). is_some (option_map (λ (y : ItemRows). y.rows) x)) there.1) ∙ seen))
          ]

          after_put : IsFilling board.plan board.docs d new known'
          after_put = record {
            filled = record {
              plan_is = put.plan;
              docs_are = put.docs;
              before = λ e earlier doc m doc_is needed. still (item_at board.plan e m) (filling.filled.before e earlier doc m doc_is needed);
              together = together;
              behind = λ i past. put.others i (λ e. omega (arith, e, past, next.there, next_first board.plan d)) ∙ filling.filled.behind i past;
            };
            page = page-set board.plan board.docs d known n found next.there filling.page result;
            shown = shown;
            closed = closed;
          }

    -- a document is done where its outputs are known
    module _ (planned : IsPlan board.plan.nodes) (outputs : AreKnown known board.plan.outputs) where
      known_seen : (x : Option ItemRows) → IsSome x → IsSome (option_map (λ (y : ItemRows). y.rows) x)
      known_seen None e = absurd (true≢false (sym e))
      known_seen (Some x) e = refl

      output_seen : (n : ℕ) → Contains (output_nodes board.plan) n → IsSome (rows_on known n)
      output_seen n listed =
          All-contains (λ m. IsSome (rows_on known m)) (output_nodes board.plan) n
          (All-map (λ m. IsSome (rows_on known m)) (λ (out : PlanOut). out.node) board.plan.outputs
          (All-weaker (λ (out : PlanOut). IsSome (known_at known out.node)) (λ (out : PlanOut). IsSome (rows_on known out.node)) (λ out there. known_seen (known_at known out.node) there) board.plan.outputs outputs))
          listed

      wanted_seen : (n : ℕ) → IsWanted board.plan (rows_on known) n → IsSome (rows_on known n)
      wanted_seen = wanted-least board.plan (rows_on known) (λ n. IsSome (rows_on known n)) output_seen (λ k n node is asks there. filling.closed k node is there n asks)

      done_here : IsDoneOn board.plan board.docs board d
      done_here doc n doc_is needed =
          ap is_some (filling.shown n) ∙ all-published board.plan doc planned (rows_on known) (agrees board.plan board.docs d doc doc_is known filling.page) wanted_seen n needed

      done : IsFilledTo board.plan board.docs (d + 1) (item_at board.plan (d + 1) 0) board
      done = record {
        plan_is = refl;
        docs_are = refl;
        before = λ e earlier. elim (cases_lt e d) [
          | inl before ↦ filling.filled.before e before
          | inr last ↦ let same : d ≡ e = omega (arith, earlier, last) in subst (λ (k : ℕ). IsDoneOn board.plan board.docs board k) same done_here
        ];
        together = filling.filled.together;
        behind = filling.filled.behind;
      }

-- the same of a plan and documents that the board has
module _ (plan : Parts) (docs : List Document) (d : ℕ) (board : State) where
  at_board : (P : Parts → List Document → Type 0) → board.plan ≡ plan → board.docs ≡ docs → P plan docs → P board.plan board.docs
  at_board P plan_is docs_are holds = subst (λ (p : Parts). P p board.docs) (sym plan_is) (subst (λ (ds : List Document). P plan ds) (sym docs_are) holds)

  from_board : (P : Parts → List Document → Type 0) → board.plan ≡ plan → board.docs ≡ docs → P board.plan board.docs → P plan docs
  from_board P plan_is docs_are holds = subst (λ (p : Parts). P p docs) plan_is (subst (λ (ds : List Document). P board.plan ds) docs_are holds)

  -- what a page that is blank makes of it
  pub filling-start : (d' : ℕ) (known : List (Option ItemRows)) → d' ≡ d → IsFilledTo plan docs d (item_at plan d 0) board → IsPage plan docs d' known → IsBlank known → IsFilling plan docs d' board known
  filling-start d' known document filled page blank =
      subst (λ (k : ℕ). IsFilling plan docs k board known) (sym document)
      (from_board (λ p ds. IsFilling p ds d board known) filled.plan_is filled.docs_are
      (start board d known (at_board (λ p ds. IsFilledTo p ds d (item_at p d 0) board) filled.plan_is filled.docs_are filled)
      (at_board (λ p ds. IsPage p ds d known) filled.plan_is filled.docs_are (subst (λ (k : ℕ). IsPage plan docs k known) document page)) blank))

  module _ (known : List (Option ItemRows)) (filling : IsFilling plan docs d board known) where
    own : IsFilling board.plan board.docs d board known
    own = at_board (λ p ds. IsFilling p ds d board known) filling.filled.plan_is filling.filled.docs_are filling

    -- the node that is taken up next, and its item
    module _ (n : ℕ) (next : IsNext plan known n) (item : ℕ) (is : item ≡ item_at plan d n) where
      own_next : IsNext board.plan known n
      own_next = at_board (λ p ds. IsNext p known n) filling.filled.plan_is filling.filled.docs_are next

      pub next-may_claim : MayClaim board item
      next-may_claim =
          subst (MayClaim board) (sym is) (from_board (λ p ds. MayClaim board (item_at p d n)) filling.filled.plan_is filling.filled.docs_are (may_claim board d known own n own_next))

      pub next-unpublished : (standing board item).rows ≡ None
      next-unpublished =
          subst (λ (i : ℕ). (standing board i).rows ≡ None) (sym is)
          (from_board (λ p ds. (standing board (item_at p d n)).rows ≡ None) filling.filled.plan_is filling.filled.docs_are (unpublished board d known own n own_next))

      -- and its rows
      module _ (found : ItemRows) (result : IsResultOf plan docs d n found) (list : RowList) (same : list ≡ found.rows) where
        own_result : IsResultOf board.plan board.docs d n found
        own_result = at_board (λ p ds. IsResultOf p ds d n found) filling.filled.plan_is filling.filled.docs_are result

        own_item : item_at board.plan d n ≡ item
        own_item = ap (λ (p : Parts). item_at p d n) filling.filled.plan_is ∙ sym is

        pub next-value : IsValueAt board.plan board.docs item list
        next-value =
            subst (λ (i : ℕ). IsValueAt board.plan board.docs i list) own_item
            (subst (IsValueAt board.plan board.docs (item_at board.plan d n)) (sym same) (value board d known own n own_next found own_result))

        own_put : (new : State) → HasPut board new item list → HasPut board new (item_at board.plan d n) found.rows
        own_put new put =
            subst (λ (i : ℕ). HasPut board new i found.rows) (sym own_item) (subst (HasPut board new item) same put)

        pub filling-put : (new : State) (d' : ℕ) (known' : List (Option ItemRows)) → HasPut board new item list → d' ≡ d → known' ≡ set known n (Some found) → IsFilling plan docs d' new known'
        filling-put new d' known' put document page =
            subst (λ (k : ℕ). IsFilling plan docs k new known') (sym document)
            (subst (λ (page : List (Option ItemRows)). IsFilling plan docs d new page) (sym page)
            (from_board (λ p ds. IsFilling p ds d new (set known n (Some found))) filling.filled.plan_is filling.filled.docs_are
            (after_put board d known own n own_next found own_result new (own_put new put))))

    pub filling-done : (d' : ℕ) → d ≡ d' → IsPlan plan.nodes → AreKnown known plan.outputs → IsFilledTo plan docs (d' + 1) (item_at plan (d' + 1) 0) board
    filling-done d' document planned outputs =
        subst (λ (k : ℕ). IsFilledTo plan docs (k + 1) (item_at plan (k + 1) 0) board) document
        (from_board (λ p ds. IsFilledTo p ds (d + 1) (item_at p (d + 1) 0) board) filling.filled.plan_is filling.filled.docs_are
        (done board d known own (at_board (λ p ds. IsPlan p.nodes) filling.filled.plan_is filling.filled.docs_are planned)
        (at_board (λ p ds. AreKnown known p.outputs) filling.filled.plan_is filling.filled.docs_are outputs)))

-- a board on which all documents are done is complete
module _ (board : State) (sound : IsSound board) (filled : IsFilledTo board.plan board.docs (length board.docs) (item_at board.plan (length board.docs) 0) board) where
  needed_rows : (i : ℕ) → IsNeededAt board.plan board.docs i → IsSome (standing board i).rows
  needed_rows i needed =
      let of_item = needed.of_item in
      subst (λ (k : ℕ). IsSome (standing board k).rows) (sym of_item.is) (filled.before of_item.d (slice_get_within board.docs of_item.d of_item.doc of_item.doc_is) of_item.doc of_item.n of_item.doc_is needed.needed)

  complete : IsComplete board
  complete = record {
    claimed = λ i. (
      λ there. let worker = some_of (standing board i).claim there in sound.holds.claimed i worker.0 worker.1,
      λ needed. filled.together i ∙ needed_rows i needed,
    );
    published = λ i. (
      λ there. let list = some_of (standing board i).rows there in sound.holds.published i list.0 list.1,
      needed_rows i,
    );
  }

pub complete-filled : (plan : Parts) (docs : List Document) (board : State) → IsSound board → IsFilledTo plan docs (length docs) (item_at plan (length docs) 0) board → IsComplete board
complete-filled plan docs board sound filled =
    complete board sound (at_board plan docs 0 board (λ p ds. IsFilledTo p ds (length ds) (item_at p (length ds) 0) board) filled.plan_is filled.docs_are filled)
