-- Laws of boards that keep their promise, for the crates above: what is wanted and ready on them, and what may come next.
use Rattle.std.proofs.Common.{◌≡◌, ℕ, ◌<◌, List, [], ◌∷◌, subst, ◌∙◌, sym, map, Some, None}
use Rattle.std.specs.Prelude.{IsSome, slice_get}
use Rattle.std.specs.List.{AllZip}
use Rattle.aql_base.specs.Bags.{SameBag}
use Rattle.span_token.specs.Documents.{Doc as Document}
use Rattle.row_values.specs.Rows.{RowList}
use Rattle.aql_typed.specs.Meaning.{Rows}
use Rattle.algebra.specs.declared.output.PlanOut.{PlanOut}
use Rattle.algebra.specs.Items.{IsItem, output_nodes, item_at}
use Rattle.algebra.specs.Needed.{IsNeeded}
use Rattle.algebra.specs.Plans.{Parts}
use Rattle.algebra.specs.Values.{val}
use Rattle.run_core.specs.declared.event.Event.TheVariants.{Claim}
use Rattle.run_core.specs.Boards.{State, standing, published_on}
use Rattle.run_core.specs.Events.{MayClaim, MayPublish, after}
use Rattle.run_core.specs.HistoryLaws.{publish-holding}
use Rattle.run_core.specs.Promises.{IsValueAt, AreMeant, Keeps, IsSound}
use Rattle.run_core.specs.StepLaws.{agrees-holding, holds-after, claimed-below, rows-after_claim}
use Rattle.run_core.specs.Wanted.{IsWanted, IsReady}
use Rattle.run_core.specs.WantedLaws.{Agrees, wanted-grows, ready-same, wanted-needed, lowest-ready, all-published}

-- what is wanted stays wanted
pub wanted-kept : (old new : State) → Keeps old new → (d n : ℕ) → IsWanted old.plan (published_on old d) n → IsWanted new.plan (published_on new d) n
wanted-kept old new keeps d n wanted =
    subst (λ (plan : Parts). IsWanted plan (λ m. (standing new (item_at plan d m)).rows) n) (sym keeps.plan)
    (wanted-grows old.plan (published_on old d) (λ m. (standing new (item_at old.plan d m)).rows) (λ m list is. keeps.rows (item_at old.plan d m) list is) n wanted)

module _ (board : State) (sound : IsSound board) where
  -- what is published on a document are the values there
  pub agrees-on : (d : ℕ) (doc : Document) → slice_get board.docs d ≡ Some doc → Agrees board.plan doc (published_on board d)
  agrees-on d doc doc_is = agrees-holding board sound.holds d doc doc_is

  -- what is wanted is needed
  pub wanted-needed-on : (d : ℕ) (doc : Document) → slice_get board.docs d ≡ Some doc → (n : ℕ) → IsWanted board.plan (published_on board d) n
      → IsNeeded board.plan.lists doc board.plan.nodes (output_nodes board.plan) n
  wanted-needed-on d doc doc_is n wanted = wanted-needed board.plan doc sound.planned (published_on board d) (agrees-on d doc doc_is) n wanted

  -- where all that is wanted on a document is published, so is all that is needed there
  pub needed-published : (d : ℕ) (doc : Document) → slice_get board.docs d ≡ Some doc → ((n : ℕ) → IsWanted board.plan (published_on board d) n → IsSome (published_on board d n))
      → (n : ℕ) → IsNeeded board.plan.lists doc board.plan.nodes (output_nodes board.plan) n → IsSome (published_on board d n)
  needed-published d doc doc_is done n needed = all-published board.plan doc sound.planned (published_on board d) (agrees-on d doc doc_is) done n needed

  -- a wanted, ready and unpublished item may be published with its value
  pub may-publish : (item : ℕ) (of_item : IsItem board.plan board.docs item) → IsWanted board.plan (published_on board of_item.d) of_item.n
      → IsReady board.plan (published_on board of_item.d) of_item.node → (standing board item).rows ≡ None
      → (list : RowList) → IsValueAt board.plan board.docs item list → MayPublish board item list
  may-publish item of_item wanted ready none list value = publish-holding board item of_item sound.planned sound.holds wanted ready none list value

  -- also after it was claimed
  pub publish-claimed : (worker item : ℕ) → MayClaim board item → (standing board item).rows ≡ None
      → (list : RowList) → IsValueAt board.plan board.docs item list → MayPublish (after board (Claim worker item) None) item list
  publish-claimed worker item may none list value =
      let of_item = may.of_item in
      let next = after board (Claim worker item) None in
      let same = rows-after_claim board worker item None (claimed-below board item sound.holds.sized may) in
      let wanted : IsWanted board.plan (published_on next of_item.d) of_item.n =
      wanted-grows board.plan (published_on board of_item.d) (published_on next of_item.d) (λ m list is. same (item_at board.plan of_item.d m) ∙ is) of_item.n may.wanted in
      let ready : IsReady board.plan (published_on next of_item.d) of_item.node =
      ready-same board.plan (published_on board of_item.d) (published_on next of_item.d) of_item.node (λ m is. same (item_at board.plan of_item.d m)) (λ m is. same (item_at board.plan of_item.d m)) may.ready in
      publish-holding next item of_item sound.planned (holds-after board sound.planned sound.holds (Claim worker item) None may) wanted ready (same item ∙ none) list value

  -- the wanted, unpublished item of the lowest number on its document may be claimed where nobody did
  pub lowest-claim : (item : ℕ) (of_item : IsItem board.plan board.docs item) → IsWanted board.plan (published_on board of_item.d) of_item.n
      → ((m : ℕ) → m < of_item.n → IsWanted board.plan (published_on board of_item.d) m → IsSome (published_on board of_item.d m))
      → (standing board item).claim ≡ None → MayClaim board item
  lowest-claim item of_item wanted lower none = record {
    of_item = of_item;
    wanted = wanted;
    ready = lowest-ready board.plan sound.planned (published_on board of_item.d) of_item.n of_item.node of_item.node_is wanted lower;
    unclaimed = none;
  }

  -- and published with its value
  pub lowest-publish : (item : ℕ) (of_item : IsItem board.plan board.docs item) → IsWanted board.plan (published_on board of_item.d) of_item.n
      → ((m : ℕ) → m < of_item.n → IsWanted board.plan (published_on board of_item.d) m → IsSome (published_on board of_item.d m))
      → (standing board item).rows ≡ None → (list : RowList) → IsValueAt board.plan board.docs item list → MayPublish board item list
  lowest-publish item of_item wanted lower none list value =
      may-publish item of_item wanted (lowest-ready board.plan sound.planned (published_on board of_item.d) of_item.n of_item.node of_item.node_is wanted lower) none list value

module _ {X : Type 0} (board : State) (doc : Document) (R : X → PlanOut → Type 0) (meaning : X → Rows)
    (each : (x : X) (out : PlanOut) → R x out → SameBag (val board.plan.lists doc board.plan.nodes out.node) (meaning x)) where
  meant_each : (xs : List X) (outs : List PlanOut) → AllZip R xs outs
      → AllZip (λ rows out. SameBag (val board.plan.lists doc board.plan.nodes out.node) rows) (map meaning xs) outs
  meant_each [] [] are = tt
  meant_each [] (out ∷ outs) are = absurd are
  meant_each (x ∷ xs) [] are = absurd are
  meant_each (x ∷ xs) (out ∷ outs) are = (each x out are.0, meant_each xs outs are.1)

  -- where the plan's outputs stand for those of a program, one by one, they mean what those mean
  pub meant-by : (xs : List X) → AllZip R xs board.plan.outputs → AreMeant board doc (map meaning xs)
  meant-by xs are = meant_each xs board.plan.outputs are
