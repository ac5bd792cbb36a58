-- Boards as they are kept: what their invariant says of each item, and that a legal event keeps it.
use Rattle.std.proofs.Common.{◌≡◌, ℕ, ◌<◌, List, length, get_or, refl, sym, subst, ◌∙◌, arith, Option, Some, None, IfSome, IfNone, option_map}
use Rattle.std.proofs.lemmas.List.{get_or_default}
use Rattle.row_values.specs.Rows.{RowList}
use Rattle.algebra.specs.Items.{item_count}
use Rattle.run_core.specs.declared.event.Event.{Event}
use Rattle.run_core.specs.Boards.{Standing, State, IsSized, untouched, standing}
use Rattle.run_core.specs.Events.{IsLegal, after, item_of}
use Rattle.run_core.specs.Histories.{IsBoard}
use Rattle.run_core.specs.HistoryLaws.{holds-reached, reached-after, sound-reached}
use Rattle.run_core.specs.Promises.{IsNeededAt, IsValueAt, IsSound, MayGoOn}
use Rattle.run_core.specs.StepLaws.{legal-below}

sized_of : (board : State) → IsBoard board → IsSized board
sized_of board is = (holds-reached board is.reached.events is.planned is.reached.by).sized

-- an item is there
pub there : (kept board : State) (item : ℕ) → kept ≡ board → IsBoard kept → item < item_count board.plan board.docs → item < length kept.items
there kept board item same is within =
    let here : item < item_count kept.plan kept.docs = subst (λ (b : State). item < item_count b.plan b.docs) (sym same) within in
    omega (arith, here, sized_of kept is)

-- each board keeps its promise
pub sound : (kept board : State) → kept ≡ board → IsBoard kept → IsSound board
sound kept board same is = subst IsSound same (sound-reached kept is.planned is.outputs is.reached)

-- what an index gives
pub read : (items : List Standing) (i : ℕ) (found : Standing) → i < length items → found ≡ get_or items i found → found ≡ get_or items i untouched
read items i found below is = is ∙ get_or_default items i found untouched below

pub claim_needed : (board : State) (i : ℕ) (found : Option ℕ) → IsSound board → found ≡ (standing board i).claim
    → IfSome found (λ worker. IsNeededAt board.plan board.docs i)
claim_needed board i None promise is = tt
claim_needed board i (Some worker) promise is = promise.holds.claimed i worker (sym is)

pub rows_needed : {A : Type 0} (seen : A → RowList) (board : State) (i : ℕ) (found : Option A) → IsSound board → option_map seen found ≡ (standing board i).rows
    → IfSome found (λ x. IsNeededAt board.plan board.docs i)
rows_needed seen board i None promise is = tt
rows_needed seen board i (Some x) promise is = promise.holds.published i (seen x) (sym is)

pub rows_value : {A : Type 0} (seen : A → RowList) (board : State) (i : ℕ) (found : Option A) → IsSound board → option_map seen found ≡ (standing board i).rows
    → IfSome found (λ x. IsValueAt board.plan board.docs i (seen x))
rows_value seen board i None promise is = tt
rows_value seen board i (Some x) promise is = promise.holds.values i (seen x) (sym is)

pub rows_lacking : {A : Type 0} (seen : A → RowList) (board : State) (i : ℕ) (found : Option A) → IsSound board → option_map seen found ≡ (standing board i).rows
    → IfNone found (IsNeededAt board.plan board.docs i → MayGoOn board)
rows_lacking seen board i None promise is = λ needed. promise.goes_on i needed (sym is)
rows_lacking seen board i (Some x) promise is = tt

-- one legal event more
module _ (kept board : State) (event : Event) (rows : Option RowList) (same : kept ≡ board) (is : IsBoard kept) (legal : IsLegal board event rows) where
  legal_here : IsLegal kept event rows
  legal_here = subst (λ (b : State). IsLegal b event rows) (sym same) legal

  pub item_there : item_of event < length kept.items
  item_there = legal-below kept event rows (sized_of kept is) legal_here

  pub board_after : IsBoard (after kept event rows)
  board_after = record {
    planned = is.planned;
    outputs = is.outputs;
    few = is.few;
    reached = reached-after kept event rows is.reached legal_here;
  }

  pub sound_kept : IsSound (after kept event rows)
  sound_kept = sound (after kept event rows) (after kept event rows) refl board_after
