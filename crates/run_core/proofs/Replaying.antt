-- Legal events that are taken in turn, from the board with nothing claimed and nothing published.
use Rattle.std.proofs.Common.{◌≡◌, ◌+◌, ◌<◌, ◌++◌, ◌∷◌, [], List, length, get_or, take, drop, sym, ap, subst, ◌∙◌, Option, map, option_map}
use Rattle.std.proofs.lemmas.List.{take-append-drop, drop_more, map-append, map-id}
use Rattle.span_token.specs.Documents.{Doc}
use Rattle.row_values.specs.Rows.{RowList}
use Rattle.algebra.specs.Plans.{Parts}
use Rattle.run_core.specs.declared.event.Event.{Event}
use Rattle.run_core.specs.Boards.{State, fresh}
use Rattle.run_core.specs.Events.{IsLegal, after}
use Rattle.run_core.specs.Histories.{happening, AreLegal, after_all, IsReachedBy}
use Rattle.run_core.specs.HistoryLaws.{after_all-append, legal-behind, reached-by}

module _ {A : Type 0} (seen : A → RowList) (plan : Parts) (docs : List Doc) (yielded : List (Event × Option A)) (board : State)
    (so_far : board ≡ after_all (fresh plan docs) (map (happening seen) yielded)) where
  -- the next event is legal on the board so far
  pub next_legal : (events : List (Event × Option A)) (event : Event) (rows : Option A) → AreLegal (fresh plan docs) (map (happening seen) events)
      → map (λ x. x) yielded ≡ take (length yielded) events → (length yielded < length events) × ((event, rows) ≡ get_or events (length yielded) (event, rows))
      → IsLegal board event (option_map seen rows)
  next_legal events event rows legal front turn =
      let i = length yielded in
      let pair : Event × Option A = (event, rows) in
      let taken : take i events ≡ yielded = sym front ∙ map-id yielded in
      let split : events ≡ yielded ++ pair ∷ drop (i + 1) events =
      sym (take-append-drop i events)
      ∙ (ap (λ (rest : List (Event × Option A)). take i events ++ rest) (drop_more events i pair turn.0 ∙ ap (λ (next : Event × Option A). next ∷ drop (i + 1) events) (sym turn.1))
      ∙ ap (λ (xs : List (Event × Option A)). xs ++ pair ∷ drop (i + 1) events) taken) in
      let mapped : map (happening seen) events ≡ map (happening seen) yielded ++ happening seen pair ∷ map (happening seen) (drop (i + 1) events) =
      ap (map (happening seen)) split ∙ map-append (happening seen) yielded (pair ∷ drop (i + 1) events) in
      let behind = legal-behind (fresh plan docs) (map (happening seen) yielded) (happening seen pair ∷ map (happening seen) (drop (i + 1) events)) (subst (AreLegal (fresh plan docs)) mapped legal) in
      subst (λ (b : State). IsLegal b event (option_map seen rows)) (sym so_far) behind.0

  -- and makes the next board
  pub next_board : (event : Event) (rows : Option A) (later : State) → later ≡ after board event (option_map seen rows)
      → later ≡ after_all (fresh plan docs) (map (happening seen) (yielded ++ (event, rows) ∷ []))
  next_board event rows later is =
      is ∙ (ap (λ (b : State). after b event (option_map seen rows)) so_far
      ∙ (sym (after_all-append (fresh plan docs) (map (happening seen) yielded) (happening seen (event, rows) ∷ []))
      ∙ ap (after_all (fresh plan docs)) (sym (map-append (happening seen) yielded ((event, rows) ∷ [])))))

  -- the last board is reached by all of them
  pub reached_all : (events : List (Event × Option A)) → map (λ x. x) yielded ≡ events → AreLegal (fresh plan docs) (map (happening seen) events) → IsReachedBy board (map (happening seen) events)
  reached_all events all legal =
      reached-by plan docs (map (happening seen) events) board legal (so_far ∙ ap (λ (xs : List (Event × Option A)). after_all (fresh plan docs) (map (happening seen) xs)) (sym (map-id yielded) ∙ all))
