use Rattle.std.proofs.Common.{◌≡◌, ◌∙◌, ◌<◌, ℕ, List, Option, None, All, true, not, length, refl, sym, ap, subst, arith, ⊎_elim}
use Rattle.std.specs.Prelude.{IfNone, IsSome}
use Rattle.std.proofs.lemmas.List.{get_or_default}
use Rattle.std.proofs.lemmas.List.Elements.{All-nil}
use Rattle.row_values.specs.Rows.{RowList}
use Rattle.algebra.specs.Needed as needs
use Rattle.plan_operators.specs.Filling.{IsEvaluated, IsNeededNode}
use Rattle.plan_operators.specs.Readers.{number_waiting, waits}
use Rattle.plan_operators.proofs.Standing.{less-evaluated, shown-there, shown-waits, waiting-there}
use Rattle.plan_operators.proofs.board.fill.Goals as goal

pub asked-init : goal.asked-init
asked-init c =
    let plan = c.args.plan.now in
    let doc = c.args.doc.now in
    record {
      stands = c.requires.stands;
      waiting = λ none. shown-waits doc plan c.args.board.now.items c.args.readers.now.items c.requires.stands c.args.n c.requires.shown none;
      needed = needs.output c.args.n c.requires.shown;
      asking = subst (All (IsNeededNode doc plan)) (sym c.clear.ensures.items) (All-nil (IsNeededNode doc plan));
      kept = λ m shown some. some;
      same = refl;
    }

pub index-requires : goal.index-requires
index-requires c =
    let stands = c.asked.invariant.stands in
    let there = shown-there c.args.doc.now c.args.plan.now c.asked.board.items c.asked.readers.items stands c.args.n c.requires.shown in
    omega (arith, there, stands.long, c.asked.board.ok.0)

pub asked-smaller : goal.asked-smaller
asked-smaller c =
    let plan = c.args.plan.now in
    let doc = c.args.doc.now in
    let new : List (Option RowList) = c.fill_or_ask.new.board.items in
    let new_readers : List ℕ = c.fill_or_ask.new.readers.items in
    let evaluated : IsEvaluated doc plan c.asked.next c.asked.board.items c.asked.readers.items new new_readers =
    subst (λ (o : Option ℕ). IfNone o (IsEvaluated doc plan c.asked.next c.asked.board.items c.asked.readers.items new new_readers)) c.in-None.is c.in_ok-input.ensures.evaluated in
    let next = c.last_asking-next.result in
    let below : next < length plan.nodes =
    ⊎_elim (λ (e : next ≡ c.args.n). let there = shown-there doc plan new new_readers evaluated.stands c.args.n c.requires.shown in omega (arith, e, there))
    (λ (waiting : waits c.as_slice.result.now c.deref.result.now next ≡ true).
    waiting-there doc plan new new_readers evaluated.stands next
    (subst (λ (rs : List ℕ). waits new rs next ≡ true) c.deref.ensures.value (subst (λ (b : List (Option RowList)). waits b c.deref.result.now next ≡ true) c.as_slice.ensures.value waiting)))
    c.last_asking-next.ensures.waits in
    less-evaluated (number_waiting plan.nodes c.asked.board.items c.asked.readers.items) (number_waiting plan.nodes new new_readers) (length plan.nodes) c.asked.next next evaluated.fewer below

pub asked-preserved : goal.asked-preserved
asked-preserved c =
    let plan = c.args.plan.now in
    let doc = c.args.doc.now in
    let new : List (Option RowList) = c.fill_or_ask.new.board.items in
    let new_readers : List ℕ = c.fill_or_ask.new.readers.items in
    let evaluated : IsEvaluated doc plan c.asked.next c.asked.board.items c.asked.readers.items new new_readers =
    subst (λ (o : Option ℕ). IfNone o (IsEvaluated doc plan c.asked.next c.asked.board.items c.asked.readers.items new new_readers)) c.in-None.is c.in_ok-input.ensures.evaluated in
    let next = c.last_asking-next.result in
    let both = c.last_asking-next.ensures.needed doc plan c.asked.invariant.asking (needs.output c.args.n c.requires.shown) in
    record {
      stands = evaluated.stands;
      waiting = λ none.
          ⊎_elim (λ (e : next ≡ c.args.n). ap (waits new new_readers) e ∙ shown-waits doc plan new new_readers evaluated.stands c.args.n c.requires.shown none)
          (λ (waiting : waits c.as_slice.result.now c.deref.result.now next ≡ true).
          subst (λ (rs : List ℕ). waits new rs next ≡ true) c.deref.ensures.value (subst (λ (b : List (Option RowList)). waits b c.deref.result.now next ≡ true) c.as_slice.ensures.value waiting))
          c.last_asking-next.ensures.waits;
      needed = both.1;
      asking = both.0;
      kept = λ m shown some. evaluated.kept m shown (c.asked.invariant.kept m shown some);
      same = c.in_ok-input.ensures.same ∙ c.asked.invariant.same;
    }

pub returns-clause-there : goal.returns-clause-there
returns-clause-there c =
    let stands = c.asked.invariant.stands in
    let there = shown-there c.args.doc.now c.args.plan.now c.asked.board.items c.asked.readers.items stands c.args.n c.requires.shown in
    let below : c.args.n < length c.asked.board.items = omega (arith, there, stands.long) in
    subst IsSome (c.index.ensures ∙ get_or_default c.asked.board.items c.args.n c.index.result.now None below) (c.is_none.ensures ∙ ap not c.asked-test.false)
