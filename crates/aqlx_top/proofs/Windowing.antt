-- What a run in windows means, while documents are behind what is pending.
use Rattle.std.proofs.Common.{◌≡◌, ◌+◌, ◌<◌, ◌≤◌, ℕ, List, [], ◌∷◌, ◌++◌, true, false, map, ap, sym, subst, refl, ◌∙◌, append_assoc, append-nil, arith, Option, Some, None, IfOk, IfSome, OnErr, Bool, Result, Ok, Err, inl, inr}
use Rattle.std.specs.Prelude.{◌⊎◌}
use Rattle.std.specs.List.{flat_map}
use Rattle.std.proofs.lemmas.Grind.{flat_map-append}
use Rattle.span_token.specs.Documents.{Doc}
use Rattle.corpus_json.specs.declared.input.Input.{Input}
use Rattle.corpus_json.specs.Documents.{documents, is_bad_line}
use Rattle.corpus_json.specs.Inputs.{doc_of}
use Rattle.corpus_json.specs.Limits.{corpus_limit}
use Rattle.corpus_json.specs.Reading.{Reading, NextLine}
use Rattle.corpus_json.specs.declared.step.Step.{Step}
use Rattle.corpus_json.specs.declared.step.Step.TheVariants.{Line, End}
use Rattle.aqlx_top.specs.declared.status.Status.{Status}
use Rattle.aqlx_top.specs.Devices.{SourceEnds, source_ends}
use Rattle.aqlx_top.specs.Progress.{Stands, Finished}
use Rattle.algebra.specs.Plans.{Parts}
use Rattle.aqlx_top.specs.Endings.{InPart, written_for}
use Rattle.aqlx_top.specs.Planned.{line_by}
use Rattle.aql_io.specs.Causes.{Rose}
use Rattle.line_parts.specs.Answered.{CameTo, Outgoing, outgoing}
use Rattle.std.specs.Io.KnownBytes.{Appends}
use Rattle.aqlx_top.specs.Windows.{meant_by, Fits, HasAnswered, HasTaken, IsGiven, IsPut, SinkTurn, sink_turn, TurnedOut}
use Rattle.aqlx_top.specs.declared.windows.Turnout.{Turnout}
use Rattle.aqlx_top.specs.declared.windows.Turnout.TheVariants.{Next, Ended, Unwritten}
use Rattle.aqlx_top.specs.declared.windows.Windowed.{Windowed}
use Rattle.aqlx_top.proofs.Passing.{stands-passed}
use Rattle.line_parts.specs.SinkLaws.{appends_more, appends_nothing}
use Rattle.aqlx_top.proofs.Turns.{finished_in_part, part_of, next_line_good, number_within, ended_bad, short_is, line_is_short, part_of_next, pending_for_bad}
use Rattle.span_token.specs.declared.refusal.OutOfMemory.{OutOfMemory}

-- more documents in the window
pub meant_more : (piece : Doc → List ℕ) (pending : List ℕ) (before now : List Input) (more : List Doc) → map doc_of now ≡ map doc_of before ++ more
    → meant_by piece pending now ≡ meant_by piece pending before ++ flat_map piece more
meant_more piece pending before now more is =
    ap (λ (docs : List Doc). pending ++ flat_map piece docs) is
    ∙ ap (λ (bytes : List ℕ). pending ++ bytes) (flat_map-append piece (map doc_of before) more)
    ∙ sym (append_assoc pending (flat_map piece (map doc_of before)) (flat_map piece more))

-- no document is in the window
pub meant_alone : (piece : Doc → List ℕ) (pending : List ℕ) (window : List Input) → window ≡ [] → meant_by piece pending window ≡ pending
meant_alone piece pending window none = ap (meant_by piece pending) none ∙ append-nil pending

-- how a run stands and is finished, where the same is pending
pub stands_with : (piece : Doc → List ℕ) (corpus : SourceEnds) (before now : Option (List ℕ)) (reading : Reading) (pending other : List ℕ) (number : ℕ) → pending ≡ other
    → Stands piece corpus before now reading pending number → Stands piece corpus before now reading other number
stands_with piece corpus before now reading pending other number same stands = subst (λ (bytes : List ℕ). Stands piece corpus before now reading bytes number) same stands

pub finished_with : (piece : Doc → List ℕ) (corpus : SourceEnds) (before now : Option (List ℕ)) (pending other : List ℕ) (status : Status) → pending ≡ other
    → Finished piece corpus before now pending status → Finished piece corpus before now other status
finished_with piece corpus before now pending other status same finished = subst (λ (bytes : List ℕ). Finished piece corpus before now bytes status) same finished

-- a finished run of which nothing more is sent
finished_unsent : (piece : Doc → List ℕ) (corpus : SourceEnds) (before now : Option (List ℕ)) (pending : List ℕ) (status : Status)
    → Finished piece corpus before now pending status → InPart piece corpus before now
finished_unsent piece corpus before now pending status finished =
    finished_in_part piece corpus before now now pending status 0 finished (appends_nothing now)

-- what a turn came to, where memory is wanting behind it
pub turned_unsent : (piece : Doc → List ℕ) (left_before left_now : Option (List ℕ)) (faults_before faults_now : ℕ) (before : Option (List ℕ)) (out : SinkTurn) (reading : Reading) (pending : List ℕ) (number : ℕ) (turn : Turnout)
    → TurnedOut piece (source_ends left_before left_now faults_before faults_now) before out reading pending number (Ok turn) → InPart piece (source_ends left_before left_now faults_before faults_now) before out.held
turned_unsent piece left_before left_now faults_before faults_now before out reading pending number Next turned =
    part_of piece left_before left_now faults_before faults_now before out.held reading pending number turned.0
turned_unsent piece left_before left_now faults_before faults_now before out reading pending number (Ended status) turned =
    finished_unsent piece (source_ends left_before left_now faults_before faults_now) before out.held pending status turned.0
turned_unsent piece left_before left_now faults_before faults_now before out reading pending number Unwritten turned = turned.0

-- the window's lines were put behind what was pending, and the window is empty
pub meant_evaluated : (plan own : Parts) (pending after : List ℕ) (window none : List Input) → own ≡ plan → after ≡ meant_by (line_by own) pending window → none ≡ []
    → meant_by (line_by plan) after none ≡ meant_by (line_by plan) pending window
meant_evaluated plan own pending after window none same put empty =
    meant_alone (line_by plan) after none empty ∙ put ∙ ap (λ (p : Parts). meant_by (line_by p) pending window) same

-- what a turn came to, where the same is pending, of one reading and one number
pub turned_with : (piece : Doc → List ℕ) (corpus : SourceEnds) (before : Option (List ℕ)) (out : SinkTurn) (reading next : Reading) (pending after : List ℕ) (number following : ℕ) (result : Result Turnout OutOfMemory)
    → next ≡ reading → after ≡ pending → following ≡ number
    → TurnedOut piece corpus before out reading pending number result → TurnedOut piece corpus before out next after following result
turned_with piece corpus before out reading next pending after number following result read same counted turned = rw (read, same, counted) turned

-- a front of what is pending is sent
stands_sent : (piece : Doc → List ℕ) (corpus : SourceEnds) (before now next : Option (List ℕ)) (reading : Reading) (sent left : List ℕ) (number : ℕ) → Appends now next sent
    → Stands piece corpus before now reading (sent ++ left) number → Stands piece corpus before next reading left number
stands_sent piece corpus before now next reading sent left number wrote s = record {
  given = s.given;
  lines = s.lines;
  sent = s.sent ++ sent;
  taken = s.taken;
  unfailed = s.unfailed;
  counted = s.counted;
  within = s.within;
  read = s.read;
  good = s.good;
  gained = appends_more before now next s.sent sent s.gained wrote;
  wrote = append_assoc s.sent sent left ∙ s.wrote;
  numbered = s.numbered;
}

-- what is kept fits its own plan
pub fits_own : (plan : Parts) (work : Windowed) → Fits plan work → Fits work.plan.now work
fits_own plan work fits = subst (λ (p : Parts). Fits p work) (sym fits.plan_is) fits

-- a reading that gave a line goes on, or has nothing ready
line_kind : (left_now left_next : Option (List ℕ)) (faults_now faults_next : ℕ) (ready : List ℕ) (taken : ℕ) (last : Option Step) (now : Reading) (line : List ℕ)
    → IfSome last (λ step. step ≡ End) → NextLine left_now left_next faults_now faults_next (record { ready = ready; taken = taken; last = last }) now line Line
    → (now.last ≡ None) ⊎ (now.ready ≡ [])
line_kind left_now left_next faults_now faults_next ready taken None now line going next =
    elim next.answer.1 [
      | inl ends ↦ inl ends.going
      | inr ends ↦ inr (ap (λ (r : Reading). r.ready) ends.ended)
    ]
line_kind left_now left_next faults_now faults_next ready taken (Some last) now line going next =
    let other : Line ≡ End = next.answer.0 ∙ going in absurd (cc)

module _ (piece : Doc → List ℕ) (left_before left_now left_next : Option (List ℕ)) (faults_before faults_now faults_next : ℕ) (before now : Option (List ℕ)) (troubles : ℕ)
    (reading : Reading) (pending : List ℕ) (window : List Input) (number : ℕ) (mid after : Windowed) where
  -- the corpus from the beginning of the run to behind the line
  abbrev pub corpus : SourceEnds
  corpus = source_ends left_before left_next faults_before faults_next

  module _ (s : Stands piece (source_ends left_before left_now faults_before faults_now) before now reading (meant_by piece pending window) number)
      (going : IfSome reading.last (λ step. step ≡ End)) (next : NextLine left_now left_next faults_now faults_next reading mid.reader mid.line.items Line)
      (within : mid.reader.taken ≤ corpus_limit) (counts : mid.number ≡ number + 1) (same : mid.pending ≡ pending) (there : mid.window.items ≡ window) where
    -- the line was looked at, and isn't bad
    looked_at : is_bad_line mid.line.items ≡ false → Stands piece corpus before now mid.reader (meant_by piece pending window ++ written_for piece (mid.line.items ∷ [])) mid.number
    looked_at good =
        next_line_good piece left_before left_now left_next faults_before faults_now faults_next before now reading mid.reader (meant_by piece pending window) (written_for piece (mid.line.items ∷ [])) mid.line.items number mid.number
        s next within good refl counts

    -- what is meant where the line's document is in the window
    put_behind : (good : _) → IsPut mid after good → meant_by piece after.pending after.window.items ≡ meant_by piece pending window ++ written_for piece (mid.line.items ∷ [])
    put_behind good is =
        ap (λ (bytes : List ℕ). meant_by piece bytes after.window.items) (is.pending ∙ same)
        ∙ meant_more piece pending window after.window.items (documents (mid.line.items ∷ [])) (is.documents_are ∙ ap (λ (docs : List Input). map doc_of docs ++ documents (mid.line.items ∷ [])) there)

    taken_turned : (turn : Turnout) → HasTaken mid after turn → TurnedOut piece corpus before (sink_turn now troubles troubles) after.reader (meant_by piece after.pending after.window.items) after.number (Ok turn)
    taken_turned Next is = (rw (is.reader, is.number) (stands_with piece corpus before now mid.reader _ _ mid.number (sym (put_behind true is)) (looked_at is.good_is)), refl)
    taken_turned (Ended status) is =
        let line = mid.line.items in
        let bad : is_bad_line line ≡ true = is.0.good_is in
        let kept : meant_by piece after.pending after.window.items ≡ meant_by piece pending window = pending_for_bad piece (meant_by piece pending window) (meant_by piece after.pending after.window.items) line bad (put_behind false is.0) in
        let short = line_is_short left_now left_next faults_now faults_next reading.ready reading.taken reading.last mid.reader line going next in
        rw is.1 (
          finished_with piece corpus before now (meant_by piece pending window) (meant_by piece after.pending after.window.items) _ (sym kept)
              (ended_bad piece left_before left_now left_next faults_before faults_now faults_next before now reading mid.reader (meant_by piece pending window) line number mid.number s next bad (short_is line short) counts),
          refl,
        )
    taken_turned Unwritten is = absurd is

    module _ (looks : Bool) (left_after held : Option (List ℕ)) (then : ℕ) (turn : Turnout)
        (is : HasAnswered piece looks left_next left_after (outgoing mid.pending now troubles) (outgoing after.pending held then) mid after turn) where
      -- how the run stands behind the lines that were answered: what is written is sent, but for what is left
      answered_stands : Stands piece (source_ends left_before left_after faults_before faults_next) before held after.reader is.came.left after.number
      answered_stands =
          let came = is.came in
          let put = came.answered in
          let alone : meant_by piece pending window ≡ pending = meant_alone piece pending window (sym there ∙ is.empty_before) in
          let first : Stands piece corpus before now mid.reader (mid.pending ++ written_for piece (mid.line.items ∷ [])) mid.number =
          stands_with piece corpus before now mid.reader _ _ mid.number (ap (λ (b : List ℕ). b ++ written_for piece (mid.line.items ∷ [])) (alone ∙ sym same)) (looked_at put.good) in
          let kind = line_kind left_now left_next faults_now faults_next reading.ready reading.taken reading.last mid.reader mid.line.items going next in
          let all = stands-passed piece left_before left_next left_after faults_before faults_next before now looks mid.reader after.reader _ mid.number is.taken.bytes is.taken.lines is.ahead put.bytes put.text
          first kind is.going put.within is.allowed put.there put.answered is.passed in
          let few = number_within piece left_before left_after faults_before faults_next before now after.reader _ (mid.number + is.taken.lines) all in
          let counted = is.counted (omega (arith, few)) in
          stands_sent piece (source_ends left_before left_after faults_before faults_next) before now held after.reader came.sent came.left after.number came.gained
          (rw counted
          (stands_with piece (source_ends left_before left_after faults_before faults_next) before now after.reader _ _ (mid.number + is.taken.lines) (sym put.put) all))

      answered_turned : (failed : Bool) → is.taken.failed ≡ failed
          → TurnedOut piece (source_ends left_before left_after faults_before faults_next) before (sink_turn held troubles then) after.reader (meant_by piece after.pending after.window.items) after.number (Ok turn)
      answered_turned false still =
          let kept = is.came.kept still in
          rw (is.next still)
          (stands_with piece (source_ends left_before left_after faults_before faults_next) before held after.reader _ _ after.number (kept.0 ∙ sym (meant_alone piece after.pending after.window.items is.empty)) answered_stands, kept.1)
      answered_turned true broke =
          rw (is.unwritten broke)
          (part_of piece left_before left_after faults_before faults_next before held after.reader is.came.left after.number answered_stands, is.came.cause broke)

    -- what a line that was given comes to
    given_turned : (looks : Bool) (left_after held : Option (List ℕ)) (then : ℕ) (turn : Turnout)
        → IsGiven piece looks left_next left_after (outgoing mid.pending now troubles) (outgoing after.pending held then) mid after turn
        → TurnedOut piece (source_ends left_before left_after faults_before faults_next) before (sink_turn held troubles then) after.reader (meant_by piece after.pending after.window.items) after.number (Ok turn)
    given_turned looks left_after held then turn (inl is) =
        subst (λ (l : Option (List ℕ)). TurnedOut piece (source_ends left_before l faults_before faults_next) before (sink_turn held troubles then) after.reader (meant_by piece after.pending after.window.items) after.number (Ok turn)) (sym is.1)
        (subst (λ (h : Option (List ℕ)). TurnedOut piece corpus before (sink_turn h troubles then) after.reader (meant_by piece after.pending after.window.items) after.number (Ok turn)) (sym is.2)
        (subst (λ (f : ℕ). TurnedOut piece corpus before (sink_turn now troubles f) after.reader (meant_by piece after.pending after.window.items) after.number (Ok turn)) (sym is.3)
        (taken_turned turn is.0)))
    given_turned looks left_after held then turn (inr is) = answered_turned looks left_after held then turn is is.taken.failed refl

    -- and where memory is wanting for it
    pub given_result : (looks : Bool) (left_after held : Option (List ℕ)) (then : ℕ) (result : Result Turnout OutOfMemory)
        → IfOk result (IsGiven piece looks left_next left_after (outgoing mid.pending now troubles) (outgoing after.pending held then) mid after) → OnErr result ((left_after ≡ left_next) × (held ≡ now) × (then ≡ troubles))
        → TurnedOut piece (source_ends left_before left_after faults_before faults_next) before (sink_turn held troubles then) after.reader (meant_by piece after.pending after.window.items) after.number result
    given_result looks left_after held then (Ok turn) is stays = given_turned looks left_after held then turn is
    given_result looks left_after held then (Err none) is stays =
        subst (λ (l : Option (List ℕ)). InPart piece (source_ends left_before l faults_before faults_next) before held) (sym stays.0)
        (subst (λ (h : Option (List ℕ)). InPart piece corpus before h) (sym stays.1)
        (part_of_next piece left_before left_now left_next faults_before faults_now faults_next before now reading mid.reader (meant_by piece pending window) mid.line.items number s next))

-- the reader goes on behind it
module _ (piece : Doc → List ℕ) (looks : Bool) (left_before left_now : Option (List ℕ)) (out_before out_now : Outgoing) (mid after : Windowed) where
  pub given_going : (turn : Turnout) → IsGiven piece looks left_before left_now out_before out_now mid after turn → turn ≡ Next → IfSome mid.reader.last (λ step. step ≡ End) → IfSome after.reader.last (λ step. step ≡ End)
  given_going Next (inl is) next going = let same = is.0.reader in rw same going
  given_going (Ended status) (inl is) next going = let e : Ended status ≡ Next = next in absurd (cc)
  given_going Unwritten (inl is) next going = absurd is.0
  given_going turn (inr is) next going = let passed = is.passed in rw passed.reading going

  -- and the number of lines rises
  pub given_rises : (turn : Turnout) (number : ℕ) → IsGiven piece looks left_before left_now out_before out_now mid after turn → turn ≡ Next → mid.number ≡ number + 1 → number < after.number
  given_rises Next number (inl is) next counts = let same = is.0.number in omega (arith, same, counts)
  given_rises (Ended status) number (inl is) next counts = let e : Ended status ≡ Next = next in absurd (cc)
  given_rises Unwritten number (inl is) next counts = absurd is.0
  given_rises turn number (inr is) next counts = let risen = is.risen in omega (arith, risen, counts)

  pub going_result : (result : Result Turnout OutOfMemory) → IfOk result (IsGiven piece looks left_before left_now out_before out_now mid after) → IfSome mid.reader.last (λ step. step ≡ End)
      → IfOk result (λ came. came ≡ Next → IfSome after.reader.last (λ step. step ≡ End))
  going_result (Ok turn) is going = λ next. given_going turn is next going
  going_result (Err none) is going = tt

  pub rises_result : (result : Result Turnout OutOfMemory) (number : ℕ) → IfOk result (IsGiven piece looks left_before left_now out_before out_now mid after) → mid.number ≡ number + 1
      → IfOk result (λ came. came ≡ Next → number < after.number)
  rises_result (Ok turn) number is counts = λ next. given_rises turn number is next counts
  rises_result (Err none) number is counts = tt
