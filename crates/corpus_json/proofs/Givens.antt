-- What a run of a reader's calls gave, after one more answer.
use Rattle.std.proofs.Common.{◌≡◌, ℕ, ◌<◌, ◌≤◌, inl, inr, Bool, true, false, List, [], ◌∷◌, ◌++◌, length, Option, Some, None, is_some, MatchOption, refl, sym, ap, ◌∙◌, subst, arith, append_assoc, append-nil, length-append}
use Rattle.std.proofs.lemmas.List.Elements.{All-nil, All-push}
use Rattle.std.proofs.KnownBytes.{Consumes-nil, Consumes-trans}
use Rattle.std.specs.Io.KnownBytes.{Consumes, IsAtEnd}
use Rattle.corpus_json.specs.declared.step.Step.{Step}
use Rattle.corpus_json.specs.declared.step.Step.TheVariants.{Line, End, Long, Failed, Limit}
use Rattle.corpus_json.specs.Limits.{corpus_limit}
use Rattle.corpus_json.specs.Lines.{HasNoLf, lines_of, joined}
use Rattle.corpus_json.specs.Reading.{Reading, settled, IsUnended, IsAnswer, NextLine}
use Rattle.corpus_json.specs.Given.{IsGoing, IsOutcome, HasGiven, lines_after}
use Rattle.corpus_json.specs.LineLaws.{lines_of-rest, lines_of-joined, lines_of-too_long, last_line-ended, last_line-open}

-- bytes that go on after the given lines: their lines are the given ones and those of what is ready and follows
pub lines_of-going : (ended : Bool) (bytes : List ℕ) (lines : List (List ℕ)) (ready more : List ℕ) → IsGoing bytes lines ready
    → lines_of ended (bytes ++ more) ≡ lines ++ lines_of ended (ready ++ more)
lines_of-going ended bytes lines ready more going =
    ap (λ whole. lines_of ended (whole ++ more)) going.whole
    ∙ ap (lines_of ended) (append_assoc (joined lines) ready more)
    ∙ lines_of-joined ended lines (ready ++ more) going.no_lf

joined-push : (lines : List (List ℕ)) (line : List ℕ) → joined (lines ++ line ∷ []) ≡ joined lines ++ (line ++ 10 ∷ [])
joined-push [] line = append-nil (line ++ 10 ∷ [])
joined-push (first ∷ lines) line = ap (λ rest. (first ++ 10 ∷ []) ++ rest) (joined-push lines line) ∙ sym (append_assoc (first ++ 10 ∷ []) (joined lines) (line ++ 10 ∷ []))

-- one more line with its LF
going-line : (bytes more : List ℕ) (lines : List (List ℕ)) (line ready rest : List ℕ) → IsGoing bytes lines ready → HasNoLf line
    → ready ++ more ≡ line ++ 10 ∷ rest → IsGoing (bytes ++ more) (lines ++ line ∷ []) rest
going-line bytes more lines line ready rest going no_lf split =
    record {
      whole = ap (λ whole. whole ++ more) going.whole ∙ append_assoc (joined lines) ready more ∙ ap (λ tail. joined lines ++ tail) split
          ∙ ap (λ tail. joined lines ++ tail) (sym (append_assoc line (10 ∷ []) rest))
          ∙ sym (append_assoc (joined lines) (line ++ 10 ∷ []) rest) ∙ ap (λ whole. whole ++ rest) (sym (joined-push lines line));
      no_lf = All-push HasNoLf lines line going.no_lf no_lf;
    }

-- bytes without an LF, and no more than a line may have, show no line while the source hasn't ended
lines_of-unended : (bytes : List ℕ) → IsUnended bytes → lines_of false bytes ≡ []
lines_of-unended bytes unended = lines_of-rest false bytes unended.no_lf ∙ last_line-open bytes unended.short

-- what the bytes of a run show after one more answer of a reading that didn't stand still
module _ (left_now : Option (List ℕ)) (faults_first faults_before faults_now : ℕ) (later_first : faults_first ≤ faults_before) (later : faults_before ≤ faults_now)
    (bytes more : List ℕ) (lines : List (List ℕ)) (ready : List ℕ) (going : IsGoing bytes lines ready) (now : Reading) (counted : now.taken ≡ length (bytes ++ more)) where
  abbrev So : List (List ℕ) → Option Step → Type 0
  So after last = MatchOption last (IsGoing (bytes ++ more) after now.ready) (IsOutcome (bytes ++ more) after left_now faults_first faults_now)

  -- the answer that stays says what comes out
  comes_out : (after : List (List ℕ)) (step : Step) → now ≡ settled now.taken step → IsOutcome (bytes ++ more) after left_now faults_first faults_now step → So after now.last
  comes_out after step is outcome = subst (So after) (sym (ap (λ (r : Reading). r.last) is)) outcome

  shows : (line : List ℕ) (step : Step) → IsAnswer (ready ++ more) line left_now faults_before faults_now now step → So (lines_after lines line step) now.last
  shows line Line answer =
      elim answer.1 [
        | inl at_lf ↦ subst (So (lines ++ line ∷ [])) (sym at_lf.going) (going-line bytes more lines line ready now.ready going answer.0.no_lf at_lf.split)
        | inr at_end ↦
            let last : lines_of true (ready ++ more) ≡ line ∷ [] =
            lines_of-rest true (ready ++ more) (subst HasNoLf (sym at_end.whole) answer.0.no_lf) ∙ last_line-ended (ready ++ more) at_end.some ∙ ap (λ whole. whole ∷ []) at_end.whole in
            comes_out (lines ++ line ∷ []) End at_end.ended
            (lines_of-going true bytes lines ready more going ∙ ap (λ tail. lines ++ tail) last, at_end.at_end, subst (λ n. n < corpus_limit) counted at_end.below)
      ]
  shows line End answer =
      comes_out lines End answer.3
      (lines_of-going true bytes lines ready more going ∙ ap (λ tail. lines ++ lines_of true tail) answer.0 ∙ append-nil lines, answer.1, subst (λ n. n < corpus_limit) counted answer.2)
  shows line Long answer =
      comes_out lines Long answer.1
      (λ ended. record { others = lines_of ended (ready ++ more); split = lines_of-going ended bytes lines ready more going; first = lines_of-too_long ended (ready ++ more) answer.0 })
  shows line Failed answer =
      comes_out lines Failed answer.3 (
        lines_of-going false bytes lines ready more going ∙ ap (λ tail. lines ++ tail) (lines_of-unended (ready ++ more) answer.0) ∙ append-nil lines,
        omega (arith, answer.1),
        subst (λ n. n < corpus_limit) counted answer.2,
      )
  shows line Limit answer =
      comes_out lines Limit answer.2 (
        lines_of-going false bytes lines ready more going ∙ ap (λ tail. lines ++ tail) (lines_of-unended (ready ++ more) answer.0) ∙ append-nil lines,
        sym counted ∙ answer.1,
      )

-- a source that gave nothing more is at its end where it was
still_at_end : (left_before left_now : Option (List ℕ)) → is_some left_now ≡ is_some left_before → Consumes left_before left_now [] → IsAtEnd left_before → IsAtEnd left_now
still_at_end None None told consumed at_end = tt
still_at_end None (Some now) told consumed at_end = cc
still_at_end (Some before) None told consumed at_end = absurd consumed
still_at_end (Some before) (Some now) told consumed at_end = sym consumed ∙ at_end

-- the answer that stays says the same after a call that took nothing
stays : (left_before left_now : Option (List ℕ)) (faults_first faults_before faults_now : ℕ) (bytes : List ℕ) (lines : List (List ℕ)) (line : List ℕ) (last : Step)
    → is_some left_now ≡ is_some left_before
    → Consumes left_before left_now []
    → faults_before ≤ faults_now
    → IsOutcome bytes lines left_before faults_first faults_before last
    → IsOutcome bytes (lines_after lines line last) left_now faults_first faults_now last
stays left_before left_now faults_first faults_before faults_now bytes lines line Line told consumed later outcome = outcome
stays left_before left_now faults_first faults_before faults_now bytes lines line End told consumed later outcome =
    (outcome.0, still_at_end left_before left_now told consumed outcome.1, outcome.2)
stays left_before left_now faults_first faults_before faults_now bytes lines line Long told consumed later outcome = outcome
stays left_before left_now faults_first faults_before faults_now bytes lines line Failed told consumed later outcome =
    (outcome.0, omega (arith, outcome.1), outcome.2)
stays left_before left_now faults_first faults_before faults_now bytes lines line Limit told consumed later outcome = outcome

-- at first nothing is given
pub given-first : (left : Option (List ℕ)) (faults : ℕ) → HasGiven left left faults faults record { ready = []; taken = 0; last = None } []
given-first left faults = record {
  bytes = [];
  consumed = Consumes-nil left;
  counted = refl;
  later = omega arith;
  stands = λ _. refl;
  once = omega arith;
  so_far = record { whole = refl; no_lf = All-nil HasNoLf };
}

-- after a failed read every answer says so
failed_stays : (bytes line : List ℕ) (left : Option (List ℕ)) (before faults : ℕ) (now : Reading) (step : Step) → IsAnswer bytes line left before faults now step
    → step ≡ Failed → now.last ≡ Some Failed
failed_stays bytes line left before faults now Line answer is = absurd (cc)
failed_stays bytes line left before faults now End answer is = absurd (cc)
failed_stays bytes line left before faults now Long answer is = absurd (cc)
failed_stays bytes line left before faults now Failed answer is = ap (λ (r : Reading). r.last) answer.3
failed_stays bytes line left before faults now Limit answer is = absurd (cc)

-- one more answer of the reader
pub given-next : (left_first left_before left_now : Option (List ℕ)) (faults_first faults_before faults_now : ℕ) (before now : Reading) (lines : List (List ℕ)) (line : List ℕ) (step : Step)
    → is_some left_now ≡ is_some left_before
    → faults_before ≤ faults_now
    → HasGiven left_first left_before faults_first faults_before before lines
    → NextLine left_before left_now faults_before faults_now before now line step
    → HasGiven left_first left_now faults_first faults_now now (lines_after lines line step)
given-next left_first left_before left_now faults_first faults_before faults_now before now lines line step told later given next =
    let counted : now.taken ≡ length (given.bytes ++ next.more) = rw length-append (omega (arith, next.counted, given.counted)) in
    let consumed = Consumes-trans left_first left_before left_now given.bytes next.more given.consumed next.consumed in
    elim before.last as (λ last. MatchOption last (IsGoing given.bytes lines before.ready) (IsOutcome given.bytes lines left_before faults_first faults_before)
    → MatchOption last (IsAnswer (before.ready ++ next.more) line left_now faults_before faults_now now step) (λ last. (step ≡ last) × (next.more ≡ []) × (now ≡ before))
    → last ≡ before.last
    → HasGiven left_first left_now faults_first faults_now now (lines_after lines line step)) [
      | None ↦ λ going answer is.
          let kept : faults_before ≡ faults_first = given.stands (λ failed. let other = is ∙ failed in absurd (cc)) in
          record {
            bytes = given.bytes ++ next.more;
            consumed = consumed;
            counted = counted;
            later = omega (arith, given.later);
            stands = λ other. next.stands (λ failed. other (failed_stays (before.ready ++ next.more) line left_now faults_before faults_now now step answer failed)) ∙ kept;
            once = omega (arith, kept, next.once);
            so_far = shows left_now faults_first faults_before faults_now given.later later given.bytes next.more lines before.ready going now counted line step answer;
          }
      | Some last ↦ λ outcome same is.
          let still : faults_now ≡ faults_before = next.still (λ none. let other = is ∙ none in absurd (cc)) in
          let nothing : Consumes left_before left_now [] = subst (Consumes left_before left_now) same.1 next.consumed in
          let stands = stays left_before left_now faults_first faults_before faults_now given.bytes lines line last told nothing later outcome in
          let So : List (List ℕ) → Option Step → Type 0 = λ after last. MatchOption last (IsGoing given.bytes after now.ready) (IsOutcome given.bytes after left_now faults_first faults_now) in
          record {
            bytes = given.bytes;
            consumed = subst (Consumes left_first left_now) (ap (λ more. given.bytes ++ more) same.1 ∙ append-nil given.bytes) consumed;
            counted = ap (λ (r : Reading). r.taken) same.2 ∙ given.counted;
            later = omega (arith, given.later);
            stands = λ other. still ∙ given.stands (λ failed. other (ap (λ (r : Reading). r.last) same.2 ∙ failed));
            once = omega (arith, still, given.once);
            so_far = subst (λ (s : Step). So (lines_after lines line s) now.last) (sym same.0) (subst (So (lines_after lines line last)) (is ∙ ap (λ (r : Reading). r.last) (sym same.2)) stands);
          }
    ] given.so_far next.answer refl
