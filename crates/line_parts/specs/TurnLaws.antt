-- What a turn came to, and more of it: a part more, and what is pending written.
use Rattle.std.proofs.Common.{◌≡◌, ◌++◌, ◌+◌, ◌∷◌, ◌∙◌, ℕ, Bool, List, [], Option, true, false, true≢false, take, drop, ap, sym, refl, append_assoc, append-nil, take-append-drop, subst}
use Rattle.std.specs.Io.KnownBytes.{Appends}
use Rattle.aql_io.specs.Causes.{Rose}
use Rattle.span_token.specs.Documents.{Doc}
use Rattle.line_sight.specs.Seen.{Shown}
use Rattle.line_parts.specs.Answered.{CameTo, IsAnswered, Outgoing, outgoing, answer_to}
use Rattle.line_parts.specs.Turns.{IsPart}
use Rattle.line_parts.specs.declared.desk.Answered.{Answered}
use Rattle.line_parts.specs.declared.turn.Part.{Part}
use Rattle.line_parts.specs.PartLaws.{longer}
use Rattle.line_parts.specs.SinkLaws.{appends_more, appends_nothing}

-- no write failed, so what is left is pending
never : {A : Type 0} → (b : Bool) → b ≡ false → b ≡ true → A
never b off on = absurd (true≢false (sym on ∙ off))

module _ (piece : Doc → List ℕ) (first : List ℕ) (shown : Shown) where
  -- a part more
  pub came-longer : (begin : Outgoing) (pending after : List ℕ) (held : Option (List ℕ)) (faults : ℕ) (taken next : Answered) (part : Part)
      → taken.failed ≡ false → next.failed ≡ false → part.from ≡ taken.bytes → next.bytes ≡ part.to → next.lines ≡ taken.lines + part.count → after ≡ pending ++ part.text.items
      → IsPart piece shown part → CameTo piece first shown taken begin (outgoing pending held faults) → CameTo piece first shown next begin (outgoing after held faults)
  came-longer begin pending after held faults taken next part unfailed still from ends counts put is came =
      let kept = came.kept unfailed in
      record {
        sent = came.sent;
        left = after;
        gained = came.gained;
        answered = longer piece first shown begin.pending (came.sent ++ came.left) (came.sent ++ after) taken next part from ends counts
            (ap (λ (l : List ℕ). came.sent ++ l) put ∙ sym (append_assoc came.sent pending part.text.items) ∙ ap (λ (l : List ℕ). (came.sent ++ l) ++ part.text.items) (sym kept.0))
            came.answered is;
        kept = λ still. (refl, kept.1);
        cause = λ broke. never next.failed still broke;
      }

  -- what is pending is written
  pub came-sent : (begin : Outgoing) (pending : List ℕ) (held now : Option (List ℕ)) (faults then : ℕ) (taken : Answered)
      → taken.failed ≡ false → Appends held now pending → then ≡ faults
      → CameTo piece first shown taken begin (outgoing pending held faults) → CameTo piece first shown taken begin (outgoing [] now then)
  came-sent begin pending held now faults then taken unfailed wrote same came =
      let kept = came.kept unfailed in
      record {
        sent = came.sent ++ pending;
        left = [];
        gained = appends_more begin.held held now came.sent pending came.gained wrote;
        answered = subst (IsAnswered piece first shown taken begin.pending) (ap (λ (l : List ℕ). came.sent ++ l) kept.0 ∙ sym (append-nil (came.sent ++ pending))) came.answered;
        kept = λ still. (refl, same ∙ kept.1);
        cause = λ broke. never taken.failed unfailed broke;
      }

  -- a write failed: a front of it is written
  pub came-failed : (begin : Outgoing) (pending : List ℕ) (held now : Option (List ℕ)) (faults then n : ℕ) (taken next : Answered)
      → taken.failed ≡ false → next.failed ≡ true → next.bytes ≡ taken.bytes → next.lines ≡ taken.lines → Appends held now (take n pending) → Rose faults then
      → CameTo piece first shown taken begin (outgoing pending held faults) → CameTo piece first shown next begin (outgoing pending now then)
  came-failed begin pending held now faults then n taken next unfailed failed bytes lines wrote rose came =
      let kept = came.kept unfailed in
      let is = came.answered in
      record {
        sent = came.sent ++ take n pending;
        left = drop n pending;
        gained = appends_more begin.held held now came.sent (take n pending) came.gained wrote;
        answered = subst (IsAnswered piece first shown next begin.pending)
            (ap (λ (l : List ℕ). came.sent ++ l) (kept.0 ∙ sym (take-append-drop n pending)) ∙ sym (append_assoc came.sent (take n pending) (drop n pending)))
            (record {
              good = is.good;
              within = rw bytes is.within;
              few = rw (bytes, lines) is.few;
              bytes = is.bytes;
              there = rw bytes is.there;
              text = is.text;
              answered = rw lines is.answered;
              put = is.put;
            });
        kept = λ still. never next.failed still failed;
        cause = λ broke. subst (λ (f : ℕ). Rose f then) kept.1 rose;
      }

-- what a turn began with
pub came-begun : (piece : Doc → List ℕ) (first : List ℕ) (shown : Shown) (begin now : Outgoing) (taken : Answered) → IsAnswered piece first shown taken begin.pending now.pending
    → taken.failed ≡ false → now.held ≡ begin.held → now.faults ≡ begin.faults → CameTo piece first shown taken begin now
came-begun piece first shown begin now taken is unfailed held faults = record {
  sent = [];
  left = now.pending;
  gained = rw held (appends_nothing begin.held);
  answered = is;
  kept = λ still. (refl, faults);
  cause = λ broke. never taken.failed unfailed broke;
}
