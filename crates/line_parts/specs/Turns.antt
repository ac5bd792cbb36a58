-- One turn, and its parts.
use Rattle.std.specs.Prelude.{◌≡◌, ℕ, ◌+◌, ◌≤◌, true, false, List, [], ◌∷◌, ◌++◌, All}
use Rattle.span_token.specs.Documents.{Doc}
use Rattle.corpus_json.specs.Documents.{is_bad_line}
use Rattle.line_sight.specs.Seen.{Shown, StandsAt}
use Rattle.line_parts.specs.declared.desk.First.{First}
use Rattle.line_parts.specs.declared.desk.First.TheVariants.{Unknown, Bad, Good}
use Rattle.line_parts.specs.declared.desk.Answered.{Answered}
use Rattle.line_parts.specs.declared.turn.Part.{Part}
use Rattle.line_parts.specs.Answered.{AreAnswered, CameTo, Outgoing}

-- the part is what is written for lines that stand there
pub record IsPart (piece : Doc → List ℕ) (shown : Shown) (part : Part) : Type 0 where
  pub within : part.to ≤ shown.most
  pub few : part.from + part.count ≤ part.to
  pub bytes : List ℕ
  pub there : StandsAt shown part.from part.to bytes
  pub answered : AreAnswered piece bytes part.count part.text.items

-- no line is answered yet
abbrev pub none_taken : Answered
none_taken = record { bytes = 0; lines = 0; failed = false }

-- wherever a turn began, it goes on from one state to another
abbrev pub GoesOn : (Doc → List ℕ) → List ℕ → Shown → Answered → Outgoing → Answered → Outgoing → Type 0
GoesOn piece first shown taken out next after = (begin : Outgoing) → CameTo piece first shown taken begin out → CameTo piece first shown next begin after

-- what came of a turn: nothing is written, where memory was wanting for its first line; nothing at all, where that is bad; else what it came to
pub record HasStood (piece : Doc → List ℕ) (first : List ℕ) (shown : Shown) (came : First) (taken : Answered) (begin now : Outgoing) : Type 0 where
  pub unknown : came ≡ Unknown → (now.held ≡ begin.held) × (now.faults ≡ begin.faults)
  pub bad : came ≡ Bad → (is_bad_line first ≡ true) × (now ≡ begin)
  pub good : came ≡ Good → CameTo piece first shown taken begin now
