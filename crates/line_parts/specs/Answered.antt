-- Lines of the corpus that are answered: read, and written for.
use Rattle.std.specs.Prelude.{◌≡◌, ℕ, ◌≤◌, true, false, List, [], ◌∷◌, ◌++◌, length, All, Option}
use Rattle.std.specs.List.{flat_map}
use Rattle.std.specs.Io.KnownBytes.{Appends}
use Rattle.aql_io.specs.Causes.{Rose}
use Rattle.span_token.specs.Documents.{Doc}
use Rattle.corpus_json.specs.Documents.{documents, is_bad_line}
use Rattle.corpus_json.specs.Lines.{joined, HasNoLf}
use Rattle.line_parts.specs.declared.desk.Answered.{Answered}
use Rattle.line_sight.specs.Seen.{Shown, StandsAt}

-- none of the lines is bad
abbrev pub AreGood : List (List ℕ) → Type 0
AreGood lines = All (λ line. is_bad_line line ≡ false) lines

-- what is written for the documents of lines, one piece for each
abbrev pub answer_to : (Doc → List ℕ) → List (List ℕ) → List ℕ
answer_to piece lines = flat_map piece (documents lines)

-- the bytes are so many lines, each with its LF and none of them bad, and the text is what is written for them
pub record AreAnswered (piece : Doc → List ℕ) (bytes : List ℕ) (count : ℕ) (text : List ℕ) : Type 0 where
  pub lines : List (List ℕ)
  pub whole : bytes ≡ joined lines
  pub no_lf : All HasNoLf lines
  pub good : AreGood lines
  pub counted : count ≡ length lines
  pub written : text ≡ answer_to piece lines

-- the first line isn't bad, and what is written for it, and for lines that stand at the beginning of what is seen behind it,
-- is put behind what was there
pub record IsAnswered (piece : Doc → List ℕ) (first : List ℕ) (shown : Shown) (taken : Answered) (before after : List ℕ) : Type 0 where
  pub good : is_bad_line first ≡ false
  pub within : taken.bytes ≤ shown.most
  pub few : taken.lines ≤ taken.bytes
  pub bytes : List ℕ
  pub there : StandsAt shown 0 taken.bytes bytes
  pub text : List ℕ
  pub answered : AreAnswered piece bytes taken.lines text
  pub put : after ≡ (before ++ answer_to piece (first ∷ [])) ++ text

-- what is pending, and a sink: the bytes that it holds, where they are told, and its count of faults
pub record Outgoing : Type 0 where
  pub pending : List ℕ
  pub held : Option (List ℕ)
  pub faults : ℕ

abbrev pub outgoing : List ℕ → Option (List ℕ) → ℕ → Outgoing
outgoing pending held faults = record { pending = pending; held = held; faults = faults }

-- what is written for the first line and for lines behind it went to the sink, behind what was pending; what is left of it is pending,
-- and no write failed, or one failed
pub record CameTo (piece : Doc → List ℕ) (first : List ℕ) (shown : Shown) (taken : Answered) (before now : Outgoing) : Type 0 where
  pub sent : List ℕ
  pub left : List ℕ
  pub gained : Appends before.held now.held sent
  pub answered : IsAnswered piece first shown taken before.pending (sent ++ left)
  pub kept : taken.failed ≡ false → (left ≡ now.pending) × (now.faults ≡ before.faults)
  pub cause : taken.failed ≡ true → Rose before.faults now.faults
