-- How the lines of bytes are made up from the lines of their parts.
use Rattle.std.proofs.Common.{◌≡◌, ◌≢◌, ℕ, ◌<◌, ◌≤◌, ◌==◌, Bool, true, false, List, [], ◌∷◌, ◌++◌, length, refl, sym, ap, ◌∙◌, arith, All, append_assoc, length-append}
use Rattle.std.proofs.lemmas.Bool.Decides.{nat_tests}
use Rattle.std.proofs.lemmas.List.Elements.{All-head, All-tail, All-cons, All-nil}
use Rattle.std.specs.Bool.{if◌then◌else◌}
use Rattle.corpus_json.specs.Lines.{Cut, onto, cut, IsNotLf, HasNoLf, last_line, lines_of, joined, BeginsTooLong, FirstIsTooLong}
use Rattle.corpus_json.specs.Limits.{line_limit}

-- a front before what is cut already: it belongs to the first line, or to the rest where there is none
abbrev onto_front : List ℕ → List (List ℕ) → List ℕ → Cut
onto_front front [] rest = record { lines = []; rest = front ++ rest }
onto_front front (line ∷ lines) rest = record { lines = (front ++ line) ∷ lines; rest = rest }

onto_front-nil : (lines : List (List ℕ)) (rest : List ℕ) → onto_front [] lines rest ≡ record { lines = lines; rest = rest }
onto_front-nil [] rest = refl
onto_front-nil (line ∷ lines) rest = refl

onto_front-byte : (byte : ℕ) (front : List ℕ) (lines : List (List ℕ)) (rest : List ℕ)
    → onto byte (onto_front front lines rest).lines (onto_front front lines rest).rest ≡ onto_front (byte ∷ front) lines rest
onto_front-byte byte front [] rest = refl
onto_front-byte byte front (line ∷ lines) rest = refl

-- a byte that is no LF goes on to what is cut already
cut-byte : (byte : ℕ) (bytes : List ℕ) → byte ≢ 10 → cut (byte ∷ bytes) ≡ onto byte (cut bytes).lines (cut bytes).rest
cut-byte byte bytes other =
    let lf : (byte == 10) ≡ false = grind (arith, nat_tests) in
    ap (λ test. if test then record { lines = [] ∷ (cut bytes).lines; rest = (cut bytes).rest } else onto byte (cut bytes).lines (cut bytes).rest) lf

-- an LF ends the line before it
pub cut-line : (line rest : List ℕ) → HasNoLf line → cut (line ++ 10 ∷ rest) ≡ record { lines = line ∷ (cut rest).lines; rest = (cut rest).rest }
cut-line [] rest none = refl
cut-line (byte ∷ line) rest none =
    cut-byte byte (line ++ 10 ∷ rest) (All-head IsNotLf byte line none)
    ∙ ap (λ c. onto byte c.lines c.rest) (cut-line line rest (All-tail IsNotLf byte line none))

-- bytes without an LF are all rest
pub cut-rest : (bytes : List ℕ) → HasNoLf bytes → cut bytes ≡ record { lines = []; rest = bytes }
cut-rest [] none = refl
cut-rest (byte ∷ bytes) none =
    cut-byte byte bytes (All-head IsNotLf byte bytes none)
    ∙ ap (λ c. onto byte c.lines c.rest) (cut-rest bytes (All-tail IsNotLf byte bytes none))

-- a line whose LF is there stands before the lines of what follows
pub lines_of-line : (ended : Bool) (line rest : List ℕ) → HasNoLf line → lines_of ended (line ++ 10 ∷ rest) ≡ line ∷ lines_of ended rest
lines_of-line ended line rest none = ap (λ c. c.lines ++ last_line ended c.rest) (cut-line line rest none)

-- bytes without an LF are one line or none
pub lines_of-rest : (ended : Bool) (bytes : List ℕ) → HasNoLf bytes → lines_of ended bytes ≡ last_line ended bytes
lines_of-rest ended bytes none = ap (λ c. c.lines ++ last_line ended c.rest) (cut-rest bytes none)

-- whole lines stand before the lines of what follows them
pub lines_of-joined : (ended : Bool) (lines : List (List ℕ)) (rest : List ℕ) → All HasNoLf lines → lines_of ended (joined lines ++ rest) ≡ lines ++ lines_of ended rest
lines_of-joined ended [] rest none = refl
lines_of-joined ended (line ∷ lines) rest none =
    let regroup : joined (line ∷ lines) ++ rest ≡ line ++ 10 ∷ (joined lines ++ rest) = simp append_assoc in
    rw regroup (lines_of-line ended line (joined lines ++ rest) (All-head HasNoLf line lines none)
    ∙ ap (λ ls. line ∷ ls) (lines_of-joined ended lines rest (All-tail HasNoLf line lines none)))

-- the rest is a line where bytes stand in it and the source ended with them
pub last_line-ended : (bytes : List ℕ) → bytes ≢ [] → last_line true bytes ≡ bytes ∷ []
last_line-ended [] some = absurd (some refl)
last_line-ended (byte ∷ bytes) some = refl

-- the rest is no line where the source didn't end and the bytes aren't too many for a line
pub last_line-open : (bytes : List ℕ) → length bytes ≤ line_limit → last_line false bytes ≡ []
last_line-open [] short = refl
last_line-open (byte ∷ bytes) short = grind (arith, nat_tests)

-- the rest is a line where its bytes are too many for a line
pub last_line-long : (ended : Bool) (bytes : List ℕ) → line_limit < length bytes → last_line ended bytes ≡ bytes ∷ []
last_line-long ended [] long = absurd (omega arith)
last_line-long true (byte ∷ bytes) long = refl
last_line-long false (byte ∷ bytes) long = grind (arith, nat_tests)

-- bytes without an LF go on to what follows them
cut-front : (front others : List ℕ) → HasNoLf front → cut (front ++ others) ≡ onto_front front (cut others).lines (cut others).rest
cut-front [] others none = sym (onto_front-nil (cut others).lines (cut others).rest)
cut-front (byte ∷ front) others none =
    cut-byte byte (front ++ others) (All-head IsNotLf byte front none)
    ∙ ap (λ c. onto byte c.lines c.rest) (cut-front front others (All-tail IsNotLf byte front none))
    ∙ onto_front-byte byte front (cut others).lines (cut others).rest

too_long_front : (ended : Bool) (front : List ℕ) (lines : List (List ℕ)) (rest : List ℕ) → line_limit < length front
    → FirstIsTooLong ((onto_front front lines rest).lines ++ last_line ended (onto_front front lines rest).rest)
too_long_front ended front [] rest long =
    let longer : line_limit < length (front ++ rest) = simp length-append (omega arith) in
    record { first = front ++ rest; later = []; split = last_line-long ended (front ++ rest) longer; long = longer }
too_long_front ended front (line ∷ lines) rest long =
    record { first = front ++ line; later = lines ++ last_line ended rest; split = refl; long = simp length-append (omega arith) }

-- bytes that begin with too many for a line have a first line, which is too long
pub lines_of-too_long : (ended : Bool) (bytes : List ℕ) → BeginsTooLong bytes → FirstIsTooLong (lines_of ended bytes)
lines_of-too_long ended bytes begins =
    let whole = ap (λ c. c.lines ++ last_line ended c.rest) (cut-front begins.front begins.others begins.no_lf) in
    let at_front = too_long_front ended begins.front (cut begins.others).lines (cut begins.others).rest begins.long in
    record { first = at_front.first; later = at_front.later; split = ap (lines_of ended) begins.split ∙ whole ∙ at_front.split; long = at_front.long }

-- the lines and the rest are the bytes again
joined-onto : (byte : ℕ) (lines : List (List ℕ)) (rest : List ℕ) → joined (onto byte lines rest).lines ++ (onto byte lines rest).rest ≡ byte ∷ (joined lines ++ rest)
joined-onto byte [] rest = refl
joined-onto byte (line ∷ lines) rest = refl

pub joined-cut : (bytes : List ℕ) → joined (cut bytes).lines ++ (cut bytes).rest ≡ bytes
joined-cut [] = refl
joined-cut (byte ∷ bytes) =
    elim (byte == 10) as (λ test. (byte == 10) ≡ test → joined (if test then record { lines = [] ∷ (cut bytes).lines; rest = (cut bytes).rest } else onto byte (cut bytes).lines (cut bytes).rest).lines ++ (if test then record { lines = [] ∷ (cut bytes).lines; rest = (cut bytes).rest } else onto byte (cut bytes).lines (cut bytes).rest).rest ≡ byte ∷ bytes) [
      | true ↦ λ is. let same : byte ≡ 10 = grind (arith, nat_tests) in cc (joined-cut bytes)
      | false ↦ λ is. joined-onto byte (cut bytes).lines (cut bytes).rest ∙ ap (λ bs. byte ∷ bs) (joined-cut bytes)
    ] refl

-- no line has an LF, and nor has the rest
onto-no_lf : (byte : ℕ) (lines : List (List ℕ)) (rest : List ℕ) → byte ≢ 10 → All HasNoLf lines → HasNoLf rest → All HasNoLf (onto byte lines rest).lines × HasNoLf (onto byte lines rest).rest
onto-no_lf byte [] rest other lines_none rest_none = (lines_none, All-cons IsNotLf byte rest other rest_none)
onto-no_lf byte (line ∷ lines) rest other lines_none rest_none =
    (All-cons HasNoLf (byte ∷ line) lines (All-cons IsNotLf byte line other (All-head HasNoLf line lines lines_none)) (All-tail HasNoLf line lines lines_none), rest_none)

pub cut-no_lf : (bytes : List ℕ) → All HasNoLf (cut bytes).lines × HasNoLf (cut bytes).rest
cut-no_lf [] = (All-nil HasNoLf, All-nil IsNotLf)
cut-no_lf (byte ∷ bytes) =
    elim (byte == 10) as (λ test. (byte == 10) ≡ test → All HasNoLf (if test then record { lines = [] ∷ (cut bytes).lines; rest = (cut bytes).rest } else onto byte (cut bytes).lines (cut bytes).rest).lines × HasNoLf (if test then record { lines = [] ∷ (cut bytes).lines; rest = (cut bytes).rest } else onto byte (cut bytes).lines (cut bytes).rest).rest) [
      | true ↦ λ is. (All-cons HasNoLf [] (cut bytes).lines (All-nil IsNotLf) (cut-no_lf bytes).0, (cut-no_lf bytes).1)
      | false ↦ λ is. let other : byte ≢ 10 = grind (arith, nat_tests) in onto-no_lf byte (cut bytes).lines (cut bytes).rest other (cut-no_lf bytes).0 (cut-no_lf bytes).1
    ] refl
