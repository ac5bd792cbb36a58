-- What one more call of the reader of lines does to the lines that a run looked at.
use Rattle.std.proofs.Common.{◌≡◌, ◌≢◌, ℕ, ◌+◌, ◌<◌, Bool, true, false, List, [], ◌∷◌, ◌++◌, length, All, ap, sym, ◌∙◌, refl, append_assoc, arith, length-append, Option, Some, None, inl, inr, is_some}
use Rattle.std.proofs.lemmas.List.{append-nil}
use Rattle.std.proofs.lemmas.List.Elements.{All-append, All-cons, All-nil}
use Rattle.std.proofs.lemmas.Grind.{flat_map-append}
use Rattle.std.specs.Io.KnownBytes.{Consumes, IsAtEnd}
use Rattle.aql_io.specs.Causes.{Rose}
use Rattle.corpus_json.specs.Limits.{line_limit, corpus_limit}
use Rattle.corpus_json.specs.declared.step.Step.{Step}
use Rattle.corpus_json.specs.declared.step.Step.TheVariants.{Line, End, Long, Failed, Limit}
use Rattle.corpus_json.specs.Lines.{lines_of, joined, last_line, HasNoLf}
use Rattle.corpus_json.specs.Reading.{Reading, NextLine, EndsAtLf, EndsAtEnd, IsUnended}
use Rattle.corpus_json.specs.LineLaws.{lines_of-joined, lines_of-rest, last_line-ended, last_line-open, lines_of-too_long}
use Rattle.aqlx_top.specs.Progress.{IsReadTo}
use Rattle.aqlx_top.specs.Taken.{How, at_end, failed, at_limit, left_off, is_at_end}

-- one more line, joined to the others
joined-push : (lines : List (List ℕ)) (line : List ℕ) → joined (lines ++ line ∷ []) ≡ joined lines ++ (line ++ 10 ∷ [])
joined-push lines line =
    flat_map-append (λ (each : List ℕ). each ++ 10 ∷ []) lines (line ∷ []) ∙ ap (λ (bs : List ℕ). joined lines ++ bs) (append-nil (line ++ 10 ∷ []))

-- what is taken with the next bytes
more_given : (given ready more : List ℕ) (lines : List (List ℕ)) → given ≡ joined lines ++ ready → given ++ more ≡ joined lines ++ (ready ++ more)
more_given given ready more lines split = ap (λ (bs : List ℕ). bs ++ more) split ∙ append_assoc (joined lines) ready more

-- the lines of joined lines and a rest without LF
lines_with : (ended : Bool) (lines : List (List ℕ)) (rest : List ℕ) → All HasNoLf lines → HasNoLf rest → lines_of ended (joined lines ++ rest) ≡ lines ++ last_line ended rest
lines_with ended lines rest whole no_lf = lines_of-joined ended lines rest whole ∙ ap (λ (ls : List (List ℕ)). lines ++ ls) (lines_of-rest ended rest no_lf)

-- how many bytes were taken with the next ones
count_given : (given more : List ℕ) (before now : ℕ) → before ≡ length given → now ≡ before + length more → length (given ++ more) ≡ now
count_given given more before now counted next = let e = length-append given more in omega arith

-- after an LF
after_lf : (left : Option (List ℕ)) (given ready more line : List ℕ) (lines : List (List ℕ)) (now : Reading)
    → given ≡ joined lines ++ ready → All HasNoLf lines → IsUnended line → EndsAtLf (ready ++ more) line now
    → IsReadTo left (given ++ more) (lines ++ line ∷ []) now
after_lf left given ready more line lines now split whole unended ends =
    let all : given ++ more ≡ joined (lines ++ line ∷ []) ++ now.ready =
    more_given given ready more lines split
    ∙ ap (λ (bs : List ℕ). joined lines ++ bs) (ends.split ∙ sym (append_assoc line (10 ∷ []) now.ready))
    ∙ sym (append_assoc (joined lines) (line ++ 10 ∷ []) now.ready)
    ∙ ap (λ (bs : List ℕ). bs ++ now.ready) (sym (joined-push lines line)) in
    let each : All HasNoLf (lines ++ line ∷ []) = All-append HasNoLf lines (line ∷ []) whole (All-cons HasNoLf line [] unended.no_lf (All-nil HasNoLf)) in
    rw ends.going (all, each)

-- after a last line without LF
after_end : (left : Option (List ℕ)) (given ready more line : List ℕ) (lines : List (List ℕ)) (now : Reading)
    → given ≡ joined lines ++ ready → All HasNoLf lines → IsUnended line → length (given ++ more) ≡ now.taken
    → EndsAtEnd (ready ++ more) line left now
    → IsReadTo left (given ++ more) (lines ++ line ∷ []) now
after_end left given ready more line lines now split whole unended counted ends =
    let some : line ≢ [] = λ none. ends.some (ends.whole ∙ none) in
    let all : lines_of true (given ++ more) ≡ lines ++ line ∷ [] =
    ap (lines_of true) (more_given given ready more lines split ∙ ap (λ (bs : List ℕ). joined lines ++ bs) ends.whole)
    ∙ lines_with true lines line whole unended.no_lf
    ∙ ap (λ (ls : List (List ℕ)). lines ++ ls) (last_line-ended line some) in
    let below : length (given ++ more) < corpus_limit = rw counted ends.below in
    rw (ap (λ (r : Reading). r.last) ends.ended) (refl, all, ends.at_end, below)

-- a line was given
pub line_read : (left_before left_now : Option (List ℕ)) (faults_before faults_now : ℕ) (given line : List ℕ) (lines : List (List ℕ)) (ready : List ℕ) (taken : ℕ) (last : Option Step) (now : Reading)
    → taken ≡ length given
    → IsReadTo left_before given lines (record { ready = ready; taken = taken; last = last })
    → (next : NextLine left_before left_now faults_before faults_now (record { ready = ready; taken = taken; last = last }) now line Line)
    → IsReadTo left_now (given ++ next.more) (lines ++ line ∷ []) now
line_read left_before left_now faults_before faults_now given line lines ready taken None now counted read next =
    elim next.answer.1 [
      | inl ends ↦ after_lf left_now given ready next.more line lines now read.0 read.1 next.answer.0 ends
      | inr ends ↦ after_end left_now given ready next.more line lines now read.0 read.1 next.answer.0 (count_given given next.more taken now.taken counted next.counted) ends
    ]
line_read left_before left_now faults_before faults_now given line lines ready taken (Some last) now counted read next =
    let other : Line ≡ End = next.answer.0 ∙ read.0 in absurd (cc)

-- the lines of what is taken, where it was read to and the next bytes are no line yet
unended_lines : (given ready more : List ℕ) (lines : List (List ℕ)) → given ≡ joined lines ++ ready → All HasNoLf lines → IsUnended (ready ++ more) → lines_of false (given ++ more) ≡ lines
unended_lines given ready more lines split whole unended =
    ap (lines_of false) (more_given given ready more lines split)
    ∙ lines_with false lines (ready ++ more) whole unended.no_lf
    ∙ ap (λ (ls : List (List ℕ)). lines ++ ls) (last_line-open (ready ++ more) unended.short)
    ∙ append-nil lines

-- known bytes at their end stay there
still_at_end : (left_before left_now : Option (List ℕ)) → is_some left_now ≡ is_some left_before → Consumes left_before left_now [] → IsAtEnd left_before → IsAtEnd left_now
still_at_end None None told taken ended = tt
still_at_end None (Some ys) told taken ended = absurd cc
still_at_end (Some xs) None told taken ended = tt
still_at_end (Some xs) (Some ys) told taken ended = sym taken ∙ ended

-- the source is at its end, and all lines were given
pub end_read : (left_before left_now : Option (List ℕ)) (faults_before faults_now : ℕ) (given line : List ℕ) (lines : List (List ℕ)) (ready : List ℕ) (taken : ℕ) (last : Option Step) (now : Reading)
    → taken ≡ length given
    → is_some left_now ≡ is_some left_before
    → IsReadTo left_before given lines (record { ready = ready; taken = taken; last = last })
    → (next : NextLine left_before left_now faults_before faults_now (record { ready = ready; taken = taken; last = last }) now line End)
    → (lines_of true (given ++ next.more) ≡ lines) × IsAtEnd left_now × (length (given ++ next.more) < corpus_limit)
end_read left_before left_now faults_before faults_now given line lines ready taken None now counted told read next =
    let all : lines_of true (given ++ next.more) ≡ lines =
    ap (lines_of true) (more_given given ready next.more lines read.0 ∙ ap (λ (bs : List ℕ). joined lines ++ bs) next.answer.0)
    ∙ lines_with true lines [] read.1 (All-nil _)
    ∙ append-nil lines in
    let many : length (given ++ next.more) ≡ now.taken = count_given given next.more taken now.taken counted next.counted in
    let below : length (given ++ next.more) < corpus_limit = rw many next.answer.2 in
    (all, next.answer.1, below)
end_read left_before left_now faults_before faults_now given line lines ready taken (Some last) now counted told read next =
    let none : given ++ next.more ≡ given = ap (λ (bs : List ℕ). given ++ bs) next.answer.1 ∙ append-nil given in
    let still : Consumes left_before left_now [] = rw (sym next.answer.1) next.consumed in
    (ap (lines_of true) none ∙ read.1, still_at_end left_before left_now told still read.2, rw none read.3)

-- a read failed
pub failed_read : (left_before left_now : Option (List ℕ)) (faults_before faults_now : ℕ) (given line : List ℕ) (lines : List (List ℕ)) (ready : List ℕ) (taken : ℕ) (last : Option Step) (now : Reading)
    → taken ≡ length given
    → IsReadTo left_before given lines (record { ready = ready; taken = taken; last = last })
    → (next : NextLine left_before left_now faults_before faults_now (record { ready = ready; taken = taken; last = last }) now line Failed)
    → (lines_of false (given ++ next.more) ≡ lines) × Rose faults_before faults_now × (length (given ++ next.more) < corpus_limit)
failed_read left_before left_now faults_before faults_now given line lines ready taken None now counted read next =
    let many : length (given ++ next.more) ≡ now.taken = count_given given next.more taken now.taken counted next.counted in
    let below : length (given ++ next.more) < corpus_limit = rw many next.answer.2 in
    (unended_lines given ready next.more lines read.0 read.1 next.answer.0, next.answer.1, below)
failed_read left_before left_now faults_before faults_now given line lines ready taken (Some last) now counted read next =
    let other : Failed ≡ End = next.answer.0 ∙ read.0 in absurd (cc)

-- the corpus has reached its limit
pub limit_read : (left_before left_now : Option (List ℕ)) (faults_before faults_now : ℕ) (given line : List ℕ) (lines : List (List ℕ)) (ready : List ℕ) (taken : ℕ) (last : Option Step) (now : Reading)
    → taken ≡ length given
    → IsReadTo left_before given lines (record { ready = ready; taken = taken; last = last })
    → (next : NextLine left_before left_now faults_before faults_now (record { ready = ready; taken = taken; last = last }) now line Limit)
    → (lines_of false (given ++ next.more) ≡ lines) × (length (given ++ next.more) ≡ corpus_limit)
limit_read left_before left_now faults_before faults_now given line lines ready taken None now counted read next =
    (unended_lines given ready next.more lines read.0 read.1 next.answer.0, count_given given next.more taken now.taken counted next.counted ∙ next.answer.1)
limit_read left_before left_now faults_before faults_now given line lines ready taken (Some last) now counted read next =
    let other : Limit ≡ End = next.answer.0 ∙ read.0 in absurd (cc)

-- the next line is too long
pub long_read : (left_before left_now : Option (List ℕ)) (faults_before faults_now : ℕ) (given line : List ℕ) (lines : List (List ℕ)) (ready : List ℕ) (taken : ℕ) (last : Option Step) (now : Reading)
    → IsReadTo left_before given lines (record { ready = ready; taken = taken; last = last })
    → (next : NextLine left_before left_now faults_before faults_now (record { ready = ready; taken = taken; last = last }) now line Long)
    → (first : List ℕ) × (later : List (List ℕ)) × (lines_of false (given ++ next.more) ≡ lines ++ first ∷ later) × (line_limit < length first)
long_read left_before left_now faults_before faults_now given line lines ready taken None now read next =
    let long = lines_of-too_long false (ready ++ next.more) next.answer.0 in
    let all : lines_of false (given ++ next.more) ≡ lines ++ long.first ∷ long.later =
    ap (lines_of false) (more_given given ready next.more lines read.0)
    ∙ lines_of-joined false lines (ready ++ next.more) read.1
    ∙ ap (λ (ls : List (List ℕ)). lines ++ ls) long.split in
    (long.first, long.later, all, long.long)
long_read left_before left_now faults_before faults_now given line lines ready taken (Some last) now read next =
    let other : Long ≡ End = next.answer.0 ∙ read.0 in absurd (cc)

-- the reading is left off, or at the source's end
pub record IsLeftOff (left : Option (List ℕ)) (given : List ℕ) (how : How) : Type 0 where
  pub ended : how ≡ at_end → IsAtEnd left × (length given < corpus_limit)
  pub broken : ¬ (how ≡ failed)
  pub full : ¬ (how ≡ at_limit)

left_off_is : (left : Option (List ℕ)) (given : List ℕ) → IsLeftOff left given left_off
left_off_is left given = record { ended = λ e. absurd (cc); broken = λ e. cc; full = λ e. cc }

at_end_is : (left : Option (List ℕ)) (given : List ℕ) → IsAtEnd left → length given < corpus_limit → IsLeftOff left given at_end
at_end_is left given ended below = record { ended = λ e. (ended, below); broken = λ e. cc; full = λ e. cc }

-- the lines that were given are the first ones of what was taken, left off or at its end
pub lines_so_far : (left : Option (List ℕ)) (given : List ℕ) (lines : List (List ℕ)) (ready : List ℕ) (taken : ℕ) (last : Option Step)
    → IsReadTo left given lines (record { ready = ready; taken = taken; last = last })
    → (how : How) × (after : List (List ℕ)) × (lines_of (is_at_end how) given ≡ lines ++ after) × IsLeftOff left given how
lines_so_far left given lines ready taken None read =
    (left_off, lines_of false ready, ap (lines_of false) read.0 ∙ lines_of-joined false lines ready read.1, left_off_is left given)
lines_so_far left given lines ready taken (Some last) read =
    (at_end, [], read.1 ∙ sym (append-nil lines), at_end_is left given read.2 read.3)
