-- One turn of a run: a line is looked at, or the run ends.
use Rattle.std.proofs.Common.{◌≡◌, ℕ, ◌+◌, ◌≤◌, true, false, List, [], ◌∷◌, ◌++◌, length, take, drop, ap, ap₂, sym, subst, ◌∙◌, refl, append_assoc, arith, length-append, Option, Some, None, is_some, take-append-drop, Result, Ok, Err, IfSome, OnErr, inl, inr}
use Rattle.std.proofs.lemmas.List.{append-nil}
use Rattle.std.proofs.lemmas.List.Elements.{All-append, All-cons, All-nil}
use Rattle.std.specs.List.{flat_map}
use Rattle.std.proofs.lemmas.Bool.{lt-ltb, le-ltb}
use Rattle.std.specs.Io.KnownBytes.{Appends, Consumes}
use Rattle.std.proofs.KnownBytes.{Consumes-nil}
use Rattle.aql_io.specs.Causes.{Rose}
use Rattle.span_token.specs.Documents.{Doc}
use Rattle.corpus_json.specs.Limits.{line_limit, corpus_limit}
use Rattle.corpus_json.specs.declared.step.Step.{Step}
use Rattle.corpus_json.specs.declared.step.Step.TheVariants.{Line, End, Long, Failed, Limit}
use Rattle.corpus_json.specs.Documents.{is_bad_line}
use Rattle.corpus_json.specs.Lines.{is_too_long}
use Rattle.corpus_json.specs.Lines.{lines_of, joined, cut, last_line, HasNoLf}
use Rattle.corpus_json.specs.Reading.{Reading, NextLine, Took}
use Rattle.corpus_json.specs.LineLaws.{lines_of-joined, joined-cut}
use Rattle.aqlx_top.specs.declared.status.Status.{Status}
use Rattle.aqlx_top.specs.declared.status.Status.TheVariants.{Done, Program, Usage, Corpus, ReadFault, WriteFault}
use Rattle.aqlx_top.specs.declared.status.CorpusFault.TheVariants.{BadLine, LineLong, CorpusLarge}
use Rattle.aqlx_top.specs.Devices.{SourceEnds, SinkEnds, source_ends, IsFlushed, SinkNeverFailed}
use Rattle.aqlx_top.specs.Endings.{InPart, Came, written_for}
use Rattle.aqlx_top.specs.Progress.{Stands, Finished, IsRunTo, IsReadTo}
use Rattle.aqlx_top.specs.Taken.{How, at_end, failed, at_limit, left_off, is_at_end, IsTaken, HasNoBadLine}
use Rattle.line_parts.specs.DocumentLaws.{pieces-append, documents_from_bad}
use Rattle.aqlx_top.proofs.Readings.{IsLeftOff, lines_so_far, line_read, end_read, failed_read, limit_read, long_read}
use Rattle.line_parts.specs.SinkLaws.{appends_more, appends_nothing}

-- two reads in a row
pub consumes_more : (a b c : Option (List ℕ)) (xs ys : List ℕ) → Consumes a b xs → Consumes b c ys → Consumes a c (xs ++ ys)
consumes_more None b c xs ys h k = tt
consumes_more (Some a) None c xs ys h k = absurd h
consumes_more (Some a) (Some b) None xs ys h k = absurd k
consumes_more (Some a) (Some b) (Some c) xs ys h k = h ∙ ap (λ (zs : List ℕ). xs ++ zs) k ∙ sym (append_assoc xs ys c)

-- a count that stood and then rose in a later call rose
pub rose_later : (a b c : ℕ) → b ≡ a → Rose b c → Rose a c
rose_later a b c h k = omega arith

-- a reading that is left off, or at its end, is how a run took what it took
pub taken_so_far : (left_before left_now : Option (List ℕ)) (faults_before faults_now : ℕ) (given : List ℕ) (how : How)
    → Consumes left_before left_now given → IsLeftOff left_now given how
    → IsTaken (source_ends left_before left_now faults_before faults_now) given how
taken_so_far left_before left_now faults_before faults_now given how taken off =
    record { taken = taken; ended = off.ended; broken = λ e. absurd (off.broken e); full = λ e. absurd (off.full e) }

-- what is sent and pending is the beginning of what is meant, where the lines are the first ones
pub prefix_of : (piece : Doc → List ℕ) (sent pending : List ℕ) (lines after all : List (List ℕ)) → HasNoBadLine lines
    → sent ++ pending ≡ written_for piece lines → all ≡ lines ++ after
    → sent ++ (pending ++ written_for piece after) ≡ written_for piece all
prefix_of piece sent pending lines after all good wrote split =
    sym (append_assoc sent pending (written_for piece after))
    ∙ ap (λ (bs : List ℕ). bs ++ written_for piece after) wrote
    ∙ sym (pieces-append piece lines after good)
    ∙ ap (written_for piece) (sym split)

-- where lines were read to, a prefix of what they mean is sent
unfoldable pub part_at : (piece : Doc → List ℕ) (left_before left_now : Option (List ℕ)) (faults_before faults_now : ℕ) (held_before held_now : Option (List ℕ)) (given : List ℕ) (lines more : List (List ℕ)) (reading : Reading) (sent pending : List ℕ)
    → Consumes left_before left_now given → IsReadTo left_now given (lines ++ more) reading → HasNoBadLine lines
    → Appends held_before held_now sent → sent ++ pending ≡ written_for piece lines
    → InPart piece (source_ends left_before left_now faults_before faults_now) held_before held_now
part_at piece left_before left_now faults_before faults_now held_before held_now given lines more reading sent pending taken read good gained wrote =
    let so_far = lines_so_far left_now given (lines ++ more) reading.ready reading.taken reading.last read in
    record {
      given = given;
      how = so_far.0;
      sent = sent;
      rest = pending ++ written_for piece (more ++ so_far.1);
      taken = taken_so_far left_before left_now faults_before faults_now given so_far.0 taken so_far.3;
      gained = gained;
      prefix = prefix_of piece sent pending lines (more ++ so_far.1) _ good wrote (so_far.2 ∙ append_assoc lines more so_far.1);
    }

-- between two lines
pub part_of : (piece : Doc → List ℕ) (left_before left_now : Option (List ℕ)) (faults_before faults_now : ℕ) (held_before held_now : Option (List ℕ)) (reading : Reading) (pending : List ℕ) (number : ℕ)
    → Stands piece (source_ends left_before left_now faults_before faults_now) held_before held_now reading pending number
    → InPart piece (source_ends left_before left_now faults_before faults_now) held_before held_now
part_of piece left_before left_now faults_before faults_now held_before held_now reading pending number s =
    part_at piece left_before left_now faults_before faults_now held_before held_now s.given s.lines [] reading s.sent pending s.taken
    (rw (append-nil s.lines) s.read) s.good s.gained s.wrote

-- what is pending is sent whole
unfoldable pub sent_whole : (piece : Doc → List ℕ) (corpus : SourceEnds) (held_before held_now held_next : Option (List ℕ)) (reading : Reading) (pending : List ℕ) (number : ℕ)
    → Stands piece corpus held_before held_now reading pending number
    → Appends held_now held_next pending
    → Stands piece corpus held_before held_next reading [] number
sent_whole piece corpus held_before held_now held_next reading pending number s h =
    record {
      given = s.given;
      lines = s.lines;
      sent = s.sent ++ pending;
      taken = s.taken;
      unfailed = s.unfailed;
      counted = s.counted;
      within = s.within;
      read = s.read;
      good = s.good;
      gained = appends_more held_before held_now held_next s.sent pending s.gained h;
      wrote = append-nil (s.sent ++ pending) ∙ s.wrote;
      numbered = s.numbered;
    }

-- a front of what is pending is sent, and the rest isn't
pub cut_pending : (sent pending whole : List ℕ) (count : ℕ) → sent ++ pending ≡ whole → (sent ++ take count pending) ++ drop count pending ≡ whole
cut_pending sent pending whole count wrote =
    append_assoc sent (take count pending) (drop count pending) ∙ ap (λ (bs : List ℕ). sent ++ bs) (take-append-drop count pending) ∙ wrote

-- what is pending is sent in part
pub sent_in_part : (piece : Doc → List ℕ) (left_before left_now : Option (List ℕ)) (faults_before faults_now : ℕ) (held_before held_now held_next : Option (List ℕ)) (reading : Reading) (pending : List ℕ) (number count : ℕ)
    → Stands piece (source_ends left_before left_now faults_before faults_now) held_before held_now reading pending number
    → Appends held_now held_next (take count pending)
    → InPart piece (source_ends left_before left_now faults_before faults_now) held_before held_next
sent_in_part piece left_before left_now faults_before faults_now held_before held_now held_next reading pending number count s h =
    part_at piece left_before left_now faults_before faults_now held_before held_next s.given s.lines [] reading (s.sent ++ take count pending) (drop count pending) s.taken
    (rw (append-nil s.lines) s.read) s.good (appends_more held_before held_now held_next s.sent (take count pending) s.gained h)
    (cut_pending s.sent pending (written_for piece s.lines) count s.wrote)

-- a finished run of which what is pending is sent in part
unfoldable pub finished_in_part : (piece : Doc → List ℕ) (corpus : SourceEnds) (held_before held_now held_next : Option (List ℕ)) (pending : List ℕ) (status : Status) (count : ℕ)
    → Finished piece corpus held_before held_now pending status
    → Appends held_now held_next (take count pending)
    → InPart piece corpus held_before held_next
finished_in_part piece corpus held_before held_now held_next pending status count f h =
    record {
      given = f.given;
      how = f.how;
      sent = f.sent ++ take count pending;
      rest = drop count pending;
      taken = f.taken;
      gained = appends_more held_before held_now held_next f.sent (take count pending) f.gained h;
      prefix = cut_pending f.sent pending (written_for piece (lines_of (is_at_end f.how) f.given)) count f.wrote;
    }

-- a finished run of which what is pending is sent whole and flushed
unfoldable pub came_of : (piece : Doc → List ℕ) (corpus : SourceEnds) (out : SinkEnds) (held_now : Option (List ℕ)) (pending : List ℕ) (status : Status)
    → Finished piece corpus out.held_before held_now pending status
    → Appends held_now out.held_after pending → IsFlushed out → SinkNeverFailed out
    → Came piece corpus out status
came_of piece corpus out held_now pending status f h flushed unfailed =
    record {
      given = f.given;
      how = f.how;
      taken = f.taken;
      status_is = f.status_is;
      read = f.read;
      wrote = record {
        gained = subst (λ (bs : List ℕ). Appends out.held_before out.held_after bs) f.wrote (appends_more out.held_before held_now out.held_after f.sent pending f.gained h);
        flushed = flushed;
        unfailed = unfailed;
      };
    }

pub run_to : (piece : Doc → List ℕ) (corpus : SourceEnds) (out : SinkEnds) (held_now : Option (List ℕ)) (pending : List ℕ) (status : Status)
    → Finished piece corpus out.held_before held_now pending status
    → Appends held_now out.held_after pending → IsFlushed out → SinkNeverFailed out
    → IsRunTo piece corpus out status
run_to piece corpus out held_now pending Done f h flushed unfailed = came_of piece corpus out held_now pending Done f h flushed unfailed
run_to piece corpus out held_now pending (Program fault) f h flushed unfailed = came_of piece corpus out held_now pending (Program fault) f h flushed unfailed
run_to piece corpus out held_now pending Usage f h flushed unfailed = came_of piece corpus out held_now pending Usage f h flushed unfailed
run_to piece corpus out held_now pending (Corpus fault) f h flushed unfailed = came_of piece corpus out held_now pending (Corpus fault) f h flushed unfailed
run_to piece corpus out held_now pending ReadFault f h flushed unfailed = came_of piece corpus out held_now pending ReadFault f h flushed unfailed
run_to piece corpus out held_now pending WriteFault f h flushed unfailed = absurd f.status_is

-- nothing is meant by what stands from a bad line on
pub ended_before : (piece : Doc → List ℕ) (sent pending : List ℕ) (lines : List (List ℕ)) (line : List ℕ) (after all : List (List ℕ)) → HasNoBadLine lines
    → is_bad_line line ≡ true → sent ++ pending ≡ written_for piece lines → all ≡ lines ++ line ∷ after
    → sent ++ pending ≡ written_for piece all
ended_before piece sent pending lines line after all good bad wrote split =
    let none : written_for piece (line ∷ after) ≡ [] = ap (flat_map piece) (documents_from_bad line after bad) in
    wrote
    ∙ sym (append-nil (written_for piece lines))
    ∙ ap (λ (bs : List ℕ). written_for piece lines ++ bs) (sym none)
    ∙ sym (pieces-append piece lines (line ∷ after) good)
    ∙ ap (written_for piece) (sym split)

-- a line that isn't bad was looked at, and what is written for it is pending
unfoldable pub next_line_good : (piece : Doc → List ℕ) (left_before left_now left_next : Option (List ℕ)) (faults_before faults_now faults_next : ℕ) (held_before held_now : Option (List ℕ)) (reading next_reading : Reading) (pending gain line : List ℕ) (number next_number : ℕ)
    → Stands piece (source_ends left_before left_now faults_before faults_now) held_before held_now reading pending number
    → NextLine left_now left_next faults_now faults_next reading next_reading line Line
    → next_reading.taken ≤ corpus_limit
    → is_bad_line line ≡ false
    → gain ≡ written_for piece (line ∷ [])
    → next_number ≡ number + 1
    → Stands piece (source_ends left_before left_next faults_before faults_next) held_before held_now next_reading (pending ++ gain) next_number
next_line_good piece left_before left_now left_next faults_before faults_now faults_next held_before held_now reading next_reading pending gain line number next_number s next within good gains counts =
    record {
      within = within;
      given = s.given ++ next.more;
      lines = s.lines ++ line ∷ [];
      sent = s.sent;
      taken = consumes_more left_before left_now left_next s.given next.more s.taken next.consumed;
      unfailed = next.stands (λ e. cc) ∙ s.unfailed;
      counted = let e = length-append s.given next.more in let before = s.counted in let counted = next.counted in omega arith;
      read = line_read left_now left_next faults_now faults_next s.given line s.lines reading.ready reading.taken reading.last next_reading s.counted s.read next;
      good = All-append (λ (each : List ℕ). is_bad_line each ≡ false) s.lines (line ∷ []) s.good (All-cons (λ (each : List ℕ). is_bad_line each ≡ false) line [] good (All-nil (λ (each : List ℕ). is_bad_line each ≡ false)));
      gained = s.gained;
      wrote =
          sym (append_assoc s.sent pending gain)
          ∙ ap₂ (λ (bs cs : List ℕ). bs ++ cs) s.wrote gains
          ∙ sym (pieces-append piece s.lines (line ∷ []) s.good);
      numbered = let e = length-append s.lines (line ∷ []) in let before = s.numbered in counts ∙ (let after : number + 1 ≡ length (s.lines ++ line ∷ []) = omega arith in after);
    }

-- a line was looked at, and memory was wanting for what is written for it
pub part_of_next : (piece : Doc → List ℕ) (left_before left_now left_next : Option (List ℕ)) (faults_before faults_now faults_next : ℕ) (held_before held_now : Option (List ℕ)) (reading next_reading : Reading) (pending line : List ℕ) (number : ℕ)
    → Stands piece (source_ends left_before left_now faults_before faults_now) held_before held_now reading pending number
    → NextLine left_now left_next faults_now faults_next reading next_reading line Line
    → InPart piece (source_ends left_before left_next faults_before faults_next) held_before held_now
part_of_next piece left_before left_now left_next faults_before faults_now faults_next held_before held_now reading next_reading pending line number s next =
    part_at piece left_before left_next faults_before faults_next held_before held_now (s.given ++ next.more) s.lines (line ∷ []) next_reading s.sent pending
    (consumes_more left_before left_now left_next s.given next.more s.taken next.consumed)
    (line_read left_now left_next faults_now faults_next s.given line s.lines reading.ready reading.taken reading.last next_reading s.counted s.read next)
    s.good s.gained s.wrote

-- a bad line was looked at
unfoldable pub ended_bad : (piece : Doc → List ℕ) (left_before left_now left_next : Option (List ℕ)) (faults_before faults_now faults_next : ℕ) (held_before held_now : Option (List ℕ)) (reading next_reading : Reading) (pending line : List ℕ) (number next_number : ℕ)
    → Stands piece (source_ends left_before left_now faults_before faults_now) held_before held_now reading pending number
    → NextLine left_now left_next faults_now faults_next reading next_reading line Line
    → is_bad_line line ≡ true
    → is_too_long line ≡ false
    → next_number ≡ number + 1
    → Finished piece (source_ends left_before left_next faults_before faults_next) held_before held_now pending (Corpus (BadLine next_number))
ended_bad piece left_before left_now left_next faults_before faults_now faults_next held_before held_now reading next_reading pending line number next_number s next bad short counts =
    let read = line_read left_now left_next faults_now faults_next s.given line s.lines reading.ready reading.taken reading.last next_reading s.counted s.read next in
    let so_far = lines_so_far left_next (s.given ++ next.more) (s.lines ++ line ∷ []) next_reading.ready next_reading.taken next_reading.last read in
    let all : lines_of (is_at_end so_far.0) (s.given ++ next.more) ≡ s.lines ++ line ∷ so_far.1 = so_far.2 ∙ append_assoc s.lines (line ∷ []) so_far.1 in
    record {
      given = s.given ++ next.more;
      how = so_far.0;
      sent = s.sent;
      taken = taken_so_far left_before left_next faults_before faults_next (s.given ++ next.more) so_far.0 (consumes_more left_before left_now left_next s.given next.more s.taken next.consumed) so_far.3;
      status_is = record {
        before = s.lines;
        line = line;
        after = so_far.1;
        split = all;
        good = s.good;
        bad = bad;
        reason = short;
        numbered = counts ∙ ap (λ (n : ℕ). n + 1) s.numbered;
      };
      read = λ other. next.stands (λ e. cc) ∙ s.unfailed;
      gained = s.gained;
      wrote = ended_before piece s.sent pending s.lines line so_far.1 (lines_of (is_at_end so_far.0) (s.given ++ next.more)) s.good bad s.wrote all;
    }

-- the next line is too long
unfoldable pub ended_long : (piece : Doc → List ℕ) (left_before left_now left_next : Option (List ℕ)) (faults_before faults_now faults_next : ℕ) (held_before held_now : Option (List ℕ)) (reading next_reading : Reading) (pending line : List ℕ) (number next_number : ℕ)
    → Stands piece (source_ends left_before left_now faults_before faults_now) held_before held_now reading pending number
    → NextLine left_now left_next faults_now faults_next reading next_reading line Long
    → next_number ≡ number + 1
    → Finished piece (source_ends left_before left_next faults_before faults_next) held_before held_now pending (Corpus (LineLong next_number))
ended_long piece left_before left_now left_next faults_before faults_now faults_next held_before held_now reading next_reading pending line number next_number s next counts =
    let long = long_read left_now left_next faults_now faults_next s.given line s.lines reading.ready reading.taken reading.last next_reading s.read next in
    let is_long : is_too_long long.0 ≡ true = lt-ltb line_limit (length long.0) long.3 in
    let bad : is_bad_line long.0 ≡ true = rw is_long refl in
    record {
      given = s.given ++ next.more;
      how = left_off;
      sent = s.sent;
      taken = record {
        taken = consumes_more left_before left_now left_next s.given next.more s.taken next.consumed;
        ended = λ e. absurd (cc);
        broken = λ e. absurd (cc);
        full = λ e. absurd (cc);
      };
      status_is = record {
        before = s.lines;
        line = long.0;
        after = long.1;
        split = long.2;
        good = s.good;
        bad = bad;
        reason = is_long;
        numbered = counts ∙ ap (λ (n : ℕ). n + 1) s.numbered;
      };
      read = λ other. next.stands (λ e. cc) ∙ s.unfailed;
      gained = s.gained;
      wrote = ended_before piece s.sent pending s.lines long.0 long.1 (lines_of false (s.given ++ next.more)) s.good bad s.wrote long.2;
    }

-- the source is at its end
unfoldable pub ended_done : (piece : Doc → List ℕ) (left_before left_now left_next : Option (List ℕ)) (faults_before faults_now faults_next : ℕ) (held_before held_now : Option (List ℕ)) (reading next_reading : Reading) (pending line : List ℕ) (number : ℕ)
    → Stands piece (source_ends left_before left_now faults_before faults_now) held_before held_now reading pending number
    → NextLine left_now left_next faults_now faults_next reading next_reading line End
    → is_some left_next ≡ is_some left_now
    → Finished piece (source_ends left_before left_next faults_before faults_next) held_before held_now pending Done
ended_done piece left_before left_now left_next faults_before faults_now faults_next held_before held_now reading next_reading pending line number s next told =
    let end = end_read left_now left_next faults_now faults_next s.given line s.lines reading.ready reading.taken reading.last next_reading s.counted told s.read next in
    record {
      given = s.given ++ next.more;
      how = at_end;
      sent = s.sent;
      taken = record {
        taken = consumes_more left_before left_now left_next s.given next.more s.taken next.consumed;
        ended = λ e. (end.1, end.2);
        broken = λ e. absurd (cc);
        full = λ e. absurd (cc);
      };
      status_is = (refl, subst HasNoBadLine (sym end.0) s.good);
      read = λ other. next.stands (λ e. cc) ∙ s.unfailed;
      gained = s.gained;
      wrote = s.wrote ∙ ap (written_for piece) (sym end.0);
    }

-- a read failed
unfoldable pub ended_failed : (piece : Doc → List ℕ) (left_before left_now left_next : Option (List ℕ)) (faults_before faults_now faults_next : ℕ) (held_before held_now : Option (List ℕ)) (reading next_reading : Reading) (pending line : List ℕ) (number : ℕ)
    → Stands piece (source_ends left_before left_now faults_before faults_now) held_before held_now reading pending number
    → NextLine left_now left_next faults_now faults_next reading next_reading line Failed
    → Finished piece (source_ends left_before left_next faults_before faults_next) held_before held_now pending ReadFault
ended_failed piece left_before left_now left_next faults_before faults_now faults_next held_before held_now reading next_reading pending line number s next =
    let end = failed_read left_now left_next faults_now faults_next s.given line s.lines reading.ready reading.taken reading.last next_reading s.counted s.read next in
    record {
      given = s.given ++ next.more;
      how = failed;
      sent = s.sent;
      taken = record {
        taken = consumes_more left_before left_now left_next s.given next.more s.taken next.consumed;
        ended = λ e. absurd (cc);
        broken = λ e. (rose_later faults_before faults_now faults_next s.unfailed end.1, end.2);
        full = λ e. absurd (cc);
      };
      status_is = (refl, subst HasNoBadLine (sym end.0) s.good);
      read = λ other. absurd (other refl);
      gained = s.gained;
      wrote = s.wrote ∙ ap (written_for piece) (sym end.0);
    }

-- the corpus has reached its limit
unfoldable pub ended_limit : (piece : Doc → List ℕ) (left_before left_now left_next : Option (List ℕ)) (faults_before faults_now faults_next : ℕ) (held_before held_now : Option (List ℕ)) (reading next_reading : Reading) (pending line : List ℕ) (number : ℕ)
    → Stands piece (source_ends left_before left_now faults_before faults_now) held_before held_now reading pending number
    → NextLine left_now left_next faults_now faults_next reading next_reading line Limit
    → Finished piece (source_ends left_before left_next faults_before faults_next) held_before held_now pending (Corpus CorpusLarge)
ended_limit piece left_before left_now left_next faults_before faults_now faults_next held_before held_now reading next_reading pending line number s next =
    let end = limit_read left_now left_next faults_now faults_next s.given line s.lines reading.ready reading.taken reading.last next_reading s.counted s.read next in
    record {
      given = s.given ++ next.more;
      how = at_limit;
      sent = s.sent;
      taken = record {
        taken = consumes_more left_before left_now left_next s.given next.more s.taken next.consumed;
        ended = λ e. absurd (cc);
        broken = λ e. absurd (cc);
        full = λ e. end.1;
      };
      status_is = (refl, subst HasNoBadLine (sym end.0) s.good);
      read = λ other. next.stands (λ e. cc) ∙ s.unfailed;
      gained = s.gained;
      wrote = s.wrote ∙ ap (written_for piece) (sym end.0);
    }

-- memory was wanting for the next line, of which some bytes were taken
unfoldable pub part_of_taken : (piece : Doc → List ℕ) (left_before left_now left_next : Option (List ℕ)) (faults_before faults_now faults_next : ℕ) (held_before held_now : Option (List ℕ)) (ready : List ℕ) (taken : ℕ) (last : Option Step) (pending : List ℕ) (number : ℕ)
    → Stands piece (source_ends left_before left_now faults_before faults_now) held_before held_now (record { ready = ready; taken = taken; last = last }) pending number
    → last ≡ None
    → Took left_now left_next
    → InPart piece (source_ends left_before left_next faults_before faults_next) held_before held_now
part_of_taken piece left_before left_now left_next faults_before faults_now faults_next held_before held_now ready taken None pending number s going took =
    let all : lines_of false (s.given ++ took.more) ≡ s.lines ++ lines_of false (ready ++ took.more) =
    ap (lines_of false) (ap (λ (bs : List ℕ). bs ++ took.more) s.read.0 ∙ append_assoc (joined s.lines) ready took.more)
    ∙ lines_of-joined false s.lines (ready ++ took.more) s.read.1 in
    record {
      given = s.given ++ took.more;
      how = left_off;
      sent = s.sent;
      rest = pending ++ written_for piece (lines_of false (ready ++ took.more));
      taken = record {
        taken = consumes_more left_before left_now left_next s.given took.more s.taken took.consumed;
        ended = λ e. absurd (cc);
        broken = λ e. absurd (cc);
        full = λ e. absurd (cc);
      };
      gained = s.gained;
      prefix = prefix_of piece s.sent pending s.lines (lines_of false (ready ++ took.more)) (lines_of false (s.given ++ took.more)) s.good s.wrote all;
    }
part_of_taken piece left_before left_now left_next faults_before faults_now faults_next held_before held_now ready taken (Some last) pending number s going took = absurd (cc)

-- a call that was refused for want of memory was no call of a reader that stands still
pub going_at_err : {E : Type 0} (P : Type 0) (o : Option Step) (e : E) → IfSome o (λ last. (Err e ≡ Ok last) × P) → o ≡ None
going_at_err P None e lasting = refl
going_at_err P (Some last) e lasting = let other = lasting.0 in absurd (cc)

-- nothing is written for a bad line
pub pending_for_bad : (piece : Doc → List ℕ) (pending after line : List ℕ) → is_bad_line line ≡ true → after ≡ pending ++ written_for piece (line ∷ []) → after ≡ pending
pending_for_bad piece pending after line bad gains =
    gains ∙ ap (λ (bs : List ℕ). pending ++ bs) (ap (flat_map piece) (documents_from_bad line [] bad)) ∙ append-nil pending

-- a line that was given is no longer than a line may be
pub line_is_short : (left_now left_next : Option (List ℕ)) (faults_now faults_next : ℕ) (ready : List ℕ) (taken : ℕ) (last : Option Step) (next_reading : Reading) (line : List ℕ)
    → IfSome last (λ step. step ≡ End)
    → NextLine left_now left_next faults_now faults_next (record { ready = ready; taken = taken; last = last }) next_reading line Line
    → length line ≤ line_limit
line_is_short left_now left_next faults_now faults_next ready taken None next_reading line going next = next.answer.0.short
line_is_short left_now left_next faults_now faults_next ready taken (Some last) next_reading line going next =
    let other : Line ≡ End = next.answer.0 ∙ going in absurd (cc)

-- after a line the reader goes on, or the source is at its end
pub goes_on : (left_now left_next : Option (List ℕ)) (faults_now faults_next : ℕ) (ready : List ℕ) (taken : ℕ) (last : Option Step) (next_reading : Reading) (line : List ℕ)
    → IfSome last (λ step. step ≡ End)
    → NextLine left_now left_next faults_now faults_next (record { ready = ready; taken = taken; last = last }) next_reading line Line
    → IfSome next_reading.last (λ step. step ≡ End)
goes_on left_now left_next faults_now faults_next ready taken None next_reading line going next =
    elim next.answer.1 [
      | inl ends ↦ rw ends.going tt
      | inr ends ↦ rw (ap (λ (r : Reading). r.last) ends.ended) refl
    ]
goes_on left_now left_next faults_now faults_next ready taken (Some last) next_reading line going next =
    let other : Line ≡ End = next.answer.0 ∙ going in absurd (cc)

-- a line that is short is bad just where it is neither blank nor a document
pub short_is : (line : List ℕ) → length line ≤ line_limit → is_too_long line ≡ false
short_is line short = le-ltb line_limit (length line) short

-- at the beginning nothing was taken, looked at, sent or pending
unfoldable pub begins : (piece : Doc → List ℕ) (left held : Option (List ℕ)) (faults : ℕ) → Stands piece (source_ends left left faults faults) held held (record { ready = []; taken = 0; last = None }) [] 0
begins piece left held faults =
    record {
      given = [];
      lines = [];
      sent = [];
      taken = Consumes-nil left;
      unfailed = refl;
      counted = refl;
      within = omega arith;
      read = (refl, All-nil HasNoLf);
      good = All-nil (λ (line : List ℕ). is_bad_line line ≡ false);
      gained = appends_nothing held;
      wrote = refl;
      numbered = refl;
    }

-- each line that was looked at has a byte at least
pub joined_long : (lines : List (List ℕ)) → length lines ≤ length (joined lines)
joined_long [] = omega arith
joined_long (line ∷ lines) =
    let more = joined_long lines in
    let e = length-append (line ++ 10 ∷ []) (joined lines) in
    let f = length-append line (10 ∷ []) in
    omega arith

last_line_long : (rest : List ℕ) → length (last_line true rest) ≤ length rest
last_line_long [] = omega arith
last_line_long (byte ∷ rest) = omega arith

lines_long : (bytes : List ℕ) → length (lines_of true bytes) ≤ length bytes
lines_long bytes =
    let a = joined_long (cut bytes).lines in
    let b = last_line_long (cut bytes).rest in
    let e = length-append (cut bytes).lines (last_line true (cut bytes).rest) in
    let f = length-append (joined (cut bytes).lines) (cut bytes).rest in
    let g = ap length (joined-cut bytes) in
    omega arith

count_read : (left : Option (List ℕ)) (given : List ℕ) (lines : List (List ℕ)) (ready : List ℕ) (taken : ℕ) (last : Option Step)
    → IsReadTo left given lines (record { ready = ready; taken = taken; last = last }) → length lines ≤ length given
count_read left given lines ready taken None read =
    let a = joined_long lines in
    let e = length-append (joined lines) ready in
    let f = ap length read.0 in
    omega arith
count_read left given lines ready taken (Some last) read =
    let a = lines_long given in
    let e = ap (λ (ls : List (List ℕ)). length ls) read.1 in
    omega arith

-- no more lines were looked at than bytes may be taken
pub number_within : (piece : Doc → List ℕ) (left_before left_now : Option (List ℕ)) (faults_before faults_now : ℕ) (held_before held_now : Option (List ℕ)) (reading : Reading) (pending : List ℕ) (number : ℕ)
    → Stands piece (source_ends left_before left_now faults_before faults_now) held_before held_now reading pending number
    → number ≤ corpus_limit
number_within piece left_before left_now faults_before faults_now held_before held_now reading pending number s =
    let a = count_read left_now s.given s.lines reading.ready reading.taken reading.last s.read in
    let b = s.counted in
    let d = s.within in
    let e = s.numbered in
    omega arith

-- a fact holds at an error too
pub at_err : {T E : Type 0} (P : Type 0) (r : Result T E) → P → OnErr r P
at_err P (Ok x) p = tt
at_err P (Err e) p = p

-- how a run stands and is finished, for a piece that is written alike
pub stands_alike : (piece other : Doc → List ℕ) (corpus : SourceEnds) (before now : Option (List ℕ)) (reading : Reading) (pending : List ℕ) (number : ℕ) → other ≡ piece
    → Stands other corpus before now reading pending number → Stands piece corpus before now reading pending number
stands_alike piece other corpus before now reading pending number same stands = subst (λ (p : Doc → List ℕ). Stands p corpus before now reading pending number) same stands

pub finished_alike : (piece other : Doc → List ℕ) (corpus : SourceEnds) (before now : Option (List ℕ)) (pending : List ℕ) (status : Status) → other ≡ piece
    → Finished other corpus before now pending status → Finished piece corpus before now pending status
finished_alike piece other corpus before now pending status same finished = subst (λ (p : Doc → List ℕ). Finished p corpus before now pending status) same finished
