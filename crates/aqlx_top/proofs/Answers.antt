-- From what was carried out and reported to the promise of the top call.
use Rattle.std.proofs.Common.{◌≡◌, ◌≢◌, ℕ, ◌<◌, true, false, Bool, List, [], ◌∷◌, ◌++◌, length, unwrap_or, ap, sym, subst, ◌∙◌, refl, arith, length-append, append_assoc, Option, Some, None, Result, Ok, Err, IsErr, IfSome, IfOk, OnErr, IsSomeAnd, if◌then◌else◌, ◌||◌, All, inl, inr, ◌⊎◌}
use Rattle.std.proofs.lemmas.List.{append-nil, take_all}
use Rattle.std.proofs.lemmas.Option.{none-some}
use Rattle.std.proofs.lemmas.List.Elements.{All-append, All-head, All-tail, All-nil, All-cons}
use Rattle.std.proofs.lemmas.Bool.{lt-ltb, ltb-true}
use Rattle.std.specs.Io.KnownBytes.{Appends, Consumes, IsAtEnd}
use Rattle.aql_io.specs.Bytes.{Names}
use Rattle.span_token.specs.Documents.{Doc}
use Rattle.span_token.specs.declared.refusal.OutOfMemory.{OutOfMemory}
use Rattle.corpus_json.specs.Limits.{line_limit, corpus_limit}
use Rattle.corpus_json.specs.Documents.{documents, is_bad_line}
use Rattle.corpus_json.specs.Lines.{is_too_long, lines_of, last_line, joined, cut, HasNoLf, BeginsTooLong}
use Rattle.corpus_json.specs.LineLaws.{joined-cut, cut-no_lf, lines_of-joined, lines_of-too_long}
use Rattle.aqlx_top.specs.declared.status.Status.{Status}
use Rattle.aqlx_top.specs.declared.status.Status.TheVariants.{Done, Program as Refused, Usage, Corpus, ReadFault, WriteFault}
use Rattle.aqlx_top.specs.declared.status.ProgramFault.{ProgramFault}
use Rattle.aqlx_top.specs.declared.status.CorpusFault.{CorpusFault}
use Rattle.aqlx_top.specs.declared.status.CorpusFault.TheVariants.{BadLine, LineLong, CorpusLarge}
use Rattle.aqlx_top.specs.Devices.{SourceEnds, SinkEnds, FilesFailed, SinkFailed, SinkNeverFailed, Gained, GainedFront, IsUntouched, IsUnread}
use Rattle.aqlx_top.specs.Endings.{InPart, Came, written_for}
use Rattle.aqlx_top.specs.Outcome.{Call, IsReadAs, IsCalledFor, IsCalledWith, IsIdle, IsMeant, RanTo, Wrote, WroteFront, HasCauseOf, IsAnswered, CanBeDone, IsOfDocuments, HasNoFault, NoneFailed, IsRefusedOrWanting, IsDoneOrWanting, Outcome}
use Rattle.aqlx_top.specs.ProgramFaults.{HasFault, IsFaultless, AreOneFault}
use Rattle.run_pool.specs.Lines.{line_from}
use Rattle.aqlx_top.specs.Run.{Program}
use Rattle.aqlx_top.specs.Stages.{IsToldAs}
use Rattle.aqlx_top.specs.Statuses.{HasLine}
use Rattle.aqlx_top.specs.Taken.{How, at_end, failed, at_limit, left_off, is_at_end, HasNoBadLine, IsFirstBad}
use Rattle.aqlx_top.specs.Words.{Order, to_run, to_check, to_plan, to_generate, to_demonstrate, file_of, IsOrder, IsNoRun, IsNoOrder, IsFileOrder}
use Rattle.line_parts.specs.SinkLaws.{appends_nothing}

-- an untouched sink gained nothing
pub gained_nothing : (sink : SinkEnds) → IsUntouched sink → Gained sink []
gained_nothing sink untouched = subst (λ (held : Option (List ℕ)). Appends sink.held_before held []) (sym untouched.held) (appends_nothing sink.held_before)

-- where nothing was done, nothing is written and handed over
idle_front : (call : Call) → IsIdle call.pool call.corpus call.out → WroteFront call
idle_front call idle = inl (record { gained = gained_nothing call.out idle.untouched; handed = inl idle.unasked })

-- what came to its end is also a part
unfoldable part_of_came : (piece : Doc → List ℕ) (corpus : SourceEnds) (out : SinkEnds) (status : Status) → Came piece corpus out status → InPart piece corpus out.held_before out.held_after
part_of_came piece corpus out status came =
    record {
      given = came.given;
      how = came.how;
      sent = written_for piece (lines_of (is_at_end came.how) came.given);
      rest = [];
      taken = came.taken;
      gained = came.wrote.gained;
      prefix = append-nil (written_for piece (lines_of (is_at_end came.how) came.given));
    }

front_of_run : (call : Call) (status : Status) → RanTo call status → WroteFront call
unfolding part_of_came
front_of_run call status run =
    let ran = run.ran in
    let docs = documents (lines_of (is_at_end ran.run.came.how) ran.run.came.given) in
    let piece = line_from call.pool.means ran.plan in
    inr (inl (record {
      program = run.program;
      called = run.called;
      ran = record {
        plan = ran.plan;
        with_plan = ran.with_plan;
        run = record {
          part = part_of_came piece call.corpus call.out status ran.run.came;
          handed = record { front = docs; behind = []; split = sym (append-nil docs); handed = ran.run.handed };
          rest = [];
          within = append-nil (written_for piece (lines_of (is_at_end ran.run.came.how) ran.run.came.given));
        };
      };
    }))

front_of_wrote : (call : Call) → Wrote call → WroteFront call
front_of_wrote call wrote =
    let all : GainedFront call.out wrote.bytes =
    (length wrote.bytes, subst (λ (bytes : List ℕ). Gained call.out bytes) (sym (take_all (length wrote.bytes) wrote.bytes (omega arith))) wrote.sent.gained) in
    inr (inr (record { order = wrote.order; words = wrote.words; bytes = wrote.bytes; meant = wrote.meant; asked = wrote.asked; unread = wrote.unread; front = all }))

-- whatever the cause of a status is, a prefix is written
pub front_of_cause : (call : Call) (status : Status) → HasCauseOf call status → WroteFront call
front_of_cause call Done cause = elim cause [ inl run ↦ front_of_run call Done run | inr wrote ↦ front_of_wrote call wrote ]
front_of_cause call (Refused fault) cause = idle_front call cause.idle
front_of_cause call Usage cause = idle_front call cause.idle
front_of_cause call (Corpus fault) cause = front_of_run call (Corpus fault) cause
front_of_cause call ReadFault cause = elim cause [ inl stopped ↦ idle_front call stopped.1.idle | inr run ↦ front_of_run call ReadFault run ]
front_of_cause call WriteFault cause = inr cause.1

-- where a status is told as itself, it has its cause and its line
told_as_itself : (call : Call) (err : SinkEnds) (status : Status) → HasCauseOf call status → HasLine err status → IsAnswered call err (Ok status)
told_as_itself call err Done cause line = (cause, line)
told_as_itself call err (Refused fault) cause line = (cause, line)
told_as_itself call err Usage cause line = (cause, line)
told_as_itself call err (Corpus fault) cause line = (cause, line)
told_as_itself call err ReadFault cause line = (cause, line)
told_as_itself call err WriteFault cause line = inl (cause, line)

pub answered_of : (call : Call) (err : SinkEnds) (status told : Status) → HasCauseOf call status → IsToldAs err status told → IsAnswered call err (Ok told)
answered_of call err status told cause reported =
    elim reported [
      | inl itself ↦ rw itself.0 (told_as_itself call err status cause itself.1)
      | inr broken ↦ rw broken.told_is (inr (record { replaced = status; has_line = broken.has_line; cause = cause; failed = broken.failed; part = broken.part }))
    ]

-- whatever is answered, a prefix is written
pub front_of : (call : Call) (err : SinkEnds) (result : Result Status OutOfMemory) → IsAnswered call err result → WroteFront call
front_of call err (Ok Done) a = front_of_cause call Done a.0
front_of call err (Ok (Refused fault)) a = front_of_cause call (Refused fault) a.0
front_of call err (Ok Usage) a = front_of_cause call Usage a.0
front_of call err (Ok (Corpus fault)) a = front_of_cause call (Corpus fault) a.0
front_of call err (Ok ReadFault) a = front_of_cause call ReadFault a.0
front_of call err (Ok WriteFault) a =
    elim a [ inl itself ↦ front_of_cause call WriteFault itself.0 | inr line ↦ front_of_cause call line.replaced line.cause ]
front_of call err (Err e) a = a.0

-- where a run came to a status other than a failed read, no call failed
quiet_run : (call : Call) (err : SinkEnds) (status : Status) → status ≢ ReadFault → RanTo call status → SinkNeverFailed err → NoneFailed call err
quiet_run call err status not_read run line =
    record { files = run.called.file.unfailed; corpus = run.ran.run.came.read not_read; out = run.ran.run.came.wrote.unfailed; line = line }

-- a status other than a failed read or write says that no call failed
pub told_of : (call : Call) (err : SinkEnds) (result : Result Status OutOfMemory) → IsAnswered call err result
    → (status : Status) → result ≡ Ok status → status ≢ ReadFault → status ≢ WriteFault → NoneFailed call err
told_of call err (Ok Done) a status is not_read not_written =
    elim a.0 [
      | inl run ↦ quiet_run call err Done (λ e. cc) run a.1.faults
      | inr wrote ↦
          record { files = wrote.unfailed; corpus = wrote.unread.faults; out = wrote.sent.unfailed; line = a.1.faults }
    ]
told_of call err (Ok (Refused fault)) a status is not_read not_written =
    record { files = a.0.file.unfailed; corpus = a.0.idle.unread.faults; out = a.0.idle.untouched.faults; line = a.1.unfailed }
told_of call err (Ok Usage) a status is not_read not_written =
    record { files = a.0.unfailed; corpus = a.0.idle.unread.faults; out = a.0.idle.untouched.faults; line = a.1.unfailed }
told_of call err (Ok (Corpus fault)) a status is not_read not_written = quiet_run call err (Corpus fault) (λ e. cc) a.0 a.1.unfailed
told_of call err (Ok ReadFault) a status is not_read not_written = let same : status ≡ ReadFault = cc in absurd (not_read same)
told_of call err (Ok WriteFault) a status is not_read not_written = let same : status ≡ WriteFault = cc in absurd (not_written same)
told_of call err (Err e) a status is not_read not_written = absurd (cc)

-- with a failed read no write failed
pub read_of : (call : Call) (err : SinkEnds) (result : Result Status OutOfMemory) → IsAnswered call err result
    → result ≡ Ok ReadFault → SinkNeverFailed call.out × SinkNeverFailed err
read_of call err (Ok Done) a is = absurd (cc)
read_of call err (Ok (Refused fault)) a is = absurd (cc)
read_of call err (Ok Usage) a is = absurd (cc)
read_of call err (Ok (Corpus fault)) a is = absurd (cc)
read_of call err (Ok ReadFault) a is =
    elim a.0 [ inl stopped ↦ (stopped.1.idle.untouched.faults, a.1.unfailed) | inr run ↦ (run.ran.run.came.wrote.unfailed, a.1.unfailed) ]
read_of call err (Ok WriteFault) a is = absurd (cc)
read_of call err (Err e) a is = absurd (cc)

-- words that ask for nothing ask for no order
no_order : (words : List (List ℕ)) (order : Order) → IsNoOrder words → IsOrder words order → ⊥
no_order words order none asked = none-some order (sym none ∙ asked)

-- words that ask for nothing have the status of usage alone
usage_alone : (call : Call) (status : Status) → IsNoOrder call.words → HasCauseOf call status → status ≡ Usage
usage_alone call Done none cause =
    elim cause [
      | inl run ↦ absurd (no_order call.words (to_run run.called.name) none run.called.words)
      | inr wrote ↦ absurd (no_order call.words wrote.order none wrote.words)
    ]
usage_alone call (Refused fault) none cause = absurd (no_order call.words cause.words.order none cause.words.asked)
usage_alone call Usage none cause = refl
usage_alone call (Corpus fault) none cause = absurd (no_order call.words (to_run cause.called.name) none cause.called.words)
usage_alone call ReadFault none cause =
    elim cause [
      | inl stopped ↦ absurd (no_order call.words stopped.1.words.order none stopped.1.words.asked)
      | inr run ↦ absurd (no_order call.words (to_run run.called.name) none run.called.words)
    ]
usage_alone call WriteFault none cause =
    elim cause.1 [
      | inl run ↦ absurd (no_order call.words (to_run run.called.name) none run.called.words)
      | inr wrote ↦ absurd (no_order call.words wrote.order none wrote.words)
    ]

pub usage_of : (call : Call) (err : SinkEnds) (result : Result Status OutOfMemory) → IsAnswered call err result → IsNoOrder call.words
    → (result ≡ Ok Usage) ⊎ (((result ≡ Ok WriteFault) × SinkFailed err) ⊎ IsErr result)
usage_of call err (Ok Done) a none = let e = usage_alone call Done none a.0 in absurd (cc)
usage_of call err (Ok (Refused fault)) a none = let e = usage_alone call (Refused fault) none a.0 in absurd (cc)
usage_of call err (Ok Usage) a none = inl refl
usage_of call err (Ok (Corpus fault)) a none = let e = usage_alone call (Corpus fault) none a.0 in absurd (cc)
usage_of call err (Ok ReadFault) a none = let e = usage_alone call ReadFault none a.0 in absurd (cc)
usage_of call err (Ok WriteFault) a none =
    elim a [
      | inl itself ↦ let e : WriteFault ≡ Usage = usage_alone call WriteFault none itself.0 in absurd (cc)
      | inr line ↦ inr (inl (refl, line.failed))
    ]
usage_of call err (Err e) a none = inr (inr refl)

abbrev IsGood : List ℕ → Type 0
IsGood line = is_bad_line line ≡ false

front_good : (xs ys : List (List ℕ)) → All IsGood (xs ++ ys) → All IsGood xs
front_good [] ys good = All-nil IsGood
front_good (x ∷ xs) ys good = All-cons IsGood x xs (All-head IsGood x (xs ++ ys) good) (front_good xs ys (All-tail IsGood x (xs ++ ys) good))

back_good : (xs ys : List (List ℕ)) → All IsGood (xs ++ ys) → All IsGood ys
back_good [] ys good = good
back_good (x ∷ xs) ys good = back_good xs ys (All-tail IsGood x (xs ++ ys) good)

-- where no line is bad, none is the first bad one
no_first_bad : (lines : List (List ℕ)) (number : ℕ) (long : Bool) → IsFirstBad lines number long → HasNoBadLine lines → ⊥
no_first_bad lines number long first good =
    let later : All IsGood (first.line ∷ first.after) = back_good first.before (first.line ∷ first.after) (subst (λ (ls : List (List ℕ)). All IsGood ls) first.split good) in
    let not_bad : is_bad_line first.line ≡ false = All-head IsGood first.line first.after later in
    let bad = first.bad in cc

-- what stands after the last LF is no line that is too long, where no line of a longer text is bad
too_long_first : (rest more : List ℕ) → HasNoLf rest → is_too_long rest ≡ true → HasNoBadLine (lines_of true (rest ++ more)) → ⊥
too_long_first rest more no_lf long good =
    let begins : BeginsTooLong (rest ++ more) = record { front = rest; others = more; split = refl; no_lf = no_lf; long = ltb-true line_limit (length rest) long } in
    let first = lines_of-too_long true (rest ++ more) begins in
    let not_bad : is_bad_line first.first ≡ false = All-head IsGood first.first first.later (subst (λ (ls : List (List ℕ)). All IsGood ls) first.split good) in
    let is_long : is_too_long first.first ≡ true = lt-ltb line_limit (length first.first) first.long in
    let bad : is_bad_line first.first ≡ true = rw is_long refl in cc

last_if : (rest more : List ℕ) (long : Bool) → HasNoLf rest → is_too_long rest ≡ long → HasNoBadLine (lines_of true (rest ++ more))
    → HasNoBadLine (if false || long then rest ∷ [] else [])
last_if rest more true no_lf is_long good = absurd (too_long_first rest more no_lf is_long good)
last_if rest more false no_lf is_long good = All-nil IsGood

last_good : (rest more : List ℕ) → HasNoLf rest → HasNoBadLine (lines_of true (rest ++ more)) → HasNoBadLine (last_line false rest)
last_good [] more no_lf good = All-nil IsGood
last_good (byte ∷ rest) more no_lf good = last_if (byte ∷ rest) more (is_too_long (byte ∷ rest)) no_lf refl good

-- where no line of a text is bad, none of its beginning is
no_bad_in_part : (given rest : List ℕ) → HasNoBadLine (lines_of true (given ++ rest)) → HasNoBadLine (lines_of false given)
no_bad_in_part given rest good =
    let parts = cut-no_lf given in
    let split : lines_of true (given ++ rest) ≡ (cut given).lines ++ lines_of true ((cut given).rest ++ rest) =
    ap (λ (bs : List ℕ). lines_of true (bs ++ rest)) (sym (joined-cut given))
    ∙ ap (lines_of true) (append_assoc (joined (cut given).lines) (cut given).rest rest)
    ∙ lines_of-joined true (cut given).lines ((cut given).rest ++ rest) parts.0 in
    let all : All IsGood ((cut given).lines ++ lines_of true ((cut given).rest ++ rest)) = subst (λ (ls : List (List ℕ)). All IsGood ls) split good in
    All-append IsGood (cut given).lines (last_line false (cut given).rest)
    (front_good (cut given).lines (lines_of true ((cut given).rest ++ rest)) all)
    (last_good (cut given).rest rest parts.1 (back_good (cut given).lines (lines_of true ((cut given).rest ++ rest)) all))

-- what is taken from a corpus of documents is below the limit, and no line of it is bad
taken_good : (left_before left_after : Option (List ℕ)) (given : List ℕ) (how : How)
    → Consumes left_before left_after given
    → (how ≡ at_end → IsAtEnd left_after × (length given < corpus_limit))
    → IsSomeAnd left_before (λ bytes. (length bytes < corpus_limit) × HasNoBadLine (lines_of true bytes))
    → (length given < corpus_limit) × HasNoBadLine (lines_of (is_at_end how) given)
taken_good None left_after given how taken ended of_documents = absurd of_documents
taken_good (Some bytes) None given how taken ended of_documents = absurd taken
taken_good (Some bytes) (Some rest) given at_end taken ended of_documents =
    let none : rest ≡ [] = (ended refl).0 in
    let all : bytes ≡ given = taken ∙ ap (λ (bs : List ℕ). given ++ bs) none ∙ append-nil given in
    ((ended refl).1, subst (λ (bs : List ℕ). HasNoBadLine (lines_of true bs)) all of_documents.1)
taken_good (Some bytes) (Some rest) given failed taken ended of_documents =
    let e = ap length taken in let f = length-append given rest in let g = of_documents.0 in
    (omega arith, no_bad_in_part given rest (subst (λ (bs : List ℕ). HasNoBadLine (lines_of true bs)) taken of_documents.1))
taken_good (Some bytes) (Some rest) given at_limit taken ended of_documents =
    let e = ap length taken in let f = length-append given rest in let g = of_documents.0 in
    (omega arith, no_bad_in_part given rest (subst (λ (bs : List ℕ). HasNoBadLine (lines_of true bs)) taken of_documents.1))
taken_good (Some bytes) (Some rest) given left_off taken ended of_documents =
    let e = ap length taken in let f = length-append given rest in let g = of_documents.0 in
    (omega arith, no_bad_in_part given rest (subst (λ (bs : List ℕ). HasNoBadLine (lines_of true bs)) taken of_documents.1))

-- no run over a corpus of documents below the limit ends with a fault of the corpus
no_corpus_fault : (piece : Doc → List ℕ) (corpus : SourceEnds) (out : SinkEnds) (fault : CorpusFault) → Came piece corpus out (Corpus fault) → IsOfDocuments corpus → ⊥
no_corpus_fault piece corpus out (BadLine number) came of_documents =
    let good = taken_good corpus.left_before corpus.left_after came.given came.how came.taken.taken came.taken.ended of_documents in
    no_first_bad (lines_of (is_at_end came.how) came.given) number false came.status_is good.1
no_corpus_fault piece corpus out (LineLong number) came of_documents =
    let good = taken_good corpus.left_before corpus.left_after came.given came.how came.taken.taken came.taken.ended of_documents in
    no_first_bad (lines_of (is_at_end came.how) came.given) number true came.status_is good.1
no_corpus_fault piece corpus out CorpusLarge came of_documents =
    let good = taken_good corpus.left_before corpus.left_after came.given came.how came.taken.taken came.taken.ended of_documents in
    let full = came.taken.full came.status_is.0 in
    let below = good.0 in
    absurd (omega arith)

-- words that ask for no run ask for another order
pub other_order : (words : List (List ℕ)) (order : Order) → IsOrder words order → IsNoRun words → (name : List ℕ) → ¬ (order ≡ to_run name)
other_order words order asked none = λ name is. none name (subst (IsOrder words) is asked)

-- words ask for one order, and name one file
one_order : (words : List (List ℕ)) (a b : Order) → IsOrder words a → IsOrder words b → a ≡ b
one_order words a b asked other = ap (λ (o : Option Order). unwrap_or o a) (sym asked ∙ other)

one_name : (words : List (List ℕ)) (a b : List ℕ) → IsFileOrder words a → IsFileOrder words b → a ≡ b
one_name words a b first second =
    ap (λ (o : Option (List ℕ)). unwrap_or o a) (sym first.named ∙ ap file_of (one_order words first.order second.order first.asked second.asked) ∙ second.named)

-- a run names its file
run_names : (words : List (List ℕ)) (name : List ℕ) → IsOrder words (to_run name) → IsFileOrder words name
run_names words name asked = record { order = to_run name; asked = asked; named = refl }

-- an order that reads no file names none
names_none : (words : List (List ℕ)) (order : Order) (name : List ℕ) → IsOrder words order → file_of order ≡ None → IsFileOrder words name → ⊥
names_none words order name asked none file =
    none-some name (sym none ∙ ap file_of (one_order words order file.order asked file.asked) ∙ file.named)

-- a file that tells its text holds that text alone
told_text : (told : Option Names) (name text other : List ℕ) → IsSomeAnd told (λ names. names name ≡ Some text)
    → IfSome told (λ names. names name ≡ Some other) → other ≡ text
told_text None name text other tells held = absurd tells
told_text (Some names) name text other tells held = let e : ◌≡◌ {A = Option (List ℕ)} (Some other) (Some text) = sym held ∙ tells in cc

same_text : (call : Call) (text other name : List ℕ) → IsCalledWith call text → IsFileOrder call.words name → IsReadAs call.files name other → other ≡ text
same_text call text other name with_text run held =
    told_text call.files.told with_text.name text other with_text.file
    (subst (λ (n : List ℕ). IsReadAs call.files n other) (one_name call.words name with_text.name run with_text.words) held).held

-- a text that holds a program isn't one with a fault
run_has_no_fault : (call : Call) (text : List ℕ) (program : Program) → IsCalledFor call program → IsCalledWith call text → IsFaultless text
run_has_no_fault call text program called with_text =
    subst IsFaultless (same_text call text called.text called.name with_text (run_names call.words called.name called.words) called.file) called.holds.faultless

-- nor is one for which something is written without a corpus
written_has_no_fault : (call : Call) (text : List ℕ) (order : Order) (bytes : List ℕ) → IsOrder call.words order → IsMeant call.files call.pool order bytes → IsCalledWith call text → IsFaultless text
written_has_no_fault call text (to_run name) bytes asked meant with_text = absurd meant
written_has_no_fault call text (to_check name) bytes asked meant with_text =
    let file : IsFileOrder call.words name = record { order = to_check name; asked = asked; named = refl } in
    subst IsFaultless (same_text call text meant.text name with_text file meant.file) meant.given.holds.faultless
written_has_no_fault call text (to_plan name) bytes asked meant with_text =
    let file : IsFileOrder call.words name = record { order = to_plan name; asked = asked; named = refl } in
    subst IsFaultless (same_text call text meant.text name with_text file meant.file) meant.given.planned.holds.faultless
written_has_no_fault call text (to_generate count) bytes asked meant with_text =
    absurd (names_none call.words (to_generate count) with_text.name asked refl with_text.words)
written_has_no_fault call text (to_demonstrate count) bytes asked meant with_text =
    absurd (names_none call.words (to_demonstrate count) with_text.name asked refl with_text.words)

-- the cause of a status where the text has a fault
refused_cause : (call : Call) (status : Status) (text : List ℕ) (fault : ProgramFault) → IsCalledWith call text → HasFault text fault → HasCauseOf call status
    → ((told : ProgramFault) × (status ≡ Refused told) × AreOneFault fault told) ⊎ ((status ≡ ReadFault) × FilesFailed call.files)
refused_cause call Done text fault with_text has cause =
    elim cause [
      | inl run ↦ absurd (run_has_no_fault call text run.program run.called with_text fault has)
      | inr wrote ↦ absurd (written_has_no_fault call text wrote.order wrote.bytes wrote.words wrote.meant with_text fault has)
    ]
refused_cause call (Refused other) text fault with_text has cause =
    let same = same_text call text cause.text cause.name with_text cause.words cause.file in
    inl (other, refl, cause.cause.only fault (subst (λ (t : List ℕ). HasFault t fault) (sym same) has))
refused_cause call Usage text fault with_text has cause = absurd (no_order call.words with_text.words.order cause.words with_text.words.asked)
refused_cause call (Corpus other) text fault with_text has cause = absurd (run_has_no_fault call text cause.program cause.called with_text fault has)
refused_cause call ReadFault text fault with_text has cause =
    elim cause [
      | inl stopped ↦ inr (refl, stopped.0)
      | inr run ↦ absurd (run_has_no_fault call text run.program run.called with_text fault has)
    ]
refused_cause call WriteFault text fault with_text has cause =
    elim cause.1 [
      | inl run ↦ absurd (run_has_no_fault call text run.program run.called with_text fault has)
      | inr wrote ↦ absurd (written_has_no_fault call text wrote.order wrote.bytes wrote.words wrote.meant with_text fault has)
    ]

as_result : (call : Call) (err : SinkEnds) (status : Status) (fault : ProgramFault)
    → ((told : ProgramFault) × (status ≡ Refused told) × AreOneFault fault told) ⊎ ((status ≡ ReadFault) × FilesFailed call.files)
    → IsRefusedOrWanting call err fault (Ok status)
as_result call err status fault found =
    elim found [ inl refused ↦ inl (refused.0, ap (λ (s : Status). Ok s) refused.1, refused.2) | inr unread ↦ inr (inl (ap (λ (s : Status). Ok s) unread.0, unread.1)) ]

-- a text that has a fault is refused for it, or the file, the line's writing or memory failed
pub refused_of : (call : Call) (err : SinkEnds) (result : Result Status OutOfMemory) → IsAnswered call err result
    → (text : List ℕ) (fault : ProgramFault) → IsCalledWith call text → HasFault text fault → IsRefusedOrWanting call err fault result
refused_of call err (Ok Done) a text fault with_text has = as_result call err Done fault (refused_cause call Done text fault with_text has a.0)
refused_of call err (Ok (Refused other)) a text fault with_text has =
    as_result call err (Refused other) fault (refused_cause call (Refused other) text fault with_text has a.0)
refused_of call err (Ok Usage) a text fault with_text has = as_result call err Usage fault (refused_cause call Usage text fault with_text has a.0)
refused_of call err (Ok (Corpus other)) a text fault with_text has =
    as_result call err (Corpus other) fault (refused_cause call (Corpus other) text fault with_text has a.0)
refused_of call err (Ok ReadFault) a text fault with_text has = as_result call err ReadFault fault (refused_cause call ReadFault text fault with_text has a.0)
refused_of call err (Ok WriteFault) a text fault with_text has =
    elim a [
      | inl itself ↦ as_result call err WriteFault fault (refused_cause call WriteFault text fault with_text has itself.0)
      | inr line ↦ inr (inr (inl (refl, line.failed)))
    ]
refused_of call err (Err e) a text fault with_text has = inr (inr (inr refl))

-- an order that can be carried out and names a file: the file tells a text without a fault
tells_faultless : (call : Call) (order : Order) (name : List ℕ) → IsOrder call.words order → CanBeDone call order → IsFileOrder call.words name
    → (text : List ℕ) × IsCalledWith call text × IsFaultless text
tells_faultless call (to_run other) name asked can file =
    (can.0.text, record { name = other; words = run_names call.words other asked; file = can.0.file }, can.0.faultless)
tells_faultless call (to_check other) name asked can file =
    (can.text, record { name = other; words = record { order = to_check other; asked = asked; named = refl }; file = can.file }, can.faultless)
tells_faultless call (to_plan other) name asked can file =
    (can.text, record { name = other; words = record { order = to_plan other; asked = asked; named = refl }; file = can.file }, can.faultless)
tells_faultless call (to_generate count) name asked can file = absurd (names_none call.words (to_generate count) name asked refl file)
tells_faultless call (to_demonstrate count) name asked can file = absurd (names_none call.words (to_demonstrate count) name asked refl file)

-- with right words, a text without a fault and a corpus of documents, where they are read, and no failed call, all is done
pub complete_of : (call : Call) (err : SinkEnds) (result : Result Status OutOfMemory) → IsAnswered call err result
    → (order : Order) → IsOrder call.words order → CanBeDone call order → HasNoFault call err → IsDoneOrWanting result
complete_of call err (Ok Done) a order asked can no_fault = inl refl
complete_of call err (Ok (Refused fault)) a order asked can no_fault =
    let told = tells_faultless call order a.0.name asked can a.0.words in
    let same = same_text call told.0 a.0.text a.0.name told.1 a.0.words a.0.file in
    absurd (told.2 fault (subst (λ (t : List ℕ). HasFault t fault) same a.0.cause.has))
complete_of call err (Ok Usage) a order asked can no_fault = absurd (no_order call.words order a.0.words asked)
complete_of call err (Ok (Corpus fault)) a order asked can no_fault =
    let name = a.0.called.name in
    let run : CanBeDone call (to_run name) = subst (CanBeDone call) (one_order call.words order (to_run name) asked a.0.called.words) can in
    absurd (no_corpus_fault (line_from call.pool.means a.0.ran.plan) call.corpus call.out fault a.0.ran.run.came run.1)
complete_of call err (Ok ReadFault) a order asked can no_fault =
    elim a.0 [
      | inl stopped ↦ absurd (no_fault.files stopped.0)
      | inr run ↦ absurd (no_fault.corpus (run.ran.run.came.taken.broken run.ran.run.came.status_is.0).0)
    ]
complete_of call err (Ok WriteFault) a order asked can no_fault =
    elim a [ inl itself ↦ absurd (no_fault.out itself.0.0) | inr line ↦ absurd (no_fault.line line.failed) ]
complete_of call err (Err e) a order asked can no_fault = inr refl

pub outcome_of : (call : Call) (err : SinkEnds) (result : Result Status OutOfMemory) → (IsNoRun call.words → IsUnread call.corpus) → IsAnswered call err result → Outcome call err result
outcome_of call err result unread a = record {
  unread = unread;
  answered = a;
  front = front_of call err result a;
  told = told_of call err result a;
  read = read_of call err result a;
  usage = usage_of call err result a;
  refused = refused_of call err result a;
  complete = complete_of call err result a;
}

-- what was carried out, and what was told of it
pub outcome_told : (call : Call) (err : SinkEnds) (status : Status) (r : Result Status OutOfMemory) → (IsNoRun call.words → IsUnread call.corpus) → HasCauseOf call status
    → IfOk r (IsToldAs err status) → OnErr r (IsUntouched err) → Outcome call err r
outcome_told call err status (Ok told) unread cause reported untouched = outcome_of call err (Ok told) unread (answered_of call err status told cause reported)
outcome_told call err status (Err e) unread cause reported untouched = outcome_of call err (Err e) unread (front_of_cause call status cause, untouched)

pub outcome_wanting : (call : Call) (err : SinkEnds) (r : Result Status OutOfMemory) (e : OutOfMemory) → r ≡ Err e → (IsNoRun call.words → IsUnread call.corpus) → WroteFront call → IsUntouched err → Outcome call err r
outcome_wanting call err r e is_err unread front untouched = rw is_err (outcome_of call err (Err e) unread (front, untouched))
