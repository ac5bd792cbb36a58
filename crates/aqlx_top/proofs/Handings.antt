-- A run by a pool, turn by turn: what was handed over.
use Rattle.std.proofs.Common.{◌≡◌, ℕ, ◌+◌, ◌≤◌, Bool, true, false, List, [], ◌∷◌, ◌++◌, length, map, take, drop, ap, ap₂, sym, subst, ◌∙◌, refl, append_assoc, take-append-drop, Option, Some, None, is_some, Result, Ok, Err, IfOk, OnErr}
use Rattle.std.proofs.lemmas.List.{append-nil, map-append}
use Rattle.std.proofs.lemmas.List.Elements.{All-cons, All-nil}
use Rattle.std.proofs.lemmas.Grind.{flat_map-append}
use Rattle.std.specs.List.{flat_map}
use Rattle.std.specs.Io.KnownBytes.{Appends, Consumes}
use Rattle.span_token.specs.Documents.{Doc}
use Rattle.span_token.specs.declared.refusal.OutOfMemory.{OutOfMemory}
use Rattle.algebra.specs.Plans.{Parts}
use Rattle.corpus_json.specs.Limits.{corpus_limit}
use Rattle.corpus_json.specs.declared.step.Step.{Step}
use Rattle.corpus_json.specs.declared.step.Step.TheVariants.{Line, End, Long, Failed, Limit}
use Rattle.corpus_json.specs.Documents.{documents, is_bad_line}
use Rattle.corpus_json.specs.Lines.{is_too_long, joined, lines_of}
use Rattle.corpus_json.specs.LineLaws.{lines_of-joined}
use Rattle.corpus_json.specs.Reading.{Reading, NextLine, Took}
use Rattle.run_pool.specs.Entries.{Entry, entry_of, with_entries, AreHandedInPart}
use Rattle.run_pool.specs.Lines.{Meaning, line_by, line_from, rows_by}
use Rattle.run_pool.specs.PoolLaws.{with-none, with-with}
use Rattle.aqlx_top.specs.declared.status.Status.{Status}
use Rattle.aqlx_top.specs.declared.status.Status.TheVariants.{Done, Program, Usage, Corpus, ReadFault, WriteFault}
use Rattle.aqlx_top.specs.declared.status.CorpusFault.TheVariants.{BadLine, LineLong, CorpusLarge}
use Rattle.aqlx_top.specs.Devices.{SourceEnds, SinkEnds, source_ends, IsFlushed, SinkNeverFailed}
use Rattle.line_parts.specs.DocumentLaws.{documents-append, documents_from_bad}
use Rattle.aqlx_top.specs.Endings.{InPart, Came, written_for}
use Rattle.aqlx_top.specs.Handing.{PoolEnds, pool_ends, IsHandedAll, CameBy, InPartBy}
use Rattle.aqlx_top.specs.PoolTurns.{StandsBy, FinishedBy, IsRunBy}
use Rattle.aqlx_top.specs.Progress.{IsReadTo, IsRunTo}
use Rattle.aqlx_top.specs.Taken.{is_at_end, HasNoBadLine}
use Rattle.aqlx_top.proofs.Readings.{lines_so_far, line_read, end_read, failed_read, limit_read, long_read}
use Rattle.line_parts.specs.SinkLaws.{appends_more, appends_nothing}
use Rattle.aqlx_top.proofs.Turns.{begins, came_of, consumes_more, cut_pending, ended_bad, ended_done, ended_failed, ended_limit, ended_long, finished_in_part, next_line_good, part_at, part_of_taken, sent_whole}

-- ---- documents of lines

alone_good : (line : List ℕ) → is_bad_line line ≡ false → HasNoBadLine (line ∷ [])
alone_good line good = All-cons (λ (each : List ℕ). is_bad_line each ≡ false) line [] good (All-nil (λ (each : List ℕ). is_bad_line each ≡ false))

-- the document of a line, and those of the lines behind it
cons_by : (line : List ℕ) (after : List (List ℕ)) (bad : Bool) → is_bad_line line ≡ bad → (behind : List Doc) × (documents (line ∷ after) ≡ documents (line ∷ []) ++ behind)
cons_by line after true is = ([], documents_from_bad line after is ∙ sym (ap (λ (docs : List Doc). docs ++ []) (documents_from_bad line [] is)))
cons_by line after false is = (documents after, documents-append (line ∷ []) after (alone_good line is))

documents-cons : (line : List ℕ) (after : List (List ℕ)) → (behind : List Doc) × (documents (line ∷ after) ≡ documents (line ∷ []) ++ behind)
documents-cons line after = cons_by line after (is_bad_line line) refl

-- those of lines, of one more, and of the lines behind it
next-documents : (lines : List (List ℕ)) (line : List ℕ) (after : List (List ℕ)) → HasNoBadLine lines
    → documents ((lines ++ line ∷ []) ++ after) ≡ documents lines ++ (documents (line ∷ []) ++ (documents-cons line after).0)
next-documents lines line after good =
    ap documents (append_assoc lines (line ∷ []) after) ∙ documents-append lines (line ∷ after) good ∙ ap (λ (docs : List Doc). documents lines ++ docs) (documents-cons line after).1

-- and none from a bad line on
before-bad : (lines : List (List ℕ)) (line : List ℕ) (after all : List (List ℕ)) → HasNoBadLine lines → is_bad_line line ≡ true → all ≡ lines ++ line ∷ after
    → documents all ≡ documents lines
before-bad lines line after all good bad split =
    ap documents split ∙ documents-append lines (line ∷ after) good ∙ ap (λ (docs : List Doc). documents lines ++ docs) (documents_from_bad line after bad)
    ∙ append-nil (documents lines)

-- ---- entries of documents

map-split : {A B : Type 0} (f : A → B) (xs : List A) (ys zs : List B) → map f xs ≡ ys ++ zs → ys ≡ map f (take (length ys) xs)
map-split f xs [] zs is = refl
map-split f [] (y ∷ ys) zs is = absurd (cc)
map-split f (x ∷ xs) (y ∷ ys) zs is =
    let first : f x ≡ y = cc in
    let rest : map f xs ≡ ys ++ zs = cc in
    ap₂ (λ b bs. b ∷ bs) (sym first) (map-split f xs ys zs rest)

module _ (means : Meaning) (plan : Parts) (first told now : Option (List Entry)) where
  abbrev entries : List Doc → List Entry
  entries docs = map (entry_of means plan) docs

  -- documents, and then others
  handed-then : (docs more : List Doc) → told ≡ with_entries first (entries docs) → now ≡ with_entries told (entries more) → now ≡ with_entries first (entries (docs ++ more))
  handed-then docs more so_far next =
      next ∙ ap (λ (t : Option (List Entry)). with_entries t (entries more)) so_far ∙ with-with first (entries docs) (entries more)
      ∙ ap (with_entries first) (sym (map-append (entry_of means plan) docs more))

  -- the documents of lines, and that of one more
  handed-line : (lines : List (List ℕ)) (line : List ℕ) → HasNoBadLine lines → told ≡ with_entries first (entries (documents lines))
      → now ≡ with_entries told (entries (documents (line ∷ []))) → now ≡ with_entries first (entries (documents (lines ++ line ∷ [])))
  handed-line lines line good so_far next =
      handed-then (documents lines) (documents (line ∷ [])) so_far next ∙ ap (λ (docs : List Doc). with_entries first (entries docs)) (sym (documents-append lines (line ∷ []) good))

  -- the list is as it was, and the documents are the same
  handed-same : (docs same : List Doc) → docs ≡ same → told ≡ with_entries first (entries same) → now ≡ told → now ≡ with_entries first (entries docs)
  handed-same docs same are so_far stays = stays ∙ so_far ∙ ap (λ (ds : List Doc). with_entries first (entries ds)) (sym are)

-- ---- at any moment

-- where lines were read to, and of what is sent the documents were handed over
part_by : (pool : PoolEnds) (plan : Parts) (left_before left_now : Option (List ℕ)) (faults_before faults_now : ℕ) (held_before held_now : Option (List ℕ)) (given : List ℕ) (lines more : List (List ℕ)) (reading : Reading) (sent pending : List ℕ) (front : List Doc) (rest : List ℕ)
    → Consumes left_before left_now given → IsReadTo left_now given (lines ++ more) reading → HasNoBadLine lines
    → Appends held_before held_now sent → sent ++ pending ≡ written_for (line_from pool.means plan) lines
    → ((after : List (List ℕ)) → (behind : List Doc) × (documents ((lines ++ more) ++ after) ≡ front ++ behind))
    → sent ++ rest ≡ flat_map (line_from pool.means plan) front → IsHandedAll pool plan front
    → InPartBy pool plan (source_ends left_before left_now faults_before faults_now) held_before held_now
unfolding part_at
part_by pool plan left_before left_now faults_before faults_now held_before held_now given lines more reading sent pending front rest taken read good gained wrote splits within handed =
    let so_far = lines_so_far left_now given (lines ++ more) reading.ready reading.taken reading.last read in
    let after = splits so_far.1 in
    record {
      part = part_at (line_from pool.means plan) left_before left_now faults_before faults_now held_before held_now given lines more reading sent pending taken read good gained wrote;
      handed = record { front = front; behind = after.0; split = ap documents so_far.2 ∙ after.1; handed = handed };
      rest = rest;
      within = within;
    }

-- what is pending is sent in part
pub sent_in_part_by : (pool : PoolEnds) (plan : Parts) (left_before left_now : Option (List ℕ)) (faults_before faults_now : ℕ) (held_before held_now held_next : Option (List ℕ)) (reading : Reading) (pending : List ℕ) (number count : ℕ)
    → StandsBy pool plan (source_ends left_before left_now faults_before faults_now) held_before held_now reading pending number
    → Appends held_now held_next (take count pending)
    → InPartBy pool plan (source_ends left_before left_now faults_before faults_now) held_before held_next
sent_in_part_by pool plan left_before left_now faults_before faults_now held_before held_now held_next reading pending number count by h =
    let s = by.stands in
    let wrote = cut_pending s.sent pending (written_for (line_from pool.means plan) s.lines) count s.wrote in
    part_by pool plan left_before left_now faults_before faults_now held_before held_next s.given s.lines [] reading (s.sent ++ take count pending) (drop count pending) (documents s.lines) (drop count pending)
    s.taken (rw (append-nil s.lines) s.read) s.good (appends_more held_before held_now held_next s.sent (take count pending) s.gained h) wrote
    (λ after. (documents after, ap (λ (ls : List (List ℕ)). documents (ls ++ after)) (append-nil s.lines) ∙ documents-append s.lines after s.good)) wrote by.handed

-- nothing more is sent
pub part_of_by : (pool : PoolEnds) (plan : Parts) (left_before left_now : Option (List ℕ)) (faults_before faults_now : ℕ) (held_before held_now : Option (List ℕ)) (reading : Reading) (pending : List ℕ) (number : ℕ)
    → StandsBy pool plan (source_ends left_before left_now faults_before faults_now) held_before held_now reading pending number
    → InPartBy pool plan (source_ends left_before left_now faults_before faults_now) held_before held_now
part_of_by pool plan left_before left_now faults_before faults_now held_before held_now reading pending number by =
    sent_in_part_by pool plan left_before left_now faults_before faults_now held_before held_now held_now reading pending number 0 by (appends_nothing held_now)

-- what is pending is sent whole
pub sent_whole_by : (pool : PoolEnds) (plan : Parts) (corpus : SourceEnds) (held_before held_now held_next : Option (List ℕ)) (reading : Reading) (pending : List ℕ) (number : ℕ)
    → StandsBy pool plan corpus held_before held_now reading pending number
    → Appends held_now held_next pending
    → StandsBy pool plan corpus held_before held_next reading [] number
unfolding sent_whole
sent_whole_by pool plan corpus held_before held_now held_next reading pending number by h =
    record { stands = sent_whole (line_from pool.means plan) corpus held_before held_now held_next reading pending number by.stands h; handed = by.handed }

-- at the beginning nothing was handed over
pub begins_by : (means : Meaning) (told : Option (List Entry)) (plan : Parts) (left held : Option (List ℕ)) (faults : ℕ)
    → StandsBy (pool_ends means told told) plan (source_ends left left faults faults) held held (record { ready = []; taken = 0; last = None }) [] 0
unfolding begins
begins_by means told plan left held faults = record { stands = begins (line_from means plan) left held faults; handed = sym (with-none told) }

-- ---- a turn

module _ (means : Meaning) (plan : Parts) (first told now : Option (List Entry)) (left_before left_now left_next : Option (List ℕ)) (faults_before faults_now faults_next : ℕ) (held_before held_now : Option (List ℕ)) where
  abbrev piece : Doc → List ℕ
  piece = line_from means plan

  abbrev Standing : Reading → List ℕ → ℕ → Type 0
  Standing reading pending number = StandsBy (pool_ends means first told) plan (source_ends left_before left_now faults_before faults_now) held_before held_now reading pending number

  abbrev Ends : List ℕ → Status → Type 0
  Ends pending status = FinishedBy (pool_ends means first now) plan (source_ends left_before left_next faults_before faults_next) held_before held_now pending status

  -- a line that isn't bad was looked at, its document was handed over, and its line is pending
  pub next_line_by : (reading next_reading : Reading) (pending gain line : List ℕ) (number next_number : ℕ) → Standing reading pending number
      → NextLine left_now left_next faults_now faults_next reading next_reading line Line
      → next_reading.taken ≤ corpus_limit
      → is_bad_line line ≡ false
      → gain ≡ written_for piece (line ∷ [])
      → next_number ≡ number + 1
      → now ≡ with_entries told (map (entry_of means plan) (documents (line ∷ [])))
      → StandsBy (pool_ends means first now) plan (source_ends left_before left_next faults_before faults_next) held_before held_now next_reading (pending ++ gain) next_number
  unfolding next_line_good
  next_line_by reading next_reading pending gain line number next_number by next within good gains counts more = record {
    stands = next_line_good piece left_before left_now left_next faults_before faults_now faults_next held_before held_now reading next_reading pending gain line number next_number by.stands next within good gains counts;
    handed = handed-line means plan first told now by.stands.lines line by.stands.good by.handed more;
  }

  -- memory was wanting while its document was handed over
  pub wanting_by : (reading next_reading : Reading) (pending line : List ℕ) (number : ℕ) → Standing reading pending number
      → NextLine left_now left_next faults_now faults_next reading next_reading line Line
      → AreHandedInPart told now (map (entry_of means plan) (documents (line ∷ [])))
      → InPartBy (pool_ends means first now) plan (source_ends left_before left_next faults_before faults_next) held_before held_now
  wanting_by reading next_reading pending line number by next part =
      let s = by.stands in
      let docs = documents s.lines in
      let own = documents (line ∷ []) in
      let n = length part.handed in
      let part_are : part.handed ≡ map (entry_of means plan) (take n own) = map-split (entry_of means plan) own part.handed part.others part.split in
      part_by (pool_ends means first now) plan left_before left_next faults_before faults_next held_before held_now (s.given ++ next.more) s.lines (line ∷ []) next_reading s.sent pending
      (docs ++ take n own) (pending ++ flat_map piece (take n own))
      (consumes_more left_before left_now left_next s.given next.more s.taken next.consumed)
      (line_read left_now left_next faults_now faults_next s.given line s.lines reading.ready reading.taken reading.last next_reading s.counted s.read next)
      s.good s.gained s.wrote
      (λ after. (
        drop n own ++ (documents-cons line after).0,
        next-documents s.lines line after s.good
            ∙ ap (λ (ds : List Doc). docs ++ (ds ++ (documents-cons line after).0)) (sym (take-append-drop n own))
            ∙ ap (λ (ds : List Doc). docs ++ ds) (append_assoc (take n own) (drop n own) (documents-cons line after).0)
            ∙ sym (append_assoc docs (take n own) (drop n own ++ (documents-cons line after).0)),
      ))
      (sym (append_assoc s.sent pending (flat_map piece (take n own))) ∙ ap (λ (bytes : List ℕ). bytes ++ flat_map piece (take n own)) s.wrote ∙ sym (flat_map-append piece docs (take n own)))
      (handed-then means plan first told now docs (take n own) by.handed (part.told ∙ ap (with_entries told) part_are))

  -- a bad line was looked at
  pub ended_bad_by : (reading next_reading : Reading) (pending line : List ℕ) (number next_number : ℕ) → Standing reading pending number
      → NextLine left_now left_next faults_now faults_next reading next_reading line Line
      → is_bad_line line ≡ true
      → is_too_long line ≡ false
      → next_number ≡ number + 1
      → now ≡ told
      → Ends pending (Corpus (BadLine next_number))
  unfolding ended_bad
  ended_bad_by reading next_reading pending line number next_number by next bad short counts stays =
      let s = by.stands in
      let read = line_read left_now left_next faults_now faults_next s.given line s.lines reading.ready reading.taken reading.last next_reading s.counted s.read next in
      let so_far = lines_so_far left_next (s.given ++ next.more) (s.lines ++ line ∷ []) next_reading.ready next_reading.taken next_reading.last read in
      let all : lines_of (is_at_end so_far.0) (s.given ++ next.more) ≡ s.lines ++ line ∷ so_far.1 = so_far.2 ∙ append_assoc s.lines (line ∷ []) so_far.1 in
      record {
        finished = ended_bad piece left_before left_now left_next faults_before faults_now faults_next held_before held_now reading next_reading pending line number next_number by.stands next bad short counts;
        handed = handed-same means plan first told now (documents (lines_of (is_at_end so_far.0) (s.given ++ next.more))) (documents s.lines)
            (before-bad s.lines line so_far.1 (lines_of (is_at_end so_far.0) (s.given ++ next.more)) s.good bad all) by.handed stays;
      }

  -- the next line is too long
  pub ended_long_by : (reading next_reading : Reading) (pending line : List ℕ) (number next_number : ℕ) → Standing reading pending number
      → NextLine left_now left_next faults_now faults_next reading next_reading line Long
      → next_number ≡ number + 1
      → now ≡ told
      → Ends pending (Corpus (LineLong next_number))
  unfolding ended_long
  ended_long_by reading next_reading pending line number next_number by next counts stays =
      let s = by.stands in
      let long = long_read left_now left_next faults_now faults_next s.given line s.lines reading.ready reading.taken reading.last next_reading s.read next in
      let ended = ended_long piece left_before left_now left_next faults_before faults_now faults_next held_before held_now reading next_reading pending line number next_number by.stands next counts in
      record {
        finished = ended;
        handed = handed-same means plan first told now (documents (lines_of false (s.given ++ next.more))) (documents s.lines)
            (before-bad s.lines long.0 long.1 (lines_of false (s.given ++ next.more)) s.good ended.status_is.bad long.2) by.handed stays;
      }

  -- the source is at its end
  pub ended_done_by : (reading next_reading : Reading) (pending line : List ℕ) (number : ℕ) → Standing reading pending number
      → NextLine left_now left_next faults_now faults_next reading next_reading line End
      → is_some left_next ≡ is_some left_now
      → now ≡ told
      → Ends pending Done
  unfolding ended_done
  ended_done_by reading next_reading pending line number by next known stays =
      let s = by.stands in
      let end = end_read left_now left_next faults_now faults_next s.given line s.lines reading.ready reading.taken reading.last next_reading s.counted known s.read next in
      record {
        finished = ended_done piece left_before left_now left_next faults_before faults_now faults_next held_before held_now reading next_reading pending line number by.stands next known;
        handed = handed-same means plan first told now (documents (lines_of true (s.given ++ next.more))) (documents s.lines) (ap documents end.0) by.handed stays;
      }

  -- a read failed
  pub ended_failed_by : (reading next_reading : Reading) (pending line : List ℕ) (number : ℕ) → Standing reading pending number
      → NextLine left_now left_next faults_now faults_next reading next_reading line Failed
      → now ≡ told
      → Ends pending ReadFault
  unfolding ended_failed
  ended_failed_by reading next_reading pending line number by next stays =
      let s = by.stands in
      let end = failed_read left_now left_next faults_now faults_next s.given line s.lines reading.ready reading.taken reading.last next_reading s.counted s.read next in
      record {
        finished = ended_failed piece left_before left_now left_next faults_before faults_now faults_next held_before held_now reading next_reading pending line number by.stands next;
        handed = handed-same means plan first told now (documents (lines_of false (s.given ++ next.more))) (documents s.lines) (ap documents end.0) by.handed stays;
      }

  -- the corpus has reached its limit
  pub ended_limit_by : (reading next_reading : Reading) (pending line : List ℕ) (number : ℕ) → Standing reading pending number
      → NextLine left_now left_next faults_now faults_next reading next_reading line Limit
      → now ≡ told
      → Ends pending (Corpus CorpusLarge)
  unfolding ended_limit
  ended_limit_by reading next_reading pending line number by next stays =
      let s = by.stands in
      let end = limit_read left_now left_next faults_now faults_next s.given line s.lines reading.ready reading.taken reading.last next_reading s.counted s.read next in
      record {
        finished = ended_limit piece left_before left_now left_next faults_before faults_now faults_next held_before held_now reading next_reading pending line number by.stands next;
        handed = handed-same means plan first told now (documents (lines_of false (s.given ++ next.more))) (documents s.lines) (ap documents end.0) by.handed stays;
      }

  -- memory was wanting for the next line, of which some bytes were taken
  pub part_of_taken_by : (ready : List ℕ) (taken : ℕ) (last : Option Step) (pending : List ℕ) (number : ℕ) → Standing (record { ready = ready; taken = taken; last = last }) pending number
      → last ≡ None
      → Took left_now left_next
      → now ≡ told
      → InPartBy (pool_ends means first now) plan (source_ends left_before left_next faults_before faults_next) held_before held_now
  unfolding part_of_taken
  part_of_taken_by ready taken None pending number by going took stays =
      let s = by.stands in
      let all : lines_of false (s.given ++ took.more) ≡ s.lines ++ lines_of false (ready ++ took.more) =
      ap (lines_of false) (ap (λ (bs : List ℕ). bs ++ took.more) s.read.0 ∙ append_assoc (joined s.lines) ready took.more)
      ∙ lines_of-joined false s.lines (ready ++ took.more) s.read.1 in
      record {
        part = part_of_taken piece left_before left_now left_next faults_before faults_now faults_next held_before held_now ready taken None pending number by.stands going took;
        handed = record {
          front = documents s.lines;
          behind = documents (lines_of false (ready ++ took.more));
          split = ap documents all ∙ documents-append s.lines (lines_of false (ready ++ took.more)) s.good;
          handed = stays ∙ by.handed;
        };
        rest = pending;
        within = s.wrote;
      }
  part_of_taken_by ready taken (Some last) pending number by going took stays = absurd (cc)

-- nothing is handed over for a bad line
pub unasked_for_bad : (means : Meaning) (plan : Parts) (told now : Option (List Entry)) (line : List ℕ) → is_bad_line line ≡ true
    → now ≡ with_entries told (map (entry_of means plan) (documents (line ∷ []))) → now ≡ told
unasked_for_bad means plan told now line bad more =
    more ∙ ap (λ (docs : List Doc). with_entries told (map (entry_of means plan) docs)) (documents_from_bad line [] bad) ∙ with-none told

-- ---- the end

-- a finished run of which what is pending is sent in part
pub finished_in_part_by : (pool : PoolEnds) (plan : Parts) (corpus : SourceEnds) (held_before held_now held_next : Option (List ℕ)) (pending : List ℕ) (status : Status) (count : ℕ)
    → FinishedBy pool plan corpus held_before held_now pending status
    → Appends held_now held_next (take count pending)
    → InPartBy pool plan corpus held_before held_next
unfolding finished_in_part
finished_in_part_by pool plan corpus held_before held_now held_next pending status count by h =
    let f = by.finished in
    let docs = documents (lines_of (is_at_end f.how) f.given) in
    record {
      part = finished_in_part (line_from pool.means plan) corpus held_before held_now held_next pending status count f h;
      handed = record { front = docs; behind = []; split = sym (append-nil docs); handed = by.handed };
      rest = drop count pending;
      within = cut_pending f.sent pending (flat_map (line_from pool.means plan) docs) count f.wrote;
    }

came_by : (pool : PoolEnds) (plan : Parts) (corpus : SourceEnds) (out : SinkEnds) (held_now : Option (List ℕ)) (pending : List ℕ) (status : Status)
    → FinishedBy pool plan corpus out.held_before held_now pending status
    → Appends held_now out.held_after pending → IsFlushed out → SinkNeverFailed out
    → CameBy pool plan corpus out status
unfolding came_of
came_by pool plan corpus out held_now pending status by h flushed unfailed =
    record { came = came_of (line_from pool.means plan) corpus out held_now pending status by.finished h flushed unfailed; handed = by.handed }

pub run_by_to : (pool : PoolEnds) (plan : Parts) (corpus : SourceEnds) (out : SinkEnds) (held_now : Option (List ℕ)) (pending : List ℕ) (status : Status)
    → FinishedBy pool plan corpus out.held_before held_now pending status
    → Appends held_now out.held_after pending → IsFlushed out → SinkNeverFailed out
    → IsRunBy pool plan corpus out status
run_by_to pool plan corpus out held_now pending Done by h flushed unfailed = came_by pool plan corpus out held_now pending Done by h flushed unfailed
run_by_to pool plan corpus out held_now pending (Program fault) by h flushed unfailed = came_by pool plan corpus out held_now pending (Program fault) by h flushed unfailed
run_by_to pool plan corpus out held_now pending Usage by h flushed unfailed = came_by pool plan corpus out held_now pending Usage by h flushed unfailed
run_by_to pool plan corpus out held_now pending (Corpus fault) by h flushed unfailed = came_by pool plan corpus out held_now pending (Corpus fault) by h flushed unfailed
run_by_to pool plan corpus out held_now pending ReadFault by h flushed unfailed = came_by pool plan corpus out held_now pending ReadFault by h flushed unfailed
run_by_to pool plan corpus out held_now pending WriteFault by h flushed unfailed = absurd by.finished.status_is

-- the same, for a pool that means the same, and the same plan
module _ (means other : Meaning) (plan own : Parts) (first told : Option (List Entry)) (same : other ≡ means) (same_plan : own ≡ plan) (corpus : SourceEnds) (before now : Option (List ℕ)) where
  pub stands_as : (reading : Reading) (pending : List ℕ) (number : ℕ)
      → StandsBy (pool_ends other first told) own corpus before now reading pending number → StandsBy (pool_ends means first told) plan corpus before now reading pending number
  stands_as reading pending number stands =
      subst (λ (p : Parts). StandsBy (pool_ends means first told) p corpus before now reading pending number) same_plan
      (subst (λ (m : Meaning). StandsBy (pool_ends m first told) own corpus before now reading pending number) same stands)

  pub finished_as : (pending : List ℕ) (status : Status)
      → FinishedBy (pool_ends other first told) own corpus before now pending status → FinishedBy (pool_ends means first told) plan corpus before now pending status
  finished_as pending status finished =
      subst (λ (p : Parts). FinishedBy (pool_ends means first told) p corpus before now pending status) same_plan
      (subst (λ (m : Meaning). FinishedBy (pool_ends m first told) own corpus before now pending status) same finished)

  pub part_as : InPartBy (pool_ends other first told) own corpus before now → InPartBy (pool_ends means first told) plan corpus before now
  part_as part =
      subst (λ (p : Parts). InPartBy (pool_ends means first told) p corpus before now) same_plan
      (subst (λ (m : Meaning). InPartBy (pool_ends m first told) own corpus before now) same part)

-- ---- a pool that answers what was found, and keeps no list

unlisted : (before after : Option (List Entry)) (entries : List Entry) → before ≡ None → after ≡ before → after ≡ with_entries before entries
unlisted before after entries untold same = same ∙ untold ∙ sym (ap (λ (t : Option (List Entry)). with_entries t entries) untold)

module _ (means : Meaning) (before after : Option (List Entry)) (plan : Parts) (found : means ≡ rows_by) (untold : before ≡ None) (same : after ≡ before) (corpus : SourceEnds) where
  came_plain : (out : SinkEnds) (status : Status) → Came (line_by plan) corpus out status → CameBy (pool_ends means before after) plan corpus out status
  came_plain out status came = record {
    came = subst (λ (m : Meaning). Came (line_from m plan) corpus out status) (sym found) came;
    handed = unlisted before after _ untold same;
  }

  part_meant : (held_before held_now : Option (List ℕ)) → InPart (line_from means plan) corpus held_before held_now → InPartBy (pool_ends means before after) plan corpus held_before held_now
  part_meant held_before held_now part =
      let docs = documents (lines_of (is_at_end part.how) part.given) in
      record {
        part = part;
        handed = record { front = docs; behind = []; split = sym (append-nil docs); handed = unlisted before after (map (entry_of means plan) docs) untold same };
        rest = part.rest;
        within = part.prefix;
      }

  part_plain : (held_before held_now : Option (List ℕ)) → InPart (line_by plan) corpus held_before held_now → InPartBy (pool_ends means before after) plan corpus held_before held_now
  part_plain held_before held_now part = part_meant held_before held_now (subst (λ (m : Meaning). InPart (line_from m plan) corpus held_before held_now) (sym found) part)

  run_plain : (out : SinkEnds) (status : Status) → IsRunTo (line_by plan) corpus out status → IsRunBy (pool_ends means before after) plan corpus out status
  run_plain out WriteFault run = (run.0, part_plain out.held_before out.held_after run.1)
  run_plain out Done run = came_plain out Done run
  run_plain out ReadFault run = came_plain out ReadFault run
  run_plain out Usage run = came_plain out Usage run
  run_plain out (Program fault) run = came_plain out (Program fault) run
  run_plain out (Corpus fault) run = came_plain out (Corpus fault) run

  pub ran_plain : (out : SinkEnds) (r : Result Status OutOfMemory) → IfOk r (IsRunTo (line_by plan) corpus out) → IfOk r (IsRunBy (pool_ends means before after) plan corpus out)
  ran_plain out (Ok status) ran = run_plain out status ran
  ran_plain out (Err e) ran = tt

  pub unended_plain : (held_before held_now : Option (List ℕ)) (r : Result Status OutOfMemory) → OnErr r (InPart (line_by plan) corpus held_before held_now)
      → OnErr r (InPartBy (pool_ends means before after) plan corpus held_before held_now)
  unended_plain held_before held_now (Ok status) part = tt
  unended_plain held_before held_now (Err e) part = part_plain held_before held_now part
