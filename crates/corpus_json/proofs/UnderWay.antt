-- How a call of a reader comes to its answer, piece by piece and read by read.
use Rattle.std.proofs.Common.{◌≡◌, ◌≢◌, ℕ, ◌+◌, ◌<◌, ◌≤◌, ◌==◌, inl, inr, Bool, true, false, List, [], ◌∷◌, ◌++◌, length, Option, Some, None, MatchOption, refl, sym, ap, ◌∙◌, subst, arith, append_assoc, append-nil, length-append}
use Rattle.std.proofs.lemmas.List.Elements.{All-append, All-nil}
use Rattle.std.proofs.lemmas.Bool.Decides.{nat_tests}
use Rattle.std.proofs.KnownBytes.{Consumes-nil, Consumes-trans}
use Rattle.std.specs.Io.KnownBytes.{Consumes}
use Rattle.corpus_json.specs.declared.step.Step.{Step}
use Rattle.corpus_json.specs.declared.step.Step.TheVariants.{Line, End, Long, Failed, Limit}
use Rattle.corpus_json.specs.Limits.{line_limit}
use Rattle.corpus_json.specs.Lines.{IsNotLf, HasNoLf}
use Rattle.corpus_json.specs.Pieces.{TakesLine, TakesTooMany, TakesAll, TakesPiece, Fills, step_after}
use Rattle.corpus_json.specs.Reading.{Reading, settled, IsUnended, IsAnswer, NextLine}

-- a call under way took `more`: the line so far and what is ready are all the bytes that there are, and no LF is in the line
pub record IsUnderWay (left_before left_now : Option (List ℕ)) (faults_before faults_now : ℕ) (before now : Reading) (line : List ℕ) : Type 0 where
  pub more : List ℕ
  pub consumed : Consumes left_before left_now more
  pub stands : faults_now ≡ faults_before
  pub counted : now.taken ≡ before.taken + length more
  pub bytes : before.ready ++ more ≡ line ++ now.ready
  pub unended : IsUnended line
  pub going : now.last ≡ None

-- an answer of a reading that didn't stand still
answered : (left_before left_now : Option (List ℕ)) (faults_before faults_now : ℕ) (before now : Reading) (line more : List ℕ) (step : Step)
    → before.last ≡ None
    → Consumes left_before left_now more
    → now.taken ≡ before.taken + length more
    → (step ≢ Failed → faults_now ≡ faults_before)
    → faults_now ≤ faults_before + 1
    → IsAnswer (before.ready ++ more) line left_now faults_before faults_now now step
    → NextLine left_before left_now faults_before faults_now before now line step
answered left_before left_now faults_before faults_now before now line more step going consumed counts stands once answer =
    record {
      more = more;
      consumed = consumed;
      counted = counts;
      stands = stands;
      once = once;
      still = λ some. absurd (some going);
      answer = subst (λ (last : Option Step). MatchOption last (IsAnswer (before.ready ++ more) line left_now faults_before faults_now now step) (λ last. (step ≡ last) × (more ≡ []) × (now ≡ before))) (sym going) answer;
    }

module _ (left_before : Option (List ℕ)) (faults_before : ℕ) (before : Reading) (going : before.last ≡ None) where
  -- at first nothing was taken
  pub begins : IsUnderWay left_before left_before faults_before faults_before before before []
  begins = record {
    more = [];
    consumed = Consumes-nil left_before;
    stands = refl;
    counted = omega arith;
    bytes = append-nil before.ready;
    unended = record { no_lf = All-nil IsNotLf; short = omega arith };
    going = going;
  }

  module _ (left_now : Option (List ℕ)) (faults_now : ℕ) (now : Reading) (line : List ℕ) (way : IsUnderWay left_before left_now faults_before faults_now before now line) where
    -- a count that stands is at most one more
    none_more : faults_now ≤ faults_before + 1
    none_more = omega (arith, way.stands)

    -- a line with its LF
    gives_line : (then : Reading) (line_then : List ℕ) → TakesLine now then line line_then
        → NextLine left_before left_now faults_before faults_now before then line_then Line
    gives_line then line_then took =
        let split : before.ready ++ way.more ≡ line_then ++ 10 ∷ then.ready =
        way.bytes ∙ ap (λ ready. line ++ ready) took.split ∙ sym (append_assoc line took.piece (10 ∷ then.ready)) ∙ ap (λ l. l ++ 10 ∷ then.ready) (sym took.line) in
        let no_lf : HasNoLf line_then = subst HasNoLf (sym took.line) (All-append IsNotLf line took.piece way.unended.no_lf took.no_lf) in
        answered left_before left_now faults_before faults_now before then line_then way.more Line going way.consumed
        (ap (λ (r : Reading). r.taken) took.same ∙ way.counted) (λ _. way.stands) none_more
        (record { no_lf = no_lf; short = took.short }, inl record { split = split; going = ap (λ (r : Reading). r.last) took.same ∙ way.going })

    -- a line that is too long
    gives_long : (then : Reading) (line_then : List ℕ) → TakesTooMany now then line
        → NextLine left_before left_now faults_before faults_now before then line_then Long
    gives_long then line_then took =
        let split : before.ready ++ way.more ≡ (line ++ took.piece) ++ took.others =
        way.bytes ∙ ap (λ ready. line ++ ready) took.split ∙ sym (append_assoc line took.piece took.others) in
        let long : line_limit < length (line ++ took.piece) = rw length-append took.long in
        let same : then.taken ≡ now.taken = ap (λ (r : Reading). r.taken) took.settled in
        let stands : then ≡ settled then.taken Long = took.settled ∙ ap (λ taken. settled taken Long) (sym same) in
        answered left_before left_now faults_before faults_now before then line_then way.more Long going way.consumed (same ∙ way.counted) (λ _. way.stands) none_more
        (record { front = line ++ took.piece; others = took.others; split = split; no_lf = All-append IsNotLf line took.piece way.unended.no_lf took.no_lf; long = long }, stands)

    -- a piece that is an answer
    pub gives_piece : (then : Reading) (line_then : List ℕ) (step : Step) → TakesPiece now then line line_then (Some step)
        → NextLine left_before left_now faults_before faults_now before then line_then step
    gives_piece then line_then Line took = gives_line then line_then took
    gives_piece then line_then End took = absurd took
    gives_piece then line_then Long took = gives_long then line_then took
    gives_piece then line_then Failed took = absurd took
    gives_piece then line_then Limit took = absurd took

    -- all that was ready belongs to the line
    pub goes_on : (then : Reading) (line_then : List ℕ) → TakesAll now then line line_then
        → IsUnderWay left_before left_now faults_before faults_now before then line_then
    goes_on then line_then took =
        let none : then.ready ≡ [] = ap (λ (r : Reading). r.ready) took.same in
        record {
          more = way.more;
          consumed = way.consumed;
          stands = way.stands;
          counted = ap (λ (r : Reading). r.taken) took.same ∙ way.counted;
          bytes = way.bytes ∙ sym took.line ∙ sym (append-nil line_then) ∙ ap (λ ready. line_then ++ ready) (sym none);
          unended = record { no_lf = subst HasNoLf (sym took.line) (All-append IsNotLf line now.ready way.unended.no_lf took.no_lf); short = took.short };
          going = ap (λ (r : Reading). r.last) took.same ∙ way.going;
        }

    -- a read brought bytes
    pub brings : (left_then : Option (List ℕ)) (faults_then : ℕ) (then : Reading) → now.ready ≡ []
        → Fills left_now left_then faults_now faults_then now then None
        → IsUnderWay left_before left_then faults_before faults_then before then line
    brings left_then faults_then then none read =
        let is = read.brings.2 in
        let ready : then.ready ≡ read.more = ap (λ (r : Reading). r.ready) is in
        let taken : then.taken ≡ now.taken + length read.more = ap (λ (r : Reading). r.taken) is in
        record {
          more = way.more ++ read.more;
          consumed = Consumes-trans left_before left_now left_then way.more read.more way.consumed read.consumed;
          stands = read.stands (λ e. cc) ∙ way.stands;
          counted = rw length-append (omega (arith, taken, way.counted));
          bytes = sym (append_assoc before.ready way.more read.more) ∙ ap (λ l. l ++ read.more) (way.bytes ∙ ap (λ r. line ++ r) none ∙ append-nil line) ∙ ap (λ r. line ++ r) (sym ready);
          unended = way.unended;
          going = ap (λ (r : Reading). r.last) is;
        }

    -- a read brought nothing
    module _ (left_then : Option (List ℕ)) (faults_then : ℕ) (then : Reading) (none : now.ready ≡ []) where
      -- the bytes are the line so far
      all_in_line : (more : List ℕ) → more ≡ [] → before.ready ++ (way.more ++ more) ≡ line
      all_in_line more no_more =
          ap (λ more. before.ready ++ (way.more ++ more)) no_more
          ∙ ap (λ more. before.ready ++ more) (append-nil way.more)
          ∙ way.bytes
          ∙ ap (λ ready. line ++ ready) none
          ∙ append-nil line

      last_answer : (step : Step) (more : List ℕ) → more ≡ [] → Consumes left_now left_then more → then.taken ≡ now.taken
          → (step ≢ Failed → faults_then ≡ faults_now)
          → faults_then ≤ faults_now + 1
          → IsAnswer (before.ready ++ (way.more ++ more)) line left_then faults_before faults_then then step
          → NextLine left_before left_then faults_before faults_then before then line step
      last_answer step more no_more consumed same stands once answer =
          answered left_before left_then faults_before faults_then before then line (way.more ++ more) step going
          (Consumes-trans left_before left_now left_then way.more more way.consumed consumed)
          (rw (no_more, append-nil) (same ∙ way.counted))
          (λ other. stands other ∙ way.stands)
          (omega (arith, once, way.stands))
          answer

      at_most : faults_then ≡ faults_now → faults_then ≤ faults_now + 1
      at_most kept = omega (arith, kept)

      same_taken : (step : Step) → then ≡ settled now.taken step → then.taken ≡ now.taken
      same_taken step is = ap (λ (r : Reading). r.taken) is

      stands : (step : Step) → then ≡ settled now.taken step → then ≡ settled then.taken step
      stands step is = is ∙ ap (λ taken. settled taken step) (sym (same_taken step is))

      pub gives_last : (step : Step) (is_empty : Bool) → (is_empty ≡ true → line ≡ []) → (is_empty ≡ false → line ≢ [])
          → Fills left_now left_then faults_now faults_then now then (Some step)
          → NextLine left_before left_then faults_before faults_then before then line (step_after step is_empty)
      gives_last Line is_empty empty some read = absurd read.brings.1
      gives_last End true empty some read =
          let all = all_in_line read.more read.brings.0 in
          let why = read.brings.1 in
          let kept = read.stands (λ e. cc) in
          last_answer End read.more read.brings.0 read.consumed (same_taken End why.2) (λ _. kept) (at_most kept)
          (all ∙ empty refl, why.0, rw (same_taken End why.2) why.1, stands End why.2)
      gives_last End false empty some read =
          let all = all_in_line read.more read.brings.0 in
          let why = read.brings.1 in
          let kept = read.stands (λ e. cc) in
          last_answer Line read.more read.brings.0 read.consumed (same_taken End why.2) (λ _. kept) (at_most kept)
          (way.unended, inr record { whole = all; some = λ e. some refl (sym all ∙ e); at_end = why.0; below = rw (same_taken End why.2) why.1; ended = stands End why.2 })
      gives_last Long is_empty empty some read = absurd read.brings.1
      gives_last Failed is_empty empty some read =
          let all = all_in_line read.more read.brings.0 in
          let why = read.brings.1 in
          last_answer Failed read.more read.brings.0 read.consumed (same_taken Failed why.2) (λ other. absurd (other refl)) (omega (arith, why.0))
          (subst IsUnended (sym all) way.unended, omega (arith, why.0, way.stands), rw (same_taken Failed why.2) why.1, stands Failed why.2)
      gives_last Limit is_empty empty some read =
          let all = all_in_line read.more read.brings.0 in
          let why = read.brings.1 in
          let kept = read.stands (λ e. cc) in
          last_answer Limit read.more read.brings.0 read.consumed (same_taken Limit why.1) (λ _. kept) (at_most kept)
          (subst IsUnended (sym all) way.unended, same_taken Limit why.1 ∙ why.0, stands Limit why.1)

-- the test for an empty list
pub empty_at_true : (items : List ℕ) (size : ℕ) (test : Bool) → size ≡ length items → test ≡ (size == 0) → test ≡ true → items ≡ []
empty_at_true [] size test is same holds = refl
empty_at_true (byte ∷ items) size test is same holds = absurd (let none : (size == 0) ≡ true = sym same ∙ holds in grind (arith, nat_tests))

pub some_at_false : (items : List ℕ) (size : ℕ) (test : Bool) → size ≡ length items → test ≡ (size == 0) → test ≡ false → items ≢ []
some_at_false [] size test is same fails none = let some : (size == 0) ≡ false = sym same ∙ fails in grind (arith, nat_tests)
some_at_false (byte ∷ items) size test is same fails none = cc
