-- From the text of a program file to the file, and to the words that name it.
use Rattle.std.proofs.Common.{◌≡◌, ℕ, ◌+◌, ◌<◌, List, length, take, ap, subst, ◌∙◌, refl, arith, Option, Some, None, Result, Ok, Err, IfSome, IfOk, OnErr, inl, inr, ◌⊎◌}
use Rattle.std.proofs.lemmas.List.{take_all, length-take}
use Rattle.std.proofs.lemmas.Bool.{cases_lt}
use Rattle.aql_io.specs.Bytes.{Names}
use Rattle.span_token.specs.declared.refusal.OutOfMemory.{OutOfMemory}
use Rattle.aqlx_top.specs.Limits.{program_limit}
use Rattle.aqlx_top.specs.declared.status.Status.{Status}
use Rattle.aqlx_top.specs.declared.status.Status.TheVariants.{Done, Program as Refused, Usage, Corpus, ReadFault, WriteFault}
use Rattle.aqlx_top.specs.declared.status.ProgramFault.{ProgramFault}
use Rattle.aqlx_top.specs.declared.status.ProgramFault.TheVariants.{Large}
use Rattle.aqlx_top.specs.declared.status.What.TheVariants.{Bytes}
use Rattle.aqlx_top.specs.declared.modes.Shown.{Shown}
use Rattle.aqlx_top.specs.declared.modes.Shown.TheVariants.{Check, Plan}
use Rattle.aqlx_top.specs.Devices.{FilesEnds, SourceEnds, SinkEnds, FilesNeverFailed}
use Rattle.algebra.specs.Nodes.{IsPlan}
use Rattle.algebra.specs.Plans.{Parts, AreOutputs}
use Rattle.run_pool.specs.Lines.{Meaning}
use Rattle.run_pool.specs.PoolLaws.{sound_line}
use Rattle.aqlx_top.specs.Handing.{PoolEnds, InPartBy}
use Rattle.aqlx_top.specs.PoolRuns.{IsRunWith}
use Rattle.aqlx_top.specs.PoolTurns.{IsRunBy}
use Rattle.aqlx_top.specs.Plans.{IsPlanOf}
use Rattle.aqlx_top.specs.Outcome.{IsReadAs, IsCalledFor, WroteFront, HasCauseOf, call_of}
use Rattle.aqlx_top.specs.ProgramFaults.{HasOnlyFault, AreOneFault, HoldsProgram}
use Rattle.aqlx_top.specs.ProgramFile.{IsFrontOf}
use Rattle.aqlx_top.specs.Modes.{GivesPlan}
use Rattle.aqlx_top.specs.Run.{Program}
use Rattle.aqlx_top.specs.Showings.{gives, IsTextShown, IsFileShown}
use Rattle.aqlx_top.specs.Stages.{RanText, RanTextInPart, IsRunFor, IsFileRunTo, IsFileInPart, IsTextRunTo, IsTextInPart}
use Rattle.aqlx_top.specs.Words.{to_run, IsOrder}
use Rattle.aqlx_top.proofs.Planning.{plan_means}
use Rattle.aqlx_top.proofs.ProgramLaws.{only_large}

-- ---- a run by a plan of the text

-- the text's plan is one that is shown, and a sound pool's lines by it are those that the program means
run_with : (means : Meaning) (text : List ℕ) (plan : Parts) (planned : IsPlanOf text plan) → IsPlan plan.nodes → AreOutputs plan.nodes plan.outputs → IsRunWith means text planned.program plan
run_with means text plan planned nodes outputs = record {
  planned = planned;
  shown = record { plan = plan; nodes = nodes; outputs = outputs; planned = planned; bytes_are = refl };
  meant = λ sound doc. sound_line means sound plan doc ∙ plan_means text plan planned doc;
}

run_for : (pool : PoolEnds) (text : List ℕ) (program : Program) (plan : Parts) (corpus : SourceEnds) (out : SinkEnds) (status : Status) → IsRunWith pool.means text program plan
    → IsRunBy pool plan corpus out status → IsRunFor pool text program corpus out status
run_for pool text program plan corpus out WriteFault own run = (run.0, record { plan = plan; with_plan = own; run = run.1 })
run_for pool text program plan corpus out Done own run = record { plan = plan; with_plan = own; run = run }
run_for pool text program plan corpus out ReadFault own run = record { plan = plan; with_plan = own; run = run }
run_for pool text program plan corpus out Usage own run = record { plan = plan; with_plan = own; run = run }
run_for pool text program plan corpus out (Refused fault) own run = record { plan = plan; with_plan = own; run = run }
run_for pool text program plan corpus out (Corpus fault) own run = record { plan = plan; with_plan = own; run = run }

module _ (text : List ℕ) (plan : Parts) (planned : IsPlanOf text plan) (nodes : IsPlan plan.nodes) (outputs : AreOutputs plan.nodes plan.outputs) (pool : PoolEnds) (corpus : SourceEnds) (out : SinkEnds) where
  -- a program text that ran
  pub text_run : (r : Result Status OutOfMemory) → IfOk r (IsRunBy pool plan corpus out) → IfOk r (IsTextRunTo text pool corpus out)
  text_run (Ok status) ran =
      inr (record {
        program = planned.program;
        holds = planned.holds;
        ran = run_for pool text planned.program plan corpus out status (run_with pool.means text plan planned nodes outputs) ran;
      })
  text_run (Err e) ran = tt

  pub text_part : (r : Result Status OutOfMemory) → OnErr r (InPartBy pool plan corpus out.held_before out.held_after) → OnErr r (IsTextInPart text pool corpus out)
  text_part (Ok status) part = tt
  text_part (Err e) part =
      inr (record {
        program = planned.program;
        holds = planned.holds;
        ran = record { plan = plan; with_plan = run_with pool.means text plan planned nodes outputs; run = part };
      })

-- ---- a front of a file

-- the text that a file holds, of which this is the front, and whether the front is all of it
whole_or_large : (held bytes : List ℕ) → bytes ≡ take (program_limit + 1) held
    → (bytes ≡ held) ⊎ ((program_limit < length held) × (program_limit < length bytes))
whole_or_large held bytes front =
    elim (cases_lt program_limit (length held)) [
      | inl large ↦ inr (large, let e = ap length front ∙ length-take (program_limit + 1) held in omega arith)
      | inr small ↦ inl (front ∙ take_all (program_limit + 1) held (omega arith))
    ]

-- what is one fault with too many bytes is that fault
large_is : (fault : ProgramFault) → AreOneFault (Large Bytes (program_limit + 1)) fault → Large Bytes (program_limit + 1) ≡ fault
large_is fault one = elim one [ inl same ↦ same | inr cycles ↦ absurd cycles ]

fault_of_held : (held bytes : List ℕ) (fault : ProgramFault) → bytes ≡ take (program_limit + 1) held → HasOnlyFault bytes fault → HasOnlyFault held fault
fault_of_held held bytes fault front cause =
    elim (whole_or_large held bytes front) [
      | inl whole ↦ subst (λ (t : List ℕ). HasOnlyFault t fault) whole cause
      | inr large ↦
          subst (λ (f : ProgramFault). HasOnlyFault held f)
          (large_is fault (cause.only (Large Bytes (program_limit + 1)) (only_large bytes large.1).has))
          (only_large held large.0)
    ]

-- a front that holds a program is all of the text
program_is_whole : (held bytes : List ℕ) (program : Program) → bytes ≡ take (program_limit + 1) held → HoldsProgram bytes program → bytes ≡ held
program_is_whole held bytes program front holds =
    elim (whole_or_large held bytes front) [
      | inl whole ↦ whole
      | inr large ↦ let small = holds.holds.reads.small in let long = large.1 in absurd (omega arith)
    ]

program_of_held : (held bytes : List ℕ) (program : Program) → bytes ≡ take (program_limit + 1) held → HoldsProgram bytes program → HoldsProgram held program
program_of_held held bytes program front holds = subst (λ (t : List ℕ). HoldsProgram t program) (program_is_whole held bytes program front holds) holds

-- a text that the file holds, of which something is so
abbrev Held : Option (List ℕ) → (List ℕ → Type 0) → Type 0
Held file P = (text : List ℕ) × (file ≡ Some text) × P text

fault_at : (file : Option (List ℕ)) (bytes : List ℕ) (fault : ProgramFault) → IsFrontOf file (program_limit + 1) bytes → HasOnlyFault bytes fault
    → Held file (λ text. HasOnlyFault text fault)
fault_at None bytes fault front cause = absurd front
fault_at (Some held) bytes fault front cause = (held, refl, fault_of_held held bytes fault front cause)

program_at : (file : Option (List ℕ)) (bytes : List ℕ) (program : Program) → IsFrontOf file (program_limit + 1) bytes → HoldsProgram bytes program
    → Held file (λ text. bytes ≡ text)
program_at None bytes program front holds = absurd front
program_at (Some held) bytes program front holds = (held, refl, program_is_whole held bytes program front holds)

fault_of_front : (told : Option Names) (name bytes : List ℕ) (fault : ProgramFault) → IfSome told (λ names. IsFrontOf (names name) (program_limit + 1) bytes)
    → HasOnlyFault bytes fault → (text : List ℕ) × IfSome told (λ names. names name ≡ Some text) × HasOnlyFault text fault
fault_of_front None name bytes fault front cause = (bytes, tt, cause)
fault_of_front (Some names) name bytes fault front cause = fault_at (names name) bytes fault front cause

-- ---- what is shown of a file

gives_of_held : (shown : Shown) (held text bytes : List ℕ) → text ≡ take (program_limit + 1) held → gives shown text bytes → gives shown held bytes
gives_of_held Check held text bytes front given =
    record { program = given.program; holds = program_of_held held text given.program front given.holds; bytes_are = given.bytes_are }
gives_of_held Plan held text bytes front given =
    elim (whole_or_large held text front) [
      | inl whole ↦ subst (λ (t : List ℕ). GivesPlan t bytes) whole given
      | inr large ↦ let small = given.planned.holds.holds.reads.small in let long = large.1 in absurd (omega arith)
    ]

given_at : (shown : Shown) (file : Option (List ℕ)) (text bytes : List ℕ) → IsFrontOf file (program_limit + 1) text → gives shown text bytes
    → Held file (λ held. gives shown held bytes)
given_at shown None text bytes front given = absurd front
given_at shown (Some held) text bytes front given = (held, refl, gives_of_held shown held text bytes front given)

given_by_front : (shown : Shown) (told : Option Names) (name text bytes : List ℕ) → IfSome told (λ names. IsFrontOf (names name) (program_limit + 1) text)
    → gives shown text bytes → (held : List ℕ) × IfSome told (λ names. names name ≡ Some held) × gives shown held bytes
given_by_front shown None name text bytes front given = (text, tt, given)
given_by_front shown (Some names) name text bytes front given = given_at shown (names name) text bytes front given

program_of_front : (told : Option Names) (name bytes : List ℕ) (program : Program) → IfSome told (λ names. IsFrontOf (names name) (program_limit + 1) bytes)
    → HoldsProgram bytes program → (text : List ℕ) × IfSome told (λ names. names name ≡ Some text) × (bytes ≡ text)
program_of_front None name bytes program front holds = (bytes, tt, refl)
program_of_front (Some names) name bytes program front holds = program_at (names name) bytes program front holds

-- ---- a file that ran

-- a text of the file, which was read without a failed call
read_as : (files : FilesEnds) (name text : List ℕ) → IfSome files.told (λ names. names name ≡ Some text) → FilesNeverFailed files → IsReadAs files name text
read_as files name text held unfailed = record { held = held; unfailed = unfailed }

file_run_to : (name bytes : List ℕ) (files : FilesEnds) (pool : PoolEnds) (corpus : SourceEnds) (out : SinkEnds) (status : Status)
    → IfSome files.told (λ names. IsFrontOf (names name) (program_limit + 1) bytes) → FilesNeverFailed files
    → IsTextRunTo bytes pool corpus out status → IsFileRunTo name files pool corpus out status
file_run_to name bytes files pool corpus out status front unfailed ran =
    elim ran [
      | inl refused ↦
          let found = fault_of_front files.told name bytes refused.fault front refused.cause in
          inr (found.0, read_as files name found.0 found.1 unfailed, inl (record { fault = refused.fault; told = refused.told; cause = found.2; idle = refused.idle }))
      | inr run ↦
          let found = program_of_front files.told name bytes run.program front run.holds in
          inr (found.0, read_as files name found.0 found.1 unfailed, inr (subst (λ (t : List ℕ). RanText t pool corpus out status) found.2 run))
    ]

pub file_run : (name bytes : List ℕ) (files : FilesEnds) (pool : PoolEnds) (corpus : SourceEnds) (out : SinkEnds) (r : Result Status OutOfMemory)
    → IfSome files.told (λ names. IsFrontOf (names name) (program_limit + 1) bytes) → FilesNeverFailed files
    → IfOk r (IsTextRunTo bytes pool corpus out) → IfOk r (IsFileRunTo name files pool corpus out)
file_run name bytes files pool corpus out (Ok status) front unfailed ran = file_run_to name bytes files pool corpus out status front unfailed ran
file_run name bytes files pool corpus out (Err e) front unfailed ran = tt

pub file_part : (name bytes : List ℕ) (files : FilesEnds) (pool : PoolEnds) (corpus : SourceEnds) (out : SinkEnds) (r : Result Status OutOfMemory)
    → IfSome files.told (λ names. IsFrontOf (names name) (program_limit + 1) bytes) → FilesNeverFailed files
    → OnErr r (IsTextInPart bytes pool corpus out) → OnErr r (IsFileInPart name files pool corpus out)
file_part name bytes files pool corpus out (Ok status) front unfailed part = tt
file_part name bytes files pool corpus out (Err e) front unfailed part =
    elim part [
      | inl nothing ↦ inl nothing
      | inr run ↦
          let found = program_of_front files.told name bytes run.program front run.holds in
          inr (found.0, read_as files name found.0 found.1 unfailed, subst (λ (t : List ℕ). RanTextInPart t pool corpus out) found.2 run)
    ]

file_shown_to : (shown : Shown) (name text : List ℕ) (files : FilesEnds) (out : SinkEnds) (status : Status)
    → IfSome files.told (λ names. IsFrontOf (names name) (program_limit + 1) text) → FilesNeverFailed files
    → IsTextShown (gives shown) text out status → IsFileShown (gives shown) name files out status
file_shown_to shown name text files out status front unfailed came =
    elim came [
      | inl refused ↦
          let found = fault_of_front files.told name text refused.fault front refused.cause in
          inr (found.0, read_as files name found.0 found.1 unfailed, inl (record { fault = refused.fault; told = refused.told; cause = found.2; untouched = refused.untouched }))
      | inr sent ↦
          let found = given_by_front shown files.told name text sent.bytes front sent.given in
          inr (found.0, read_as files name found.0 found.1 unfailed, inr (record { bytes = sent.bytes; given = found.2; sent = sent.sent }))
    ]

pub file_shown : (shown : Shown) (name text : List ℕ) (files : FilesEnds) (out : SinkEnds) (r : Result Status OutOfMemory)
    → IfSome files.told (λ names. IsFrontOf (names name) (program_limit + 1) text) → FilesNeverFailed files
    → IfOk r (IsTextShown (gives shown) text out) → IfOk r (IsFileShown (gives shown) name files out)
file_shown shown name text files out (Ok status) front unfailed came = file_shown_to shown name text files out status front unfailed came
file_shown shown name text files out (Err e) front unfailed came = tt

-- ---- words that name a file

abbrev called_by : (words : List (List ℕ)) (name text : List ℕ) (files : FilesEnds) (pool : PoolEnds) (corpus : SourceEnds) (out : SinkEnds) (program : Program)
    → IsOrder words (to_run name) → IsReadAs files name text → HoldsProgram text program → IsCalledFor (call_of words files pool corpus out) program
called_by words name text files pool corpus out program run held holds = record { name = name; text = text; words = run; file = held; holds = holds }

cause_of_run : (words : List (List ℕ)) (name text : List ℕ) (files : FilesEnds) (pool : PoolEnds) (corpus : SourceEnds) (out : SinkEnds) (status : Status)
    → IsOrder words (to_run name) → IsReadAs files name text → RanText text pool corpus out status → HasCauseOf (call_of words files pool corpus out) status
cause_of_run words name text files pool corpus out Done run held f =
    inl (record { program = f.program; called = called_by words name text files pool corpus out f.program run held f.holds; ran = f.ran })
cause_of_run words name text files pool corpus out (Refused fault) run held f = absurd f.ran.run.came.status_is
cause_of_run words name text files pool corpus out Usage run held f = absurd f.ran.run.came.status_is
cause_of_run words name text files pool corpus out (Corpus fault) run held f =
    record { program = f.program; called = called_by words name text files pool corpus out f.program run held f.holds; ran = f.ran }
cause_of_run words name text files pool corpus out ReadFault run held f =
    inr (record { program = f.program; called = called_by words name text files pool corpus out f.program run held f.holds; ran = f.ran })
cause_of_run words name text files pool corpus out WriteFault run held f =
    (f.ran.0, inl (record { program = f.program; called = called_by words name text files pool corpus out f.program run held f.holds; ran = f.ran.1 }))

cause_of_file : (words : List (List ℕ)) (name : List ℕ) (files : FilesEnds) (pool : PoolEnds) (corpus : SourceEnds) (out : SinkEnds) (status : Status)
    → IsOrder words (to_run name) → IsFileRunTo name files pool corpus out status → HasCauseOf (call_of words files pool corpus out) status
cause_of_file words name files pool corpus out status run came =
    elim came [
      | inl unread ↦ rw unread.0 (inl (unread.1, record { name = name; words = record { order = to_run name; asked = run; named = refl }; idle = unread.2 }))
      | inr read ↦ elim read.2 [
        | inl refused ↦
            rw refused.told
            (record { name = name; text = read.0; words = record { order = to_run name; asked = run; named = refl }; file = read.1; cause = refused.cause; idle = refused.idle })
        | inr f ↦ cause_of_run words name read.0 files pool corpus out status run read.1 f
      ]
    ]

pub run_cause : (name : List ℕ) (files : FilesEnds) (pool : PoolEnds) (corpus : SourceEnds) (out : SinkEnds) (r : Result Status OutOfMemory)
    → IfOk r (IsFileRunTo name files pool corpus out)
    → IfOk r (λ status. (words : List (List ℕ)) → IsOrder words (to_run name) → HasCauseOf (call_of words files pool corpus out) status)
run_cause name files pool corpus out (Ok status) came = λ words run. cause_of_file words name files pool corpus out status run came
run_cause name files pool corpus out (Err e) came = tt

pub run_front : (name : List ℕ) (files : FilesEnds) (pool : PoolEnds) (corpus : SourceEnds) (out : SinkEnds) (r : Result Status OutOfMemory)
    → OnErr r (IsFileInPart name files pool corpus out)
    → OnErr r ((words : List (List ℕ)) → IsOrder words (to_run name) → WroteFront (call_of words files pool corpus out))
run_front name files pool corpus out (Ok status) part = tt
run_front name files pool corpus out (Err e) part = λ words run.
    elim part [
      | inl nothing ↦ inl (record { gained = nothing.gained; handed = inl nothing.unasked })
      | inr f ↦ inr (inl (record { program = f.2.program; called = called_by words name f.0 files pool corpus out f.2.program run f.1 f.2.holds; ran = f.2.ran }))
    ]
