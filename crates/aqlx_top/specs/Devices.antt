-- What a call did to the objects that it was handed: their bytes and their counts of faults, before it and after it.
use Rattle.std.specs.Prelude.{◌≡◌, ℕ, List, length, take, Option, IfSome}
use Rattle.std.specs.Io.KnownBytes.{Appends}
use Rattle.aql_io.specs.Bytes.{Names}
use Rattle.aql_io.specs.Causes.{Rose}

-- files: their bytes, where they are told, which no call changes
pub record FilesEnds : Type 0 where
  pub told : Option Names
  pub faults_before : ℕ
  pub faults_after : ℕ

-- a source: the bytes that are left, where they are told
pub record SourceEnds : Type 0 where
  pub left_before : Option (List ℕ)
  pub left_after : Option (List ℕ)
  pub faults_before : ℕ
  pub faults_after : ℕ

-- a sink: the bytes that it holds, where they are told, and how many of them are flushed
pub record SinkEnds : Type 0 where
  pub held_before : Option (List ℕ)
  pub held_after : Option (List ℕ)
  pub flushed_before : ℕ
  pub flushed_after : ℕ
  pub faults_before : ℕ
  pub faults_after : ℕ

abbrev pub files_ends : Option Names → ℕ → ℕ → FilesEnds
files_ends told before after = record { told = told; faults_before = before; faults_after = after }

abbrev pub source_ends : Option (List ℕ) → Option (List ℕ) → ℕ → ℕ → SourceEnds
source_ends left_before left_after faults_before faults_after =
    record { left_before = left_before; left_after = left_after; faults_before = faults_before; faults_after = faults_after }

abbrev pub sink_ends : Option (List ℕ) → Option (List ℕ) → ℕ → ℕ → ℕ → ℕ → SinkEnds
sink_ends held_before held_after flushed_before flushed_after faults_before faults_after =
    record {
      held_before = held_before;
      held_after = held_after;
      flushed_before = flushed_before;
      flushed_after = flushed_after;
      faults_before = faults_before;
      faults_after = faults_after;
    }

-- what a call did to files, a source and a sink, by what their traits tell of them
abbrev pub files_between : {F : Type 0} → (F → Option Names) → (F → ℕ) → F → F → FilesEnds
files_between told faults before after = files_ends (told before) (faults before) (faults after)

abbrev pub source_between : {S : Type 0} → (S → Option (List ℕ)) → (S → ℕ) → S → S → SourceEnds
source_between left faults before after = source_ends (left before) (left after) (faults before) (faults after)

abbrev pub sink_between : {O : Type 0} → (O → Option (List ℕ)) → (O → ℕ) → (O → ℕ) → O → O → SinkEnds
sink_between held flushed faults before after =
    sink_ends (held before) (held after) (flushed before) (flushed after) (faults before) (faults after)

-- a call of the files, of the source or of the sink failed
abbrev pub FilesFailed : FilesEnds → Type 0
FilesFailed files = Rose files.faults_before files.faults_after

abbrev pub SourceFailed : SourceEnds → Type 0
SourceFailed source = Rose source.faults_before source.faults_after

abbrev pub SinkFailed : SinkEnds → Type 0
SinkFailed sink = Rose sink.faults_before sink.faults_after

-- no call of the files, of the source or of the sink failed: their count of faults is as it was
abbrev pub FilesNeverFailed : FilesEnds → Type 0
FilesNeverFailed files = files.faults_after ≡ files.faults_before

abbrev pub SourceNeverFailed : SourceEnds → Type 0
SourceNeverFailed source = source.faults_after ≡ source.faults_before

abbrev pub SinkNeverFailed : SinkEnds → Type 0
SinkNeverFailed sink = sink.faults_after ≡ sink.faults_before

-- the sink gained these bytes, and no others
abbrev pub Gained : SinkEnds → List ℕ → Type 0
Gained sink bytes = Appends sink.held_before sink.held_after bytes

-- the sink gained a beginning of these bytes
abbrev pub GainedFront : SinkEnds → List ℕ → Type 0
GainedFront sink bytes = (count : ℕ) × Gained sink (take count bytes)

-- all bytes that the sink holds are flushed
abbrev pub IsFlushed : SinkEnds → Type 0
IsFlushed sink = IfSome sink.held_after (λ bytes. sink.flushed_after ≡ length bytes)

-- the sink gained these bytes and no others, all that it holds is flushed, and no call of it failed
pub record HasSent (sink : SinkEnds) (bytes : List ℕ) : Type 0 where
  pub gained : Gained sink bytes
  pub flushed : IsFlushed sink
  pub unfailed : SinkNeverFailed sink

-- the sink is as it was
pub record IsUntouched (sink : SinkEnds) : Type 0 where
  pub held : sink.held_after ≡ sink.held_before
  pub flushed : sink.flushed_after ≡ sink.flushed_before
  pub faults : sink.faults_after ≡ sink.faults_before

-- the source is as it was
pub record IsUnread (source : SourceEnds) : Type 0 where
  pub left : source.left_after ≡ source.left_before
  pub faults : source.faults_after ≡ source.faults_before
