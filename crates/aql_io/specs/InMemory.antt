-- What contracts see of the objects in memory, and where their calls fail.
use Rattle.std.specs.Prelude.{ℕ, List, Contains, Result, is_err, if◌then◌else◌}
use Rattle.aql_io.specs.Causes.{counted}

-- the calls on an object: the numbers, from 1, of those that are to fail, how many were made, how many failed
pub record CallLog : Type 0 where
  pub fail : List ℕ
  pub made : ℕ
  pub faults : ℕ

-- no call was made yet
abbrev pub no_calls : List ℕ → CallLog
no_calls fail = record { fail = fail; made = 0; faults = 0 }

-- the number of the next call is listed as one that fails
abbrev pub NextIsListed : CallLog → Type 0
NextIsListed calls = Contains calls.fail (counted calls.made)

-- the calls after one more with this result
abbrev pub after_call : {T E : Type 0} → CallLog → Result T E → CallLog
after_call calls result = record {
  fail = calls.fail;
  made = counted calls.made;
  faults = if is_err result then counted calls.faults else calls.faults;
}

-- a source in memory: what is left, and the most bytes that one call gives
pub record SourceInMemory : Type 0 where
  pub left : List ℕ
  pub piece : ℕ
  pub calls : CallLog

-- a sink in memory: what it holds, how many of these bytes are flushed, the most that it has room for, and the most that one call takes
pub record SinkInMemory : Type 0 where
  pub held : List ℕ
  pub flushed : ℕ
  pub room : ℕ
  pub piece : ℕ
  pub calls : CallLog
