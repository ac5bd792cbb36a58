-- What a call handed to its pool, and what a run by a pool comes to.
use Rattle.std.specs.Prelude.{◌≡◌, ℕ, List, ◌++◌, map, Option}
use Rattle.std.specs.List.{flat_map}
use Rattle.span_token.specs.Documents.{Doc}
use Rattle.corpus_json.specs.Documents.{documents}
use Rattle.corpus_json.specs.Lines.{lines_of}
use Rattle.algebra.specs.Plans.{Parts}
use Rattle.run_pool.specs.Entries.{Entry, entry_of, with_entries}
use Rattle.run_pool.specs.Lines.{Meaning, line_from}
use Rattle.aqlx_top.specs.declared.status.Status.{Status}
use Rattle.aqlx_top.specs.Devices.{SourceEnds, SinkEnds}
use Rattle.aqlx_top.specs.Endings.{Came, InPart}
use Rattle.aqlx_top.specs.Taken.{is_at_end}

-- a pool: what it answers, and its list before a call and after it, where it is told
pub record PoolEnds : Type 0 where
  pub means : Meaning
  pub told_before : Option (List Entry)
  pub told_after : Option (List Entry)

abbrev pub pool_ends : Meaning → Option (List Entry) → Option (List Entry) → PoolEnds
pool_ends means before after = record { means = means; told_before = before; told_after = after }

-- what a call did to a pool, by what its trait tells of it
abbrev pub pool_between : {P : Type 0} → (P → Meaning) → (P → Option (List Entry)) → P → P → PoolEnds
pool_between means told before after = pool_ends (means before) (told before) (told after)

-- nothing was handed to the pool
abbrev pub IsUnasked : PoolEnds → Type 0
IsUnasked pool = pool.told_after ≡ pool.told_before

-- exactly these documents were handed over with the plan, each once, in their order
abbrev pub IsHandedAll : PoolEnds → Parts → List Doc → Type 0
IsHandedAll pool plan docs = pool.told_after ≡ with_entries pool.told_before (map (entry_of pool.means plan) docs)

-- and exactly the first ones of these documents
pub record IsHandedFront (pool : PoolEnds) (plan : Parts) (docs : List Doc) : Type 0 where
  pub front : List Doc
  pub behind : List Doc
  pub split : docs ≡ front ++ behind
  pub handed : IsHandedAll pool plan front

-- a run by a pool that came to this status: it handed over all documents, and wrote the lines that the pool answered
pub record CameBy (pool : PoolEnds) (plan : Parts) (corpus : SourceEnds) (out : SinkEnds) (status : Status) : Type 0 where
  pub came : Came (line_from pool.means plan) corpus out status
  pub handed : IsHandedAll pool plan (documents (lines_of (is_at_end came.how) came.given))

-- a run by a pool at any moment: what was sent is a beginning of the lines of the documents that were handed over
pub record InPartBy (pool : PoolEnds) (plan : Parts) (corpus : SourceEnds) (held_before held_now : Option (List ℕ)) : Type 0 where
  pub part : InPart (line_from pool.means plan) corpus held_before held_now
  pub handed : IsHandedFront pool plan (documents (lines_of (is_at_end part.how) part.given))
  pub rest : List ℕ
  pub within : part.sent ++ rest ≡ flat_map (line_from pool.means plan) handed.front
