-- The part of a buffer that is ready.
use Rattle.std.specs.Prelude.{◌≡◌, ◌≢◌, ℕ, ◌-◌, ◌<◌, ◌≤◌, List, slice_index, Vec, vec_len}
use Rattle.corpus_json.specs.Limits.{corpus_limit}

-- `past` is just past the last LF of the first `to` bytes, or 0 where they have none
pub record IsPastLastLf (bytes : List ℕ) (to past : ℕ) : Type 0 where
  pub within : past ≤ to
  pub lf : 0 < past → slice_index bytes (past - 1) ≡ 10
  pub none_later : (k : ℕ) → past ≤ k → k < to → slice_index bytes k ≢ 10

-- the ready bytes are a part of the buffer, which has room for some, it is known where their last LF stands, and no more than a corpus's most
-- bytes were taken
pub record IsWindow {A : Type 0} (bytes : Vec ℕ A) (from to past taken : ℕ) : Type 0 where
  pub in_order : from ≤ to
  pub within : to ≤ vec_len bytes
  pub last_lf : IsPastLastLf bytes.items to past
  pub room : 0 < vec_len bytes
  pub below : taken ≤ corpus_limit
