-- The room of a sink in memory.
use Rattle.std.specs.Prelude.{ℕ, ◌≤◌, Vec, vec_len, vec_capacity}

-- the bytes keep within the room, whose memory is there, and a call takes at least one byte
pub record HasRoom {A : Type 0} (bytes : Vec ℕ A) (room piece : ℕ) : Type 0 where
  pub within : vec_len bytes ≤ room
  pub reserved : room ≤ vec_capacity bytes
  pub some : 1 ≤ piece
