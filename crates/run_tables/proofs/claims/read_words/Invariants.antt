use Rattle.std.proofs.Common.{ℕ, ◌≡◌, ◌<◌, length, slice_index}
use Rattle.std.specs.Mem.Slots.{slots_items, slots_len}
use Rattle.run_tables.proofs.claims.read_words.Given as goal

abbrev pub invariant-loop-i : goal.invariant-loop-i
invariant-loop-i l = (length l.words.items ≡ slots_len l.closed.words) × ((k : ℕ) → k < l.i → slice_index l.words.items k ≡ slice_index (slots_items l.closed.words) k)
