use Rattle.std.proofs.Common.{◌≡◌, ℕ, true, Some, slice_get, sym, subst}
use Rattle.share_plan.specs.Indexes.{Key, same}
use Rattle.share_plan.proofs.index.put_key.Goals as goal

pub returns : goal.returns
returns c = record {
  keys_are = c.in_ok-key_number.ensures.keys;
  added = c.in_ok-key_number.ensures.added;
  stored = subst (λ (n : ℕ). (x : Key) × (slice_get c.insert_full.new.self.keys n ≡ Some x) × (same c.args.key x ≡ true)) (sym c.in-Ok.ensures.1) c.in_ok-key_number.ensures.stored;
}
