-- When two extents are equal.
use Rattle.std.proofs.Common.{◌≡◌, ℕ, ap₂}
use Rattle.span_token.specs.Extents.{Extent}

-- by their ends
pub same_extent : (e f : Extent) → e.begin ≡ f.begin → e.end ≡ f.end → e ≡ f
same_extent e f p q = let extent : ℕ → ℕ → Extent = λ b e. record { begin = b; end = e } in ap₂ extent p q
