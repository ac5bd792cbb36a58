-- The order of spans is one: the relation and the comparison say the same, and one list at most is in order with a
-- property.
use Rattle.std.proofs.Common.{◌≡◌, ◌↔◌, inl, inr, List, arith}
use Rattle.std.specs.declared.cmp.Ordering.TheVariants.{Less}
use Rattle.std.proofs.lemmas.Bool.Decides.{nat_tests}
use Rattle.span_token.specs.Extents.{Extent}
use Rattle.span_token.specs.SpanOrder.{IsBefore, extent_cmp, AreInOrder}
use Rattle.span_token.specs.RisingLists.{same_in_order}

pub Less-from_before : (a b : Extent) → IsBefore a b → extent_cmp a b ≡ Less
Less-from_before a b (inl h) = grind (arith, nat_tests)
Less-from_before a b (inr h) = grind (arith, nat_tests)

pub before_from_Less : (a b : Extent) → extent_cmp a b ≡ Less → IsBefore a b
before_from_Less a b h = grind (arith, nat_tests)

-- the comparison answers `Less` exactly where the relation holds
pub IsBefore-cmp : (a b : Extent) → IsBefore a b ↔ (extent_cmp a b ≡ Less)
IsBefore-cmp a b = (Less-from_before a b, before_from_Less a b)

-- of two extents at most one is before the other
pub never_both : (a b : Extent) → IsBefore a b → IsBefore b a → ⊥
never_both a b (inl h) (inl k) = absurd (omega (arith, h, k))
never_both a b (inl h) (inr k) = absurd (omega (arith, h, k.0))
never_both a b (inr h) (inl k) = absurd (omega (arith, h.0, k))
never_both a b (inr h) (inr k) = absurd (omega (arith, h.1, k.1))

-- just one list has exactly the extents with a property in span order
pub in_order_is_unique : (P : Extent → Type 0) (xs ys : List Extent) → AreInOrder P xs → AreInOrder P ys → xs ≡ ys
in_order_is_unique P xs ys first second =
    same_in_order IsBefore never_both xs ys first.rising second.rising (λ e h. (second.exactly e).1 ((first.exactly e).0 h))
    (λ e h. (first.exactly e).1 ((second.exactly e).0 h))
