-- The tests of spans decide the predicates that they are named after.
use Rattle.std.proofs.Common.{◌≡◌, ◌-◌, ◌↔◌, Bool, true, false, ◌&&◌, ◌||◌, nat_le, nat_lt, List, T, refl, sym, ap, subst, inl, inr}
use Rattle.std.specs.Prelude.{ℤ, pos, int_le, ◌≤ℤ◌, ◌==◌}
use Rattle.std.specs.Int.Signed.{le_z_yes}
use Rattle.std.proofs.lemmas.Bool.{and_from, and_parts, or_cases, leb-true, le-leb, ltb-true, lt-ltb, eqb-true, eq-eqb}
use Rattle.span_token.specs.Extents.{Extent}
use Rattle.span_token.specs.Relations.{Follows, FollowsTok, Overlaps, ContainsExtent, does_follow, does_follow_tok, do_overlap, does_contain, tokens_between}
use Rattle.span_token.specs.ExtentLaws.{same_extent}

held : (b : Bool) → T b → b ≡ true
held true h = refl
held false h = absurd h

le_from : (x y : ℤ) → int_le x y ≡ true → x ≤ℤ y
le_from x y e = le_z_yes (subst (λ b. T b) (sym e) tt)

pub does_follow-decides : (low high : ℤ) (a b : Extent) → (does_follow a b low high ≡ true) ↔ Follows a b low high
does_follow-decides low high a b =
    let n = b.begin - a.end in (
      λ e.
          let outer = and_parts (nat_le a.end b.begin) (int_le low (pos n) && int_le (pos n) high) e in
          let inner = and_parts (int_le low (pos n)) (int_le (pos n) high) outer.1 in
          record { in_order = leb-true a.end b.begin outer.0; at_least = le_from low (pos n) inner.0; at_most = le_from (pos n) high inner.1 },
      λ f.
          and_from (nat_le a.end b.begin) (int_le low (pos n) && int_le (pos n) high) (le-leb a.end b.begin f.in_order)
          (and_from (int_le low (pos n)) (int_le (pos n) high) (held (int_le low (pos n)) f.at_least.le) (held (int_le (pos n) high) f.at_most.le)),
    )

pub does_follow_tok-decides : (tokens : List Extent) (low high : ℤ) (a b : Extent) → (does_follow_tok tokens a b low high ≡ true) ↔ FollowsTok tokens a b low high
does_follow_tok-decides tokens low high a b =
    let n = tokens_between tokens a.end b.begin in (
      λ e.
          let outer = and_parts (nat_le a.end b.begin) (int_le low (pos n) && int_le (pos n) high) e in
          let inner = and_parts (int_le low (pos n)) (int_le (pos n) high) outer.1 in
          record { in_order = leb-true a.end b.begin outer.0; at_least = le_from low (pos n) inner.0; at_most = le_from (pos n) high inner.1 },
      λ f.
          and_from (nat_le a.end b.begin) (int_le low (pos n) && int_le (pos n) high) (le-leb a.end b.begin f.in_order)
          (and_from (int_le low (pos n)) (int_le (pos n) high) (held (int_le low (pos n)) f.at_least.le) (held (int_le (pos n) high) f.at_most.le)),
    )

or_left : (x y : Bool) → x ≡ true → (x || y) ≡ true
or_left x y e = subst (λ b. (b || y) ≡ true) (sym e) refl

or_right : (x y : Bool) → y ≡ true → (x || y) ≡ true
or_right true y e = refl
or_right false y e = e

pub do_overlap-decides : (a b : Extent) → (do_overlap a b ≡ true) ↔ Overlaps a b
do_overlap-decides a b =
    let share = nat_lt a.begin b.end && nat_lt b.begin a.end in
    let same = a.begin == b.begin && a.end == b.end in (
      λ e. elim (or_cases share same e) [
        | inl h ↦ let parts = and_parts (nat_lt a.begin b.end) (nat_lt b.begin a.end) h in inl (ltb-true a.begin b.end parts.0, ltb-true b.begin a.end parts.1)
        | inr h ↦ let parts = and_parts (a.begin == b.begin) (a.end == b.end) h in inr (same_extent a b (eqb-true a.begin b.begin parts.0) (eqb-true a.end b.end parts.1))
      ],
      λ o. elim o [
        | inl h ↦ or_left share same (and_from (nat_lt a.begin b.end) (nat_lt b.begin a.end) (lt-ltb a.begin b.end h.0) (lt-ltb b.begin a.end h.1))
        | inr h ↦ or_right share same (and_from (a.begin == b.begin) (a.end == b.end) (eq-eqb a.begin b.begin (ap (λ (x : Extent). x.begin) h)) (eq-eqb a.end b.end (ap (λ (x : Extent). x.end) h)))
      ],
    )

pub does_contain-decides : (a b : Extent) → (does_contain a b ≡ true) ↔ ContainsExtent a b
does_contain-decides a b = (
  λ e. let parts = and_parts (nat_le a.begin b.begin) (nat_le b.end a.end) e in record { begins = leb-true a.begin b.begin parts.0; ends = leb-true b.end a.end parts.1 },
  λ h. and_from (nat_le a.begin b.begin) (nat_le b.end a.end) (le-leb a.begin b.begin h.begins) (le-leb b.end a.end h.ends),
)
