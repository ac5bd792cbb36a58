-- What the steps of a test tell: one where there is another span, none where there is none.
use Rattle.std.proofs.Common.{◌≡◌, ℕ, ◌+◌, ◌≤◌, Option, Some, None, option_map, refl, arith}
use Rattle.std.specs.Option.{IsSome}
use Rattle.span_token.specs.Extents.{Extent, extent_of}
use Rattle.span_token.specs.declared.span.Span.{Span}
use Rattle.span_joins.specs.declared.rule.Rule.{Rule}
use Rattle.span_joins.specs.declared.rule.Answer.TheVariants.{Pair}
use Rattle.span_joins.specs.Sweeps.{answer_at}

pub at_most_one : (other : Option Span) (before after : ℕ) → (IsSome other → after ≡ before + 1) → (other ≡ None → after ≡ before) → after ≤ before + 1
at_most_one None before after tested none = omega (arith, none refl)
at_most_one (Some span) before after tested none = omega (arith, tested refl)

pub one_for_a_pair : (rule : Rule) (a : Extent) (other : Option Span) (before after : ℕ) → (IsSome other → after ≡ before + 1) → Pair ≡ answer_at rule a (option_map extent_of other) → after ≡ before + 1
one_for_a_pair rule a None before after tested e = absurd cc
one_for_a_pair rule a (Some span) before after tested e = tested refl
