use Rattle.std.proofs.Common.{◌≡◌, ◌∙◌, sym, ap, subst, arith, rules, length, map, chars, nat_lt}
use Rattle.std.specs.List.{count_by}
use Rattle.std.specs.List.Sorted.{IsNonDecreasingBy}
use Rattle.std.proofs.lemmas.List.{length-map}
use Rattle.std.proofs.lemmas.List.Sorted.{IsPartitionPoint-from_clause, IsPartitionedBy-ltb}
use Rattle.span_token.specs.Extents.{Extent, extent_of}
use Rattle.span_token.specs.Tokens.{tokens_of}
use Rattle.span_token.proofs.TokenCounts.{tokens-le-bytes, begins_rise, rise_before_map, count_by-map, count_to_point}
use Rattle.span_token.proofs.tokens.Tokens.begun_before.Goals as goal

pub overflow_cast-result : goal.overflow_cast-result
overflow_cast-result c =
    let kept = rw c.in-Kept.is at c.requires.fits in
    omega (arith, c.requires.short, c.partition_point.ensures.bound, ap length c.deref.ensures.value, length-map c.in-Kept.spans.items extent_of, ap length kept, tokens-le-bytes c.args.text.now c.utf8.text)

pub returns-in-Kept : goal.returns-in-Kept
returns-in-Kept c =
    let kept = rw c.in-Kept.is at c.requires.fits in
    let spans : map extent_of c.deref.result.now ≡ tokens_of (chars c.args.text.now) = ap (map extent_of) c.deref.ensures.value ∙ kept in
    let rise = rise_before_map extent_of (λ t. t.begin) c.deref.result.now (subst (IsNonDecreasingBy (λ (t : Extent). t.begin)) (sym spans) (begins_rise (chars c.args.text.now))) in
    let point = IsPartitionPoint-from_clause (λ s. nat_lt s.begin c.args.place) _ _ c.partition_point.ensures.partitioned (IsPartitionedBy-ltb (λ s. s.begin) c.deref.result.now c.args.place rise) (λ a r q k. search rules) in
    count_to_point (λ s. nat_lt s.begin c.args.place) c.deref.result.now c.partition_point.result c.partition_point.ensures.bound point
    ∙ sym (count_by-map extent_of (λ t. nat_lt t.begin c.args.place) c.deref.result.now) ∙ ap (count_by (λ t. nat_lt t.begin c.args.place)) spans
