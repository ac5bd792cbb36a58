use Rattle.std.proofs.Common.{◌≡◌, Bool, ◌&&◌, eqb, List, map, All, refl, sym, subst, ap₂, ◌∙◌, nat_cmp}
use Rattle.std.specs.Ordering.{eq_by_cmp, is_eq, ordering_then}
use Rattle.std.specs.declared.cmp.Ordering.{Ordering}
use Rattle.std.specs.declared.cmp.Ordering.TheVariants.{Less, Equal, Greater}
use Rattle.std.proofs.lemmas.List.Filters.{dedup_is, All-dedup}
use Rattle.std.proofs.lemmas.List.Sorted.{All-permutation}
use Rattle.span_token.specs.Documents.{LiesIn}
use Rattle.span_token.specs.Extents.{extent_of}
use Rattle.span_token.specs.declared.span.Span.{Span}
use Rattle.span_sets.specs.Blocks.{AreDistinct}
use Rattle.span_sets.specs.LawProofs.SpanLists.{span_cmp, nat_tied, AreDistinct-from_dedup}
use Rattle.span_sets.proofs.block_runs.distinct.Goals as goal

abbrev span_eq : Span → Span → Bool
span_eq s t = eqb s.begin t.begin && eqb s.end t.end

then_tied : (o p : Ordering) → is_eq (ordering_then o p) ≡ is_eq o && is_eq p
then_tied Less p = refl
then_tied Equal p = refl
then_tied Greater p = refl

ties : (s t : Span) → span_eq s t ≡ eq_by_cmp span_cmp s t
ties s t = ap₂ (λ (a b : Bool). a && b) (sym (nat_tied s.begin t.begin)) (sym (nat_tied s.end t.end)) ∙ sym (then_tied (nat_cmp s.begin t.begin) (nat_cmp s.end t.end))

pub returns-clause-distinct : goal.returns-clause-distinct
returns-clause-distinct c =
    subst (λ (xs : List Span). AreDistinct (map extent_of c.args.spans.items) (map extent_of xs)) (sym (dedup_is span_eq c.sort_unstable.new.self.items c.dedup.new.self.items c.dedup.ensures.filtered))
    (AreDistinct-from_dedup span_eq ties c.args.spans.items c.sort_unstable.new.self.items c.sort_unstable.ensures.permutation c.sort_unstable.ensures.sorted)

pub returns-clause-in_document : goal.returns-clause-in_document
returns-clause-in_document c = λ doc all.
    subst (λ (xs : List Span). All (λ s. LiesIn (extent_of s) doc) xs) (sym (dedup_is span_eq c.sort_unstable.new.self.items c.dedup.new.self.items c.dedup.ensures.filtered))
    (All-dedup span_eq (λ s. LiesIn (extent_of s) doc) c.sort_unstable.new.self.items (All-permutation (λ s. LiesIn (extent_of s) doc) c.args.spans.items c.sort_unstable.new.self.items c.sort_unstable.ensures.permutation all))
