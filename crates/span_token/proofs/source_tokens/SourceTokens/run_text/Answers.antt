use Rattle.std.proofs.Common.{◌∙◌, List, ℕ, ap, subst, arith, slice_range, IsUtf8}
use Rattle.span_token.specs.Documents.{text_in}
use Rattle.span_token.specs.Offsets.{nth_bytes}
use Rattle.span_token.specs.SourceTokens.{SomeTokens, run_extent}
use Rattle.span_token.proofs.SourceLemmas.{seen_run}
use Rattle.span_token.proofs.source_tokens.SourceTokens.run_text.Goals as goal

pub range-requires-clause-start_le_end : goal.range-requires-clause-start_le_end
range-requires-clause-start_le_end c =
    (seen_run c.self.inside c.args.self.now c.args.first c.args.last c.self.view_is c.self.invariant (subst IsUtf8 c.text-text.ensures.text c.text-text.utf8)
    c.requires.in_order c.requires.there (omega arith)).ordered

pub returns : goal.returns
returns c =
    let b = (nth_bytes c.self.inside.offsets.now c.args.first).begin in
    let e = (nth_bytes c.self.inside.offsets.now c.args.last).end in
    record {
      text = c.range.ensures.value
          ∙ ap (λ (t : List ℕ). slice_range t b e) c.text-text.ensures.text
          ∙ (seen_run c.self.inside c.args.self.now c.args.first c.args.last c.self.view_is c.self.invariant (subst IsUtf8 c.text-text.ensures.text c.text-text.utf8)
          c.requires.in_order c.requires.there (omega arith)).bytes
          ∙ ap (λ (t : SomeTokens). text_in t.doc (run_extent c.args.self.now.tokens c.args.first c.args.last)) c.self.view_is;
    }
