use Rattle.std.proofs.Common.{◌≡◌, ◌++◌, List, ℕ, ◌∙◌, subst}
use Rattle.std.specs.Prelude.{OnOk}
use Rattle.span_token.specs.Extents.{extent_of}
use Rattle.corpus_json.proofs.Texts.{text_of_span}
use Rattle.corpus_json.proofs.write.value.write_span.Goals as goal

pub returns-then-is_short_plain : goal.returns-then-is_short_plain
returns-then-is_short_plain c =
    subst (λ (text : List ℕ). OnOk c.write_short_span.result (c.write_short_span.new.out.items ≡ c.args.out.now.items ++ text))
    (text_of_span c.args.document.now (extent_of c.args.span) c.as_bytes-text.result.now (c.as_bytes-text.ensures.value ∙ c.text_of.ensures.text)) c.write_short_span.ensures

pub returns : goal.returns
returns c =
    subst (λ (text : List ℕ). OnOk c.write_long_span.result (c.write_long_span.new.out.items ≡ c.args.out.now.items ++ text))
    (text_of_span c.args.document.now (extent_of c.args.span) c.as_bytes-text.result.now (c.as_bytes-text.ensures.value ∙ c.text_of.ensures.text)) c.write_long_span.ensures
