use Rattle.std.proofs.Common.{◌≡◌, ◌∙◌, sym, ap, chars}
use Rattle.std.proofs.lemmas.Str.{chars-IsAscii}
use Rattle.span_token.specs.Tokens.{tokens_of}
use Rattle.span_token.proofs.tokens.tokens_with_bytes.Goals as goal

pub returns-then-is_ascii-clause-tokens : goal.returns-then-is_ascii-clause-tokens
returns-then-is_ascii-clause-tokens c =
    let same : chars c.args.text.now ≡ c.as_bytes.result.now = chars-IsAscii c.args.text.now c.if-is_ascii.ensures.cases ∙ sym c.as_bytes.ensures.value in
    c.in_ok-spans.ensures ∙ ap tokens_of (sym same)
