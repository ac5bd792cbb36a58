use Rattle.std.proofs.Common.{◌≡◌, List, ℕ, sym, subst, map, chars}
use Rattle.span_token.specs.declared.span.Span.{Span}
use Rattle.span_token.specs.Extents.{extent_of}
use Rattle.span_token.specs.Tokens.{AreTokens, tokens_of}
use Rattle.span_token.specs.TokenLaws.{tokens_of_are}
use Rattle.span_token.proofs.tokens.tokens_of_text.Goals as goal

-- a list that is `tokens_of` a text has the tokens
meant : (cs : List ℕ) (spans : List Span) → map extent_of spans ≡ tokens_of cs → AreTokens cs (map extent_of spans)
meant cs spans e = subst (AreTokens cs) (sym e) (tokens_of_are cs)

pub returns-clause-meaning : goal.returns-clause-meaning
returns-clause-meaning c =
    meant (chars c.args.text.now) c.in_ok-spans.spans.items c.in_ok-spans.ensures.tokens
