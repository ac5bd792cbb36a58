use Rattle.std.proofs.Common.{ap, arith, length}
use Rattle.std.proofs.lemmas.List.{length-map}
use Rattle.span_token.specs.Extents.{extent_of}
use Rattle.span_token.proofs.TokenCounts.{tokens-le-bytes}
use Rattle.span_token.proofs.tokens.Tokens.count.Goals as goal

pub overflow_cast-result : goal.overflow_cast-result
overflow_cast-result c =
    let kept = rw c.in-Kept.is at c.requires.fits in
    omega (arith, c.requires.short, c.len.ensures, length-map c.in-Kept.spans.items extent_of, ap length kept, tokens-le-bytes c.args.text.now c.utf8.text)
