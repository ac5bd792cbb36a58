use Rattle.std.proofs.Common.{ap, arith, length}
use Rattle.span_token.proofs.TokenCounts.{tokens-le-bytes}
use Rattle.span_token.proofs.tokens.count_ended.Goals as goal

pub overflow_add-count : goal.overflow_add-count
overflow_add-count c =
    omega (arith, c.loop-span.invariant.room, c.requires, ap length c.in-Some.ensures, tokens-le-bytes c.args.text.now c.utf8.text)
