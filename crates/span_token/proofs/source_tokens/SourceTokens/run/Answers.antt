use Rattle.std.proofs.Common.{arith, ap}
use Rattle.span_token.specs.Extents.{Extent}
use Rattle.span_token.proofs.SourceLemmas.{begin-le-end}
use Rattle.span_token.proofs.source_tokens.SourceTokens.run.Goals as goal

pub invariant_of-result : goal.invariant_of-result
invariant_of-result c = record {
  ordered = omega (
    arith,
    begin-le-end c.args.self.now.tokens c.args.first c.args.last c.get-begin.ensures.order c.requires.in_order c.requires.there,
    ap (λ (e : Extent). e.begin) c.get-begin.ensures.token,
    ap (λ (e : Extent). e.end) c.get-end.ensures.token,
  );
}
