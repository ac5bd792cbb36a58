use Rattle.std.proofs.Common.{sym, subst, arith}
use Rattle.span_token.specs.Extents.{extent_of}
use Rattle.span_token.specs.SourceTokens.{HoldsTokens}
use Rattle.span_token.proofs.SourceLemmas.{source_holds}
use Rattle.span_token.proofs.source_tokens.SourceTokens.of.Goals as goal

pub invariant_of-result : goal.invariant_of-result
invariant_of-result c = record {
  ordered = c.tokens_in-first.ensures.tokens.ordered;
  in_list = c.tokens_in-first.ensures.tokens.in_list;
  fits = omega arith;
  offsets = c.kept_bytes-offsets.ensures;
}

pub returns-clause-tokens : goal.returns-clause-tokens
returns-clause-tokens c = c.tokens_in-first.ensures.tokens.tokens_are

pub returns-clause-within : goal.returns-clause-within
returns-clause-within c =
    subst (HoldsTokens (extent_of c.args.source)) (sym c.tokens_in-first.ensures.tokens.tokens_are) (source_holds c.args.doc.now (extent_of c.args.source))
