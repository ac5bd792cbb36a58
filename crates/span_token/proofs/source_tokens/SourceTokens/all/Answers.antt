use Rattle.std.proofs.Common.{arith, ◌-◌}
use Rattle.std.proofs.lemmas.List.{take_all}
use Rattle.span_token.specs.Documents.{characters}
use Rattle.span_token.specs.Tokens.{tokens_of}
use Rattle.span_token.proofs.source_tokens.SourceTokens.all.Goals as goal

pub invariant_of-result : goal.invariant_of-result
invariant_of-result c = record {
  ordered = omega arith;
  in_list = omega (arith, c.token_count-past.ensures.count);
  fits = omega arith;
  offsets = c.kept_bytes-offsets.ensures;
}

pub returns-clause-tokens : goal.returns-clause-tokens
returns-clause-tokens c =
    take_all (c.token_count-past.result - 0) (tokens_of (characters c.args.doc.now)) (omega (arith, c.token_count-past.ensures.count))
