use Rattle.std.proofs.Common.{◌+◌, arith}
use Rattle.span_token.specs.Documents.{characters}
use Rattle.span_token.specs.Tokens.{tokens_of}
use Rattle.plan_operators.proofs.Nearness.{ends-late, begins-early}
use Rattle.plan_operators.proofs.TokenNumbers.{tokens-in-order}
use Rattle.plan_operators.proofs.near.within.Goals as goal

pub returns : goal.returns
returns c = λ first past x y e run from reached begun to.
    let cs = characters c.args.doc.now in
    let order = tokens-in-order cs in
    record {
      begins = begins-early (tokens_of cs) order first past e run (c.args.to + 1) c.begun_before.result y c.begun_before.ensures.begun begun (omega (arith, to));
      ends = ends-late (tokens_of cs) order first past e run c.args.from c.begun_before-2.result x c.begun_before-2.ensures.begun from reached;
    }
