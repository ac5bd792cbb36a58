use Rattle.std.proofs.Common.{All, subst}
use Rattle.std.proofs.lemmas.List.Elements.{All-map}
use Rattle.scalar_ops.specs.Expressions.{ReadsBelow}
use Rattle.scalar_ops.specs.Views.{term_of}
use Rattle.plan_operators_tests.proofs.standing.read_below.Goals as goal

pub returns : goal.returns
returns c = λ fits. subst (All (ReadsBelow c.args.width)) c.as_slice.ensures (All-map (ReadsBelow c.args.width) term_of c.as_slice.result.now (c.each_reads_below.ensures fits))
