use Rattle.std.proofs.Common.{◌≡◌, arith, map, sym, subst}
use Rattle.std.proofs.lemmas.Grind.{common_steps}
use Rattle.run_pool.specs.Answers.{no_rows, IsAnswer}
use Rattle.run_pool.proofs.Empty.{empty_of, empty_answer}
use Rattle.run_pool.proofs.hollow.rows_without.Goals as goal

pub returns : goal.returns
returns c =
    let are : c.loop-out.rows.items ≡ map empty_of c.args.plan.now.outputs = grind (arith, common_steps) in
    subst (IsAnswer no_rows c.args.plan.now c.args.document.now) (sym are) (empty_answer c.args.plan.now c.args.document.now)
