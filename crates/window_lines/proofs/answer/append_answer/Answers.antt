use Rattle.std.proofs.Common.{refl}
use Rattle.std.proofs.lemmas.Result.{err_from_is_err_and}
use Rattle.run_pool.specs.PoolLaws.{part_none}
use Rattle.window_lines.proofs.answer.append_answer.Goals as goal

pub returns-in_err-document-clause-handed : goal.returns-in_err-document-clause-handed
returns-in_err-document-clause-handed g c =
    let p = err_from_is_err_and c.from_residual.result c.from_residual.ensures.1 in
    rw p.1 (part_none (g.P.Pool.told c.args.pool.now) (g.P.Pool.told c.args.pool.now) _ refl)

pub returns-in_err-board-clause-handed : goal.returns-in_err-board-clause-handed
returns-in_err-board-clause-handed g c =
    let p = err_from_is_err_and c.from_residual-in_err-board.result c.from_residual-in_err-board.ensures.1 in
    rw p.1 (part_none (g.P.Pool.told c.args.pool.now) (g.P.Pool.told c.args.pool.now) _ refl)
