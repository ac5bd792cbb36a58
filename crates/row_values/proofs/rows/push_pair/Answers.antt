use Rattle.std.proofs.Common.{rules, ◌≡◌, ◌++◌, ◌∷◌, [], length}
use Rattle.std.proofs.Math.Seq.{set-append_seam}
use Rattle.row_values.proofs.rows.push_pair.Goals as goal

pub returns-clause-ok : goal.returns-clause-ok
returns-clause-ok c = let seam = set-append_seam c.args.rows.now.items [] [] (c.args.left.now ++ c.args.right.now) in search rules
