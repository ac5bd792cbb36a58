use Rattle.std.proofs.Common.{rules, ap, arith}
use Rattle.atomic_table.specs.Table.{Me}
use Rattle.run_tables.specs.declared.rule.View.{View}
use Rattle.run_tables.proofs.Steps.{splits}
use Rattle.run_tables.proofs.claims.Claims.give.Goals as goal

pub split_seat-requires : goal.split_seat-requires
split_seat-requires c =
    let parts = ap (λ (me : Me (Unit {0}) View). me.0.parts) c.requires.dealer in
    let spare = ap (λ (me : Me (Unit {0}) View). me.0.spare) c.requires.dealer in
    let given = c.requires.some in
    (search rules, search rules, splits _ _ _ (omega arith) (omega arith))
