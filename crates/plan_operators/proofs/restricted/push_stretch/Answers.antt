use Rattle.std.proofs.Common.{◌∙◌, ◌+◌, ◌-◌, ◌≤◌, ◌++◌, List, IsUtf8, ap, subst, arith}
use Rattle.row_values.specs.Datums.{Datum}
use Rattle.row_values.specs.Rows.{RowList}
use Rattle.plan_operators.proofs.Restricting.{between-limit}
use Rattle.plan_operators.proofs.restricted.push_stretch.Goals as goal

pub returns-clause-put : goal.returns-clause-put
returns-clause-put c =
    let old = c.args.into.now in
    let begin = c.max-begin.result in
    let stop = c.min-stop.result in
    let in_order : begin ≤ stop = grind (arith, c.if-begin-stop.false) in
    let inside : stop + (c.args.reach - 1) ≤ c.args.past = grind (arith, c.if-past-stop.false, c.requires.some) in
    let utf8 : IsUtf8 c.args.doc.now.text = subst IsUtf8 c.text-text.ensures.text c.text-text.utf8 in
    record {
      begin = begin;
      after = grind (arith, c.max-begin.ensures);
      in_front = grind (arith, c.max-begin.ensures);
      up_to = in_order;
      within = grind (arith, c.min-stop.ensures);
      all = grind (arith, c.min-stop.ensures);
      put = c.in_ok-push_found_before.ensures.rows
          ∙ ap (λ (rows : List (List Datum)). let list : RowList = record { width = old.width; rows = old.rows ++ rows } in list)
          (between-limit c.args.tools.now c.args.doc.now c.args.local c.args.row.now utf8 c.args.reach begin stop (stop + (c.args.reach - 1)) c.args.past c.requires.reach c.requires.there
          inside (omega arith) c.requires.some);
    }
