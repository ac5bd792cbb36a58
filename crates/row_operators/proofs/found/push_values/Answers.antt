use Rattle.std.proofs.Common.{All, sym, subst}
use Rattle.row_values.specs.Datums.{IsOfDocument}
use Rattle.row_operators.proofs.Cuts.{groups_lie}
use Rattle.row_operators.proofs.found.push_values.Goals as goal

pub values_for-requires : goal.values_for-requires
values_for-requires c = record {
  in_document = subst (All (IsOfDocument c.args.doc.now)) (sym c.in_ok-row.ensures) (groups_lie c.args.doc.now c.args.lead.now c.args.groups.now c.requires.lead_in_document c.requires.found_in_document);
}
