use Rattle.std.proofs.Common.{◌∙◌}
use Rattle.push_select.proofs.ExprViews.{none_less}
use Rattle.push_select.proofs.copying.lent_copied.Goals as goal

pub returns : goal.returns
returns c = c.in_ok-copies.ensures ∙ none_less c.args.conds.now
