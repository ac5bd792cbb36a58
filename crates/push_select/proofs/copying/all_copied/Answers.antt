use Rattle.std.proofs.Common.{◌∙◌}
use Rattle.push_select.proofs.ExprViews.{none_less_terms}
use Rattle.push_select.proofs.copying.all_copied.Goals as goal

pub returns : goal.returns
returns c = c.in_ok-copies.ensures ∙ none_less_terms c.args.exprs.now
