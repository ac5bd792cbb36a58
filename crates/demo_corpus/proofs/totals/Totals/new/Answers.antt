use Rattle.std.proofs.Common.{ap, ◌∙◌}
use Rattle.demo_corpus.proofs.Tallies.{empty_tally, none_counted}
use Rattle.demo_corpus.proofs.totals.Totals.new.Goals as goal

pub returns : goal.returns
returns c = ap (empty_tally) (c.in_ok-totals.ensures.items_if_clones_equal (λ y same. same) ∙ none_counted c.args.outputs)
