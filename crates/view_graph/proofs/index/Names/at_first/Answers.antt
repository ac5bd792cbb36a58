use Rattle.view_graph.specs.Indexes.{entry_of}
use Rattle.view_graph.proofs.Defining.{index_first}
use Rattle.view_graph.proofs.index.Names.at_first.Goals as goal

pub returns : goal.returns
returns c =
    index_first (entry_of c.in_ok-views.views) (entry_of c.new-dictionaries.result) c.in_ok-views.ensures (λ q. rw c.new-dictionaries.ensures.empty)
