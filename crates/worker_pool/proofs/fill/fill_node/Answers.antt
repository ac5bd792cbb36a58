use Rattle.std.proofs.Common.{refl, ◌∙◌}
use Rattle.worker_pool.proofs.fill.fill_node.Goals as goal

pub nodes-init : goal.nodes-init
nodes-init g c = record {
  document = refl;
  filling = c.requires.filling;
  page = c.requires.filling.page;
  path = c.requires.path;
  more = λ m there. there;
  same = refl;
}

pub nodes-preserved : goal.nodes-preserved
nodes-preserved g c = record {
  document = c.put_found.ensures.document ∙ c.nodes.invariant.document;
  filling = c.in_ok-put_found.ensures.filling;
  page = c.in_ok-put_found.ensures.filling.page;
  path = c.in_ok-put_found.ensures.path;
  more = λ m there. c.in_ok-put_found.ensures.more m (c.nodes.invariant.more m there);
  same = c.last_result.ensures.same ∙ c.nodes.invariant.same;
}
