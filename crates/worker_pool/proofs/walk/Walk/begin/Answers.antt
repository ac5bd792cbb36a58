use Rattle.worker_pool.proofs.Paging.{begun-page, begun-blank}
use Rattle.worker_pool.proofs.walk.Walk.begin.Goals as goal

pub returns-clause-page : goal.returns-clause-page
returns-clause-page g c =
    begun-page c.clear_page.result c.nodes.result _ g.W.Work.plan g.W.Work.docs c.args.d c.requires.there c.nodes.ensures c.clear_page.ensures

pub returns-clause-blank : goal.returns-clause-blank
returns-clause-blank g c = begun-blank c.clear_page.result c.nodes.result _ c.clear_page.ensures
