use Rattle.std.proofs.Common.{refl}
use Rattle.worker_pool.proofs.Paging.{put-page, put-waiting, put-more, put-fewer}
use Rattle.worker_pool.proofs.walk.Walk.put.Goals as goal

pub returns-clause-page : goal.returns-clause-page
returns-clause-page g c =
    let walk = c.args.self.now in
    put-page g.W.Work.plan g.W.Work.docs walk.d walk.d walk.page.items _ c.args.n c.args.found refl c.put_result.ensures c.requires.page c.requires.next c.requires.of_node

pub returns-clause-path : goal.returns-clause-path
returns-clause-path g c =
    let walk = c.args.self.now in
    put-waiting g.W.Work.plan g.W.Work.docs walk.d walk.d walk.page.items _ c.args.n c.args.found refl c.put_result.ensures c.requires.page c.requires.next walk.path.items c.requires.path

pub returns-clause-more : goal.returns-clause-more
returns-clause-more g c =
    let walk = c.args.self.now in
    put-more g.W.Work.plan g.W.Work.docs walk.d walk.d walk.page.items _ c.args.n c.args.found refl c.put_result.ensures c.requires.page c.requires.next

pub returns-clause-fewer : goal.returns-clause-fewer
returns-clause-fewer g c =
    let walk = c.args.self.now in
    put-fewer g.W.Work.plan g.W.Work.docs walk.d walk.d walk.page.items _ c.args.n c.args.found refl c.put_result.ensures c.requires.page c.requires.next
