use Rattle.worker_pool.proofs.Boarding.{next-may_claim, next-unpublished, next-value, filling-put}
use Rattle.worker_pool.proofs.fill.put_found.Goals as goal

pub put_on_board-requires : goal.put_on_board-requires
put_on_board-requires g c =
    let plan = g.W.Work.plan in
    let docs = g.W.Work.docs in
    let walk = c.args.walk.now in
    let board = c.args.board.now in
    record {
      may_claim = next-may_claim plan docs walk.d board walk.page.items c.requires.filling c.args.n c.requires.next _ c.item-item.ensures.is;
      unpublished = next-unpublished plan docs walk.d board walk.page.items c.requires.filling c.args.n c.requires.next _ c.item-item.ensures.is;
      value = next-value plan docs walk.d board walk.page.items c.requires.filling c.args.n c.requires.next _ c.item-item.ensures.is c.args.found c.requires.of_node _ c.in_ok-rows.ensures.rows;
    }

pub put-requires : goal.put-requires
put-requires g c = record { page = c.requires.filling.page; path = c.requires.path; next = c.requires.next; of_node = c.requires.of_node }

pub returns-clause-filling : goal.returns-clause-filling
returns-clause-filling g c =
    let walk = c.args.walk.now in
    filling-put g.W.Work.plan g.W.Work.docs walk.d c.args.board.now walk.page.items c.requires.filling c.args.n c.requires.next _ c.item-item.ensures.is c.args.found c.requires.of_node _ c.in_ok-rows.ensures.rows
    _ _ _ c.put_on_board.ensures.put c.put.ensures.document c.put.ensures.put
