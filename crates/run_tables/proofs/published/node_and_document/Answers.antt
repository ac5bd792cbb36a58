use Rattle.std.proofs.Common.{arith, rules}
use Rattle.std.proofs.lemmas.Grind.{common_steps}
use Rattle.run_tables.proofs.Computing.{node-looked_up, doc-looked_up}
use Rattle.run_tables.proofs.published.node_and_document.Goals as goal

pub returns-clause-node : goal.returns-clause-node
returns-clause-node g c = λ of_item. node-looked_up g.W.Work.plan g.W.Work.docs c.args.item of_item c.get-node.result.now (first_of (search rules, cc, grind (arith, common_steps)))

pub returns-clause-doc : goal.returns-clause-doc
returns-clause-doc g c = λ of_item. doc-looked_up g.W.Work.plan g.W.Work.docs c.args.item of_item c.index-docs-item.result (first_of (search rules, cc, grind (arith, common_steps)))
