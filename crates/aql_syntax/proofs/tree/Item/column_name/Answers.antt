use Rattle.aql_syntax.proofs.tree.Item.column_name.Goals as goal

pub returns-in-None : goal.returns-in-None
returns-in-None c = rw c.in-None.is c.name_in.ensures
