use Rattle.std.proofs.Common.{arith}
use Rattle.aql_regex_extract.proofs.Trees.{group_count_of-regex}
use Rattle.aql_regex_extract.proofs.pattern.groups_of.Goals as goal

pub returns-in-Ok : goal.returns-in-Ok
returns-in-Ok c =
    omega (arith, c.in-Ok.ensures, c.captures_len.ensures.names, group_count_of-regex c.args.expression.now _ c.requires.source c.requires.config c.requires.read)
