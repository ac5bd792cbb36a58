use Rattle.std.proofs.Common.{rules}
use Rattle.aql_regex_extract.specs.Matches.{match_rows, extents_of}
use Rattle.span_token.specs.Extents.{extent_of}
use Rattle.scalar_ops.proofs.Extracting.{puts_none}
use Rattle.scalar_ops.proofs.tools.Tools.append_matches.Goals as goal

pub returns-in-None-clause-rows : goal.returns-in-None-clause-rows
returns-in-None-clause-rows c =
    puts_none (λ p. match_rows p c.args.sought.now.doc.now (extent_of c.args.sought.now.source) c.args.sought.now.groups.now) c.args.self.now.patterns c.args.pattern (extents_of c.args.into.now.items) (search (rules, c.in-None.ensures.lookup.3))
