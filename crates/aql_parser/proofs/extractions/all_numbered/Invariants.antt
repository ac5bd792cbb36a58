use Rattle.std.proofs.Common.{◌≡◌, ◌-◌, map}
use Rattle.aql_syntax.specs.Views.{group_of}
use Rattle.aql_parser.specs.Readers.{prefixed, listed, separated, sees}
use Rattle.aql_parser.specs.Reading.Extractions.{read_numbered}
use Rattle.aql_parser.proofs.extractions.all_numbered.Given as goal

abbrev pub invariant-loop-turn : goal.invariant-loop-turn
invariant-loop-turn l =
    prefixed (map group_of l.groups.items) (listed (sees "and") (read_numbered) (l._turn-end - l._turn) l.toks.at l.toks.kinds)
    ≡ separated (sees "and") (read_numbered) l.initial.toks.at l.initial.toks.kinds
