use Rattle.std.proofs.Common.{◌≡◌, ◌-◌, map}
use Rattle.aql_syntax.specs.Views.{item_of}
use Rattle.aql_parser.specs.Readers.{prefixed, listed, separated, sees_sign}
use Rattle.aql_parser.specs.Reading.Expressions.{read_item}
use Rattle.aql_parser.proofs.expressions.items.Given as goal

abbrev pub invariant-loop-turn : goal.invariant-loop-turn
invariant-loop-turn l =
    prefixed (map item_of l.items.items) (listed (sees_sign ",") (read_item l.depth) (l._turn-end - l._turn) l.toks.at l.toks.kinds)
    ≡ separated (sees_sign ",") (read_item l.depth) l.initial.toks.at l.initial.toks.kinds
