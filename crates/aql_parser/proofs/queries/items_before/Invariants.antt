use Rattle.std.proofs.Common.{◌≡◌, ◌-◌, map}
use Rattle.aql_syntax.specs.Views.{item_of}
use Rattle.aql_parser.specs.Readers.{prefixed, until}
use Rattle.aql_parser.specs.Reading.Queries.{begins_sought, item_before, read_items_before}
use Rattle.aql_parser.proofs.queries.items_before.Given as goal

abbrev pub invariant-loop-turn : goal.invariant-loop-turn
invariant-loop-turn l =
    prefixed (map item_of l.items.items) (until begins_sought (item_before l.depth) (l._turn-end - l._turn) l.toks.at l.toks.kinds)
    ≡ read_items_before l.depth l.initial.toks.at l.initial.toks.kinds
