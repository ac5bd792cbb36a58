use Rattle.std.proofs.Common.{◌≡◌, ◌+◌, ◌-◌, ◌*◌, map}
use Rattle.aql_syntax.specs.Views.{query_of, source_of}
use Rattle.aql_parser.specs.Readers.{prefixed, listed, separated, sees, sees_sign}
use Rattle.aql_parser.specs.Reading.Queries.{side, within, read_source}
use Rattle.aql_parser.proofs.queries.+query.Given as goal

abbrev pub decreases-query : goal.decreases-query
decreases-query l = 10 * l.depth + 8

abbrev pub decreases-put_together : goal.decreases-put_together
decreases-put_together l = 10 * l.depth + 4

abbrev pub decreases-sides_after : goal.decreases-sides_after
decreases-sides_after l = 10 * l.depth + 3

abbrev pub decreases-side : goal.decreases-side
decreases-side l = 10 * l.depth + 2

abbrev pub decreases-opened : goal.decreases-opened
decreases-opened l = 10 * l.depth + 1

abbrev pub decreases-parenthesis : goal.decreases-parenthesis
decreases-parenthesis l = 10 * l.depth

abbrev pub decreases-closed : goal.decreases-closed
decreases-closed l = 10 * l.depth + 9

abbrev pub decreases-selection : goal.decreases-selection
decreases-selection l = 10 * l.depth + 4

abbrev pub decreases-extraction : goal.decreases-extraction
decreases-extraction l = 10 * l.depth + 4

abbrev pub decreases-source_and_tail : goal.decreases-source_and_tail
decreases-source_and_tail l = 10 * l.depth + 3

abbrev pub decreases-sources : goal.decreases-sources
decreases-sources l = 10 * l.depth + 3

abbrev pub decreases-source : goal.decreases-source
decreases-source l = 10 * l.depth + 2

abbrev pub invariant-sources-loop-turn : goal.invariant-sources-loop-turn
invariant-sources-loop-turn l =
    prefixed (map source_of l.sources.items) (listed (sees_sign ",") (read_source l.depth) (l._turn-end - l._turn) l.toks.at l.toks.kinds)
    ≡ separated (sees_sign ",") (read_source l.depth) l.initial.toks.at l.initial.toks.kinds

abbrev pub invariant-sides_after-loop-turn : goal.invariant-sides_after-loop-turn
invariant-sides_after-loop-turn l =
    prefixed (map query_of l.sides.items) (listed (sees "union") (side l.depth (within l.depth)) (l._turn-end - l._turn) l.toks.at l.toks.kinds)
    ≡ prefixed (map query_of l.initial.sides.items) (separated (sees "union") (side l.depth (within l.depth)) l.initial.toks.at l.initial.toks.kinds)
