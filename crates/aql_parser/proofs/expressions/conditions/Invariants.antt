use Rattle.std.proofs.Common.{◌≡◌, ◌-◌, map}
use Rattle.aql_syntax.specs.Views.{term_of}
use Rattle.aql_parser.specs.Readers.{prefixed, listed, separated, sees}
use Rattle.aql_parser.specs.Reading.Expressions.{read_term}
use Rattle.aql_parser.proofs.expressions.conditions.Given as goal

abbrev pub invariant-loop-turn : goal.invariant-loop-turn
invariant-loop-turn l =
    prefixed (map term_of l.conds.items) (listed (sees "and") (read_term l.depth) (l._turn-end - l._turn) l.toks.at l.toks.kinds)
    ≡ separated (sees "and") (read_term l.depth) l.initial.toks.at l.initial.toks.kinds
