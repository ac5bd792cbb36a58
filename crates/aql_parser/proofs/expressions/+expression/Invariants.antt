use Rattle.std.proofs.Common.{◌≡◌, ◌+◌, ◌-◌, ◌*◌, map}
use Rattle.aql_syntax.specs.Views.{term_of}
use Rattle.aql_parser.specs.Readers.{prefixed, listed, separated, sees_sign}
use Rattle.aql_parser.specs.Reading.Expressions.{read_term}
use Rattle.aql_parser.proofs.expressions.+expression.Given as goal

abbrev pub decreases-after_word : goal.decreases-after_word
decreases-after_word l = 5 * l.depth + 1

abbrev pub decreases-after_paren : goal.decreases-after_paren
decreases-after_paren l = 5 * l.depth + 4

abbrev pub decreases-arguments : goal.decreases-arguments
decreases-arguments l = 5 * l.depth + 3

abbrev pub decreases-call : goal.decreases-call
decreases-call l = 5 * l.depth

abbrev pub decreases-expression : goal.decreases-expression
decreases-expression l = 5 * l.depth + 2

abbrev pub invariant-arguments-loop-turn : goal.invariant-arguments-loop-turn
invariant-arguments-loop-turn l =
    prefixed (map term_of l.args.items) (listed (sees_sign ",") (read_term l.depth) (l._turn-end - l._turn) l.toks.at l.toks.kinds)
    ≡ separated (sees_sign ",") (read_term l.depth) l.initial.toks.at l.initial.toks.kinds
