use Rattle.std.proofs.Common.{◌≡◌, ◌-◌}
use Rattle.aql_parser.specs.Readers.{prefixed, listed, separated, sees_sign}
use Rattle.aql_parser.specs.Reading.Statements.{a_text}
use Rattle.aql_parser.proofs.statements.texts.Given as goal

abbrev pub invariant-loop-turn : goal.invariant-loop-turn
invariant-loop-turn l =
    prefixed l.texts.items (listed (sees_sign ",") (a_text) (l._turn-end - l._turn) l.toks.at l.toks.kinds)
    ≡ separated (sees_sign ",") (a_text) l.initial.toks.at l.initial.toks.kinds
