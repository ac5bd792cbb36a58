use Rattle.std.proofs.Common.{ℕ, List, subst, sym, arith, map}
use Rattle.aql_syntax.specs.Views.{term_of}
use Rattle.aql_parser.specs.Readers.{Reader, Gives, sees_sign}
use Rattle.aql_parser.specs.Reading.Expressions.{read_term}
use Rattle.aql_parser.proofs.Lists.{list_stops, list_fails, list_begins, list_returns, list_continues}
use Rattle.aql_parser.proofs.Depths.{calls_more}
use Rattle.aql_syntax.specs.Trees.{Term}
use Rattle.aql_parser.proofs.expressions.+expression.Goals as goal

pub arguments-returns-then-not-eat : goal.arguments-returns-then-not-eat
arguments-returns-then-not-eat t c =
    list_returns term_of (sees_sign ",") (read_term c.args.depth) _ _ _ c.in_ok-arg.arg _ _ _ _ _
    c.loop-turn.invariant c.loop-turn-test.true c.in_ok-push.ensures.items c.in_ok-arg.ensures c.if-not-eat.ensures

pub arguments-loop-turn-preserved : goal.arguments-loop-turn-preserved
arguments-loop-turn-preserved t c =
    list_continues term_of (sees_sign ",") (read_term c.args.depth) _ _ _ c.in_ok-arg.arg _ _ _ _ _
    c.loop-turn.invariant c.loop-turn-test.true c.in_ok-push.ensures.items c.in_ok-arg.ensures c.if-not-eat.ensures

pub arguments-loop-turn-init : goal.arguments-loop-turn-init
arguments-loop-turn-init t c =
    rw c.new-args.ensures.items (list_begins (sees_sign ",") (read_term c.args.depth) _ _ _ (omega (arith, c.left-turn-end.ensures.value)))

pub call-returns : goal.call-returns
call-returns t c =
    subst (λ (calls : ℕ → List ℕ → Reader Term). Gives term_of (calls c.args.at c.args.word.now c.args.toks.now.at c.args.toks.now.kinds) c.after_paren.result c.after_paren.new.toks)
    (sym (calls_more c.args.depth (omega arith))) c.after_paren.ensures

pub arguments-returns : goal.arguments-returns
arguments-returns t c = list_stops (sees_sign ",") (read_term c.args.depth) _ _ _ _ _ _ c.loop-turn.invariant c.loop-turn-test.false

pub arguments-returns-in_err-arg : goal.arguments-returns-in_err-arg
arguments-returns-in_err-arg t c =
    list_fails c.from_residual.result c.in_err-arg.field-0.0 term_of (λ args. map term_of args.items) (sees_sign ",") (read_term c.args.depth) _ _ _ _ _ _ _
    c.loop-turn.invariant c.loop-turn-test.true c.in_err-arg.ensures c.from_residual.ensures.1
