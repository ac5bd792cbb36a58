use Rattle.std.proofs.Common.{subst, sym, arith, map}
use Rattle.aql_syntax.specs.Trees.{Query}
use Rattle.aql_syntax.specs.Views.{query_of, source_of}
use Rattle.aql_parser.specs.Readers.{Reader, Gives, sees, sees_sign, symbol}
use Rattle.aql_parser.specs.Reading.Queries.{side, within, read_source, read_query}
use Rattle.aql_parser.proofs.Lists.{list_stops, list_fails, list_begins, list_begins_after, list_returns, list_continues}
use Rattle.aql_parser.proofs.Depths.{within_more, within_none}
use Rattle.aql_parser.proofs.Followed.{given_after}
use Rattle.aql_parser.proofs.queries.+query.Goals as goal

pub sources-loop-turn-init : goal.sources-loop-turn-init
sources-loop-turn-init t c =
    rw c.new-sources.ensures.items (list_begins (sees_sign ",") (read_source c.args.depth) _ _ _ (omega (arith, c.left-turn-end.ensures.value)))

pub sources-returns-then-not-eat : goal.sources-returns-then-not-eat
sources-returns-then-not-eat t c =
    list_returns source_of (sees_sign ",") (read_source c.args.depth) _ _ _ c.in_ok-one.one _ _ _ _ _
    c.loop-turn.invariant c.loop-turn-test.true c.in_ok-push.ensures.items c.in_ok-one.ensures c.if-not-eat.ensures

pub sources-loop-turn-preserved : goal.sources-loop-turn-preserved
sources-loop-turn-preserved t c =
    list_continues source_of (sees_sign ",") (read_source c.args.depth) _ _ _ c.in_ok-one.one _ _ _ _ _
    c.loop-turn.invariant c.loop-turn-test.true c.in_ok-push.ensures.items c.in_ok-one.ensures c.if-not-eat.ensures

pub sides_after-loop-turn-init : goal.sides_after-loop-turn-init
sides_after-loop-turn-init t c =
    list_begins_after (sees "union") (side c.args.depth (within c.args.depth)) _ _ _ _ (omega (arith, c.left-turn-end.ensures.value))

pub sides_after-returns-then-not-eat_word : goal.sides_after-returns-then-not-eat_word
sides_after-returns-then-not-eat_word t c =
    list_returns query_of (sees "union") (side c.args.depth (within c.args.depth)) _ _ _ c.in_ok-other.other _ _ _ _ _
    c.loop-turn.invariant c.loop-turn-test.true c.in_ok-push.ensures.items c.in_ok-other.ensures c.if-not-eat_word.ensures

pub sides_after-loop-turn-preserved : goal.sides_after-loop-turn-preserved
sides_after-loop-turn-preserved t c =
    list_continues query_of (sees "union") (side c.args.depth (within c.args.depth)) _ _ _ c.in_ok-other.other _ _ _ _ _
    c.loop-turn.invariant c.loop-turn-test.true c.in_ok-push.ensures.items c.in_ok-other.ensures c.if-not-eat_word.ensures

pub parenthesis-returns : goal.parenthesis-returns
parenthesis-returns t c =
    subst (λ (reads : Reader Query). Gives query_of (reads c.args.toks.now.at c.args.toks.now.kinds) c.closed.result c.closed.new.toks)
    (sym (within_more c.args.depth (omega arith))) c.closed.ensures

pub parenthesis-returns-then-depth-eq0 : goal.parenthesis-returns-then-depth-eq0
parenthesis-returns-then-depth-eq0 t c = within_none c.args.depth c.if-depth-eq0.true _ _

pub closed-returns : goal.closed-returns
closed-returns t c =
    given_after query_of c.in_ok-inner.inner (read_query c.args.depth) (symbol ")") _ _ _ _ c.expect_after.result _ c.in_ok-inner.ensures c.expect_after.ensures

pub sources-returns : goal.sources-returns
sources-returns t c = list_stops (sees_sign ",") (read_source c.args.depth) _ _ _ _ _ _ c.loop-turn.invariant c.loop-turn-test.false

pub sides_after-returns : goal.sides_after-returns
sides_after-returns t c = list_stops (sees "union") (side c.args.depth (within c.args.depth)) _ _ _ _ _ _ c.loop-turn.invariant c.loop-turn-test.false

pub sources-returns-in_err-one : goal.sources-returns-in_err-one
sources-returns-in_err-one t c =
    list_fails c.from_residual.result c.in_err-one.field-0.0 source_of (λ sources. map source_of sources.items) (sees_sign ",") (read_source c.args.depth) _ _ _ _ _ _ _
    c.loop-turn.invariant c.loop-turn-test.true c.in_err-one.ensures c.from_residual.ensures.1

pub sides_after-returns-in_err-other : goal.sides_after-returns-in_err-other
sides_after-returns-in_err-other t c =
    list_fails c.from_residual.result c.in_err-other.field-0.0 query_of (λ all. map query_of all.items) (sees "union") (side c.args.depth (within c.args.depth)) _ _ _ _ _ _ _
    c.loop-turn.invariant c.loop-turn-test.true c.in_err-other.ensures c.from_residual.ensures.1
