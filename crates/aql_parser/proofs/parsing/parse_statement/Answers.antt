use Rattle.std.proofs.Common.{◌≡◌, Ok, Err, Result, ap}
use Rattle.std.specs.Result.{IsErrAnd}
use Rattle.aql_lexer.specs.Kinds.{kinds_of}
use Rattle.aql_parser.specs.Nesting.{nesting_limit}
use Rattle.aql_parser.proofs.ProgramRules.{tree_refused, tree_kept}
use Rattle.aql_parser.proofs.parsing.parse_statement.Goals as goal

-- what a refusal is passed on as
passed_on : {T E : Type 0} (r : Result T E) (e : E) → IsErrAnd r (λ x. x ≡ e) → r ≡ Err e
passed_on (Err x) e h = ap Err h
passed_on (Ok t) e h = absurd h

pub returns-in_err-tree : goal.returns-in_err-tree
returns-in_err-tree c =
    let same = passed_on c.from_residual.result c.in_err-tree.field-0.0 c.from_residual.ensures.1 in
    rw same
    (tree_refused nesting_limit c.args.at c.args.before (kinds_of c.args.run.now) c.in_err-tree.field-0.0 c.new-toks.result c.statement.new.toks c.requires.nested c.new-toks.ensures c.in_err-tree.ensures)

pub returns : goal.returns
returns c =
    tree_kept nesting_limit c.args.at c.args.before (kinds_of c.args.run.now) c.in_ok-tree.tree c.statement.new.toks c.is_whole-stands.result c.kept.result
    c.requires.nested (rw c.new-toks.ensures at c.in_ok-tree.ensures) c.is_whole-stands.ensures c.kept.ensures
