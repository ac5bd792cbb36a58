use Rattle.std.specs.Bool.{one_answer}
use Rattle.aql_syntax.specs.Sameness.{is_same}
use Rattle.aql_syntax.specs.Views.{term_of}
use Rattle.aql_syntax.specs.SamenessLaws.{decides}
use Rattle.clause_types.proofs.key.plain_same.Goals as goal

pub returns : goal.returns
returns c =
    one_answer c.same_term.result (is_same (term_of c.args.a.now) (term_of c.args.b.now)) c.same_term.ensures
    (decides (term_of c.args.a.now) (term_of c.args.b.now))
