use Rattle.std.proofs.Common.{Bool, subst, sym}
use Rattle.std.specs.Bool.{Decides}
use Rattle.aql_syntax.specs.Views.{term_of}
use Rattle.aql_syntax.specs.Sameness.{AreSame}
use Rattle.aql_syntax.specs.LawProofs.SameTerms.{decides}
use Rattle.aql_syntax.proofs.sameness.same_term.Goals as goal

pub returns : goal.returns
returns c =
    subst (λ (b : Bool). Decides b (AreSame (term_of c.args.a.now) (term_of c.args.b.now)))
    (sym c.term.ensures) (decides (term_of c.args.a.now) (term_of c.args.b.now))
