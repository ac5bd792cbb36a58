use Rattle.std.proofs.Common.{Bool, ap, sym, codes}
use Rattle.aql_syntax.specs.Grammar.Extractions.{unit_of}
use Rattle.aql_syntax.proofs.printing.extractions.unit.Goals as goal

pub returns-in-true : goal.returns-in-true
returns-in-true c = sym (ap (λ (tokens : Bool). codes (unit_of tokens)) c.in-true.is)

pub returns-in-false : goal.returns-in-false
returns-in-false c = sym (ap (λ (tokens : Bool). codes (unit_of tokens)) c.in-false.is)
