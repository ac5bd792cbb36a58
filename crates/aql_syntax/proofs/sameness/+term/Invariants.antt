use Rattle.std.proofs.Common.{◌≡◌, map, drop}
use Rattle.aql_syntax.specs.Trees.{as_terms}
use Rattle.aql_syntax.specs.Views.{term_of}
use Rattle.aql_syntax.specs.Sameness.{are_same}
use Rattle.aql_syntax.proofs.sameness.+term.Given as goal

abbrev pub invariant-terms-loop-i : goal.invariant-terms-loop-i
invariant-terms-loop-i l =
    are_same (as_terms (map term_of (drop l.i l.args))) (as_terms (map term_of (drop l.i l.others)))
    ≡ are_same (as_terms (map term_of l.args)) (as_terms (map term_of l.others))
