use Rattle.std.proofs.Common.{◌≡◌, map, drop}
use Rattle.aql_syntax.specs.Trees.{as_terms}
use Rattle.aql_syntax.specs.Views.{term_of, item_of}
use Rattle.aql_syntax.specs.Sameness.{are_same}
use Rattle.clause_types.specs.Keys.{written_out}
use Rattle.clause_types.proofs.key.+key.Given as goal

abbrev pub invariant-args_same-loop-i : goal.invariant-args_same-loop-i
invariant-args_same-loop-i l =
    are_same (as_terms (map (written_out (map item_of l.items)) (map term_of (drop l.i l.args)))) (as_terms (map term_of (drop l.i l.others)))
    ≡ are_same (as_terms (map (written_out (map item_of l.items)) (map term_of l.args))) (as_terms (map term_of l.others))
