use Rattle.std.proofs.Common.{◌≡◌, map, drop}
use Rattle.clause_types.specs.Callees.{wanted_of}
use Rattle.clause_types.specs.Calls.{wrong_arguments}
use Rattle.clause_types.specs.Knowns.{known_of}
use Rattle.clause_types.specs.Typings.{kinds_of}
use Rattle.clause_types.specs.Views.{seen}
use Rattle.clause_types.proofs.call.refuse_unfit.Given as goal

abbrev pub invariant-loop-number : goal.invariant-loop-number
invariant-loop-number l =
    wrong_arguments (known_of l.known) l.at (drop l.number (wanted_of l.callee (kinds_of (map seen l.args)))) (map seen (drop l.number l.args))
    ≡ wrong_arguments (known_of l.known) l.at (wanted_of l.callee (kinds_of (map seen l.args))) (map seen l.args)
