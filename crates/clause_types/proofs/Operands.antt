-- Arguments of a call: they have no fault, and one is the last.
use Rattle.std.proofs.Common.{◌≡◌, ◌-◌, ◌∙◌, List, [], ◌∷◌, map, drop, length, refl, ap, sym}
use Rattle.std.proofs.lemmas.List.{drop-map, length-map}
use Rattle.clause_types.specs.declared.given.Given.{Given}
use Rattle.clause_types.specs.Typings.{faults_of}
use Rattle.clause_types.specs.Views.{seen}

pub faultless : (given : List Given) → faults_of (map seen given) ≡ []
faultless [] = refl
faultless (x ∷ given) = faultless given

pub last_seen : (args : List Given) → map seen (drop (length args - 1) args) ≡ drop (length (map seen args) - 1) (map seen args)
last_seen args =
    sym (drop-map seen (length args - 1) args) ∙ ap (λ n. drop (n - 1) (map seen args)) (sym (length-map args seen))
