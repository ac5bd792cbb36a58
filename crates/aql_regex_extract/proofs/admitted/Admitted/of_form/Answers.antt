use Rattle.aql_regex_extract.proofs.AdmittedLemmas.{AdmitsMatches-of_tree}
use Rattle.aql_regex_extract.proofs.admitted.Admitted.of_form.Goals as goal

pub returns-in-Ok : goal.returns-in-Ok
returns-in-Ok c =
    AdmitsMatches-of_tree _ _ _ _ (rw c.default.ensures at c.in-Ok.ensures.ok) c.of_tree.ensures

pub returns-in-Err : goal.returns-in-Err
returns-in-Err c = record { at = λ text bytes h. c.any.ensures text bytes }
