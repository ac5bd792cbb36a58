use Rattle.aql_regex_extract.proofs.BytesLemmas.{Begins-any}
use Rattle.aql_regex_extract.proofs.admitted.Admitted.any.Goals as goal

pub returns : goal.returns
returns c = λ text bytes. (Begins-any _ text c.all.ensures bytes, tt)
