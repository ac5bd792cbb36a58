-- Several clauses of one call.
use Rattle.std.proofs.Common.{Result, Ok, Err, OnOk}

-- what three clauses say together
pub on_ok_three : {T E P Q R S : Type 0} (r : Result T E) → OnOk r P → OnOk r Q → OnOk r R → (P → Q → R → S) → OnOk r S
on_ok_three (Ok x) p q r f = f p q r
on_ok_three (Err e) p q r f = tt

pub on_ok_four : {T E P Q R S V : Type 0} (r : Result T E) → OnOk r P → OnOk r Q → OnOk r R → OnOk r S → (P → Q → R → S → V) → OnOk r V
on_ok_four (Ok x) p q r s f = f p q r s
on_ok_four (Err e) p q r s f = tt
