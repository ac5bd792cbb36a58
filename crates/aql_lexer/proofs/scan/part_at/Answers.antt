use Rattle.std.proofs.Common.{◌≡◌, ℕ, Bool, Some, None, IfSome, List, [], refl, sym}
use Rattle.std.specs.Str.{IsUtf8}
use Rattle.aql_lexer.specs.Scanning.{Found, stands, IsCut}
use Rattle.aql_lexer.proofs.Found.{stands_found}
use Rattle.aql_lexer.proofs.Cuts.{cut}
use Rattle.aql_lexer.proofs.scan.part_at.Goals as goal

each_cut : (text : List ℕ) (r : Found) (at_start : Bool) → IsUtf8 text → r ≡ stands at_start text → IfSome r (IsCut text)
each_cut text None at_start utf8 h = tt
each_cut text (Some found) at_start utf8 h = cut text found utf8 (stands_found [] text at_start found (λ _. refl) (sym h))

pub returns-clause-cut : goal.returns-clause-cut
returns-clause-cut c = each_cut c.args.text.now _ c.args.at_start c.utf8.text c.form_at.ensures.value
