-- The token of an expression.
use Rattle.std.proofs.Common.{◌≡◌, ℕ, refl}
use Rattle.aql_syntax.specs.declared.tree.Form.{Form}
use Rattle.aql_syntax.specs.declared.tree.Form.TheVariants as form
use Rattle.aql_syntax.specs.Views.{term_at}
use Rattle.clause_types.specs.Items.{at_of}

pub same_at : (at : ℕ) (f : Form) → at_of (term_at at f) ≡ at
same_at at (form.Int value) = refl
same_at at (form.Str text) = refl
same_at at (form.Regex text) = refl
same_at at (form.Column alias name) = refl
same_at at (form.Bare name) = refl
same_at at (form.Call' name shape args) = refl
same_at at (form.Star name) = refl
