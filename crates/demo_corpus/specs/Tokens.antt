-- A line as a writer's tokens. Only private clauses cite this.
use Rattle.std.specs.Prelude.{◌≡◌, ◌++◌, ℕ, List, [], ◌∷◌, Result, OnOk, Option, None, Some, codes}
use Rattle.json.specs.Token.{Token}
use Rattle.json.specs.Written.{Written}

-- on success the tokens are written after those that stood there
pub record Adds {E : Type 0} (result : Result (Unit {0}) E) (old new : Written) (tokens : List Token) : Type 0 where
  pub tokens_are : OnOk result (new.tokens ≡ old.tokens ++ tokens)
  pub before : OnOk result (new.before ≡ old.before)

-- the tokens of the member `label`, where there is a label
abbrev pub label_tokens : Option (List ℕ) → List Token
label_tokens None = []
label_tokens (Some label) = Token.key (codes "label") ∷ Token.string label ∷ []
