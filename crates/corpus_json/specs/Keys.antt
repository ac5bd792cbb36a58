-- A name as it stands before its value. Only private clauses cite this.
use Rattle.std.specs.Prelude.{ℕ, List, [], ◌∷◌, ◌++◌}
use Rattle.json.specs.Print.{quoted}

-- a comma, the name in quotes, and a colon
abbrev pub key_text : List ℕ → List ℕ
key_text name = 44 ∷ (quoted name ++ 58 ∷ [])
