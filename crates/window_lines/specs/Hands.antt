-- What each of several threads keeps. Only private clauses cite this.
use Rattle.std.specs.Prelude.{◌≡◌, List, All, Box}
use Rattle.scalar_ops.specs.Tables.{Lists}
use Rattle.window_lines.specs.declared.hands.Hand.{Hand}

-- each hand has the tools of the tables
abbrev pub HaveTools : {Z : Type 0} → Lists → List (Box Hand Z) → Type 0
HaveTools lists hands = All (λ hand. hand.value.tools ≡ lists) hands
