-- A sweep over the characters of a text, and the bytes at which these stand.
use Rattle.std.specs.Prelude.{ℕ, ◌≤◌, List, length, chars}
use Rattle.span_token.specs.Leads.{IsPlace}
use Rattle.span_token.specs.Points.{IsPoint}
use Rattle.span_token.specs.declared.decoded.TextSweep.{TextSweep}

-- it has come to a point of the text or to its end, and `begin_byte` is where the character begins, at or before that
-- point, that its sweep has as the begin of a token
pub record IsAtPoint (text : List ℕ) (s : TextSweep) : Type 0 where
  pub point : IsPoint text s.at
  pub inside : s.at.place ≤ length (chars text)
  pub begins : IsPlace text s.sweep.begin s.begin_byte
  pub ordered : s.sweep.begin ≤ s.at.place
