-- A scan for the tokens of a text.
use Rattle.std.specs.Prelude.{◌≤◌, List, length, chars, IsUtf8}
use Rattle.span_token.specs.Limits.{text_limit}
use Rattle.span_token.specs.Extents.{Extent}
use Rattle.span_token.specs.Tokens.{tokens_from}
use Rattle.span_token.specs.Points.{IsPoint, IsSeam}
use Rattle.span_token.specs.declared.scan.TokenScan.TheInside.{Inside}

-- the tokens that the scan has still to give
abbrev pub tokens_left : Inside → List Extent
tokens_left scan = tokens_from (chars scan.text.now) scan.at.place

-- it stands between two tokens
pub record IsScan (scan : Inside) : Type 0 where
  pub utf8 : IsUtf8 scan.text.now
  pub short : length scan.text.now ≤ text_limit
  pub point : IsPoint scan.text.now scan.at
  pub seam : IsSeam (chars scan.text.now) scan.at.place
