-- What a `Document` keeps beside its text.
use Rattle.std.specs.Prelude.{◌≡◌, ◌≤◌, length, chars, IsUtf8, option_map}
use Rattle.span_token.specs.Limits.{text_limit}
use Rattle.span_token.specs.Documents.{Doc}
use Rattle.span_token.specs.Places.{FitsText, FitsTokens}
use Rattle.span_token.specs.Offsets.{AreOffsets}
use Rattle.span_token.specs.declared.document.Document.TheInside.{Inside}

-- the document that is kept
abbrev pub doc_of : Inside → Doc
doc_of d = record { text = d.text.now; label = option_map (λ l. l.now) d.label }

-- what is kept beside the text fits it
pub record IsLaidOut (d : Inside) : Type 0 where
  pub utf8 : IsUtf8 d.text.now
  pub short : length d.text.now ≤ text_limit
  pub count : d.characters ≡ length (chars d.text.now)
  pub places : FitsText d.places d.text.now
  pub tokens : FitsTokens d.tokens d.text.now
  pub offsets : AreOffsets d.text.now 0 d.offsets.items
