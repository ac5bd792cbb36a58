-- What a search is asked for.
use Rattle.std.specs.Prelude.{◌≡◌, ℕ, List}
use Rattle.span_token.specs.Documents.{LiesIn, text_in}
use Rattle.span_token.specs.Extents.{extent_of}
use Rattle.aql_regex_extract.specs.declared.sought.Sought.{Sought}

-- the source lies in the document, and the text is that of the source
pub record IsTextOf (s : Sought) (text : List ℕ) : Type 0 where
  pub in_document : LiesIn (extent_of s.source) s.doc.now
  pub in_source : text ≡ text_in s.doc.now (extent_of s.source)
