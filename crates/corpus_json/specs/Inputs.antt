-- A document that was read, as definitions see it.
use Rattle.std.specs.Prelude.{option_map}
use Rattle.span_token.specs.Documents.{Doc}
use Rattle.corpus_json.specs.declared.input.Input.{Input}
use Rattle.corpus_json.specs.declared.input.InputRef.{InputRef}

abbrev pub doc_of : Input → Doc
doc_of input = record { text = input.text; label = input.label }

-- the same of one whose texts are borrowed
abbrev pub doc_of_ref : InputRef → Doc
doc_of_ref input = record { text = input.text.now; label = option_map (λ label. label.now) input.label }
