-- Documents as lines of a corpus.
use Rattle.std.specs.Prelude.{ℕ, List, [], ◌∷◌, ◌++◌, codes}
use Rattle.std.specs.List.{flat_map}
use Rattle.serde_json.specs.Data.{Data, string}
use Rattle.serde_json.specs.Written.{compact_text}
use Rattle.span_token.specs.Documents.{Doc}
use Rattle.corpus_json.specs.Outputs.{label_pair, object_of}
use Rattle.demo_corpus.specs.Generator.{first_documents}

-- the object of a document: its label, where it has one, and its text
abbrev pub document_data : Doc → Data
document_data document = object_of (label_pair document.label ++ (codes "text", string document.text) ∷ [])

-- its line without the LF: serde_json's compact text of the object
unfoldable pub document_text : Doc → List ℕ
document_text document = compact_text (document_data document)

-- the lines of some documents, each with its LF
abbrev pub corpus_of : List Doc → List ℕ
corpus_of documents = flat_map (λ document. document_text document ++ 10 ∷ []) documents

-- the corpus of the first generated documents
abbrev pub generated_corpus : ℕ → List ℕ
generated_corpus count = corpus_of (first_documents count)
