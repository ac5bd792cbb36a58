-- The tokens of a document's object.
use Rattle.std.proofs.Common.{◌≡◌, ◌≤◌, ◌++◌, ◌∷◌, [], List, ℕ, Option, None, Some, option_and_then, codes, refl, sym, ap, ◌∙◌, append_assoc, append-nil, lit≤, if◌then◌else◌}
use Rattle.json.specs.Token.{Token, begin_object, end_object, key, string}
use Rattle.json.specs.Tree.{json_tokens, depth}
use Rattle.serde_json.specs.Written.{outline}
use Rattle.demo_corpus.specs.Tokens.{label_tokens}
use Rattle.json.specs.Lex.{tokens}
use Rattle.std.specs.Str.{IsUtf8}
use Rattle.std.proofs.lemmas.Str.{is_utf8-from_IsUtf8}
use Rattle.serde_json.specs.Data.{Data}
use Rattle.serde_json.specs.Read.{read, of_json, max_depth}
use Rattle.json.specs.Json as json
use Rattle.json.proofs.Printed.Trees.{value-json_tokens}
use Rattle.span_token.specs.Documents.{Doc}
use Rattle.corpus_json.specs.Documents.{document_in, document_of}
use Rattle.demo_corpus.specs.Corpora.{document_data}

pub object_tokens : (label : Option (List ℕ)) (text : List ℕ)
    → begin_object ∷ (label_tokens label ++ key (codes "text") ∷ string text ∷ end_object ∷ []) ≡ json_tokens (outline (document_data (record { text = text; label = label })))
object_tokens None text = refl
object_tokens (Some label) text = refl

-- five pieces, one after the other
pub five_pieces : (old first second third fourth fifth label : List Token) (a b c d : Token)
    → first ≡ old ++ a ∷ [] → second ≡ first ++ label → third ≡ second ++ b ∷ [] → fourth ≡ third ++ c ∷ [] → fifth ≡ fourth ++ d ∷ []
    → fifth ≡ old ++ a ∷ (label ++ b ∷ c ∷ d ∷ [])
five_pieces old first second third fourth fifth label a b c d at_first at_second at_third at_fourth at_fifth =
    rw (at_fifth, at_fourth, at_third, at_second, at_first) (simp append_assoc)

-- ---- what is written is read back

reads_value : (value : Data) (line : List ℕ) → of_json (outline value) ≡ Some value → depth (outline value) ≤ max_depth → tokens line ≡ json_tokens (outline value) → read line ≡ Some value
reads_value value line is shallow same =
    let parsed : json.value max_depth (tokens line) ≡ Some (outline value, []) =
    ap (json.value max_depth) (same ∙ sym (append-nil (json_tokens (outline value)))) ∙ value-json_tokens (outline value) max_depth [] shallow in
    ap (λ (found : Option (json.Json × List Token)). option_and_then of_json (option_and_then (λ p. json.if_last p.0 p.1) found)) parsed ∙ is

outline_of : (label : Option (List ℕ)) (text : List ℕ) → of_json (outline (document_data (record { text = text; label = label }))) ≡ Some (document_data (record { text = text; label = label }))
outline_of None text = refl
outline_of (Some label) text = refl

shallow : (label : Option (List ℕ)) (text : List ℕ) → depth (outline (document_data (record { text = text; label = label }))) ≤ max_depth
shallow None text = lit≤ tt
shallow (Some label) text = lit≤ tt

-- the object of a document is that document
document_of_data : (label : Option (List ℕ)) (text : List ℕ) → document_of (document_data (record { text = text; label = label })) ≡ Some (record { text = text; label = label })
document_of_data None text = refl
document_of_data (Some label) text = refl

pub reads : (document : Doc) (line : List ℕ) → IsUtf8 line → tokens line ≡ json_tokens (outline (document_data document)) → document_in line ≡ Some document
unfolding document_in
reads document line text same =
    let value : read line ≡ Some (document_data document) = reads_value (document_data document) line (outline_of document.label document.text) (shallow document.label document.text) same in
    ap (λ test. option_and_then document_of (if test then read line else None)) (is_utf8-from_IsUtf8 line text) ∙ ap (λ found. option_and_then document_of found) value ∙ document_of_data document.label document.text
