-- The text of values, and of strings piece by piece.
use Rattle.std.proofs.Common.{◌≡◌, ℕ, ◌≤◌, List, [], ◌∷◌, ◌++◌, codes, decimal, drop, ℤ, pos, negsuc, refl, ap, ◌∙◌, append_assoc}
use Rattle.std.specs.Fmt.{signed_decimal}
use Rattle.std.specs.List.{slice_range}
use Rattle.std.proofs.lemmas.List.Folds.{drop_split}
use Rattle.std.proofs.lemmas.Grind.{flat_map-append}
use Rattle.json.specs.Print.{escape, escape_byte, quoted}
use Rattle.serde_json.specs.Find.{of_integer}
use Rattle.serde_json.specs.Written.{compact_text, number_text}
use Rattle.span_token.specs.Extents.{Extent}
use Rattle.span_token.specs.Documents.{Doc, text_in}
use Rattle.corpus_json.specs.Outputs.{span_data}
use Rattle.corpus_json.specs.Writing.{span_head}

-- an integer's text is its digits, of either sign
pub text_of_integer : (z : ℤ) → number_text (of_integer z) ≡ signed_decimal z
text_of_integer (pos n) = refl
text_of_integer (negsuc n) = refl

-- a span's text is its head, the quoted text and a brace
pub text_of_span : (document : Doc) (extent : Extent) (text : List ℕ) → text ≡ text_in document extent → span_head extent ++ (quoted text ++ 125 ∷ []) ≡ compact_text (span_data document extent)
unfolding escape_byte
text_of_span document extent text is =
    let last = quoted text ++ 125 ∷ [] in
    ap (λ ts. codes "{\"begin\":" ++ ts)
    (append_assoc (decimal extent.begin) (codes ",\"end\":" ++ (decimal extent.end ++ codes ",\"text\":")) last
    ∙ ap (λ ts. decimal extent.begin ++ (codes ",\"end\":" ++ ts)) (append_assoc (decimal extent.end) (codes ",\"text\":") last))
    ∙ ap (λ t. codes "{\"begin\":" ++ (decimal extent.begin ++ (codes ",\"end\":" ++ (decimal extent.end ++ (codes ",\"text\":" ++ (quoted t ++ 125 ∷ [])))))) is

-- what is escaped from one place on is escaped up to another, and from there on
pub escape_split : (text : List ℕ) (at end : ℕ) → at ≤ end → escape (drop at text) ≡ escape (slice_range text at end) ++ escape (drop end text)
escape_split text at end h = ap escape (drop_split text at end h) ∙ flat_map-append escape_byte (slice_range text at end) (drop end text)
