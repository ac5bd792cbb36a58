-- What serde_json's reading of UTF-8 says of the value of a line.
use Rattle.std.proofs.Common.{◌≡◌, List, ℕ, Bool, true, false, Option, None, refl, if◌then◌else◌}
use Rattle.std.specs.Str.{IsUtf8, is_utf8}
use Rattle.std.proofs.lemmas.Str.{IsUtf8-from_is_utf8, is_utf8-from_IsUtf8}
use Rattle.serde_json.specs.Data.{Data}
use Rattle.serde_json.specs.Read.{read}
use Rattle.corpus_json.specs.Documents.{value_of}

-- text has the value that serde_json reads in it
pub value_of_text : (line : List ℕ) → IsUtf8 line → value_of line ≡ read line
value_of_text line text = rw (is_utf8-from_IsUtf8 line text)

none_unless : (test : Bool) (found : Option Data) → (test ≡ true → found ≡ None) → (if test then found else None) ≡ None
none_unless true found none = none refl
none_unless false found none = refl

-- a line in which serde_json reads nothing, where it is text, has no value
pub value_of_refused : (line : List ℕ) → (IsUtf8 line → read line ≡ None) → value_of line ≡ None
value_of_refused line none = none_unless (is_utf8 line) (read line) (λ test. none (IsUtf8-from_is_utf8 line test))
