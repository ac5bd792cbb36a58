-- The sentences of generated documents, as characters.
use Rattle.std.specs.Prelude.{ℕ, ◌%◌, List, [], ◌∷◌, codes, slice_index_or}

-- the eight sentences; `#` stands for a document's number
abbrev pub sentences : List (List ℕ)
sentences =
    codes "Call John Smith at 555-#."
    ∷ codes "Ann Lee joined Acme Corp on 12 May 2019."
    ∷ codes "Dr. Maria Lopez wrote to info about order #."
    ∷ codes "The invoice # was paid."
    ∷ codes "Meet Mr. Paul Jones in New York."
    ∷ codes "No names here."
    ∷ codes "ann lee, Chief Technology Officer, 555-#"
    ∷ codes "Été à Paris: 7 résumés."
    ∷ []

-- the sentence of a number: they come round again after eight
unfoldable pub sentence_of : ℕ → List ℕ
sentence_of number = slice_index_or sentences (number % 8) []
