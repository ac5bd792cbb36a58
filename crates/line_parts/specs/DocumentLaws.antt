-- The documents of the lines of a corpus, from the first line on.
use Rattle.std.proofs.Common.{◌≡◌, ℕ, Bool, true, false, not, List, [], ◌∷◌, ◌++◌, All, ap, sym, ◌∙◌, refl, append-nil}
use Rattle.std.proofs.lemmas.List.Elements.{filter_map-append, All-head, All-tail}
use Rattle.std.proofs.lemmas.Grind.{flat_map-append}
use Rattle.std.proofs.Math.Seq.{take-append-add}
use Rattle.std.specs.List.{prefix_len, filter_map, flat_map, take_while}
use Rattle.corpus_json.specs.Documents.{documents, good_lines, is_bad_line, good_of, entry_of}
use Rattle.span_token.specs.Documents.{Doc}

-- elements that pass, before others
take_while-append : {X : Type 0} (p : X → Bool) (xs ys : List X) → All (λ x. p x ≡ true) xs → take_while p (xs ++ ys) ≡ xs ++ take_while p ys
take_while-append p [] ys pass = refl
take_while-append p (x ∷ xs) ys pass =
    rw (All-head (λ z. p z ≡ true) x xs pass) (take-append-add (x ∷ []) (xs ++ ys) (prefix_len p (xs ++ ys)) ∙ ap (λ zs. x ∷ zs) (take_while-append p xs ys (All-tail (λ z. p z ≡ true) x xs pass)))

-- a line that isn't bad passes
passing : (lines : List (List ℕ)) → All (λ line. is_bad_line line ≡ false) lines → All (λ line. not (is_bad_line line) ≡ true) lines
passing lines good = λ k d within. ap not (good k d within)

pub good_lines-append : (lines rest : List (List ℕ)) → All (λ line. is_bad_line line ≡ false) lines → good_lines (lines ++ rest) ≡ lines ++ good_lines rest
good_lines-append lines rest good = take_while-append (λ line. not (is_bad_line line)) lines rest (passing lines good)

-- the documents of lines that aren't bad, and then those of the others
pub documents-append : (lines rest : List (List ℕ)) → All (λ line. is_bad_line line ≡ false) lines → documents (lines ++ rest) ≡ documents lines ++ documents rest
documents-append lines rest good =
    let pick = λ (line : List ℕ). good_of (entry_of line) in
    let all : good_lines lines ≡ lines = ap good_lines (sym (append-nil lines)) ∙ good_lines-append lines [] good ∙ append-nil lines in
    ap (filter_map pick) (good_lines-append lines rest good)
    ∙ filter_map-append pick lines (good_lines rest)
    ∙ ap (λ ls. filter_map pick ls ++ documents rest) (sym all)

-- what is written for the documents of lines, a piece for each
pub pieces-append : (piece : Doc → List ℕ) (lines rest : List (List ℕ)) → All (λ line. is_bad_line line ≡ false) lines
    → flat_map piece (documents (lines ++ rest)) ≡ flat_map piece (documents lines) ++ flat_map piece (documents rest)
pieces-append piece lines rest good = ap (flat_map piece) (documents-append lines rest good) ∙ flat_map-append piece (documents lines) (documents rest)

-- no document stands from a bad line on
pub documents_from_bad : (line : List ℕ) (rest : List (List ℕ)) → is_bad_line line ≡ true → documents (line ∷ rest) ≡ []
documents_from_bad line rest bad = rw bad refl

-- the document of one line that isn't bad
pub documents_of_one : (line : List ℕ) → is_bad_line line ≡ false → documents (line ∷ []) ≡ filter_map (λ (each : List ℕ). good_of (entry_of each)) (line ∷ [])
documents_of_one line good = rw good refl
