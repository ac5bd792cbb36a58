-- Lines that are answered, and more lines behind them.
use Rattle.std.proofs.Common.{◌≡◌, ◌++◌, ◌+◌, ℕ, List, [], ◌∷◌, false, refl, sym, ap₂, ◌∙◌, length-append, append-nil}
use Rattle.std.proofs.lemmas.List.Elements.{All-append, All-cons, All-nil}
use Rattle.std.proofs.lemmas.Grind.{flat_map-append}
use Rattle.span_token.specs.Documents.{Doc}
use Rattle.corpus_json.specs.Documents.{is_bad_line}
use Rattle.corpus_json.specs.Lines.{HasNoLf}
use Rattle.line_parts.specs.Answered.{AreAnswered, answer_to}
use Rattle.line_parts.specs.DocumentLaws.{pieces-append}

module _ (piece : Doc → List ℕ) where
  -- no line
  pub answered-none : AreAnswered piece [] 0 []
  answered-none = record { lines = []; whole = refl; no_lf = All-nil HasNoLf; good = All-nil (λ line. is_bad_line line ≡ false); counted = refl; written = refl }

  -- one line
  pub answered-line : (line text : List ℕ) → HasNoLf line → is_bad_line line ≡ false → text ≡ answer_to piece (line ∷ []) → AreAnswered piece (line ++ 10 ∷ []) 1 text
  answered-line line text no_lf good written = record {
    lines = line ∷ [];
    whole = sym (append-nil (line ++ 10 ∷ []));
    no_lf = All-cons HasNoLf line [] no_lf (All-nil HasNoLf);
    good = All-cons (λ l. is_bad_line l ≡ false) line [] good (All-nil (λ l. is_bad_line l ≡ false));
    counted = refl;
    written = written;
  }

  -- lines behind lines
  pub answered-append : (xs ys : List ℕ) (m n : ℕ) (text more : List ℕ) → AreAnswered piece xs m text → AreAnswered piece ys n more → AreAnswered piece (xs ++ ys) (m + n) (text ++ more)
  answered-append xs ys m n text more before behind = record {
    lines = before.lines ++ behind.lines;
    whole = ap₂ (λ (a b : List ℕ). a ++ b) before.whole behind.whole ∙ sym (flat_map-append (λ (line : List ℕ). line ++ 10 ∷ []) before.lines behind.lines);
    no_lf = All-append HasNoLf before.lines behind.lines before.no_lf behind.no_lf;
    good = All-append (λ l. is_bad_line l ≡ false) before.lines behind.lines before.good behind.good;
    counted = ap₂ (λ (a b : ℕ). a + b) before.counted behind.counted ∙ sym (length-append before.lines behind.lines);
    written = ap₂ (λ (a b : List ℕ). a ++ b) before.written behind.written ∙ sym (pieces-append piece before.lines behind.lines before.good);
  }
