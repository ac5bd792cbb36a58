-- A corpus in pieces: cut at ends of lines, it gives the outputs of its pieces one after the other.
use Rattle.std.proofs.Common.{◌≡◌, ℕ, true, List, [], ◌++◌, All, ap, sym, subst, ◌∙◌, append-nil}
use Rattle.span_token.specs.Documents.{Doc}
use Rattle.corpus_json.specs.Lines.{joined, lines_of, HasNoLf}
use Rattle.corpus_json.specs.LineLaws.{lines_of-joined}
use Rattle.line_parts.specs.DocumentLaws.{pieces-append}
use Rattle.aqlx_top.specs.Endings.{written_for}
use Rattle.aqlx_top.specs.Taken.{HasNoBadLine}

-- the bytes are whole lines, each with its LF
pub record IsOfWholeLines (bytes : List ℕ) : Type 0 where
  pub lines : List (List ℕ)
  pub split : bytes ≡ joined lines
  pub no_lf : All HasNoLf lines

-- what is written for a corpus that is read to its end, a piece for each document
abbrev pub output_of : (Doc → List ℕ) → List ℕ → List ℕ
output_of piece corpus = written_for piece (lines_of true corpus)

-- a corpus that begins with whole lines, none of them bad, gives what these give and then what the rest gives
pub output-cut : (piece : Doc → List ℕ) (front back : List ℕ) → IsOfWholeLines front → HasNoBadLine (lines_of true front)
    → output_of piece (front ++ back) ≡ output_of piece front ++ output_of piece back
output-cut piece front back whole good =
    let lines = whole.lines in
    let alone : lines_of true front ≡ lines =
    ap (lines_of true) (whole.split ∙ sym (append-nil (joined lines))) ∙ lines_of-joined true lines [] whole.no_lf ∙ append-nil lines in
    ap (λ (bytes : List ℕ). written_for piece (lines_of true (bytes ++ back))) whole.split
    ∙ ap (written_for piece) (lines_of-joined true lines back whole.no_lf)
    ∙ pieces-append piece lines (lines_of true back) (subst HasNoBadLine alone good)
    ∙ ap (λ (ls : List (List ℕ)). written_for piece ls ++ written_for piece (lines_of true back)) (sym alone)
