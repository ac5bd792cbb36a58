-- Parts of bytes, whose lines were answered: one line more, and one part behind another.
use Rattle.std.proofs.Common.{◌≡◌, ◌++◌, ◌+◌, ℕ, List, [], ◌∷◌, Option, Some, None, IfSome, false, take, drop, length, length-append, get_or, refl, sym, ap, ap₂, ◌∙◌, subst, append_assoc, arith, append-nil, take-take}
use Rattle.std.proofs.Math.Seq.{take-add}
use Rattle.std.proofs.lemmas.List.{take_more, drop-drop, get_or_at, length-take-le}
use Rattle.span_token.specs.Documents.{Doc}
use Rattle.corpus_json.specs.Documents.{is_bad_line}
use Rattle.corpus_json.specs.Lines.{FirstLfAt, HasNoLf}
use Rattle.line_parts.specs.Answered.{AreAnswered, IsAnswered, answer_to}
use Rattle.line_parts.specs.AnsweredLaws.{answered-line, answered-append, answered-none}
use Rattle.line_parts.specs.Turns.{IsPart, none_taken}
use Rattle.line_parts.specs.declared.turn.Part.{Part}
use Rattle.line_sight.specs.Seen.{Shown, StandsAt}
use Rattle.line_sight.specs.SeenLaws.{stands-append, stands-first, stands-none}
use Rattle.line_parts.specs.declared.desk.Answered.{Answered}

-- a line with its LF
line_taken : (bytes : List ℕ) (n : ℕ) → FirstLfAt bytes n → take (n + 1) bytes ≡ take n bytes ++ 10 ∷ []
line_taken bytes n lf =
    take_more bytes n 10 lf.within
    ∙ ap (λ y. take n bytes ++ y ∷ []) (ap (λ l. get_or l n 10) lf.split ∙ get_or_at (take n bytes) 10 (drop (n + 1) bytes) 10 n (length-take-le n bytes (omega (arith, lf.within))))

-- a line with its LF that is seen
pub stands_line : (shown : Shown) (at n : ℕ) (seen : List ℕ) → StandsAt shown at (at + length seen) seen → FirstLfAt seen n → StandsAt shown at (at + n + 1) (take n seen ++ 10 ∷ [])
stands_line shown at n seen is lf =
    subst (λ (b : List ℕ). StandsAt shown at (at + n + 1) b) (line_taken seen n lf)
    (subst (λ (k : ℕ). StandsAt shown at k (take (n + 1) seen)) (omega arith) (stands-first shown at (at + length seen) (n + 1) seen (omega (arith, lf.within)) is))

module _ (piece : Doc → List ℕ) where
  -- a line more
  pub answered_on : (bytes line text after : List ℕ) (count : ℕ) → HasNoLf line → is_bad_line line ≡ false
      → after ≡ text ++ answer_to piece (line ∷ [])
      → AreAnswered piece bytes count text → AreAnswered piece (bytes ++ (line ++ 10 ∷ [])) (count + 1) after
  answered_on bytes line text after count no_lf good put so_far =
      subst (λ (t : List ℕ). AreAnswered piece (bytes ++ (line ++ 10 ∷ [])) (count + 1) t) (sym put)
      (answered-append piece bytes (line ++ 10 ∷ []) count 1 text (answer_to piece (line ∷ [])) so_far
      (answered-line piece line (answer_to piece (line ∷ [])) no_lf good refl))

  -- a part behind what was answered
  pub longer : (first : List ℕ) (shown : Shown) (before middle after : List ℕ) (taken next : Answered) (part : Part) → part.from ≡ taken.bytes
      → next.bytes ≡ part.to → next.lines ≡ taken.lines + part.count → after ≡ middle ++ part.text.items
      → IsAnswered piece first shown taken before middle → IsPart piece shown part → IsAnswered piece first shown next before after
  longer first shown before middle after taken next part from ends counts put so_far more =
      let within = more.within in
      let few = more.few in
      let before_few = so_far.few in
      record {
        good = so_far.good;
        within = omega (arith, ends, within);
        few = omega (arith, ends, from, counts, few, before_few);
        bytes = so_far.bytes ++ more.bytes;
        there = subst (λ (k : ℕ). StandsAt shown 0 k (so_far.bytes ++ more.bytes)) (sym ends)
            (stands-append shown 0 taken.bytes part.to so_far.bytes more.bytes so_far.there (subst (λ (k : ℕ). StandsAt shown k part.to more.bytes) from more.there));
        text = so_far.text ++ part.text.items;
        answered = rw counts (answered-append piece so_far.bytes more.bytes taken.lines part.count so_far.text part.text.items so_far.answered more.answered);
        put = put ∙ ap (λ (l : List ℕ). l ++ part.text.items) so_far.put ∙ append_assoc (before ++ answer_to piece (first ∷ [])) so_far.text part.text.items;
      }

-- no line behind the first one
pub answered-first : (piece : Doc → List ℕ) (first : List ℕ) (shown : Shown) (before after : List ℕ) → is_bad_line first ≡ false → after ≡ before ++ answer_to piece (first ∷ [])
    → IsAnswered piece first shown none_taken before after
answered-first piece first shown before after good put = record {
  good = good;
  within = omega arith;
  few = omega arith;
  bytes = [];
  there = stands-none shown 0;
  text = [];
  answered = answered-none piece;
  put = put ∙ sym (append-nil (before ++ answer_to piece (first ∷ [])));
}
