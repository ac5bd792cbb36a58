use Rattle.std.proofs.Common.{◌≡◌, ◌∙◌, ◌+◌, ◌++◌, [], ◌∷◌, List, ℕ, length, false, ap, sym, subst, take, arith}
use Rattle.corpus_json.specs.Documents.{is_bad_line}
use Rattle.corpus_json.specs.Lines.{FirstLfAt}
use Rattle.line_sight.specs.Seen.{Sees, Shown, Sighted, StandsAt}
use Rattle.line_sight.specs.SeenLaws.{stands-append}
use Rattle.line_parts.specs.Answered.{answer_to}
use Rattle.line_parts.specs.PartLaws.{answered_on, stands_line}
use Rattle.window_lines.proofs.pieces.Ready.answer_next.Goals as goal

pub returns-then-branch-clause-part : goal.returns-then-branch-clause-part
returns-then-branch-clause-part g c =
    let piece = g.W.Turn.piece in
    let shown = g.W.Turn.shown in
    let sight = c.find_next.new.sight in
    let n = c.in-Some.n in
    let to = c.args.part.now.to in
    let is = c.requires.part in
    let line = take n sight.bytes in
    let lf : FirstLfAt sight.bytes n = rw c.in-Some.is at c.in_ok-n.ensures.found in
    let sees = subst (λ (s : Shown). Sees s sight) (sym c.args.self.now.shown) c.in_ok-n.ensures.sees in
    let at : sight.at ≡ to = c.in_ok-n.ensures.at ∙ c.requires.at in
    let good : is_bad_line line ≡ false = subst (λ (l : List ℕ). is_bad_line l ≡ false) c.front.ensures (c.in_ok-answer_one.ensures.good c.if-branch.true) in
    let put : c.answer_one.new.text.items ≡ c.args.part.now.text.items ++ answer_to piece (line ∷ []) =
    subst (λ (l : List ℕ). c.answer_one.new.text.items ≡ c.args.part.now.text.items ++ answer_to piece (l ∷ [])) c.front.ensures (c.in_ok-answer_one.ensures.put c.if-branch.true) in
    let seen = subst (λ (k : ℕ). StandsAt shown k (k + length sight.bytes) sight.bytes) at sees.stands in
    let stands = stands_line shown to n sight.bytes seen lf in
    let past : c.pass_line.new.self.at ≡ sight.at + (n + 1) = ap (λ (v : Sighted). v.at) c.pass_line.ensures.place in
    let end : to + n + 1 ≡ c.at-part.result = omega (arith, at, past, c.at-part.ensures) in
    record {
      within = let most = sees.within in let inside = lf.within in omega (arith, most, inside, at, end);
      few = let few = is.few in omega (arith, few, end);
      bytes = is.bytes ++ (line ++ 10 ∷ []);
      there =
          subst (λ (k : ℕ). StandsAt shown c.args.part.now.from k (is.bytes ++ (line ++ 10 ∷ []))) end
          (stands-append shown c.args.part.now.from to (to + n + 1) is.bytes (line ++ 10 ∷ []) is.there stands);
      answered = answered_on piece is.bytes line c.args.part.now.text.items c.answer_one.new.text.items c.args.part.now.count lf.no_lf good put is.answered;
    }

pub returns-then-branch-clause-more : goal.returns-then-branch-clause-more
returns-then-branch-clause-more g c =
    let sight = c.find_next.new.sight in
    let at : sight.at ≡ c.args.part.now.to = c.in_ok-n.ensures.at ∙ c.requires.at in
    let past : c.pass_line.new.self.at ≡ sight.at + (c.in-Some.n + 1) = ap (λ (v : Sighted). v.at) c.pass_line.ensures.place in
    λ good. (omega (arith, at, past, c.at-part.ensures), c.pass_line.ensures.sees c.args.self.now.seen c.in_ok-n.ensures.sees, sym c.at-part.ensures)
