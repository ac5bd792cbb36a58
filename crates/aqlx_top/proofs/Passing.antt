-- What a run stands at behind lines that were looked at where they stand, ready or left of the corpus.
use Rattle.std.proofs.Common.{◌≡◌, ℕ, zero, suc, ◌+◌, ◌-◌, ◌<◌, ◌≤◌, Bool, true, false, List, [], ◌∷◌, ◌++◌, length, take, drop, refl, sym, ap, ap₂, subst, ◌∙◌, arith, append_assoc, append-nil, take-append-drop, length-append, Option, Some, None, option_map, inl, inr}
use Rattle.std.specs.Prelude.{◌⊎◌}
use Rattle.std.specs.Io.KnownBytes.{Consumes}
use Rattle.std.proofs.lemmas.Grind.{flat_map-append}
use Rattle.std.proofs.lemmas.List.{length-drop, length-take}
use Rattle.std.proofs.lemmas.List.Elements.{All-append}
use Rattle.span_token.specs.Documents.{Doc}
use Rattle.corpus_json.specs.Documents.{is_bad_line}
use Rattle.corpus_json.specs.Limits.{corpus_limit}
use Rattle.corpus_json.specs.Lines.{joined, HasNoLf}
use Rattle.corpus_json.specs.Reading.{Passed, Reading}
use Rattle.corpus_json.specs.declared.step.Step.{Step}
use Rattle.line_sight.specs.Seen.{shown_by, StandsAt}
use Rattle.line_parts.specs.Answered.{AreAnswered, answer_to}
use Rattle.line_parts.specs.DocumentLaws.{pieces-append}
use Rattle.aqlx_top.specs.Devices.{source_ends}
use Rattle.aqlx_top.specs.Progress.{Stands}
use Rattle.aqlx_top.proofs.Turns.{joined_long}

-- no bytes are no lines
no_lines : (bytes : List ℕ) (lines : List (List ℕ)) → length bytes ≡ 0 → bytes ≡ joined lines → lines ≡ []
no_lines bytes [] none whole = refl
no_lines bytes (line ∷ lines) none whole =
    let long = joined_long (line ∷ lines) in
    let same : length (joined (line ∷ lines)) ≡ 0 = ap length (sym whole) ∙ none in
    absurd (omega (arith, long, same))

-- what is left of two lists behind so many elements
drop-both : (xs ys : List ℕ) (n : ℕ) → drop n (xs ++ ys) ≡ drop n xs ++ drop (n - length xs) ys
drop-both [] ys zero = refl
drop-both [] ys (suc n) = ap (λ (k : ℕ). drop k ys) (let e : suc n ≡ suc n - 0 = omega arith in e)
drop-both (x ∷ xs) ys zero = ap (λ (k : ℕ). (x ∷ xs) ++ drop k ys) (let e : 0 ≡ 0 - suc (length xs) = omega arith in e)
drop-both (x ∷ xs) ys (suc n) = drop-both xs ys n ∙ ap (λ (k : ℕ). drop n xs ++ drop k ys) (omega arith)

-- the bytes that were looked at, and those that are left behind them
seen-split : (looks : Bool) (ready left bytes : List ℕ) (n ahead : ℕ) → StandsAt (shown_by looks ready (Some left) ahead) 0 n bytes → ready ++ left ≡ bytes ++ (drop n ready ++ drop (n - length ready) left)
seen-split true ready left bytes n ahead there =
    let from = there.long in
    let long : length bytes ≡ n = omega (arith, from) in
    sym (take-append-drop n (ready ++ left))
    ∙ ap₂ (λ (a b : List ℕ). a ++ b) (ap (λ (k : ℕ). take k (ready ++ left)) (sym long) ∙ there.there) (drop-both ready left n)
seen-split false ready left bytes n ahead there =
    let from = there.long in
    let long : length bytes ≡ n = omega (arith, from) in
    let size : length (take n ready) ≡ n = ap (λ (k : ℕ). length (take k ready)) (sym long) ∙ ap length there.there ∙ long in
    let few : n - length ready ≡ 0 = omega (arith, size, length-take n ready) in
    ap (λ (b : List ℕ). b ++ left) (sym (take-append-drop n ready) ∙ ap (λ (b : List ℕ). b ++ drop n ready) (ap (λ (k : ℕ). take k ready) (sym long) ∙ there.there))
    ∙ append_assoc bytes (drop n ready) left
    ∙ ap (λ (k : ℕ). bytes ++ (drop n ready ++ drop k left)) (sym few)

-- what was taken of the corpus
consumed-on : (first left : Option (List ℕ)) (looks : Bool) (ready given bytes front : List ℕ) (n ahead : ℕ) → Consumes first left given → given ≡ front ++ ready
    → StandsAt (shown_by looks ready left ahead) 0 n bytes → Consumes first (option_map (drop (n - length ready)) left) ((front ++ bytes) ++ drop n ready)
consumed-on None left looks ready given bytes front n ahead taken whole there = tt
consumed-on (Some all) None looks ready given bytes front n ahead taken whole there = absurd taken
consumed-on (Some all) (Some left) looks ready given bytes front n ahead taken whole there =
    taken
    ∙ ap (λ (b : List ℕ). b ++ left) whole
    ∙ append_assoc front ready left
    ∙ ap (λ (b : List ℕ). front ++ b) (seen-split looks ready left bytes n ahead there)
    ∙ sym (append_assoc front bytes (drop n ready ++ drop (n - length ready) left))
    ∙ sym (append_assoc (front ++ bytes) (drop n ready) (drop (n - length ready) left))

module _ (piece : Doc → List ℕ) (first left : Option (List ℕ)) (faults_before faults_now : ℕ) (before now : Option (List ℕ)) (looks : Bool) (ready : List ℕ) (taken : ℕ)
    (pending : List ℕ) (number n count ahead : ℕ) (bytes text : List ℕ) where
  -- how a run stands behind them
  stands-on : (last : Option Step) → Stands piece (source_ends first left faults_before faults_now) before now (record { ready = ready; taken = taken; last = last }) pending number
      → (last ≡ None) ⊎ (ready ≡ []) → (0 < ahead → last ≡ None) → n ≤ length ready + ahead → ahead ≤ corpus_limit - taken
      → StandsAt (shown_by looks ready left ahead) 0 n bytes → AreAnswered piece bytes count text
      → Stands piece (source_ends first (option_map (drop (n - length ready)) left) faults_before faults_now) before now (record { ready = drop n ready; taken = taken + (n - length ready); last = last }) (pending ++ text) (number + count)
  stands-on None s kind going within allowed there a =
      let from = there.long in
      let long : length bytes ≡ n = omega (arith, from) in
      let whole : joined (s.lines ++ a.lines) ≡ joined s.lines ++ bytes =
      flat_map-append (λ (line : List ℕ). line ++ 10 ∷ []) s.lines a.lines ∙ ap (λ (b : List ℕ). joined s.lines ++ b) (sym a.whole) in
      let so_far : taken ≡ length (joined s.lines) + length ready = s.counted ∙ ap length s.read.0 ∙ length-append (joined s.lines) ready in
      let size : length (joined (s.lines ++ a.lines) ++ drop n ready) ≡ (length (joined s.lines) + n) + (length ready - n) =
      length-append (joined (s.lines ++ a.lines)) (drop n ready)
      ∙ ap₂ (λ (i j : ℕ). i + j) (ap length whole ∙ length-append (joined s.lines) bytes ∙ ap (λ (k : ℕ). length (joined s.lines) + k) long) (length-drop n ready) in
      record {
        given = joined (s.lines ++ a.lines) ++ drop n ready;
        lines = s.lines ++ a.lines;
        sent = s.sent;
        taken =
            subst (λ (b : List ℕ). Consumes first (option_map (drop (n - length ready)) left) (b ++ drop n ready)) (sym whole)
            (consumed-on first left looks ready s.given bytes (joined s.lines) n ahead s.taken s.read.0 there);
        unfailed = s.unfailed;
        counted = omega (arith, so_far, size);
        within = let few = s.within in omega (arith, few, within, allowed);
        read = (refl, All-append HasNoLf s.lines a.lines s.read.1 a.no_lf);
        good = All-append (λ (each : List ℕ). is_bad_line each ≡ false) s.lines a.lines s.good a.good;
        gained = s.gained;
        wrote =
            sym (append_assoc s.sent pending text)
            ∙ ap₂ (λ (bs cs : List ℕ). bs ++ cs) s.wrote a.written
            ∙ sym (pieces-append piece s.lines a.lines s.good);
        numbered = ap₂ (λ (i j : ℕ). i + j) s.numbered a.counted ∙ sym (length-append s.lines a.lines);
      }
  stands-on (Some last) s (inl none) going within allowed there a = absurd (let e : Some last ≡ None = none in cc)
  stands-on (Some last) s (inr none) going within allowed there a =
      let from = there.long in
      let long : length bytes ≡ n = omega (arith, from) in
      let stays : ahead ≡ 0 = at-none ahead going in
      let none-ready : length ready ≡ 0 = ap length none in
      let nothing : n ≡ 0 = omega (arith, within, stays, none-ready) in
      let few : n - length ready ≡ 0 = omega (arith, nothing) in
      let empty : a.lines ≡ [] = no_lines bytes a.lines (long ∙ nothing) a.whole in
      let same-left : option_map (drop (n - length ready)) left ≡ left = left-stays left (n - length ready) few in
      let same-ready : drop n ready ≡ ready = ap (λ (k : ℕ). drop k ready) nothing in
      let same-text : text ≡ [] = a.written ∙ ap (λ (ls : List (List ℕ)). answer_to piece ls) empty in
      let same-count : count ≡ 0 = a.counted ∙ ap length empty in
      let same-taken : taken + (n - length ready) ≡ taken = omega (arith, few) in
      same-all (option_map (drop (n - length ready)) left) (drop n ready) (taken + (n - length ready)) text count same-left same-ready same-taken same-text same-count s
    where
      at-none : (k : ℕ) → (0 < k → Some last ≡ None) → k ≡ 0
      at-none zero none = refl
      at-none (suc k) none = absurd (let e : Some last ≡ None = none (omega arith) in cc)

      same-all : (l : Option (List ℕ)) (r : List ℕ) (t : ℕ) (more : List ℕ) (k : ℕ) → l ≡ left → r ≡ ready → t ≡ taken → more ≡ [] → k ≡ 0
          → Stands piece (source_ends first left faults_before faults_now) before now (record { ready = ready; taken = taken; last = Some last }) pending number
          → Stands piece (source_ends first l faults_before faults_now) before now (record { ready = r; taken = t; last = Some last }) (pending ++ more) (number + k)
      same-all l r t more k of-left of-ready of-taken none nothing so-far =
          let text-is : pending ≡ pending ++ more = sym (ap (λ (b : List ℕ). pending ++ b) none ∙ append-nil pending) in
          let number-is : number ≡ number + k = omega (arith, nothing) in
          subst (λ (o : Option (List ℕ)). Stands piece (source_ends first o faults_before faults_now) before now (record { ready = r; taken = t; last = Some last }) (pending ++ more) (number + k)) (sym of-left)
          (subst (λ (b : List ℕ). Stands piece (source_ends first left faults_before faults_now) before now (record { ready = b; taken = t; last = Some last }) (pending ++ more) (number + k)) (sym of-ready)
          (subst (λ (i : ℕ). Stands piece (source_ends first left faults_before faults_now) before now (record { ready = ready; taken = i; last = Some last }) (pending ++ more) (number + k)) (sym of-taken)
          (subst (λ (b : List ℕ). Stands piece (source_ends first left faults_before faults_now) before now (record { ready = ready; taken = taken; last = Some last }) b (number + k)) text-is
          (subst (λ (i : ℕ). Stands piece (source_ends first left faults_before faults_now) before now (record { ready = ready; taken = taken; last = Some last }) pending i) number-is so-far))))

      left-stays : (l : Option (List ℕ)) (k : ℕ) → k ≡ 0 → option_map (drop k) l ≡ l
      left-stays None k is = refl
      left-stays (Some b) k is = ap (λ (i : ℕ). Some (drop i b)) is

-- how a run stands behind lines that were passed
pub stands-passed : (piece : Doc → List ℕ) (first left after : Option (List ℕ)) (faults_before faults_now : ℕ) (before now : Option (List ℕ)) (looks : Bool) (reading next : Reading)
    (pending : List ℕ) (number n count ahead : ℕ) (bytes text : List ℕ)
    → Stands piece (source_ends first left faults_before faults_now) before now reading pending number
    → (reading.last ≡ None) ⊎ (reading.ready ≡ []) → (0 < ahead → reading.last ≡ None) → n ≤ length reading.ready + ahead → ahead ≤ corpus_limit - reading.taken
    → StandsAt (shown_by looks reading.ready left ahead) 0 n bytes → AreAnswered piece bytes count text → Passed left after reading next n
    → Stands piece (source_ends first after faults_before faults_now) before now next (pending ++ text) (number + count)
stands-passed piece first left after faults_before faults_now before now looks reading next pending number n count ahead bytes text s kind going within allowed there a passed =
    subst (λ (o : Option (List ℕ)). Stands piece (source_ends first o faults_before faults_now) before now next (pending ++ text) (number + count)) (sym passed.left)
    (subst (λ (r : Reading). Stands piece (source_ends first (option_map (drop (n - length reading.ready)) left) faults_before faults_now) before now r (pending ++ text) (number + count)) (sym passed.reading)
    (stands-on piece first left faults_before faults_now before now looks reading.ready reading.taken pending number n count ahead bytes text reading.last s kind going within allowed there a))
