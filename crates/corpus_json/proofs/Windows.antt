-- The part of a buffer that is ready, as its ends move.
use Rattle.std.proofs.Common.{◌≡◌, ◌≢◌, ℕ, ◌+◌, ◌-◌, ◌≤◌, List, [], ◌∷◌, ◌++◌, length, take, drop, refl, sym, ap, subst, ◌∙◌, arith, Option, Some, None, option_map, take-append-drop, slice_range}
use Rattle.std.proofs.lemmas.List.{drop-drop, drop-take, length-drop, length-take-le, length-take}
use Rattle.std.specs.Io.KnownBytes.{Consumes}
use Rattle.corpus_json.specs.declared.step.Step.{Step}
use Rattle.corpus_json.specs.declared.step.Step.TheVariants.{Long}
use Rattle.corpus_json.specs.Limits.{corpus_limit}
use Rattle.corpus_json.specs.Moves.{MovesWhole, IsTooMany}
use Rattle.corpus_json.specs.Pieces.{TakesLine, TakesTooMany, Fills}
use Rattle.corpus_json.specs.Reading.{Passed, Reading, settled}

-- nothing is ready between equal ends
pub slice_range-none : (bytes : List ℕ) (to : ℕ) → slice_range bytes to to ≡ []
slice_range-none bytes to = grind (arith)

-- what is left of the ready bytes past place n
pub slice_range-past : (bytes : List ℕ) (from to n : ℕ) → from + n ≤ to → drop n (slice_range bytes from to) ≡ slice_range bytes (from + n) to
slice_range-past bytes from to n within =
    let size : to - from ≡ n + (to - (from + n)) = omega arith in
    ap (λ k. drop n (take k (drop from bytes))) size
    ∙ drop-take n (to - (from + n)) (drop from bytes)
    ∙ ap (take (to - (from + n))) (drop-drop n from bytes)

-- where none is passed, what is left stays
drop-none : (left : Option (List ℕ)) (k : ℕ) → k ≡ 0 → left ≡ option_map (drop k) left
drop-none None k zero = refl
drop-none (Some bytes) k zero = ap (λ (i : ℕ). Some (drop i bytes)) (sym zero)

-- the first bytes that are ready are passed
pub passed-ready : (left : Option (List ℕ)) (bytes : List ℕ) (from to taken n : ℕ) (last : Option Step) (before : Reading)
    → record { ready = slice_range bytes from to; taken = taken; last = last } ≡ before
    → to ≤ length bytes
    → from + n ≤ to
    → Passed left left before record { ready = slice_range bytes (from + n) to; taken = taken; last = last } n
passed-ready left bytes from to taken n last before is within fits =
    let size = length-take-le (to - from) (drop from bytes) (omega (arith, within, fits, length-drop from bytes)) in
    let none : n - length (slice_range bytes from to) ≡ 0 = omega (arith, size, fits) in
    subst (λ (r : Reading). Passed left left r record { ready = slice_range bytes (from + n) to; taken = taken; last = last } n) is
    (record {
      left = drop-none left (n - length (slice_range bytes from to)) none;
      reading =
          ap (λ (r : List ℕ). let now : Reading = record { ready = r; taken = taken; last = last } in now) (sym (slice_range-past bytes from to n fits))
          ∙ ap (λ (k : ℕ). let now : Reading = record { ready = drop n (slice_range bytes from to); taken = k; last = last } in now) (omega (arith, none));
    })

-- a piece that an LF ends is taken out of what is ready
pub takes-whole : (bytes : List ℕ) (from to taken n : ℕ) (last : Option Step) (before : Reading) (line_before line_now : List ℕ)
    → record { ready = slice_range bytes from to; taken = taken; last = last } ≡ before
    → from ≤ to
    → MovesWhole (slice_range bytes from to) line_before line_now n
    → TakesLine before record { ready = slice_range bytes (from + (n + 1)) to; taken = taken; last = last } line_before line_now
takes-whole bytes from to taken n last before line_before line_now is in_order moved =
    let within : from + (n + 1) ≤ to = omega (arith, moved.lf.within, length-take (to - from) (drop from bytes)) in
    let past = slice_range-past bytes from to (n + 1) within in
    record {
      piece = take n (slice_range bytes from to);
      line = moved.line;
      split = ap (λ (r : Reading). r.ready) (sym is) ∙ moved.lf.split ∙ ap (λ rest. take n (slice_range bytes from to) ++ 10 ∷ rest) past;
      no_lf = moved.lf.no_lf;
      short = moved.short;
      same = ap (λ (r : Reading). let now : Reading = record r { ready = slice_range bytes (from + (n + 1)) to } in now) is;
    }

-- too many bytes before an LF end the reading
pub takes-too_many : (bytes : List ℕ) (from to taken : ℕ) (last : Option Step) (before : Reading) (line_before : List ℕ)
    → record { ready = slice_range bytes from to; taken = taken; last = last } ≡ before
    → IsTooMany (slice_range bytes from to) line_before
    → TakesTooMany before record { ready = slice_range bytes to to; taken = taken; last = Some Long } line_before
takes-too_many bytes from to taken last before line_before is many =
    let ready = slice_range bytes from to in
    record {
      piece = take many.n ready;
      others = drop many.n ready;
      split = ap (λ (r : Reading). r.ready) (sym is) ∙ sym (take-append-drop many.n ready);
      no_lf = many.no_lf;
      long = rw length-take (omega (arith, many.long, many.within));
      settled = ap (λ (r : List ℕ). let now : Reading = record { ready = r; taken = taken; last = Some Long } in now) (slice_range-none bytes to) ∙ ap (λ (r : Reading). settled r.taken Long) is;
    }

-- the front of the buffer is ready after a read that brought some bytes; `all` is the buffer with what the read left in it
pub fills-some : (left_before left_now : Option (List ℕ)) (faults_before faults_now : ℕ) (buf : List ℕ) (n taken : ℕ) (last : Option Step) (before : Reading)
    → taken ≡ before.taken
    → last ≡ None
    → n ≢ 0
    → n ≤ length buf
    → taken + n ≤ corpus_limit
    → Consumes left_before left_now (take n buf)
    → faults_now ≡ faults_before
    → Fills left_before left_now faults_before faults_now before record { ready = slice_range buf 0 n; taken = taken + n; last = last } None
fills-some left_before left_now faults_before faults_now buf n taken last before was going some within below consumed stands =
    let front : slice_range buf 0 n ≡ take n buf = grind (arith) in
    let size : length (take n buf) ≡ n = length-take-le n buf within in
    let sum : taken + n ≡ before.taken + length (take n buf) = omega arith in
    record {
      more = take n buf;
      consumed = consumed;
      later = omega (arith, stands);
      stands = λ _. stands;
      brings = (λ none. some (sym size ∙ ap length none), omega arith, cc);
    }
