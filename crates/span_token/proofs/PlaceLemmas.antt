-- Where characters stand among the bytes of a text.
use Rattle.std.proofs.Common.{◌≡◌, ap₂, subst, ◌≤◌, ◌&&◌, Bool, true, false, zero, suc, ◌+◌, ◌-◌, ◌∙◌, ℕ, List, [], ◌∷◌, ◌++◌, length, take, drop, refl, sym, ap, arith, IsUtf8, IsCharBoundary, chars, encode_utf8_all, slice_range}
use Rattle.std.proofs.Math.Seq.{take-add}
use Rattle.std.proofs.lemmas.List.{take-append-drop, length-take-le, length-append, length-take, length-drop, take-append-le, append_cancel_left, take_all, take_at, drop_at, drop-take, drop-drop, drop-append-le}
use Rattle.std.proofs.lemmas.Str.{IsUtf8-append, IsCharBoundary-from_drop, IsUtf8-drop, IsUtf8-take, encodes-chars, encodes-append, chars-append, scalars-chars, IsUtf8-take}
use Rattle.span_token.specs.Leads.{leads, IsPlace}
use Rattle.span_token.proofs.LeadsLemmas.{leads-append, leads-chars, leads-encodes, leads-take-le}
use lib.Utf8.{scalar, scalars}

-- the characters before a place
pub chars_to_place : (bs : List ℕ) (n i : ℕ) → IsUtf8 bs → IsPlace bs n i → chars (take i bs) ≡ take n (chars bs)
chars_to_place bs n i u p =
    let before : IsUtf8 (take i bs) = IsUtf8-take bs i u p.boundary in
    let split : chars bs ≡ chars (take i bs) ++ chars (drop i bs) =
    ap chars (sym (take-append-drop i bs)) ∙ chars-append (take i bs) (drop i bs) before in
    let long : length (chars (take i bs)) ≡ n = sym (leads-chars (take i bs) before) ∙ p.passed in
    sym (ap (take n) split ∙ take_at (chars (take i bs)) (chars (drop i bs)) n long)

-- the bytes before a place
pub take_to_place : (bs : List ℕ) (n i : ℕ) → IsUtf8 bs → IsPlace bs n i → take i bs ≡ encode_utf8_all (take n (chars bs))
take_to_place bs n i u p =
    sym (encodes-chars (take i bs) (IsUtf8-take bs i u p.boundary)) ∙ ap encode_utf8_all (chars_to_place bs n i u p)

add_gap : (b e : ℕ) → b ≤ e → b + (e - b) ≡ e
add_gap b e h = omega arith

-- what stands between two places
pub record IsBetween (bs : List ℕ) (b e i j : ℕ) : Type 0 where
  pub ordered : i ≤ j
  pub bytes : slice_range bs i j ≡ encode_utf8_all (slice_range (chars bs) b e)

pub between_places : (bs : List ℕ) (b e i j : ℕ) → IsUtf8 bs → IsPlace bs b i → IsPlace bs e j → b ≤ e → IsBetween bs b e i j
between_places bs b e i j u p q h =
    let inner : List ℕ = encode_utf8_all (slice_range (chars bs) b e) in
    let chars_split : take e (chars bs) ≡ take b (chars bs) ++ slice_range (chars bs) b e =
    ap (λ n. take n (chars bs)) (sym (add_gap b e h)) ∙ take-add b (e - b) (chars bs) in
    let joined : take j bs ≡ take i bs ++ inner =
    take_to_place bs e j u q ∙ ap encode_utf8_all chars_split ∙ encodes-append (take b (chars bs)) (slice_range (chars bs) b e)
    ∙ ap (λ x. x ++ inner) (sym (take_to_place bs b i u p)) in
    let long_i : length (take i bs) ≡ i = length-take-le i bs p.boundary.0 in
    let long_j : length (take j bs) ≡ j = length-take-le j bs q.boundary.0 in
    let le : i ≤ j = omega (arith, ap length joined, length-append (take i bs) inner) in
    record {
      ordered = le;
      bytes = sym (drop-take i (j - i) bs) ∙ ap (λ n. drop i (take n bs)) (add_gap i j le) ∙ ap (drop i) joined ∙ drop_at (take i bs) inner i long_i;
    }

both : (x y : Bool) → x && y ≡ true → (x ≡ true) × (y ≡ true)
both true y e = (refl, e)
both false y e = absurd cc

joined_tests : (x y : Bool) → x ≡ true → y ≡ true → x && y ≡ true
joined_tests x y e f = rw (e, f) refl

pub scalars-take : (n : ℕ) (cs : List ℕ) → scalars cs ≡ true → scalars (take n cs) ≡ true
scalars-take zero cs e = refl
scalars-take (suc n) [] e = refl
scalars-take (suc n) (c ∷ cs) e =
    let parts : (scalar c ≡ true) × (scalars cs ≡ true) = both (scalar c) (scalars cs) e in
    joined_tests (scalar c) (scalars (take n cs)) parts.0 (scalars-take n cs parts.1)

pub scalars-drop : (n : ℕ) (cs : List ℕ) → scalars cs ≡ true → scalars (drop n cs) ≡ true
scalars-drop zero cs e = e
scalars-drop (suc n) [] e = refl
scalars-drop (suc n) (c ∷ cs) e = scalars-drop n cs (both (scalar c) (scalars cs) e).1

-- the text of a range of characters is text
pub IsUtf8-range : (bs : List ℕ) (b e : ℕ) → IsUtf8 bs → IsUtf8 (encode_utf8_all (slice_range (chars bs) b e))
IsUtf8-range bs b e u =
    (slice_range (chars bs) b e, (scalars-take (e - b) (drop b (chars bs)) (scalars-drop b (chars bs) (scalars-chars bs u)), refl))

IsUtf8-after : (bs : List ℕ) (b e : ℕ) → IsUtf8 bs → IsUtf8 (encode_utf8_all (drop (e - b) (drop b (chars bs))))
IsUtf8-after bs b e u =
    (drop (e - b) (drop b (chars bs)), (scalars-drop (e - b) (drop b (chars bs)) (scalars-drop b (chars bs) (scalars-chars bs u)), refl))

-- what follows a place
pub drop_to_place : (bs : List ℕ) (n i : ℕ) → IsUtf8 bs → IsPlace bs n i → drop i bs ≡ encode_utf8_all (drop n (chars bs))
drop_to_place bs n i u p =
    let whole : take i bs ++ drop i bs ≡ encode_utf8_all (take n (chars bs)) ++ encode_utf8_all (drop n (chars bs)) =
    take-append-drop i bs ∙ sym (encodes-chars bs u) ∙ ap encode_utf8_all (sym (take-append-drop n (chars bs)))
    ∙ encodes-append (take n (chars bs)) (drop n (chars bs)) in
    append_cancel_left (take i bs) (drop i bs) (encode_utf8_all (drop n (chars bs)))
    (whole ∙ ap (λ x. x ++ encode_utf8_all (drop n (chars bs))) (sym (take_to_place bs n i u p)))

-- byte `x` of the text of the characters `b` to `e`, which begins at byte `i`
pub record IsMoved (bs : List ℕ) (b e i x : ℕ) : Type 0 where
  pub within : i + x ≤ length bs
  pub moved : leads (take (i + x) bs) ≡ b + length (chars (take x (encode_utf8_all (slice_range (chars bs) b e))))
  pub before_end : leads (take (i + x) bs) ≤ e
  pub boundary : IsCharBoundary bs (i + x)

moved_within : (bs t rest : List ℕ) (b e i x : ℕ) → IsUtf8 t → IsCharBoundary t x → drop i bs ≡ t ++ rest → i ≤ length bs → leads (take i bs) ≡ b → b + leads t ≤ e
    → (i + x ≤ length bs) × (leads (take (i + x) bs) ≡ b + length (chars (take x t))) × (leads (take (i + x) bs) ≤ e)
moved_within bs t rest b e i x u at split in' passed room =
    let front : take x (drop i bs) ≡ take x t = ap (take x) split ∙ take-append-le x t rest at.0 in
    let cut : take (i + x) bs ≡ take i bs ++ take x t = take-add i x bs ∙ ap (λ y. take i bs ++ y) front in
    let count : leads (take (i + x) bs) ≡ leads (take i bs) + leads (take x t) = ap leads cut ∙ leads-append (take i bs) (take x t) in
    let part : leads (take x t) ≤ leads t = omega (arith, leads-append (take x t) (drop x t), ap leads (take-append-drop x t)) in
    (omega (arith, ap length split, length-append t rest, length-drop i bs, at.0), omega (arith, count, passed, leads-chars (take x t) (IsUtf8-take t x u at)), omega (arith, count, passed, part, room))

split_at_place : (bs : List ℕ) (b e i : ℕ) → IsUtf8 bs → IsPlace bs b i
    → drop i bs ≡ encode_utf8_all (slice_range (chars bs) b e) ++ encode_utf8_all (drop (e - b) (drop b (chars bs)))
split_at_place bs b e i u p =
    drop_to_place bs b i u p ∙ ap encode_utf8_all (sym (take-append-drop (e - b) (drop b (chars bs))))
    ∙ encodes-append (slice_range (chars bs) b e) (drop (e - b) (drop b (chars bs)))

-- what follows byte `x` of a text that stands at byte `i`
rest_within : (bs t rest : List ℕ) (i x : ℕ) → IsCharBoundary t x → drop i bs ≡ t ++ rest → drop (i + x) bs ≡ drop x t ++ rest
rest_within bs t rest i x at split = sym (drop-drop x i bs) ∙ ap (drop x) split ∙ drop-append-le x t rest at.0

boundary_within : (bs t rest : List ℕ) (i x : ℕ) → IsUtf8 t → IsUtf8 rest → IsCharBoundary t x → drop i bs ≡ t ++ rest → i + x ≤ length bs
    → IsCharBoundary bs (i + x)
boundary_within bs t rest i x u v at split in' =
    let text : IsUtf8 (drop x t ++ rest) = IsUtf8-append (drop x t) rest (IsUtf8-drop t x u at) v in
    IsCharBoundary-from_drop bs (i + x) in' (subst IsUtf8 (sym (rest_within bs t rest i x at split)) text)

pub moved_place : (bs : List ℕ) (b e i x : ℕ) → IsUtf8 bs → IsPlace bs b i → b ≤ e → e ≤ length (chars bs)
    → IsCharBoundary (encode_utf8_all (slice_range (chars bs) b e)) x → IsMoved bs b e i x
moved_place bs b e i x u p le in' at =
    let inner : List ℕ = slice_range (chars bs) b e in
    let rest : List ℕ = drop (e - b) (drop b (chars bs)) in
    let split = split_at_place bs b e i u p in
    let room : b + leads (encode_utf8_all inner) ≤ e = omega (arith, leads-encodes inner, length-take (e - b) (drop b (chars bs))) in
    let found = moved_within bs (encode_utf8_all inner) (encode_utf8_all rest) b e i x (IsUtf8-range bs b e u) at split p.boundary.0 p.passed room in
    record {
      within = found.0;
      moved = found.1;
      before_end = found.2;
      boundary = boundary_within bs (encode_utf8_all inner) (encode_utf8_all rest) i x (IsUtf8-range bs b e u) (IsUtf8-after bs b e u) at split found.0;
    }

bytes_within : (bs t rest : List ℕ) (i x y : ℕ) → IsCharBoundary t x → IsCharBoundary t y → drop i bs ≡ t ++ rest
    → slice_range bs (i + x) (i + y) ≡ slice_range t x y
bytes_within bs t rest i x y at to split =
    let gap : (i + y) - (i + x) ≡ y - x = omega arith in
    let room : y - x ≤ length (drop x t) = omega (arith, length-drop x t, to.0) in
    ap₂ (λ n r. take n r) gap (rest_within bs t rest i x at split) ∙ take-append-le (y - x) (drop x t) rest room

-- the text of what was moved is the bytes that were moved
pub moved_text : (bs : List ℕ) (b e i x y : ℕ) → IsUtf8 bs → IsPlace bs b i → b ≤ e → e ≤ length (chars bs)
    → IsCharBoundary (encode_utf8_all (slice_range (chars bs) b e)) x → IsCharBoundary (encode_utf8_all (slice_range (chars bs) b e)) y → x ≤ y
    → encode_utf8_all (slice_range (chars bs) (leads (take (i + x) bs)) (leads (take (i + y) bs))) ≡ slice_range (encode_utf8_all (slice_range (chars bs) b e)) x y
moved_text bs b e i x y u p le in' at to ordered =
    let from = moved_place bs b e i x u p le in' at in
    let end = moved_place bs b e i y u p le in' to in
    let begins : IsPlace bs (leads (take (i + x) bs)) (i + x) = record { passed = refl; boundary = from.boundary } in
    let ends : IsPlace bs (leads (take (i + y) bs)) (i + y) = record { passed = refl; boundary = end.boundary } in
    let rises : leads (take (i + x) bs) ≤ leads (take (i + y) bs) = leads-take-le (i + x) (i + y) bs (omega arith) in
    sym (between_places bs (leads (take (i + x) bs)) (leads (take (i + y) bs)) (i + x) (i + y) u begins ends rises).bytes
    ∙ bytes_within bs (encode_utf8_all (slice_range (chars bs) b e)) (encode_utf8_all (drop (e - b) (drop b (chars bs)))) i x y at to (split_at_place bs b e i u p)

-- the text of all characters
pub whole_text : (bs : List ℕ) → IsUtf8 bs → encode_utf8_all (slice_range (chars bs) 0 (length (chars bs))) ≡ bs
whole_text bs u = ap encode_utf8_all (take_all (length (chars bs) - 0) (chars bs) (omega arith)) ∙ encodes-chars bs u
