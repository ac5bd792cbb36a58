-- Texts between quotes: the first quote that is in no pair, and what the pieces before it stand for.
use Rattle.std.proofs.Common.{◌≡◌, ◌≢◌, ℕ, zero, suc, ◌+◌, Bool, true, false, cond, ◌==◌, List, [], ◌∷◌, ◌++◌, length, take, drop, Some, All, refl, sym, ap, arith, add-zero}
use Rattle.std.specs.List.{flat_map}
use Rattle.std.proofs.lemmas.Bool.{eqb-true, eqb-false, ne_eqb, eq-eqb}
use Rattle.std.proofs.lemmas.List.{append_assoc, length-append, take_at, drop_at}
use Rattle.std.proofs.lemmas.Option.{none-some}
use Rattle.aql_lexer.specs.Tokens.{Piece, single, pair, written, meant, IsPiece}
use Rattle.aql_lexer.specs.Scanning.{closing_from, unescaped_from, between}

-- ---- the closing quote

-- the first quote that is in no pair, in a text that begins at `at`, has this place
pub record ClosesAt (quote at : ℕ) (z : List ℕ) (place : ℕ) : Type 0 where
  pub pieces : List Piece
  pub back : List ℕ
  pub in_turn : All (IsPiece quote) pieces
  pub split : z ≡ flat_map written pieces ++ quote ∷ back
  pub at_place : place ≡ at + length (flat_map written pieces)

none_in_turn : (quote : ℕ) → All (IsPiece quote) []
none_in_turn quote k d l = absurd (omega arith)

one_more : (quote : ℕ) (p : Piece) (ps : List Piece) → IsPiece quote p → All (IsPiece quote) ps → All (IsPiece quote) (p ∷ ps)
one_more quote p ps h hs zero d l = h
one_more quote p ps h hs (suc k) d l = hs k d (omega arith)

pub first_in_turn : (quote : ℕ) (p : Piece) (ps : List Piece) → All (IsPiece quote) (p ∷ ps) → IsPiece quote p
first_in_turn quote p ps h = h 0 p (omega arith)

pub rest_in_turn : (quote : ℕ) (p : Piece) (ps : List Piece) → All (IsPiece quote) (p ∷ ps) → All (IsPiece quote) ps
rest_in_turn quote p ps h k d l = h (suc k) d (omega arith)

-- a piece more in front
onto : (quote at n place : ℕ) (p : Piece) (z : List ℕ) → IsPiece quote p → length (written p) ≡ n → ClosesAt quote (at + n) z place → ClosesAt quote at (written p ++ z) place
onto quote at n place p z h len r = record {
  pieces = p ∷ r.pieces;
  back = r.back;
  in_turn = one_more quote p r.pieces h r.in_turn;
  split = rw (r.split, append_assoc);
  at_place = omega (arith, r.at_place, length-append (written p) (flat_map written r.pieces));
}

closes_here : (quote at b : ℕ) (bs : List ℕ) (place : ℕ) → b ≡ quote → Some at ≡ Some place → ClosesAt quote at (b ∷ bs) place
closes_here quote at b bs place same h =
    let is : at ≡ place = cc in
    record { pieces = []; back = bs; in_turn = none_in_turn quote; split = rw same; at_place = omega arith }

closing_step : (quote at b : ℕ) (bs : List ℕ) (place : ℕ) (ends begins : Bool) → (b == quote) ≡ ends → (b == 92) ≡ begins
    → (closing_from quote false (at + 1) bs ≡ Some place → ClosesAt quote (at + 1) bs place)
    → (closing_from quote true (at + 1) bs ≡ Some place → ClosesAt quote at (92 ∷ bs) place)
    → cond ends (Some at) (closing_from quote begins (at + 1) bs) ≡ Some place → ClosesAt quote at (b ∷ bs) place
closing_step quote at b bs place true begins e f plain paired h = closes_here quote at b bs place (eqb-true b quote e) h
closing_step quote at b bs place false true e f plain paired h = rw (eqb-true b 92 f) (paired h)
closing_step quote at b bs place false false e f plain paired h = onto quote at 1 place (single b) bs (eqb-false b quote e, eqb-false b 92 f) refl (plain h)

-- what is found is the first such quote
pub closing_found : (quote at : ℕ) (z : List ℕ) (place : ℕ) → closing_from quote false at z ≡ Some place → ClosesAt quote at z place
closing_found quote at [] place h = absurd (none-some place h)
closing_found quote at (b ∷ []) place h =
    closing_step quote at b [] place _ _ refl refl (λ g. absurd (none-some place g)) (λ g. absurd (none-some place g)) h
closing_found quote at (b ∷ c ∷ cs) place h =
    let two : at + 1 + 1 ≡ at + 2 = omega arith in
    closing_step quote at b (c ∷ cs) place _ _ refl refl (closing_found quote (at + 1) (c ∷ cs) place)
    (λ g. onto quote at 2 place (pair c) cs tt refl (closing_found quote (at + 2) cs place (rw (← two) g))) h

-- the quote behind pieces is found
pub closing_close : (quote at : ℕ) (pieces : List Piece) (back : List ℕ) → quote ≢ 92 → All (IsPiece quote) pieces → closing_from quote false at (flat_map written pieces ++ quote ∷ back) ≡ Some (at + length (flat_map written pieces))
closing_close quote at [] back other h = rw (eq-eqb quote quote refl, add-zero)
closing_close quote at (single b ∷ ps) back other h =
    let p = first_in_turn quote (single b) ps h in
    let rest = closing_close quote (at + 1) ps back other (rest_in_turn quote (single b) ps h) in
    let e : at + 1 + length (flat_map written ps) ≡ at + length (b ∷ flat_map written ps) = omega arith in
    rw (ne_eqb b quote p.0, ne_eqb b 92 p.1, rest, e)
closing_close quote at (pair c ∷ ps) back other h =
    let rest = closing_close quote (at + 1 + 1) ps back other (rest_in_turn quote (pair c) ps h) in
    let e : at + 1 + 1 + length (flat_map written ps) ≡ at + length (92 ∷ c ∷ flat_map written ps) = omega arith in
    let not_quote : (92 == quote) ≡ false = ne_eqb 92 quote (λ same. other (sym same)) in
    rw (not_quote, rest, e)

-- ---- what pieces stand for

unescaped-pair : (t : Bool) (c : ℕ) (rest : List ℕ) → cond t (c ∷ rest) (92 ∷ c ∷ rest) ≡ cond t (c ∷ []) (92 ∷ c ∷ []) ++ rest
unescaped-pair true c rest = refl
unescaped-pair false c rest = refl

pub unescaped-pieces : (escapes : ℕ → Bool) (quote : ℕ) (pieces : List Piece) → All (IsPiece quote) pieces → unescaped_from escapes false (flat_map written pieces) ≡ flat_map (meant escapes) pieces
unescaped-pieces escapes quote [] h = refl
unescaped-pieces escapes quote (single b ∷ ps) h =
    let p = first_in_turn quote (single b) ps h in
    let rest = unescaped-pieces escapes quote ps (rest_in_turn quote (single b) ps h) in
    rw (ne_eqb b 92 p.1, rest)
unescaped-pieces escapes quote (pair c ∷ ps) h =
    let rest = unescaped-pieces escapes quote ps (rest_in_turn quote (pair c) ps h) in
    rw rest (unescaped-pair (escapes c) c (flat_map (meant escapes) ps))

-- ---- bytes between two quotes

-- the quoted bytes and what is behind them
quoted_split : (quote : ℕ) (inner back : List ℕ) → quote ∷ (inner ++ quote ∷ back) ≡ (quote ∷ (inner ++ quote ∷ [])) ++ back
quoted_split quote inner back = ap (λ bs. quote ∷ bs) (sym (append_assoc inner (quote ∷ []) back))

pub length-quoted : (quote : ℕ) (inner : List ℕ) → length (quote ∷ (inner ++ quote ∷ [])) ≡ length inner + 2
length-quoted quote inner = omega (arith, length-append inner (quote ∷ []))

pub taken-quoted : (quote : ℕ) (inner back : List ℕ) → take (length inner + 2) (quote ∷ (inner ++ quote ∷ back)) ≡ quote ∷ (inner ++ quote ∷ [])
taken-quoted quote inner back = rw (quoted_split quote inner back) (take_at (quote ∷ (inner ++ quote ∷ [])) back _ (length-quoted quote inner))

pub dropped-quoted : (quote : ℕ) (inner back : List ℕ) → drop (length inner + 2) (quote ∷ (inner ++ quote ∷ back)) ≡ back
dropped-quoted quote inner back = rw (quoted_split quote inner back) (drop_at (quote ∷ (inner ++ quote ∷ [])) back _ (length-quoted quote inner))

pub between-quoted : (quote : ℕ) (inner : List ℕ) → between (quote ∷ (inner ++ quote ∷ [])) ≡ inner
between-quoted quote inner = take_at inner (quote ∷ []) _ (omega (arith, length-append inner (quote ∷ [])))
