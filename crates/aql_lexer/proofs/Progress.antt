-- How far the loop of `lex` has come: the parts so far, their tokens and the line.
use Rattle.std.proofs.Common.{◌≡◌, ℕ, ◌+◌, ◌-◌, ◌<◌, ◌≤◌, ◌==◌, List, [], ◌∷◌, ◌++◌, length, take, drop, Some, None, count_by, cond, refl, sym, ap, ◌∙◌, arith}
use Rattle.std.proofs.lemmas.List.{length-append, take-append-drop}
use Rattle.std.proofs.lemmas.List.Sums.{sum_by-append, count_by-le-length}
use Rattle.aql_lexer.specs.Kinds.{Token}
use Rattle.aql_lexer.specs.Tokens.{is_line_feed}
use Rattle.aql_lexer.specs.Reading.{Part, bytes_of, Reads, kind_in, tokens_at, tokens_among, IsReading, IsFault}
use Rattle.aql_lexer.specs.Scanning.{stands, part_of}
use Rattle.aql_lexer.specs.declared.scan.Form.{Form}
use Rattle.aql_lexer.proofs.Found.{stands_found}
use Rattle.aql_lexer.proofs.Readings.{is_start, start_is, bytes_of-part_of, behind, behind-Reads, behind-push, Reads-push, tokens_among-push, few_tokens, begins_nothing_from, fault_at}

-- the text is read up to `rest`, with these tokens, and this line is the next
pub record HasRead (text rest : List ℕ) (line : ℕ) (tokens : List Token) : Type 0 where
  pub parts : List Part
  pub reads : Reads [] parts text rest
  pub tokens_are : tokens ≡ tokens_among [] parts
  pub line_is : line ≡ 1 + count_by is_line_feed (behind [] parts)

pub read_nothing : (text : List ℕ) → HasRead text text 1 []
read_nothing text = record { parts = []; reads = refl; tokens_are = refl; line_is = refl }

-- how many bytes are read
pub place_is : (text rest : List ℕ) (line : ℕ) (tokens : List Token) (h : HasRead text rest line tokens) → length text - length rest ≡ length (behind [] h.parts)
place_is text rest line tokens h =
    let len : length (behind [] h.parts ++ rest) ≡ length text = ap length (behind-Reads [] h.parts text rest h.reads) in
    omega (arith, len, length-append (behind [] h.parts) rest)

pub rest_within : (text rest : List ℕ) (line : ℕ) (tokens : List Token) → HasRead text rest line tokens → length rest ≤ length text
rest_within text rest line tokens h =
    let len : length (behind [] h.parts ++ rest) ≡ length text = ap length (behind-Reads [] h.parts text rest h.reads) in
    omega (arith, len, length-append (behind [] h.parts) rest)

pub line_fits : (text rest : List ℕ) (line : ℕ) (tokens : List Token) → HasRead text rest line tokens → line + length rest ≤ 1 + length text
line_fits text rest line tokens h =
    let len : length (behind [] h.parts ++ rest) ≡ length text = ap length (behind-Reads [] h.parts text rest h.reads) in
    omega (arith, len, h.line_is, length-append (behind [] h.parts) rest, count_by-le-length is_line_feed (behind [] h.parts))

-- the part at the front of the rest is read too
pub read_more : (text rest : List ℕ) (line : ℕ) (tokens : List Token) (f : Form) (n : ℕ) → HasRead text rest line tokens → stands (length text - length rest == 0) rest ≡ Some (f, n)
    → HasRead text (drop n rest) (line + count_by is_line_feed (take n rest)) (tokens ++ tokens_at (length text - length rest) line (kind_in (part_of f (take n rest))))
read_more text rest line tokens f n h found =
    let place = place_is text rest line tokens h in
    let part = part_of f (take n rest) in
    let at_place : stands (is_start (behind [] h.parts)) rest ≡ Some (f, n) = rw place at found in
    let holds = stands_found (behind [] h.parts) rest (is_start (behind [] h.parts)) (f, n) (start_is (behind [] h.parts)) at_place in
    let bytes = bytes_of-part_of f (take n rest) in
    let split : rest ≡ bytes_of part ++ drop n rest = rw bytes (sym (take-append-drop n rest)) in
    let here : tokens_at (length text - length rest) line (kind_in part) ≡ tokens_at (length (behind [] h.parts)) (1 + count_by is_line_feed (behind [] h.parts)) (kind_in part) =
    ap (λ b. tokens_at b line (kind_in part)) place ∙ ap (λ l. tokens_at (length (behind [] h.parts)) l (kind_in part)) h.line_is in
    let read : behind [] (h.parts ++ part ∷ []) ≡ behind [] h.parts ++ take n rest = behind-push [] h.parts part ∙ ap (λ bs. behind [] h.parts ++ bs) bytes in
    record {
      parts = h.parts ++ part ∷ [];
      reads = Reads-push [] h.parts text rest (drop n rest) part h.reads split holds.part;
      tokens_are = ap (λ ts. ts ++ tokens_at (length text - length rest) line (kind_in part)) h.tokens_are ∙ ap (λ ts. tokens_among [] h.parts ++ ts) here ∙ sym (tokens_among-push [] h.parts part);
      line_is = rw read (omega (arith, h.line_is, sum_by-append (λ b. cond (is_line_feed b) 1 0) (behind [] h.parts) (take n rest)));
    }

pub all_read : (text : List ℕ) (line : ℕ) (tokens : List Token) → HasRead text [] line tokens → IsReading text tokens
all_read text line tokens h = record { parts = h.parts; reads = h.reads; tokens_are = h.tokens_are }

pub few : (text rest : List ℕ) (line : ℕ) (tokens : List Token) → HasRead text rest line tokens → length tokens ≤ length text
few text rest line tokens h =
    let len : length tokens ≡ length (tokens_among [] h.parts) = ap length h.tokens_are in
    omega (arith, len, few_tokens [] h.parts text rest h.reads)

pub is_fault : (text rest : List ℕ) (line : ℕ) (tokens : List Token) → 0 < length rest → HasRead text rest line tokens → stands (length text - length rest == 0) rest ≡ None → IsFault text (length text - length rest)
is_fault text rest line tokens some h none =
    let place = place_is text rest line tokens h in
    let at_place : stands (is_start (behind [] h.parts)) rest ≡ None = rw place at none in
    rw place (fault_at text h.parts rest some h.reads (begins_nothing_from (behind [] h.parts) rest at_place))
