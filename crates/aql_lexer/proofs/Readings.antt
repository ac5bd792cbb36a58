-- The laws of readings: one part at a place, one reading or one fault of a text, and a part more.
use Rattle.std.proofs.Common.{◌≡◌, ℕ, zero, suc, ◌+◌, ◌<◌, ◌≤◌, ◌⊎◌, Bool, true, ◌==◌, List, [], ◌∷◌, ◌++◌, length, take, drop, Option, Some, None, count_by, refl, sym, ap, subst, ◌∙◌, inl, inr, arith}
use Rattle.std.proofs.lemmas.Bool.{eqb-true}
use Rattle.std.proofs.lemmas.List.{append_assoc, append-nil, length-append, length-drop, take_at, drop_at, take-append-drop, nil_from_length, append_cancel_right}
use Rattle.std.proofs.lemmas.Option.{none-some, some_pair_parts}
use Rattle.aql_lexer.specs.Kinds.{Kind, Token}
use Rattle.aql_lexer.specs.Tokens.{is_line_feed}
use Rattle.aql_lexer.specs.Reading.{Part, bytes_of, IsPart, Reads, kind_in, tokens_at, tokens_among, IsReading, BeginsNothing, IsFault, IsDecided}
use Rattle.aql_lexer.specs.Scanning.{stands, part_of}
use Rattle.aql_lexer.specs.declared.scan.Form.{Form}
use Rattle.aql_lexer.specs.declared.scan.Form.TheVariants as form
use Rattle.aql_lexer.proofs.Found.{Holds, stands_found}
use Rattle.aql_lexer.proofs.Complete.{Finds, complete}

-- whether nothing stands before
abbrev pub is_start : List ℕ → Bool
is_start before = length before == 0

pub start_is : (before : List ℕ) → is_start before ≡ true → before ≡ []
start_is before h = nil_from_length before (eqb-true _ 0 h)

start_from : (before : List ℕ) → before ≡ [] → is_start before ≡ true
start_from before e = rw e

pub bytes_of-part_of : (f : Form) (bytes : List ℕ) → bytes_of (part_of f bytes) ≡ bytes
bytes_of-part_of form.White bytes = refl
bytes_of-part_of form.Comment bytes = refl
bytes_of-part_of form.Word bytes = refl
bytes_of-part_of form.Name bytes = refl
bytes_of-part_of (form.Int value) bytes = refl
bytes_of-part_of form.Str bytes = refl
bytes_of-part_of form.Regex bytes = refl
bytes_of-part_of (form.Symbol b) bytes = refl

-- ---- one part at a place

finds : (before : List ℕ) (part : Part) (after : List ℕ) → IsPart before part after → Finds (is_start before) part after
finds before part after h = complete before (is_start before) part after (start_from before) h

pub part_has_bytes : (before : List ℕ) (part : Part) (after : List ℕ) → IsPart before part after → 0 < length (bytes_of part)
part_has_bytes before part after h =
    let f = finds before part after h in
    (stands_found before (bytes_of part ++ after) (is_start before) (f.form, length (bytes_of part)) (start_is before) f.found).some

one_part : (before : List ℕ) (p q : Part) (a b : List ℕ) → IsPart before p a → IsPart before q b → bytes_of p ++ a ≡ bytes_of q ++ b → (p ≡ q) × (a ≡ b)
one_part before p q a b hp hq e =
    let fp = finds before p a hp in
    let fq = finds before q b hq in
    let both = some_pair_parts fp.form fq.form (length (bytes_of p)) (length (bytes_of q)) (sym fp.found ∙ ap (λ z. stands (is_start before) z) e ∙ fq.found) in
    let bytes : bytes_of p ≡ bytes_of q = sym (take_at (bytes_of p) a _ refl) ∙ ap (λ z. take (length (bytes_of p)) z) e ∙ take_at (bytes_of q) b _ (sym both.1) in
    let rest : a ≡ b = sym (drop_at (bytes_of p) a _ refl) ∙ ap (λ z. drop (length (bytes_of p)) z) e ∙ drop_at (bytes_of q) b _ (sym both.1) in
    let forms : part_of fp.form (bytes_of p) ≡ part_of fq.form (bytes_of q) = ap (λ f. part_of f (bytes_of p)) both.0 ∙ ap (λ bs. part_of fq.form bs) bytes in
    (sym fp.same ∙ forms ∙ fq.same, rest)

pub begins_nothing_from : (before text : List ℕ) → stands (is_start before) text ≡ None → BeginsNothing before text
begins_nothing_from before text h part after e is =
    let f = finds before part after is in
    none-some (f.form, length (bytes_of part)) (sym h ∙ ap (λ z. stands (is_start before) z) e ∙ f.found)

nil_begins_nothing : (before : List ℕ) → BeginsNothing before []
nil_begins_nothing before part after e is =
    let len : 0 ≡ length (bytes_of part ++ after) = ap length e in
    absurd (omega (arith, len, length-append (bytes_of part) after, part_has_bytes before part after is))

-- ---- what stands behind the parts

-- the bytes before what is left
abbrev pub behind : List ℕ → List Part → List ℕ
behind before [] = before
behind before (part ∷ parts) = behind (before ++ bytes_of part) parts

pub behind-Reads : (before : List ℕ) (parts : List Part) (text rest : List ℕ) → Reads before parts text rest → behind before parts ++ rest ≡ before ++ text
behind-Reads before [] text rest h = ap (λ bs. before ++ bs) (sym h)
behind-Reads before (part ∷ parts) text rest h =
    behind-Reads (before ++ bytes_of part) parts h.0 rest h.3 ∙ append_assoc before (bytes_of part) h.0 ∙ ap (λ bs. before ++ bs) (sym h.1)

-- ---- one reading or one fault

-- parts up to where nothing begins
pub record Stops (before text : List ℕ) : Type 0 where
  pub parts : List Part
  pub rest : List ℕ
  pub reads : Reads before parts text rest
  pub nothing : BeginsNothing (behind before parts) rest

one_stop : (before : List ℕ) (ps qs : List Part) (text a b : List ℕ) → Reads before ps text a → BeginsNothing (behind before ps) a → Reads before qs text b → BeginsNothing (behind before qs) b → (ps ≡ qs) × (a ≡ b)
one_stop before [] [] text a b hp np hq nq = (refl, sym hp ∙ hq)
one_stop before [] (q ∷ qs) text a b hp np hq nq = absurd (np q hq.0 (sym hp ∙ hq.1) hq.2)
one_stop before (p ∷ ps) [] text a b hp np hq nq = absurd (nq p hp.0 (sym hq ∙ hp.1) hp.2)
one_stop before (p ∷ ps) (q ∷ qs) text a b hp np hq nq =
    let e = one_part before p q hp.0 hq.0 hp.2 hq.2 (sym hp.1 ∙ hq.1) in
    let behind_p : Reads (before ++ bytes_of p) qs hq.0 b = subst (λ (x : Part). Reads (before ++ bytes_of x) qs hq.0 b) (sym e.0) hq.3 in
    let reads : Reads (before ++ bytes_of p) qs hp.0 b = subst (λ (t : List ℕ). Reads (before ++ bytes_of p) qs t b) (sym e.1) behind_p in
    let nothing : BeginsNothing (behind (before ++ bytes_of p) qs) b = subst (λ (x : Part). BeginsNothing (behind (before ++ bytes_of x) qs) b) (sym e.0) nq in
    let more = one_stop (before ++ bytes_of p) ps qs hp.0 a b hp.3 np reads nothing in
    (ap (λ x. x ∷ ps) e.0 ∙ ap (λ xs. q ∷ xs) more.0, more.1)

one_more : (before text : List ℕ) (f : Form) (n : ℕ) → Holds before text (f, n) → Stops (before ++ take n text) (drop n text) → Stops before text
one_more before text f n h r = record {
  parts = part_of f (take n text) ∷ r.parts;
  rest = r.rest;
  reads = (drop n text, rw bytes_of-part_of (sym (take-append-drop n text)), h.part, rw bytes_of-part_of r.reads);
  nothing = rw bytes_of-part_of r.nothing;
}

stop_at : (before text : List ℕ) (found : Option (Form × ℕ)) → stands (is_start before) text ≡ found → ((n : ℕ) → 0 < n → n ≤ length text → Stops (before ++ take n text) (drop n text)) → Stops before text
stop_at before text None e more = record { parts = []; rest = text; reads = refl; nothing = begins_nothing_from before text e }
stop_at before text (Some (f, n)) e more =
    let h = stands_found before text (is_start before) (f, n) (start_is before) e in
    one_more before text f n h (more n h.some h.within)

-- the text reads up to some place; `turns` bounds its length
stop_within : (turns : ℕ) (before text : List ℕ) → length text ≤ turns → Stops before text
stop_within zero before text short = record {
  parts = [];
  rest = [];
  reads = nil_from_length text (omega arith);
  nothing = nil_begins_nothing before;
}
stop_within (suc turns) before text short =
    stop_at before text (stands (is_start before) text) refl (λ n some within. stop_within turns (before ++ take n text) (drop n text) (omega (arith, length-drop n text)))

pub fault_at : (text : List ℕ) (parts : List Part) (rest : List ℕ) → 0 < length rest → Reads [] parts text rest → BeginsNothing (behind [] parts) rest → IsFault text (length (behind [] parts))
fault_at text parts rest some reads nothing =
    let split : behind [] parts ++ rest ≡ text = behind-Reads [] parts text rest reads in
    let dropped : drop (length (behind [] parts)) text ≡ rest = ap (λ z. drop (length (behind [] parts)) z) (sym split) ∙ drop_at (behind [] parts) rest _ refl in
    let taken : take (length (behind [] parts)) text ≡ behind [] parts = ap (λ z. take (length (behind [] parts)) z) (sym split) ∙ take_at (behind [] parts) rest _ refl in
    let len : length (behind [] parts ++ rest) ≡ length text = ap length split in
    record {
      parts = parts;
      reads = rw dropped reads;
      in_text = omega (arith, len, length-append (behind [] parts) rest);
      nothing = rw (taken, dropped) nothing;
    }

-- at a fault nothing begins behind what is read
fault_stops : (text : List ℕ) (place : ℕ) (h : IsFault text place) → BeginsNothing (behind [] h.parts) (drop place text)
fault_stops text place h =
    let split : behind [] h.parts ++ drop place text ≡ text = behind-Reads [] h.parts text (drop place text) h.reads in
    let same : behind [] h.parts ≡ take place text = append_cancel_right (behind [] h.parts) (take place text) (drop place text) (split ∙ sym (take-append-drop place text)) in
    rw same h.nothing

reading_or_fault : (text : List ℕ) (parts : List Part) (rest : List ℕ) → Reads [] parts text rest → BeginsNothing (behind [] parts) rest → ((tokens : List Token) × IsReading text tokens) ⊎ ((place : ℕ) × IsFault text place)
reading_or_fault text parts [] reads nothing = inl (tokens_among [] parts, record { parts = parts; reads = reads; tokens_are = refl })
reading_or_fault text parts (b ∷ bs) reads nothing = inr (length (behind [] parts), fault_at text parts (b ∷ bs) (omega arith) reads nothing)

one_reading : (text : List ℕ) (xs ys : List Token) → IsReading text xs → IsReading text ys → xs ≡ ys
one_reading text xs ys h g =
    let e = one_stop [] h.parts g.parts text [] [] h.reads (nil_begins_nothing _) g.reads (nil_begins_nothing _) in
    h.tokens_are ∙ ap (λ parts. tokens_among [] parts) e.0 ∙ sym g.tokens_are

one_fault : (text : List ℕ) (p q : ℕ) → IsFault text p → IsFault text q → p ≡ q
one_fault text p q h g =
    let e = one_stop [] h.parts g.parts text (drop p text) (drop q text) h.reads (fault_stops text p h) g.reads (fault_stops text q g) in
    let len : length (drop p text) ≡ length (drop q text) = ap length e.1 in
    omega (arith, len, length-drop p text, length-drop q text, h.in_text, g.in_text)

not_both : (text : List ℕ) (tokens : List Token) (place : ℕ) → IsReading text tokens → ¬ (IsFault text place)
not_both text tokens place h g =
    let e = one_stop [] h.parts g.parts text [] (drop place text) h.reads (nil_begins_nothing _) g.reads (fault_stops text place g) in
    let len : 0 ≡ length (drop place text) = ap length e.1 in
    omega (arith, len, length-drop place text, g.in_text)

pub decided : (text : List ℕ) → IsDecided text
decided text = record {
  one_of_two = let r = stop_within (length text) [] text (omega arith) in reading_or_fault text r.parts r.rest r.reads r.nothing;
  one_reading = one_reading text;
  one_fault = one_fault text;
  not_both = not_both text;
}

-- ---- a part more

pub Reads-push : (before : List ℕ) (parts : List Part) (text rest after : List ℕ) (part : Part) → Reads before parts text rest → rest ≡ bytes_of part ++ after → IsPart (behind before parts) part after → Reads before (parts ++ part ∷ []) text after
Reads-push before [] text rest after part reads e h = (after, reads ∙ e, h, refl)
Reads-push before (p ∷ ps) text rest after part reads e h = (reads.0, reads.1, reads.2, Reads-push (before ++ bytes_of p) ps reads.0 rest after part reads.3 e h)

pub behind-push : (before : List ℕ) (parts : List Part) (part : Part) → behind before (parts ++ part ∷ []) ≡ behind before parts ++ bytes_of part
behind-push before [] part = refl
behind-push before (p ∷ ps) part = behind-push (before ++ bytes_of p) ps part

-- the tokens of one part behind `before`
abbrev pub token_behind : List ℕ → Part → List Token
token_behind before part = tokens_at (length before) (1 + count_by is_line_feed before) (kind_in part)

pub tokens_among-push : (before : List ℕ) (parts : List Part) (part : Part) → tokens_among before (parts ++ part ∷ []) ≡ tokens_among before parts ++ token_behind (behind before parts) part
tokens_among-push before [] part = append-nil (token_behind before part)
tokens_among-push before (p ∷ ps) part = ap (λ ts. token_behind before p ++ ts) (tokens_among-push (before ++ bytes_of p) ps part) ∙ sym (append_assoc (token_behind before p) (tokens_among (before ++ bytes_of p) ps) (token_behind (behind (before ++ bytes_of p) ps) part))

at_most_one : (begin line : ℕ) (kind : Option Kind) → length (tokens_at begin line kind) ≤ 1
at_most_one begin line None = omega arith
at_most_one begin line (Some kind) = omega arith

-- no more tokens than bytes
pub few_tokens : (before : List ℕ) (parts : List Part) (text rest : List ℕ) → Reads before parts text rest → length (tokens_among before parts) + length rest ≤ length text
few_tokens before [] text rest h = let len : length text ≡ length rest = ap length h in omega arith
few_tokens before (p ∷ ps) text rest h =
    let more = few_tokens (before ++ bytes_of p) ps h.0 rest h.3 in
    let one = at_most_one (length before) (1 + count_by is_line_feed before) (kind_in p) in
    let some = part_has_bytes before p h.0 h.2 in
    let len : length text ≡ length (bytes_of p ++ h.0) = ap length h.1 in
    omega (arith, more, one, some, len, length-append (bytes_of p) h.0, length-append (token_behind before p) (tokens_among (before ++ bytes_of p) ps))
