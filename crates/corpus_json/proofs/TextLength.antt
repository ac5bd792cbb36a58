-- A string of a JSON text is no longer than the text: from the bytes through lexemes, tokens and values to the member that is found.
use Rattle.std.proofs.Common.{◌≡◌, ℕ, zero, suc, ◌+◌, ◌≤◌, Bool, true, false, cond, nat_lt, ◌&&◌, ◌==◌, List, [], ◌∷◌, length, Option, Some, None, option_and_then, option_map, subst, arith, Ordering, Less, Equal, Greater, codes, if◌then◌else◌, sym}
use Rattle.std.proofs.lemmas.List.{length-append}
use Rattle.std.specs.Prelude.{⊤, IfSome}
use Rattle.std.specs.Char.{encode_utf8}
use Rattle.std.specs.Ordering.{nat_cmp, match_ordering}
use Rattle.std.specs.Cmp.Lexicographic.{slice_cmp}
use Rattle.json.specs.Token.{Token, begin_object, end_object, begin_array, end_array, key, string, number, boolean, null, bad}
use Rattle.json.specs.Text.{code_unit, short_escape, is_high_surrogate, is_low_surrogate, surrogate_pair, Within, plain, after_backslash, after_u, after_high, prepend, content}
use Rattle.json.specs.Word.{head, ends_word, after_number, number_before, word}
use Rattle.json.specs.Lex.{Lexeme, token, comma, colon, Class, quote, backslash, operator, space, other, class, operator_lexeme, string_token, Mode, between, in_word, in_string, in_escape, lex_byte, lex}
use Rattle.json.specs.Lex.{Place, fresh, after_value, after_comma, after_key, begins_colon, may_begin, may_close, if_allowed, place_token, punctuate, tokens}
use Rattle.json.specs.Json.{Json, array, object, Items, no_items, item, Members, no_members, member, Parse, parse_map, after_end_array, read_key, items_step, members_step, items, members, value_with, value, if_last}
use Rattle.json.specs.Json as json
use Rattle.serde_json.specs.Data as serde
use Rattle.serde_json.specs.Find.{get, get_member, as_str}
use Rattle.span_token.specs.Documents.{Doc}
use Rattle.std.specs.Str.{is_utf8}
use Rattle.corpus_json.specs.Documents.{string_at, document_of, value_of, document_in}
use Rattle.corpus_json.specs.Inputs.{doc_of_ref}
use Rattle.corpus_json.specs.declared.input.InputRef.{InputRef}
use Rattle.serde_json.specs.Read.{of_json, of_items, of_members, number_of, max_depth, read}

-- ---- a string's bytes

abbrev AtMost : ℕ → Option (List ℕ) → Type 0
AtMost n None = ⊤
AtMost n (Some s) = length s ≤ n

one_or_other : (n : ℕ) (b : Bool) (x y : Option (List ℕ)) → AtMost n x → AtMost n y → AtMost n (cond b x y)
one_or_other n true x y p q = p
one_or_other n false x y p q = q

for_each : (n : ℕ) (f : ℕ → Option (List ℕ)) (o : Option ℕ) → ((u : ℕ) → AtMost n (f u)) → AtMost n (option_and_then f o)
for_each n f None h = tt
for_each n f (Some u) h = h u

at_most_more : (n m : ℕ) (r : Option (List ℕ)) → AtMost m r → m ≤ n → AtMost n r
at_most_more n m None h le = tt
at_most_more n m (Some s) h le = omega arith

longer : (n m : ℕ) (a : List ℕ) (r : Option (List ℕ)) → AtMost m r → length a + m ≤ n → AtMost n (prepend a r)
longer n m a None h le = tt
longer n m a (Some s) h le = omega (arith, length-append a s)

length-encode : (u : ℕ) → length (encode_utf8 u) ≤ 4
unfolding encode_utf8
length-encode u = grind arith

-- what a string's text stands for is no longer than it
content-length : (w : Within) (xs : List ℕ) → AtMost (length xs) (content w xs)
unfolding content
content-length plain [] = tt
content-length plain (x ∷ xs) =
    let n = length (x ∷ xs) in
    one_or_other n (x == 34) _ _ (omega arith) (one_or_other n (x == 92) _ _ (at_most_more n _ _ (content-length after_backslash xs) (omega arith))
    (one_or_other n (nat_lt x 32) _ _ tt (longer n _ (x ∷ []) _ (content-length plain xs) (omega arith))))
content-length after_backslash [] = tt
content-length after_backslash (x ∷ xs) =
    let n = length (x ∷ xs) in
    one_or_other n (x == 117) _ _ (at_most_more n _ _ (content-length after_u xs) (omega arith))
    (for_each n _ (short_escape x) (λ c. longer n _ (c ∷ []) _ (content-length plain xs) (omega arith)))
content-length after_u [] = tt
content-length after_u (a ∷ []) = tt
content-length after_u (a ∷ b ∷ []) = tt
content-length after_u (a ∷ b ∷ c ∷ []) = tt
content-length after_u (a ∷ b ∷ c ∷ d ∷ xs) =
    let n = length (a ∷ b ∷ c ∷ d ∷ xs) in
    for_each n _ (code_unit a b c d) (λ u. one_or_other n (is_high_surrogate u) _ _ (at_most_more n _ _ (content-length (after_high u) xs) (omega arith))
    (one_or_other n (is_low_surrogate u) _ _ tt (longer n _ (encode_utf8 u) _ (content-length plain xs) (omega (arith, length-encode u)))))
content-length (after_high h) [] = tt
content-length (after_high h) (s ∷ []) = tt
content-length (after_high h) (s ∷ u ∷ []) = tt
content-length (after_high h) (s ∷ u ∷ a ∷ []) = tt
content-length (after_high h) (s ∷ u ∷ a ∷ b ∷ []) = tt
content-length (after_high h) (s ∷ u ∷ a ∷ b ∷ c ∷ []) = tt
content-length (after_high h) (s ∷ u ∷ a ∷ b ∷ c ∷ d ∷ xs) =
    let n = length (s ∷ u ∷ a ∷ b ∷ c ∷ d ∷ xs) in
    one_or_other n ((s == 92) && (u == 117)) _ _ (for_each n _ (code_unit a b c d) (λ l. one_or_other n (is_low_surrogate l) _ _
    (longer n _ (encode_utf8 (surrogate_pair h l)) _ (content-length plain xs) (omega (arith, length-encode (surrogate_pair h l)))) tt)) tt

-- ---- lexemes

-- a string of at most n bytes, or no string
abbrev Short : ℕ → Token → Type 0
Short n begin_object = ⊤
Short n end_object = ⊤
Short n begin_array = ⊤
Short n end_array = ⊤
Short n (key s) = ⊤
Short n (string s) = length s ≤ n
Short n (number s) = ⊤
Short n (boolean b) = ⊤
Short n null = ⊤
Short n bad = ⊤

abbrev ShortLexeme : ℕ → Lexeme → Type 0
ShortLexeme n (token t) = Short n t
ShortLexeme n comma = ⊤
ShortLexeme n colon = ⊤

abbrev Lexemes : ℕ → List Lexeme → Type 0
Lexemes n [] = ⊤
Lexemes n (l ∷ ls) = ShortLexeme n l × Lexemes n ls

abbrev Tokens : ℕ → List Token → Type 0
Tokens n [] = ⊤
Tokens n (t ∷ ts) = Short n t × Tokens n ts

either : (n : ℕ) (b : Bool) (x y : Token) → Short n x → Short n y → Short n (cond b x y)
either n true x y p q = p
either n false x y p q = q

number_is_short : (n : ℕ) (t : List ℕ) (o : Option (List ℕ)) → Short n (number_before t o)
number_is_short n t None = tt
number_is_short n t (Some r) = either n (ends_word r) _ bad tt tt

-- a word is no string
word_is_short : (n : ℕ) (t : List ℕ) → Short n (word t)
unfolding word
word_is_short n t =
    either n (head t == 116) _ _ (either n _ (boolean true) bad tt tt) (either n (head t == 102) _ _ (either n _ (boolean false) bad tt tt)
    (either n (head t == 110) _ _ (either n _ null bad tt tt) (number_is_short n t (after_number t))))

mark : (n : ℕ) (b : Bool) (x y : Lexeme) → ShortLexeme n x → ShortLexeme n y → ShortLexeme n (cond b x y)
mark n true x y p q = p
mark n false x y p q = q

marks : (n x : ℕ) → ShortLexeme n (operator_lexeme x)
marks n x =
    mark n (x == 123) (token begin_object) _ tt (mark n (x == 125) (token end_object) _ tt (mark n (x == 91) (token begin_array) _ tt (mark n (x == 93) (token end_array) _ tt (mark n (x == 44) comma colon tt tt))))

text_is_short : (n m : ℕ) (o : Option (List ℕ)) → AtMost m o → m ≤ n → Short n (string_token o)
text_is_short n m None h le = tt
text_is_short n m (Some s) h le = omega arith

byte : (n : ℕ) (m : Mode) (c : Class) (x : ℕ) (xs : List ℕ) (k : Mode → List Lexeme) → length xs ≤ n → ((next : Mode) → Lexemes n (k next)) → Lexemes n (lex_byte m c x xs k)
byte n between quote x xs k le h = (text_is_short n (length xs) (content plain xs) (content-length plain xs) le, h in_string)
byte n between backslash x xs k le h = (tt, h in_word)
byte n between operator x xs k le h = (marks n x, h between)
byte n between space x xs k le h = h between
byte n between other x xs k le h = (word_is_short n (x ∷ xs), h in_word)
byte n in_word quote x xs k le h = h in_word
byte n in_word backslash x xs k le h = h in_word
byte n in_word operator x xs k le h = (marks n x, h between)
byte n in_word space x xs k le h = h between
byte n in_word other x xs k le h = h in_word
byte n in_string quote x xs k le h = h between
byte n in_string backslash x xs k le h = h in_escape
byte n in_string operator x xs k le h = h in_string
byte n in_string space x xs k le h = h in_string
byte n in_string other x xs k le h = h in_string
byte n in_escape c x xs k le h = h in_string

Lexemes-lex : (n : ℕ) (xs : List ℕ) (m : Mode) → length xs ≤ n → Lexemes n (lex m xs)
unfolding lex
Lexemes-lex n [] m le = tt
Lexemes-lex n (x ∷ xs) m le = byte n m (class x) x xs (λ next. lex next xs) (omega arith) (λ next. Lexemes-lex n xs next (omega arith))

-- ---- tokens

allowed : (n : ℕ) (b : Bool) (t : Token) (k : Place → List Token) (next : Place) → Short n t → Tokens n (k next) → Tokens n (if_allowed b t k next)
allowed n true t k next p q = (p, q)
allowed n false t k next p q = (tt, tt)

placed : (n : ℕ) (p : Place) (t : Token) (b : Bool) (k : Place → List Token) → Short n t → ((next : Place) → Tokens n (k next)) → Tokens n (place_token p t b k)
placed n p begin_object b k q h = allowed n (may_begin p) begin_object k fresh q (h fresh)
placed n p end_object b k q h = allowed n (may_close p) end_object k after_value q (h after_value)
placed n p begin_array b k q h = allowed n (may_begin p) begin_array k fresh q (h fresh)
placed n p end_array b k q h = allowed n (may_close p) end_array k after_value q (h after_value)
placed n p (key s) b k q h = (tt, tt)
placed n p (string s) true k q h = allowed n (may_begin p) (key s) k after_key tt (h after_key)
placed n p (string s) false k q h = allowed n (may_begin p) (string s) k after_value q (h after_value)
placed n p (number s) b k q h = allowed n (may_begin p) (number s) k after_value q (h after_value)
placed n p (boolean v) b k q h = allowed n (may_begin p) (boolean v) k after_value q (h after_value)
placed n p null b k q h = allowed n (may_begin p) null k after_value q (h after_value)
placed n p bad b k q h = (tt, tt)

Tokens-punctuate : (n : ℕ) (ls : List Lexeme) → Lexemes n ls → (p : Place) → Tokens n (punctuate p ls)
unfolding punctuate
Tokens-punctuate n [] h fresh = tt
Tokens-punctuate n [] h after_value = tt
Tokens-punctuate n [] h after_comma = (tt, tt)
Tokens-punctuate n [] h after_key = (tt, tt)
Tokens-punctuate n (token t ∷ ls) h p = placed n p t (begins_colon ls) (λ next. punctuate next ls) h.0 (Tokens-punctuate n ls h.1)
Tokens-punctuate n (comma ∷ ls) h fresh = (tt, tt)
Tokens-punctuate n (comma ∷ ls) h after_value = Tokens-punctuate n ls h.1 after_comma
Tokens-punctuate n (comma ∷ ls) h after_comma = (tt, tt)
Tokens-punctuate n (comma ∷ ls) h after_key = (tt, tt)
Tokens-punctuate n (colon ∷ ls) h fresh = (tt, tt)
Tokens-punctuate n (colon ∷ ls) h after_value = (tt, tt)
Tokens-punctuate n (colon ∷ ls) h after_comma = (tt, tt)
Tokens-punctuate n (colon ∷ ls) h after_key = Tokens-punctuate n ls h.1 fresh

-- ---- values

-- the same of a value's own string, and of the members of an object
abbrev ShortString : ℕ → Json → Type 0
ShortString n json.null = ⊤
ShortString n (json.boolean b) = ⊤
ShortString n (json.number s) = ⊤
ShortString n (json.string s) = length s ≤ n
ShortString n (array js) = ⊤
ShortString n (object ms) = ⊤

abbrev ShortMembers : ℕ → Members → Type 0
ShortMembers n no_members = ⊤
ShortMembers n (member k j ms) = ShortString n j × ShortMembers n ms

abbrev ShortValue : ℕ → Json → Type 0
ShortValue n json.null = ⊤
ShortValue n (json.boolean b) = ⊤
ShortValue n (json.number s) = ⊤
ShortValue n (json.string s) = length s ≤ n
ShortValue n (array js) = ⊤
ShortValue n (object ms) = ShortMembers n ms

of_members_or_own : (n : ℕ) (j : Json) → ShortValue n j → ShortString n j
of_members_or_own n json.null h = tt
of_members_or_own n (json.boolean b) h = tt
of_members_or_own n (json.number s) h = tt
of_members_or_own n (json.string s) h = h
of_members_or_own n (array js) h = tt
of_members_or_own n (object ms) h = tt

abbrev Gives : {A : Type 0} → ℕ → (A → Type 0) → Option (A × List Token) → Type 0
Gives n Q None = ⊤
Gives n Q (Some p) = Q p.0 × Tokens n p.1

abbrev Keeps : {A : Type 0} → ℕ → (A → Type 0) → Parse A → Type 0
Keeps n Q p = (ts : List Token) → Tokens n ts → Gives n Q (p ts)

mapped : {A B : Type 0} (n : ℕ) (P : A → Type 0) (Q : B → Type 0) (f : A → B) → ((a : A) → P a → Q (f a)) → (o : Option (A × List Token)) → Gives n P o → Gives n Q (parse_map f o)
mapped n P Q f g None h = tt
mapped n P Q f g (Some p) h = (g p.0 h.0, h.1)

and_more : {B : Type 0} (n : ℕ) (Q : B → Type 0) (f : Json → B → B) → ((j : Json) (b : B) → ShortValue n j → Q b → Q (f j b)) → (more : Parse B) → Keeps n Q more
    → (o : Option (Json × List Token)) → Gives n (ShortValue n) o → Gives n Q (option_and_then (λ q. parse_map (f q.0) (more q.1)) o)
and_more n Q f g more keeps None h = tt
and_more n Q f g more keeps (Some q) h = mapped n Q Q (f q.0) (λ b. g q.0 b h.0) _ (keeps q.1 h.1)

abbrev Rest : ℕ → Option (List Token) → Type 0
Rest n None = ⊤
Rest n (Some r) = Tokens n r

closing : (n : ℕ) (ts : List Token) → Tokens n ts → Rest n (after_end_array ts)
closing n [] h = tt
closing n (begin_object ∷ ts) h = tt
closing n (end_object ∷ ts) h = tt
closing n (begin_array ∷ ts) h = tt
closing n (end_array ∷ ts) h = h.1
closing n (key s ∷ ts) h = tt
closing n (string s ∷ ts) h = tt
closing n (number s ∷ ts) h = tt
closing n (boolean v ∷ ts) h = tt
closing n (null ∷ ts) h = tt
closing n (bad ∷ ts) h = tt

naming : (n : ℕ) → Keeps n (λ (k : Option (List ℕ)). ⊤) read_key
naming n [] h = tt
naming n (begin_object ∷ ts) h = tt
naming n (end_object ∷ ts) h = (tt, h.1)
naming n (begin_array ∷ ts) h = tt
naming n (end_array ∷ ts) h = tt
naming n (key s ∷ ts) h = (tt, h.1)
naming n (string s ∷ ts) h = tt
naming n (number s ∷ ts) h = tt
naming n (boolean v ∷ ts) h = tt
naming n (null ∷ ts) h = tt
naming n (bad ∷ ts) h = tt

module _ (n : ℕ) (p : Parse Json) (keeps : Keeps n (ShortValue n) p) where
  item_turn : (more : Parse Items) → Keeps n (λ (js : Items). ⊤) more → (ts : List Token) → Tokens n ts → (o : Option (List Token)) → Rest n o → Gives n (λ (js : Items). ⊤) (items_step p more ts o)
  item_turn more again ts h (Some r) q = (tt, q)
  item_turn more again ts h None q = and_more n (λ (js : Items). ⊤) item (λ j b x y. tt) more again (p ts) (keeps ts h)

  Keeps-items : (turns : ℕ) → Keeps n (λ (js : Items). ⊤) (items p turns)
  unfolding items
  Keeps-items zero ts h = tt
  Keeps-items (suc turns) ts h = item_turn (items p turns) (Keeps-items turns) ts h (after_end_array ts) (closing n ts h)

  member_turn : (more : Parse Members) → Keeps n (ShortMembers n) more → (o : Option (Option (List ℕ) × List Token)) → Gives n (λ (k : Option (List ℕ)). ⊤) o
      → Gives n (ShortMembers n) (option_and_then (λ q. members_step p more q.0 q.1) o)
  member_turn more again None h = tt
  member_turn more again (Some (None, s)) h = (tt, h.1)
  member_turn more again (Some (Some k, s)) h = and_more n (ShortMembers n) (member k) (λ j b x y. (of_members_or_own n j x, y)) more again (p s) (keeps s h.1)

  Keeps-members : (turns : ℕ) → Keeps n (ShortMembers n) (members p turns)
  unfolding members
  Keeps-members zero ts h = tt
  Keeps-members (suc turns) ts h = member_turn (members p turns) (Keeps-members turns) (read_key ts) (naming n ts h)

Keeps-value_with : (n : ℕ) (a : Parse Items) (o : Parse Members) → Keeps n (λ (js : Items). ⊤) a → Keeps n (ShortMembers n) o → Keeps n (ShortValue n) (value_with a o)
Keeps-value_with n a o p q [] h = tt
Keeps-value_with n a o p q (begin_object ∷ ts) h = mapped n (ShortMembers n) (ShortValue n) object (λ m x. x) _ (q ts h.1)
Keeps-value_with n a o p q (end_object ∷ ts) h = tt
Keeps-value_with n a o p q (begin_array ∷ ts) h = mapped n (λ (js : Items). ⊤) (ShortValue n) array (λ m x. tt) _ (p ts h.1)
Keeps-value_with n a o p q (end_array ∷ ts) h = tt
Keeps-value_with n a o p q (key s ∷ ts) h = tt
Keeps-value_with n a o p q (string s ∷ ts) h = h
Keeps-value_with n a o p q (number s ∷ ts) h = h
Keeps-value_with n a o p q (boolean v ∷ ts) h = h
Keeps-value_with n a o p q (null ∷ ts) h = h
Keeps-value_with n a o p q (bad ∷ ts) h = tt

Keeps-value : (n depth : ℕ) → Keeps n (ShortValue n) (value depth)
unfolding value
Keeps-value n zero = Keeps-value_with n (λ ts. None) (λ ts. None) (λ ts h. tt) (λ ts h. tt)
Keeps-value n (suc d) =
    Keeps-value_with n (λ ts. items (value d) (length ts) ts) (λ ts. members (value d) (length ts) ts)
    (λ ts. Keeps-items n (value d) (Keeps-value n d) (length ts) ts) (λ ts. Keeps-members n (value d) (Keeps-value n d) (length ts) ts)

-- ---- serde_json's values

abbrev ShortData : ℕ → serde.Data → Type 0
ShortData n serde.null = ⊤
ShortData n (serde.boolean b) = ⊤
ShortData n (serde.number x) = ⊤
ShortData n (serde.string s) = length s ≤ n
ShortData n (serde.array ds) = ⊤
ShortData n (serde.object ms) = ⊤

abbrev ShortFields : ℕ → serde.Members → Type 0
ShortFields n serde.no_members = ⊤
ShortFields n (serde.member k d ms) = ShortData n d × ShortFields n ms

abbrev IfFound : {A : Type 0} → (A → Type 0) → Option A → Type 0
IfFound P None = ⊤
IfFound P (Some a) = P a

chosen : (n : ℕ) (o : Ordering) (a b c : serde.Members) → ShortFields n a → ShortFields n b → ShortFields n c → ShortFields n (match_ordering o a b c)
chosen n Less a b c p q r = p
chosen n Equal a b c p q r = q
chosen n Greater a b c p q r = r

ShortFields-put : (n : ℕ) (k : List ℕ) (d : serde.Data) (ms : serde.Members) → ShortData n d → ShortFields n ms → ShortFields n (serde.put k d ms)
ShortFields-put n k d serde.no_members p q = (p, tt)
ShortFields-put n k d (serde.member l e ms) p q = chosen n (slice_cmp nat_cmp k l) _ _ _ (p, q) (p, q.1) (q.0, ShortFields-put n k d ms p q.1)

some_of : {A B : Type 0} (Q : B → Type 0) (f : A → B) → ((a : A) → Q (f a)) → (o : Option A) → IfFound Q (option_map f o)
some_of Q f g None = tt
some_of Q f g (Some a) = g a

own_string : (n : ℕ) (j : Json) → ShortString n j → IfFound (ShortData n) (of_json j)
own_string n json.null h = tt
own_string n (json.boolean b) h = tt
own_string n (json.number s) h = some_of (ShortData n) serde.number (λ x. tt) (number_of s)
own_string n (json.string s) h = h
own_string n (array js) h = some_of (ShortData n) serde.array (λ ds. tt) (of_items js)
own_string n (object ms) h = some_of (ShortData n) serde.object (λ ds. tt) (of_members ms serde.no_members)

and_then : {A B : Type 0} (P : A → Type 0) (Q : B → Type 0) (f : A → Option B) → ((a : A) → P a → IfFound Q (f a)) → (o : Option A) → IfFound P o → IfFound Q (option_and_then f o)
and_then P Q f g None h = tt
and_then P Q f g (Some a) h = g a h

all_put : (n : ℕ) (ms : Members) (found : serde.Members) → ShortMembers n ms → ShortFields n found → IfFound (ShortFields n) (of_members ms found)
all_put n no_members found h q = q
all_put n (member k j ms) found h q =
    and_then (ShortData n) (ShortFields n) (λ d. of_members ms (serde.put k d found)) (λ d p. all_put n ms (serde.put k d found) h.1 (ShortFields-put n k d found p q)) (of_json j) (own_string n j h.0)

abbrev ShortObject : ℕ → serde.Data → Type 0
ShortObject n serde.null = ⊤
ShortObject n (serde.boolean b) = ⊤
ShortObject n (serde.number x) = ⊤
ShortObject n (serde.string s) = ⊤
ShortObject n (serde.array ds) = ⊤
ShortObject n (serde.object ms) = ShortFields n ms

as_object : (n : ℕ) (o : Option serde.Members) → IfFound (ShortFields n) o → IfFound (ShortObject n) (option_map serde.object o)
as_object n None h = tt
as_object n (Some ms) h = h

ShortObject-of_json : (n : ℕ) (j : Json) → ShortValue n j → IfFound (ShortObject n) (of_json j)
ShortObject-of_json n json.null h = tt
ShortObject-of_json n (json.boolean b) h = tt
ShortObject-of_json n (json.number s) h = some_of (ShortObject n) serde.number (λ x. tt) (number_of s)
ShortObject-of_json n (json.string s) h = tt
ShortObject-of_json n (array js) h = some_of (ShortObject n) serde.array (λ ds. tt) (of_items js)
ShortObject-of_json n (object ms) h = as_object n (of_members ms serde.no_members) (all_put n ms serde.no_members h tt)

last : (n : ℕ) (o : Option (Json × List Token)) → Gives n (ShortValue n) o → IfFound (ShortValue n) (option_and_then (λ p. if_last p.0 p.1) o)
last n None h = tt
last n (Some (j, [])) h = h.0
last n (Some (j, t ∷ ts)) h = tt

ShortObject-read : (text : List ℕ) → IfFound (ShortObject (length text)) (read text)
ShortObject-read text =
    let n = length text in
    and_then (ShortValue n) (ShortObject n) of_json (ShortObject-of_json n) _
    (last n (value max_depth (tokens text)) (Keeps-value n max_depth (tokens text) (Tokens-punctuate n (lex between text) (Lexemes-lex n text between (omega arith)) fresh)))

-- ---- the member that is found

either_found : (n : ℕ) (o : Ordering) (a b c : Option serde.Data) → IfFound (ShortData n) a → IfFound (ShortData n) b → IfFound (ShortData n) c → IfFound (ShortData n) (match_ordering o a b c)
either_found n Less a b c p q r = p
either_found n Equal a b c p q r = q
either_found n Greater a b c p q r = r

field : (n : ℕ) (name : List ℕ) (ms : serde.Members) → ShortFields n ms → IfFound (ShortData n) (get_member name ms)
field n name serde.no_members h = tt
field n name (serde.member l e ms) h = either_found n (slice_cmp nat_cmp name l) _ _ _ (field n name ms h.1) h.0 (field n name ms h.1)

found : (n : ℕ) (name : List ℕ) (d : serde.Data) → ShortObject n d → IfFound (ShortData n) (get name d)
found n name serde.null h = tt
found n name (serde.boolean b) h = tt
found n name (serde.number x) h = tt
found n name (serde.string s) h = tt
found n name (serde.array ds) h = tt
found n name (serde.object ms) h = field n name ms h

text_of : (n : ℕ) (d : serde.Data) → ShortData n d → IfFound (λ s. length s ≤ n) (as_str d)
text_of n serde.null h = tt
text_of n (serde.boolean b) h = tt
text_of n (serde.number x) h = tt
text_of n (serde.string s) h = h
text_of n (serde.array ds) h = tt
text_of n (serde.object ms) h = tt

-- a string that is a member of what was read is no longer than the text
member_length : (text name : List ℕ) (d : serde.Data) → ShortObject (length text) d → IfFound (λ s. length s ≤ length text) (string_at name d)
member_length text name d h = and_then (ShortData (length text)) (λ s. length s ≤ length text) as_str (text_of (length text)) (get name d) (found (length text) name d h)

document_text : (n : ℕ) (d : serde.Data) (o : Option (List ℕ)) → IfFound (λ s. length s ≤ n) o
    → IfFound (λ (document : Doc). length document.text ≤ n) (option_map (λ text. record { text = text; label = string_at (codes "label") d }) o)
document_text n d None h = tt
document_text n d (Some text) h = h

if_utf8 : (b : Bool) (text : List ℕ) → IfFound (ShortObject (length text)) (if b then read text else None)
if_utf8 true text = ShortObject-read text
if_utf8 false text = tt

-- the text of a line's document is no longer than the line
pub document_length : (line : List ℕ) (document : Doc) → document_in line ≡ Some document → length document.text ≤ length line
unfolding document_in
document_length line document is =
    let n = length line in
    subst (IfFound (λ (d : Doc). length d.text ≤ n)) is
    (and_then (ShortObject n) (λ (d : Doc). length d.text ≤ n) document_of (λ d h. document_text n d (string_at (codes "text") d) (member_length line (codes "text") d h)) (value_of line) (if_utf8 (is_utf8 line) line))

-- the same of a document that was found
pub found_length : (line : List ℕ) (found : Option InputRef) → option_map doc_of_ref found ≡ document_in line → IfSome found (λ input. length input.text.now ≤ length line)
found_length line None is = tt
found_length line (Some input) is = document_length line (doc_of_ref input) (sym is)
