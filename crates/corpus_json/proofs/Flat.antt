-- What is read of an object whose members are strings without escapes.
use Rattle.std.proofs.Common.{◌≡◌, ℕ, suc, ◌+◌, ◌-◌, ◌<◌, ◌≤◌, Bool, true, false, cond, ◌==◌, ◌||◌, List, [], ◌∷◌, ◌++◌, length, take, drop, get_or, Some, inl, inr, refl, sym, ap, ap₂, ◌∙◌, subst, arith, lt_of_not-le}
use Rattle.std.proofs.lemmas.Bool.{or_parts, not-true, eqb-false, ltb-false, false≢true}
use Rattle.std.proofs.lemmas.List.{drop_more, drop_all, drop-drop, get_or_past}
use lib.ListN.{take-append-drop}
use Rattle.std.specs.List.{prefix_len}
use Rattle.json.specs.Token.{Token}
use Rattle.json.specs.Token as tok
use Rattle.json.specs.Lex.{Lexeme, token, comma, colon, string_token, lex, between, Place, fresh, after_value, after_comma, after_key, may_begin, begins_colon, punctuate, tokens}
use Rattle.json.specs.Print.{escape}
use Rattle.json.specs.Run.{is_plain}
use Rattle.json.specs.Json.{read_key, members, value}
use Rattle.json.proofs.Grammar.{value_is}
use Rattle.json.proofs.Printed.Strings.{escape_byte_plain, content-escape, lex-escape}
use Rattle.serde_json.specs.Data.{Members, string, no_members, put}
use Rattle.serde_json.specs.Read.{read, of_json, of_members, converted}
use Rattle.corpus_json.specs.Flat.{IsObjectOf, IsPlainString, IsPastBlank, IsMemberAt}
use Rattle.corpus_json.specs.Passing.{members_at, whole_value, object_alone, AreStrings, PutsString}
use Rattle.corpus_json.specs.declared.read.flat.Member.{Member}
use Rattle.corpus_json.specs.declared.read.members.Strings.{Strings}
use Rattle.corpus_json.proofs.Passing.{member_passed, members_over, whole_object}

-- ---- a string

run_step : (p : Bool) (x n : ℕ) (xs : List ℕ) → p ≡ is_plain x → escape (take n xs) ≡ take n xs → escape (take (cond p (1 + n) 0) (x ∷ xs)) ≡ take (cond p (1 + n) 0) (x ∷ xs)
run_step false x n xs e ih = refl
run_step true x n xs e ih =
    let next : suc n ≡ 1 + n = omega arith in
    let none = or_parts ((x == 34) || (x == 92)) _ (not-true _ (sym e)) in
    let tests = or_parts (x == 34) _ none.0 in
    subst (λ (k : ℕ). escape (take k (x ∷ xs)) ≡ take k (x ∷ xs)) next (λ i. escape_byte_plain x (eqb-false x 34 tests.0) (eqb-false x 92 tests.1) (ltb-false x 32 none.1) i ++ ih i)

-- plain bytes stand for themselves
plain_taken : (xs : List ℕ) → escape (take (prefix_len is_plain xs) xs) ≡ take (prefix_len is_plain xs) xs
plain_taken [] = refl
plain_taken (x ∷ xs) = run_step (is_plain x) x (prefix_len is_plain xs) xs refl (plain_taken xs)

-- a byte that isn't 0 stands at a place, which is in the text
pub byte_within : (d : List ℕ) (i x : ℕ) → 0 < x → get_or d i 0 ≡ x → i < length d
byte_within d i x some is = lt_of_not-le (λ h. omega (arith, get_or_past d i 0 h))

byte_there : (d : List ℕ) (i x : ℕ) → 0 < x → get_or d i 0 ≡ x → drop i d ≡ x ∷ drop (i + 1) d
byte_there d i x some is = drop_more d i 0 (byte_within d i x some is) ∙ ap (λ (y : ℕ). y ∷ drop (i + 1) d) is

-- what stands between the quotes
abbrev pub inner : List ℕ → ℕ → ℕ → List ℕ
inner d at stop = take (stop - (at + 1)) (drop (at + 1) d)

module _ (d : List ℕ) where
  string_split : (at stop : ℕ) → IsPlainString d at stop → drop at d ≡ 34 ∷ (escape (inner d at stop) ++ 34 ∷ drop (stop + 1) d)
  string_split at stop is =
      let xs = drop (at + 1) d in
      let n = prefix_len is_plain xs in
      let n_is : n ≡ stop - (at + 1) = omega (arith, is.stop_is) in
      let behind : drop n xs ≡ 34 ∷ drop (stop + 1) d = drop-drop n (at + 1) d ∙ ap (λ (k : ℕ). drop k d) (sym is.stop_is) ∙ byte_there d stop 34 (omega arith) is.last in
      let front : take n xs ≡ escape (inner d at stop) = sym (plain_taken xs) ∙ ap (λ (k : ℕ). escape (take k xs)) n_is in
      byte_there d at 34 (omega arith) is.first
      ∙ ap (λ (l : List ℕ). 34 ∷ l) (sym (take-append-drop n xs) ∙ ap₂ (λ (a b : List ℕ). a ++ b) front behind)

  string_lexed : (at stop : ℕ) → IsPlainString d at stop → lex between (drop at d) ≡ token (tok.string (inner d at stop)) ∷ lex between (drop (stop + 1) d)
  unfolding lex
  string_lexed at stop is =
      ap (lex between) (string_split at stop is)
      ∙ ap₂ (λ o l. token (string_token o) ∷ l) (content-escape (inner d at stop) (drop (stop + 1) d)) (lex-escape (inner d at stop) (drop (stop + 1) d))

  -- ---- what stands between strings

  colon_lexed : (i : ℕ) → get_or d i 0 ≡ 58 → lex between (drop i d) ≡ colon ∷ lex between (drop (i + 1) d)
  unfolding lex
  colon_lexed i is = ap (lex between) (byte_there d i 58 (omega arith) is)

  comma_lexed : (i : ℕ) → get_or d i 0 ≡ 44 → lex between (drop i d) ≡ comma ∷ lex between (drop (i + 1) d)
  unfolding lex
  comma_lexed i is = ap (lex between) (byte_there d i 44 (omega arith) is)

  brace_lexed : (i : ℕ) → get_or d i 0 ≡ 125 → lex between (drop i d) ≡ token tok.end_object ∷ lex between (drop (i + 1) d)
  unfolding lex
  brace_lexed i is = ap (lex between) (byte_there d i 125 (omega arith) is)

  space_lexed : (i : ℕ) → get_or d i 0 ≡ 32 → lex between (drop i d) ≡ lex between (drop (i + 1) d)
  unfolding lex
  space_lexed i is = ap (lex between) (byte_there d i 32 (omega arith) is)

  blank_lexed : (at past : ℕ) → IsPastBlank d at past → lex between (drop at d) ≡ lex between (drop past d)
  blank_lexed at past (inl e) = ap (λ (k : ℕ). lex between (drop k d)) (sym e)
  blank_lexed at past (inr (e, space)) = space_lexed at space ∙ ap (λ (k : ℕ). lex between (drop k d)) (sym e)

  end_lexed : lex between (drop (length d) d) ≡ []
  unfolding lex
  end_lexed = ap (lex between) (drop_all (length d) d (omega arith))

  -- ---- a member

  abbrev pub name_of : ℕ → Member → List ℕ
  name_of at m = inner d at m.name_end

  abbrev pub string_of : Member → List ℕ
  string_of m = inner d m.from m.end

  member_lexed : (at : ℕ) (m : Member) → IsMemberAt d at m → lex between (drop at d) ≡ token (tok.string (name_of at m)) ∷ colon ∷ token (tok.string (string_of m)) ∷ lex between (drop (m.end + 1) d)
  member_lexed at m is =
      let two : m.name_end + 1 + 1 ≡ m.name_end + 2 = omega arith in
      string_lexed at m.name_end is.name
      ∙ ap (λ (l : List Lexeme). token (tok.string (name_of at m)) ∷ l)
      (colon_lexed (m.name_end + 1) is.colon
      ∙ ap (λ (l : List Lexeme). colon ∷ l)
      (ap (λ (k : ℕ). lex between (drop k d)) two ∙ blank_lexed (m.name_end + 2) m.from is.blank ∙ string_lexed m.from m.end is.string))

member_tokens : (p : Place) (k s : List ℕ) (ls : List Lexeme) → may_begin p ≡ true → begins_colon ls ≡ false
    → punctuate p (token (tok.string k) ∷ colon ∷ token (tok.string s) ∷ ls) ≡ tok.key k ∷ tok.string s ∷ punctuate after_value ls
unfolding punctuate
member_tokens fresh k s ls may apart = rw apart
member_tokens after_value k s ls may apart = absurd (false≢true may)
member_tokens after_comma k s ls may apart = rw apart
member_tokens after_key k s ls may apart = absurd (false≢true may)

after_comma_tokens : (ls : List Lexeme) → punctuate after_value (comma ∷ ls) ≡ punctuate after_comma ls
unfolding punctuate
after_comma_tokens ls = refl

last_tokens : punctuate after_value (token tok.end_object ∷ []) ≡ tok.end_object ∷ []
unfolding punctuate
last_tokens = refl

begun_tokens : (xs : List ℕ) → tokens (123 ∷ xs) ≡ tok.begin_object ∷ punctuate fresh (lex between xs)
unfolding lex punctuate
begun_tokens xs = refl

-- ---- from member to member

-- the tokens from a place on, where a member or the first one may begin
abbrev pub tokens_from : List ℕ → Place → ℕ → List Token
tokens_from d p at = punctuate p (lex between (drop at d))

-- the members before a place were read, and these are their strings
pub record IsReadTo (d : List ℕ) (at : ℕ) (strings : Strings) : Type 0 where
  pub place : Place
  pub may : may_begin place ≡ true
  pub n : ℕ
  pub found : Members
  pub enough : length (tokens_from d place at) ≤ n
  pub same : members_at 126 (tokens_from d fresh 1) ≡ converted (λ ms. of_members ms found) (members (value 126) n (tokens_from d place at))
  pub strings_are : AreStrings strings found

pub begins : (d : List ℕ) (strings : Strings) → AreStrings strings no_members → IsReadTo d 1 strings
begins d strings none = record { place = fresh; may = refl; n = length (tokens_from d fresh 1); found = no_members; enough = omega arith; same = refl; strings_are = none }

module _ (d : List ℕ) (at : ℕ) (strings new : Strings) (read_to : IsReadTo d at strings) (m : Member) (is : IsMemberAt d at m) (puts : PutsString strings new (name_of d at m) (Some (string_of d m))) where
  passed : (rest : List Token) → tokens_from d read_to.place at ≡ tok.key (name_of d at m) ∷ tok.string (string_of d m) ∷ rest
      → members_at 126 (tokens_from d fresh 1) ≡ converted (λ ms. of_members ms (put (name_of d at m) (string (string_of d m)) read_to.found)) (members (value 126) (read_to.n - 1) rest)
  passed rest tokens_are =
      let some : 0 < read_to.n = omega (arith, read_to.enough, ap length tokens_are) in
      read_to.same
      ∙ member_passed (value 126) read_to.found read_to.n (name_of d at m) (tokens_from d read_to.place at) (tok.string (string_of d m) ∷ rest) rest (string (string_of d m)) some
      (ap read_key tokens_are) (ap (converted of_json) (value_is 126 (tok.string (string_of d m) ∷ rest)))

  pub goes_on : (next : ℕ) → get_or d (m.end + 1) 0 ≡ 44 → IsPastBlank d (m.end + 1 + 1) next → IsReadTo d next new
  goes_on next is_comma blank =
      let behind : lex between (drop (m.end + 1) d) ≡ comma ∷ lex between (drop next d) =
      comma_lexed d (m.end + 1) is_comma ∙ ap (λ (l : List Lexeme). comma ∷ l) (blank_lexed d (m.end + 1 + 1) next blank) in
      let rest = tokens_from d after_comma next in
      let tokens_are : tokens_from d read_to.place at ≡ tok.key (name_of d at m) ∷ tok.string (string_of d m) ∷ rest =
      ap (punctuate read_to.place) (member_lexed d at m is ∙ ap (λ (l : List Lexeme). token (tok.string (name_of d at m)) ∷ colon ∷ token (tok.string (string_of d m)) ∷ l) behind)
      ∙ member_tokens read_to.place (name_of d at m) (string_of d m) (comma ∷ lex between (drop next d)) read_to.may refl
      ∙ ap (λ (l : List Token). tok.key (name_of d at m) ∷ tok.string (string_of d m) ∷ l) (after_comma_tokens (lex between (drop next d))) in
      record {
        place = after_comma;
        may = refl;
        n = read_to.n - 1;
        found = put (name_of d at m) (string (string_of d m)) read_to.found;
        enough = omega (arith, read_to.enough, ap length tokens_are);
        same = passed rest tokens_are;
        strings_are = puts (string (string_of d m)) read_to.found refl read_to.strings_are;
      }

  pub finishes : get_or d 0 0 ≡ 123 → get_or d (m.end + 1) 0 ≡ 125 → m.end + 1 + 1 ≡ length d → IsObjectOf new d
  finishes brace is_brace last =
      let behind : lex between (drop (m.end + 1) d) ≡ token tok.end_object ∷ [] =
      brace_lexed d (m.end + 1) is_brace ∙ ap (λ (l : List Lexeme). token tok.end_object ∷ l) (ap (λ (k : ℕ). lex between (drop k d)) last ∙ end_lexed d) in
      let rest = tok.end_object ∷ [] in
      let tokens_are : tokens_from d read_to.place at ≡ tok.key (name_of d at m) ∷ tok.string (string_of d m) ∷ rest =
      ap (punctuate read_to.place) (member_lexed d at m is ∙ ap (λ (l : List Lexeme). token (tok.string (name_of d at m)) ∷ colon ∷ token (tok.string (string_of d m)) ∷ l) behind)
      ∙ member_tokens read_to.place (name_of d at m) (string_of d m) (token tok.end_object ∷ []) read_to.may refl
      ∙ ap (λ (l : List Token). tok.key (name_of d at m) ∷ tok.string (string_of d m) ∷ l) last_tokens in
      let all : Members = put (name_of d at m) (string (string_of d m)) read_to.found in
      let enough : length rest ≤ read_to.n - 1 = omega (arith, read_to.enough, ap length tokens_are) in
      let over : members_at 126 (tokens_from d fresh 1) ≡ Some (all, []) = passed rest tokens_are ∙ members_over (value 126) all (read_to.n - 1) rest [] enough refl in
      record {
        members = all;
        is_read = ap read (byte_there d 0 123 (omega arith) brace) ∙ ap whole_value (begun_tokens (drop 1 d)) ∙ whole_object (tokens_from d fresh 1) ∙ ap object_alone over;
        strings_are = puts (string (string_of d m)) read_to.found refl read_to.strings_are;
      }
