-- What is written for a part of the tokens is tokens of that part, spelled freely and plainly.
use Rattle.std.proofs.Common.{◌≡◌, ◌∙◌, ◌⊎◌, inl, inr, ℕ, Bool, true, false, not, ◌&&◌, List, [], ◌∷◌, ◌++◌, Option, Some, None, ◌+◌, refl, sym, subst, append_assoc, codes, All, arith}
use Rattle.std.proofs.lemmas.List.Elements.{All-append, All-nil, All-cons, All-head, All-tail}
use Rattle.std.proofs.lemmas.Slice.Eq.{bytes_eq-Decides}
use Rattle.std.proofs.lemmas.Bool.{false≢true}
use Rattle.std.proofs.lemmas.Bool.Decides.{nat_tests}
use Rattle.std.specs.Str.{bytes_eq, str_to_ascii_lowercase}
use Prim.Native.String.{String}
use Rattle.aql_lexer.specs.Kinds.{Kind}
use Rattle.aql_lexer.specs.Kinds as k
use Rattle.aql_syntax.specs.Spellings.{free, plain, same_word, is_word, is_reserved, can_be_word, can_be_name, SpellsName, SpellsDictionary}
use Rattle.aql_syntax.specs.Parts.{Part, ◌▸◌, Nothing, Nowhere, ◌or◌, Token, Keyword, IsName, IsDictionaryName, Optional, Each, Separated, Clause}
use Rattle.aql_syntax.specs.Trees.{Name}
use Rattle.aql_syntax.proofs.Standing.{word_stands, stands_word, name_stands, stands_name}
use Rattle.aql_syntax.specs.Printing.{CanStand}
use Rattle.aql_syntax.specs.Printed.{word, printed_name, printed_dictionary, printed_before, printed_optional, printed_each, printed_from, printed_separated, printed_clause}

pub record Printed (P P' : Part) (printed rest : List Kind) : Type 0 where
  pub after : All CanStand rest
  pub standing : All CanStand printed
  pub freely : (out : List Kind) → P (printed ++ out) out
  pub plainly : (out : List Kind) → P' (printed ++ out) out

-- P is the part spelled freely, P' the same spelled plainly
pub record Prints (P P' : Part) (printed : List Kind) : Type 0 where
  pub prints : (ks rest : List Kind) → P ks rest → All CanStand ks → Printed P P' printed rest

just : (kind : Kind) → CanStand kind → All CanStand (kind ∷ [])
just kind stands = All-cons CanStand kind [] stands (All-nil CanStand)

pub prints_nothing : Prints Nothing Nothing []
prints_nothing = record { prints = λ ks rest h all. record { after = rw h at all; standing = All-nil CanStand; freely = λ out. refl; plainly = λ out. refl } }

pub prints_token : (kind : Kind) → Prints (Token kind) (Token kind) (kind ∷ [])
prints_token kind = record {
  prints = λ ks rest h all.
      let stands : All CanStand (kind ∷ rest) = rw h at all in
      record {
        after = All-tail CanStand kind rest stands;
        standing = just kind (All-head CanStand kind rest stands);
        freely = λ out. refl;
        plainly = λ out. refl;
      };
}

pub prints_then : {P P' Q Q' : Part} {p q : List Kind} → Prints P P' p → Prints Q Q' q → Prints (P ▸ Q) (P' ▸ Q') (p ++ q)
prints_then {P} {P'} {Q} {Q'} {p} {q} first second = record {
  prints = λ ks rest h all.
      let one = first.prints ks h.0 h.1 all in
      let two = second.prints h.0 rest h.2 one.after in
      record {
        after = two.after;
        standing = All-append CanStand p q one.standing two.standing;
        freely = λ out. rw append_assoc (q ++ out, one.freely (q ++ out), two.freely out);
        plainly = λ out. rw append_assoc (q ++ out, one.plainly (q ++ out), two.plainly out);
      };
}

bytes_eq_refl : (xs : List ℕ) → bytes_eq xs xs ≡ true
bytes_eq_refl xs = (bytes_eq-Decides xs xs).1 refl

-- a word is the same as itself
pub same_word_refl : (w : List ℕ) → same_word w w ≡ true
unfolding same_word
same_word_refl w = bytes_eq_refl (str_to_ascii_lowercase w)

pub prints_keyword : (w : String) → is_word (codes w) ≡ true → Prints (Keyword free w) (Keyword plain w) (word w ∷ [])
prints_keyword w stands = record {
  prints = λ ks rest h all.
      let tail : All CanStand (k.word h.0 ∷ rest) = rw h.1 at all in
      record {
        after = All-tail CanStand (k.word h.0) rest tail;
        standing = just (word w) (word_stands (codes w) stands);
        freely = λ out. (codes w, refl, same_word_refl (codes w));
        plainly = λ out. (codes w, refl, refl);
      };
}

either_goes_on : (w v : String) (ks rest : List Kind) → (Keyword free w or Keyword free v) ks rest → All CanStand ks → All CanStand rest
either_goes_on w v ks rest (inl h) all = let tail : All CanStand (k.word h.0 ∷ rest) = rw h.1 at all in All-tail CanStand (k.word h.0) rest tail
either_goes_on w v ks rest (inr h) all = let tail : All CanStand (k.word h.0 ∷ rest) = rw h.1 at all in All-tail CanStand (k.word h.0) rest tail

-- a name is spelled by this kind, freely and plainly
record IsSpelled (text : List ℕ) (kind : Kind) : Type 0 where
  freely : SpellsName free text kind
  plainly : SpellsName plain text kind
  stands : CanStand kind

can_be_word_parts : (text : List ℕ) → can_be_word text ≡ true → (is_word text ≡ true) × (is_reserved text ≡ false)
unfolding can_be_word
can_be_word_parts text h = both (is_word text) (is_reserved text) h
  where
    both : (a b : Bool) → (a && not b) ≡ true → (a ≡ true) × (b ≡ false)
    both true false h = (refl, refl)
    both true true h = absurd (false≢true h)
    both false b h = absurd (false≢true h)

can_be_word_from : (text : List ℕ) → is_word text ≡ true → is_reserved text ≡ false → can_be_word text ≡ true
unfolding can_be_word
can_be_word_from text is free_of = rw (is, free_of) refl

spelled_by : (text : List ℕ) (b : Bool) → can_be_word text ≡ b → (can_be_word text ≡ true) ⊎ (can_be_name text ≡ true) → IsSpelled text (printed_name text)
unfolding printed_name
spelled_by text true e h =
    let parts = can_be_word_parts text e in
    rw e (record { freely = (refl, parts.1); plainly = (refl, parts.1); stands = word_stands text parts.0 })
spelled_by text false e (inl word) = absurd (false≢true (sym e ∙ word))
spelled_by text false e (inr name) = rw e (record { freely = (refl, tt); plainly = (refl, e); stands = name_stands text name })

-- a kind that stands and spells a name shows that the name can stand
nameable : (text : List ℕ) (kind : Kind) → SpellsName free text kind → CanStand kind → (can_be_word text ≡ true) ⊎ (can_be_name text ≡ true)
nameable text (k.word w) h stands = inl (rw h.0 at (can_be_word_from w (stands_word w stands) h.1))
nameable text (k.name n) h stands = inr (rw h.0 at (stands_name n stands))
nameable text (k.int n) h stands = absurd h
nameable text (k.str s) h stands = absurd h
nameable text (k.regex r) h stands = absurd h
nameable text (k.symbol c) h stands = absurd h

-- where a kind that stands spells a name, the name is a word or can stand in quotes
neither : (text : List ℕ) (kind : Kind) → SpellsName free text kind → CanStand kind → can_be_word text ≡ false → can_be_name text ≡ false → ⊥
neither text kind h stands e f = none (nameable text kind h stands)
  where
    none : (can_be_word text ≡ true) ⊎ (can_be_name text ≡ true) → ⊥
    none (inl word) = false≢true (sym e ∙ word)
    none (inr name) = false≢true (sym f ∙ name)

module _ (name : Name) where
  pub prints_name : Prints (IsName free name) (IsName plain name) (printed_name name.text ∷ [])
  prints_name = record {
    prints = λ ks rest h all.
        let tail : All CanStand (h.0 ∷ rest) = rw h.1 at all in
        let stands = All-head CanStand h.0 rest tail in
        let spelled = spelled_by name.text (can_be_word name.text) refl (nameable name.text h.0 h.2 stands) in
        record {
          after = All-tail CanStand h.0 rest tail;
          standing = just _ spelled.stands;
          freely = λ out. (printed_name name.text, refl, spelled.freely);
          plainly = λ out. (printed_name name.text, refl, spelled.plainly);
        };
  }

-- a dictionary's name is spelled by this kind, freely and plainly
record NamesDictionary (text : List ℕ) (kind : Kind) : Type 0 where
  freely : SpellsDictionary free text kind
  plainly : SpellsDictionary plain text kind
  stands : CanStand kind

-- a kind that stands and spells a dictionary's name, which is neither a word nor a name, is a string
is_string : (text : List ℕ) (kind : Kind) → SpellsDictionary free text kind → CanStand kind → can_be_word text ≡ false → can_be_name text ≡ false → CanStand (k.str text)
is_string text (k.str string) h stands e f = subst (λ (t : List ℕ). CanStand (k.str t)) h.0 stands
is_string text (k.word w) h stands e f = absurd (neither text (k.word w) h stands e f)
is_string text (k.name n) h stands e f = absurd (neither text (k.name n) h stands e f)
is_string text (k.int n) h stands e f = absurd h
is_string text (k.regex r) h stands e f = absurd h
is_string text (k.symbol c) h stands e f = absurd h

dictionary_by : (text : List ℕ) (kind : Kind) → SpellsDictionary free text kind → CanStand kind → (b c : Bool) → can_be_word text ≡ b → can_be_name text ≡ c → NamesDictionary text (printed_dictionary text)
unfolding printed_dictionary
dictionary_by text kind h stands true c e f =
    let parts = can_be_word_parts text e in
    rw e (record { freely = (refl, parts.1); plainly = (refl, parts.1); stands = word_stands text parts.0 })
dictionary_by text kind h stands false true e f = rw (e, f) (record { freely = (refl, tt); plainly = (refl, e); stands = name_stands text f })
dictionary_by text kind h stands false false e f = rw (e, f) (record { freely = (refl, tt); plainly = (refl, (e, f)); stands = is_string text kind h stands e f })

pub prints_dictionary : (name : Name) → Prints (IsDictionaryName free name) (IsDictionaryName plain name) (printed_dictionary name.text ∷ [])
prints_dictionary name = record {
  prints = λ ks rest h all.
      let tail : All CanStand (h.0 ∷ rest) = rw h.1 at all in
      let spelled = dictionary_by name.text h.0 h.2 (All-head CanStand h.0 rest tail) (can_be_word name.text) (can_be_name name.text) refl refl in
      record {
        after = All-tail CanStand h.0 rest tail;
        standing = just _ spelled.stands;
        freely = λ out. (printed_dictionary name.text, refl, spelled.freely);
        plainly = λ out. (printed_dictionary name.text, refl, spelled.plainly);
      };
}

-- a part that never is needs no tokens
pub prints_nowhere : {P' : Part} {p : List Kind} → Prints Nowhere P' p
prints_nowhere = record { prints = λ ks rest h all. absurd h }

-- the separator stands before each part from part 1 on
pub printed_later : (i : ℕ) (separator : List Kind) → printed_before (i + 1) separator ≡ separator
printed_later i separator = grind (arith, nat_tests)

-- one of two keywords, of which the second is written, and is the only plain one
pub prints_either : (w v : String) → is_word (codes v) ≡ true → Prints (Keyword free w or Keyword free v) (Keyword plain v) (word v ∷ [])
prints_either w v stands = record {
  prints = λ ks rest h all. record {
    after = either_goes_on w v ks rest h all;
    standing = just (word v) (word_stands (codes v) stands);
    freely = λ out. inr (codes v, refl, same_word_refl (codes v));
    plainly = λ out. (codes v, refl, refl);
  };
}

module _ {A : Type 0} (P P' : A → Part) (print : A → List Kind) (each : (x : A) → Prints (P x) (P' x) (print x)) where
  pub prints_optional : (o : Option A) → Prints (Optional P o) (Optional P' o) (printed_optional print o)
  prints_optional None = prints_nothing
  prints_optional (Some x) = each x

  pub prints_each : (xs : List A) → Prints (Each P xs) (Each P' xs) (printed_each print xs)
  prints_each [] = prints_nothing
  prints_each (x ∷ xs) = prints_then (each x) (prints_each xs)

module _ {A : Type 0} (S S' : Part) (separator : List Kind) (P P' : A → Part) (print : A → List Kind) (separates : Prints S S' separator) (each : (x : A) → Prints (P x) (P' x) (print x)) where
  prints_others : (i : ℕ) (xs : List A) → Prints (Each (λ x. S ▸ P x) xs) (Each (λ x. S' ▸ P' x) xs) (printed_from (i + 1) separator print xs)
  prints_others i [] = prints_nothing
  prints_others i (x ∷ xs) =
      let parted : Prints ((S ▸ P x) ▸ Each (λ y. S ▸ P y) xs) ((S' ▸ P' x) ▸ Each (λ y. S' ▸ P' y) xs) ((separator ++ print x) ++ printed_from (i + 1 + 1) separator print xs) =
      prints_then (prints_then separates (each x)) (prints_others (i + 1) xs) in
      rw (printed_later i separator) (rw append_assoc at parted)

  pub prints_separated : (xs : List A) → Prints (Separated S P xs) (Separated S' P' xs) (printed_separated separator print xs)
  prints_separated [] = prints_nowhere
  prints_separated (x ∷ xs) = prints_then (each x) (prints_others 0 xs)

  pub prints_clause : (B B' : Part) (begin : List Kind) → Prints B B' begin → (xs : List A) → Prints (Clause B S P xs) (Clause B' S' P' xs) (printed_clause begin separator print xs)
  prints_clause B B' begin begins [] = prints_nothing
  prints_clause B B' begin begins (x ∷ xs) = prints_then begins (prints_separated (x ∷ xs))
