-- Readers of one token: names, strings, patterns and integers.
use Rattle.std.proofs.Common.{◌≡◌, ◌⊎◌, ⊎_elim, ℕ, true, false, List, [], ◌∷◌, Some, refl, arith}
use Rattle.aql_lexer.specs.Kinds.{Kind}
use Rattle.aql_lexer.specs.Kinds as k
use Rattle.aql_syntax.specs.Spellings.{free, is_reserved, SpellsName, SpellsDictionary}
use Rattle.aql_syntax.specs.Parts.{Token, IsName, IsDictionaryName, IsInt}
use Rattle.aql_syntax.specs.Places.{Placing, placed_name, placed_number}
use Rattle.aql_syntax.specs.Trees.{Name, Number}
use Rattle.aql_parser.specs.Nesting.{is_sign, IsWithin}
use Rattle.aql_parser.specs.Readers.{Reader, a_name, sees_name, a_string, a_pattern, an_int}
use Rattle.aql_parser.specs.Reading.Extractions.{a_dictionary}
use Rattle.aql_parser.proofs.Rules.{Found, Reads, Always, within_after, none_some, some_parts, chosen, carried}

-- what follows one token that is no parenthesis
module _ {A : Type 0} {read : Reader A} {place : Placing A} (d n : ℕ) (kind : Kind) (a : A) (rest : List Kind) (within : IsWithin d (kind ∷ rest)) where
  pub found_token : is_sign "(" kind ≡ false → is_sign ")" kind ≡ false → read n (kind ∷ rest) ≡ Some ((place n a).0, (place n a).1, rest) → Found read place d n (kind ∷ rest) a rest
  found_token no_open no_close reads = record {
    reads = reads;
    within = within_after d kind rest no_open no_close within;
    shorter = omega arith;
  }

pub name_sound : (n : ℕ) (ks : List Kind) (a : Name) (m : ℕ) (rest : List Kind) → a_name n ks ≡ Some (a, m, rest) → IsName free a ks rest
name_sound n [] a m rest h = absurd (none_some _ h)
name_sound n (k.word w ∷ ks) a m rest h = ⊎_elim
    (λ c. absurd (none_some _ c.1))
    (λ c.
    let same = some_parts _ _ _ _ _ _ c.1 in
    carried (IsName free) (record { text = w; at = n }) a (k.word w ∷ ks) ks rest same.0 same.2 (k.word w, refl, (refl, c.0)))
    (chosen (is_reserved w) _ _ _ h)
name_sound n (k.name t ∷ ks) a m rest h =
    let same = some_parts _ _ _ _ _ _ h in
    carried (IsName free) (record { text = t; at = n }) a (k.name t ∷ ks) ks rest same.0 same.2 (k.name t, refl, (refl, tt))
name_sound n (k.int i ∷ ks) a m rest h = absurd (none_some _ h)
name_sound n (k.str t ∷ ks) a m rest h = absurd (none_some _ h)
name_sound n (k.regex t ∷ ks) a m rest h = absurd (none_some _ h)
name_sound n (k.symbol c ∷ ks) a m rest h = absurd (none_some _ h)

name_found : (d n : ℕ) (kind : Kind) (a : Name) (rest : List Kind) → IsWithin d (kind ∷ rest) → SpellsName free a.text kind → Found a_name placed_name d n (kind ∷ rest) a rest
name_found d n (k.word w) a rest within h = found_token d n (k.word w) a rest within refl refl (rw (h.1, h.0) refl)
name_found d n (k.name t) a rest within h = found_token d n (k.name t) a rest within refl refl (rw h.0 refl)
name_found d n (k.int i) a rest within h = absurd h
name_found d n (k.str t) a rest within h = absurd h
name_found d n (k.regex t) a rest within h = absurd h
name_found d n (k.symbol c) a rest within h = absurd h

pub reads_name : (d : ℕ) → Reads a_name (IsName free) placed_name d Always
reads_name d = record {
  sound = name_sound;
  complete = λ n ks a rest stops within h.
      rw h.1 (name_found d n h.0 a rest (rw h.1 at within) h.2);
}

-- a name is seen where it begins
pub name_seen : (a : Name) (ks rest : List Kind) → IsName free a ks rest → sees_name ks ≡ true
name_seen a ks rest h = rw h.1 (kind_seen h.0 h.2)
  where
    kind_seen : (kind : Kind) → SpellsName free a.text kind → sees_name (kind ∷ rest) ≡ true
    kind_seen (k.word w) h = rw h.1 refl
    kind_seen (k.name t) h = refl
    kind_seen (k.int i) h = absurd h
    kind_seen (k.str t) h = absurd h
    kind_seen (k.regex t) h = absurd h
    kind_seen (k.symbol c) h = absurd h

dictionary_sound : (n : ℕ) (ks : List Kind) (a : Name) (m : ℕ) (rest : List Kind) → a_dictionary n ks ≡ Some (a, m, rest) → IsDictionaryName free a ks rest
dictionary_sound n [] a m rest h = absurd (none_some _ h)
dictionary_sound n (k.str t ∷ ks) a m rest h =
    let same = some_parts _ _ _ _ _ _ h in
    carried (IsDictionaryName free) (record { text = t; at = n }) a (k.str t ∷ ks) ks rest same.0 same.2 (k.str t, refl, (refl, tt))
dictionary_sound n (k.word w ∷ ks) a m rest h = ⊎_elim
    (λ c. absurd (none_some _ c.1))
    (λ c.
    let same = some_parts _ _ _ _ _ _ c.1 in
    carried (IsDictionaryName free) (record { text = w; at = n }) a (k.word w ∷ ks) ks rest same.0 same.2 (k.word w, refl, (refl, c.0)))
    (chosen (is_reserved w) _ _ _ h)
dictionary_sound n (k.name t ∷ ks) a m rest h =
    let same = some_parts _ _ _ _ _ _ h in
    carried (IsDictionaryName free) (record { text = t; at = n }) a (k.name t ∷ ks) ks rest same.0 same.2 (k.name t, refl, (refl, tt))
dictionary_sound n (k.int i ∷ ks) a m rest h = absurd (none_some _ h)
dictionary_sound n (k.regex t ∷ ks) a m rest h = absurd (none_some _ h)
dictionary_sound n (k.symbol c ∷ ks) a m rest h = absurd (none_some _ h)

dictionary_found : (d n : ℕ) (kind : Kind) (a : Name) (rest : List Kind) → IsWithin d (kind ∷ rest) → SpellsDictionary free a.text kind → Found a_dictionary placed_name d n (kind ∷ rest) a rest
dictionary_found d n (k.word w) a rest within h = found_token d n (k.word w) a rest within refl refl (rw (h.1, h.0) refl)
dictionary_found d n (k.name t) a rest within h = found_token d n (k.name t) a rest within refl refl (rw h.0 refl)
dictionary_found d n (k.str t) a rest within h = found_token d n (k.str t) a rest within refl refl (rw h.0 refl)
dictionary_found d n (k.int i) a rest within h = absurd h
dictionary_found d n (k.regex t) a rest within h = absurd h
dictionary_found d n (k.symbol c) a rest within h = absurd h

pub reads_dictionary : (d : ℕ) → Reads a_dictionary (IsDictionaryName free) placed_name d Always
reads_dictionary d = record {
  sound = dictionary_sound;
  complete = λ n ks a rest stops within h.
      rw h.1 (dictionary_found d n h.0 a rest (rw h.1 at within) h.2);
}

string_sound : (n : ℕ) (ks : List Kind) (a : Name) (m : ℕ) (rest : List Kind) → a_string n ks ≡ Some (a, m, rest) → Token (k.str a.text) ks rest
string_sound n (k.str t ∷ ks) a m rest h =
    let same = some_parts _ _ _ _ _ _ h in
    carried (λ (a : Name). Token (k.str a.text)) (record { text = t; at = n }) a (k.str t ∷ ks) ks rest same.0 same.2 refl
string_sound n [] a m rest h = absurd (none_some _ h)
string_sound n (k.word w ∷ ks) a m rest h = absurd (none_some _ h)
string_sound n (k.name t ∷ ks) a m rest h = absurd (none_some _ h)
string_sound n (k.int i ∷ ks) a m rest h = absurd (none_some _ h)
string_sound n (k.regex t ∷ ks) a m rest h = absurd (none_some _ h)
string_sound n (k.symbol c ∷ ks) a m rest h = absurd (none_some _ h)

pub reads_string : (d : ℕ) → Reads a_string (λ a. Token (k.str a.text)) placed_name d Always
reads_string d = record {
  sound = string_sound;
  complete = λ n ks a rest stops within h. rw h (found_token d n (k.str a.text) a rest (rw h at within) refl refl refl);
}

pattern_sound : (n : ℕ) (ks : List Kind) (a : Name) (m : ℕ) (rest : List Kind) → a_pattern n ks ≡ Some (a, m, rest) → Token (k.regex a.text) ks rest
pattern_sound n (k.regex t ∷ ks) a m rest h =
    let same = some_parts _ _ _ _ _ _ h in
    carried (λ (a : Name). Token (k.regex a.text)) (record { text = t; at = n }) a (k.regex t ∷ ks) ks rest same.0 same.2 refl
pattern_sound n [] a m rest h = absurd (none_some _ h)
pattern_sound n (k.word w ∷ ks) a m rest h = absurd (none_some _ h)
pattern_sound n (k.name t ∷ ks) a m rest h = absurd (none_some _ h)
pattern_sound n (k.int i ∷ ks) a m rest h = absurd (none_some _ h)
pattern_sound n (k.str t ∷ ks) a m rest h = absurd (none_some _ h)
pattern_sound n (k.symbol c ∷ ks) a m rest h = absurd (none_some _ h)

pub reads_pattern_text : (d : ℕ) → Reads a_pattern (λ a. Token (k.regex a.text)) placed_name d Always
reads_pattern_text d = record {
  sound = pattern_sound;
  complete = λ n ks a rest stops within h. rw h (found_token d n (k.regex a.text) a rest (rw h at within) refl refl refl);
}

int_sound : (n : ℕ) (ks : List Kind) (a : Number) (m : ℕ) (rest : List Kind) → an_int n ks ≡ Some (a, m, rest) → IsInt a ks rest
int_sound n (k.int i ∷ ks) a m rest h =
    let same = some_parts _ _ _ _ _ _ h in
    carried IsInt (record { value = i; at = n }) a (k.int i ∷ ks) ks rest same.0 same.2 refl
int_sound n [] a m rest h = absurd (none_some _ h)
int_sound n (k.word w ∷ ks) a m rest h = absurd (none_some _ h)
int_sound n (k.name t ∷ ks) a m rest h = absurd (none_some _ h)
int_sound n (k.str t ∷ ks) a m rest h = absurd (none_some _ h)
int_sound n (k.regex t ∷ ks) a m rest h = absurd (none_some _ h)
int_sound n (k.symbol c ∷ ks) a m rest h = absurd (none_some _ h)

pub reads_int : (d : ℕ) → Reads an_int IsInt placed_number d Always
reads_int d = record {
  sound = int_sound;
  complete = λ n ks a rest stops within h. rw h (found_token d n (k.int a.value) a rest (rw h at within) refl refl refl);
}
