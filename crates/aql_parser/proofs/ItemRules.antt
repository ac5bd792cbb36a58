-- Items are read, and what the keywords tell apart.
use Rattle.std.proofs.Common.{◌≡◌, ◌∙◌, ◌⊎◌, ⊎_elim, ℕ, ◌+◌, Bool, true, false, List, [], ◌∷◌, Option, Some, None, refl, ap, sym, arith, codes, if◌then◌else◌}
use Rattle.std.proofs.lemmas.Bool.{false≢true}
use Rattle.std.proofs.lemmas.Slice.Eq.{bytes_eq-Decides}
use Rattle.std.specs.Str.{bytes_eq, str_to_ascii_lowercase}
use Rattle.std.specs.List.{list_any}
use Prim.Native.String.{String}
use Rattle.aql_lexer.specs.Kinds.{Kind}
use Rattle.aql_lexer.specs.Kinds as k
use Rattle.aql_syntax.specs.Spellings.{free, is_reserved, reserved_words, same_word, SpellsName}
use Rattle.aql_syntax.specs.Parts.{Keyword, IsName}
use Rattle.aql_syntax.specs.Grammar.Expressions.{IsTerm, IsNamed, IsItem}
use Rattle.aql_syntax.specs.Places.{placed_name, placed_term, placed_item}
use Rattle.aql_syntax.specs.Trees.{Name, Term, int, str, regex, column, bare, call, star, Item}
use Rattle.aql_parser.specs.Nesting.{IsWithin}
use Rattle.aql_parser.specs.Readers.{◌▷◌, mapped, keyword, sees, sees_symbol, sees_name, a_name, after}
use Rattle.aql_parser.specs.Reading.Expressions.{refused, read_term, is_column, read_item}
use Rattle.aql_parser.proofs.Rules.{Found, Reads, bind, none_some, some_parts, chosen, carried, takes_keyword, reads_token, reads_after, sees_word_is}
use Rattle.aql_parser.proofs.NameRules.{reads_name, name_sound}
use Rattle.aql_parser.proofs.ExpressionRules.{StopsTerm, reads_term}

-- the lower case of a word decides what it is the same as
same_lower : (v w : List ℕ) → same_word v w ≡ true → str_to_ascii_lowercase v ≡ str_to_ascii_lowercase w
unfolding same_word
same_lower v w h = (bytes_eq-Decides (str_to_ascii_lowercase v) (str_to_ascii_lowercase w)).0 h

same_by_lower : (v w : List ℕ) → str_to_ascii_lowercase v ≡ str_to_ascii_lowercase w → (u : List ℕ) → same_word v u ≡ same_word w u
unfolding same_word
same_by_lower v w e u = ap (λ x. bytes_eq x (str_to_ascii_lowercase u)) e

-- a word that is the keyword w is no other
pub no_other : (v w u : List ℕ) → same_word v w ≡ true → same_word w u ≡ false → same_word v u ≡ false
no_other v w u h other = same_by_lower v w (same_lower v w h) u ∙ other

-- and it is reserved where w is
pub reserved_as : (v w : List ℕ) → same_word v w ≡ true → is_reserved v ≡ is_reserved w
unfolding is_reserved
reserved_as v w h = any_same reserved_words
  where
    any_same : (words : List (List ℕ)) → list_any (λ u. same_word v u) words ≡ list_any (λ u. same_word w u) words
    any_same [] = refl
    any_same (u ∷ us) = rw (same_by_lower v w (same_lower v w h) u, any_same us) refl

-- where a keyword stands no sign does, and no other keyword
pub keyword_no_sign : (w : String) (ks rest : List Kind) → Keyword free w ks rest → (c : ℕ) → sees_symbol c ks ≡ false
keyword_no_sign w ks rest h c = rw h.1 refl

pub keyword_no_other : (w u : String) → same_word (codes w) (codes u) ≡ false → (ks rest : List Kind) → Keyword free w ks rest → sees u ks ≡ false
keyword_no_other w u other ks rest h = rw h.1 (no_other h.0 (codes w) (codes u) h.2 other)

pub keyword_no_name : (w : String) → is_reserved (codes w) ≡ true → (ks rest : List Kind) → Keyword free w ks rest → sees_name ks ≡ false
keyword_no_name w reserved ks rest h = rw h.1 (rw (reserved_as h.0 (codes w) h.2 ∙ reserved) refl)

pub keyword_stops_term : (w : String) (ks rest : List Kind) → Keyword free w ks rest → StopsTerm ks
keyword_stops_term w ks rest h = (keyword_no_sign w ks rest h 46, keyword_no_sign w ks rest h 40)

-- no item goes on here
abbrev pub StopsItem : List Kind → Type 0
StopsItem ks = StopsTerm ks × (sees "as" ks ≡ false)

column_named : (t : Term) (ks rest : List Kind) → is_column t ≡ true → IsTerm free t ks rest → IsNamed free t None ks rest
column_named (column at alias name) ks rest is h = h
column_named (int at v) ks rest is h = absurd (false≢true is)
column_named (str at x) ks rest is h = absurd (false≢true is)
column_named (regex at x) ks rest is h = absurd (false≢true is)
column_named (bare at name) ks rest is h = absurd (false≢true is)
column_named (call at w args) ks rest is h = absurd (false≢true is)
column_named (star at w) ks rest is h = absurd (false≢true is)

named_column : (t : Term) (ks rest : List Kind) → IsNamed free t None ks rest → (is_column t ≡ true) × IsTerm free t ks rest
named_column (column at alias name) ks rest h = (refl, h)
named_column (int at v) ks rest h = absurd h
named_column (str at x) ks rest h = absurd h
named_column (regex at x) ks rest h = absurd h
named_column (bare at name) ks rest h = absurd h
named_column (call at w args) ks rest h = absurd h
named_column (star at w) ks rest h = absurd h

unnamed_sound : (b : Bool) (t : Term) → is_column t ≡ b → (n : ℕ) (ks mid : List Kind) (item : Item) (m : ℕ) (rest : List Kind) → IsTerm free t ks mid → (if b then (λ (n : ℕ) (ks : List Kind). Some (record { expr = t; name = None }, n, ks)) else refused) n mid ≡ Some (item, m, rest) → IsItem free item ks rest
unnamed_sound true t is n ks mid item m rest ht h =
    let same = some_parts _ _ _ _ _ _ h in
    carried (IsItem free) (record { expr = t; name = None }) item ks mid rest same.0 same.2 (column_named t ks mid is ht)
unnamed_sound false t is n ks mid item m rest ht h = absurd (none_some _ h)

item_complete : (d n : ℕ) (ks : List Kind) (t : Term) (name : Option Name) (rest : List Kind) → StopsItem rest → IsWithin d ks → IsNamed free t name ks rest → Found (read_item d) placed_item d n ks (record { expr = t; name = name }) rest
item_complete d n ks t (Some name) rest stops within h =
    let one = (reads_term d).complete n ks t h.0 (keyword_stops_term "as" h.0 h.2.0 h.2.1) within h.1 in
    let two = (reads_after d (reads_token d (takes_keyword "as")) (reads_name d)).complete (placed_term n t).1 h.0 name rest tt one.within h.2 in
    let seen = (takes_keyword "as").tested h.0 h.2.0 h.2.1 in
    record {
      reads = rw (one.reads, seen.0) (as_read (placed_term n t).0 (placed_term n t).1 h.0 name rest seen.0 two.reads);
      within = two.within;
      shorter = omega (arith, one.shorter, two.shorter);
    }
  where
    as_read : (t : Term) (m : ℕ) (mid : List Kind) (name : Name) (rest : List Kind) → sees "as" mid ≡ true → (keyword "as" ▷ a_name) m mid ≡ Some ((placed_name (m + 1) name).0, m + 1 + 1, rest) → mapped {B = Item} (λ name. record { expr = t; name = Some name }) a_name (m + 1) (after mid) ≡ Some (record { expr = t; name = Some (placed_name (m + 1) name).0 }, m + 1 + 1, rest)
    as_read t m mid name rest seen h = let here : a_name (m + 1) (after mid) ≡ Some ((placed_name (m + 1) name).0, m + 1 + 1, rest) = rw seen at h in rw here refl
item_complete d n ks t None rest stops within h =
    let is = named_column t ks rest h in
    let one = (reads_term d).complete n ks t rest stops.0 within is.1 in
    record {
      reads = rw (one.reads, stops.1, placed_column t n ∙ is.0) refl;
      within = one.within;
      shorter = one.shorter;
    }
  where
    placed_column : (t : Term) (n : ℕ) → is_column (placed_term n t).0 ≡ is_column t
    placed_column (column at alias name) n = refl
    placed_column (int at v) n = refl
    placed_column (str at x) n = refl
    placed_column (regex at x) n = refl
    placed_column (bare at name) n = refl
    placed_column (call at w args) n = refl
    placed_column (star at w) n = refl

pub reads_item : (d : ℕ) → Reads (read_item d) (IsItem free) placed_item d StopsItem
reads_item d = record {
  sound = λ n ks item m rest h.
      let one = bind (read_term d n ks) _ _ h in
      let ht = (reads_term d).sound n ks one.0 one.1 one.2 one.3 in
      ⊎_elim
      (λ c.
      let two = bind (a_name (one.1 + 1) (after one.2)) _ _ c.1 in
      let same = some_parts _ _ _ _ _ _ two.4 in
      carried (IsItem free) (record { expr = one.0; name = Some two.0 }) item ks two.2 rest same.0 same.2
      (one.2, ht, (after one.2, sees_word_is (codes "as") one.2 c.0, name_sound (one.1 + 1) (after one.2) two.0 two.1 two.2 two.3)))
      (λ c. unnamed_sound (is_column one.0) one.0 refl one.1 ks one.2 item m rest ht c.1)
      (chosen (sees "as" one.2) _ _ _ one.4);
  complete = λ n ks item rest stops within h. item_complete d n ks item.expr item.name rest stops within h;
}

-- a name is no reserved keyword
pub name_no_keyword : (w : String) → is_reserved (codes w) ≡ true → (name : Name) (ks rest : List Kind) → IsName free name ks rest → sees w ks ≡ false
name_no_keyword w reserved name ks rest h = rw h.1 (no_keyword h.0 h.2)
  where
    apart : (v : List ℕ) (b : Bool) → same_word v (codes w) ≡ b → is_reserved v ≡ false → b ≡ false
    apart v true is unreserved = absurd (false≢true (sym unreserved ∙ (reserved_as v (codes w) is ∙ reserved)))
    apart v false is unreserved = refl

    no_keyword : (kind : Kind) → SpellsName free name.text kind → sees w (kind ∷ rest) ≡ false
    no_keyword (k.word v) spelled = apart v (same_word v (codes w)) refl spelled.1
    no_keyword (k.name x) spelled = refl
    no_keyword (k.int v) spelled = absurd spelled
    no_keyword (k.str x) spelled = absurd spelled
    no_keyword (k.regex x) spelled = absurd spelled
    no_keyword (k.symbol c) spelled = absurd spelled
