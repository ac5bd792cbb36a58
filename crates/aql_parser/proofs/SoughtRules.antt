-- The items of an extraction, and what it looks for, are read.
use Rattle.std.proofs.Common.{◌≡◌, ◌⊎◌, inl, inr, ℕ, suc, ◌<◌, Bool, true, false, ◌&&◌, List, [], ◌∷◌, length, Option, Some, None, refl, ap, arith}
use Prim.Native.String.{String}
use Rattle.aql_lexer.specs.Kinds.{Kind}
use Rattle.aql_lexer.specs.Kinds as k
use Rattle.aql_syntax.specs.Spellings.{free, is_reserved, same_word, SpellsName, SpellsDictionary}
use Rattle.aql_syntax.specs.Parts.{Part, ◌▸◌, Nowhere, Token, Symbol, Keyword, IsName, IsDictionaryName}
use Rattle.aql_syntax.specs.Grammar.Expressions.{IsTerm, IsNamed, IsItem}
use Rattle.aql_syntax.specs.Grammar.Extractions.{IsPattern, IsDict}
use Rattle.aql_syntax.specs.Grammar.Queries.{AreItemsBefore, IsExtracted}
use Rattle.aql_syntax.specs.Places.{Placing, placed_each, placed_item_before, placed_spec}
use Rattle.aql_syntax.specs.Trees.{Name, Term, int, str, regex, column, bare, call, star, Item, Spec, pattern, dict, blocks}
use Rattle.aql_parser.specs.Nesting.{IsWithin}
use Rattle.aql_parser.specs.Readers.{sees, sees_sign, symbol, after}
use Rattle.aql_parser.specs.Reading.Extractions.{sees_regex, begins_pattern, begins_dict, begins_blocks, read_sought}
use Rattle.aql_parser.specs.Reading.Queries.{begins_sought, item_before, read_items_before, read_extracted}
use Rattle.aql_parser.proofs.Rules.{Reads, Always, Made, takes_sign, reads_token, reads_pair, reads_before, reads_mapped, reads_where, reads_tested, placed_pair}
use Rattle.aql_parser.proofs.ListRules.{reads_repeated}
use Rattle.aql_parser.proofs.ItemRules.{StopsItem, reads_item, keyword_no_other, name_no_keyword}
use Rattle.aql_parser.proofs.ExtractionRules.{IsPatternSpec, IsDictSpec, IsBlocksSpec, StopsGroups, reads_pattern, reads_dict, reads_blocks}

and_false : (b : Bool) → (b && false) ≡ false
and_false true = refl
and_false false = refl

-- a keyword and a test of the token after it fail on a name, where the test fails after it
module _ (w : String) (test : List Kind → Bool) where
  name_and_then : (text : List ℕ) (kind : Kind) (ks : List Kind) → SpellsName free text kind → test ks ≡ false → (sees w (kind ∷ ks) && test (after (kind ∷ ks))) ≡ false
  name_and_then text (k.word v) ks h no_test = rw no_test (and_false _)
  name_and_then text (k.name x) ks h no_test = refl
  name_and_then text (k.int v) ks h no_test = refl
  name_and_then text (k.str x) ks h no_test = refl
  name_and_then text (k.regex x) ks h no_test = refl
  name_and_then text (k.symbol c) ks h no_test = refl

  -- and on an expression, where it fails after the expression and on each sign
  term_and_then : ((c : ℕ) (ks : List Kind) → test (k.symbol c ∷ ks) ≡ false) → (t : Term) (ks rest : List Kind) → IsTerm free t ks rest → test rest ≡ false → (sees w ks && test (after ks)) ≡ false
  term_and_then no_sign (int at v) ks rest h no_test = rw h refl
  term_and_then no_sign (str at x) ks rest h no_test = rw h refl
  term_and_then no_sign (regex at x) ks rest h no_test = rw h refl
  term_and_then no_sign (bare at name) ks rest h no_test = rw h.1 (name_and_then name.text h.0 rest h.2 no_test)
  term_and_then no_sign (column at alias name) ks rest h no_test =
      rw h.1.1 (name_and_then alias.text h.1.0 h.0 h.1.2 (rw h.2.1 (no_sign 46 h.2.0)))
  term_and_then no_sign (call at v args) ks rest h no_test = rw (h.1, h.2.1, no_sign 40 h.2.0) (and_false _)
  term_and_then no_sign (star at v) ks rest h no_test = rw (h.1, h.2.1, no_sign 40 h.2.0) (and_false _)

  column_and_then : ((c : ℕ) (ks : List Kind) → test (k.symbol c ∷ ks) ≡ false) → (t : Term) (ks rest : List Kind) → IsNamed free t None ks rest → (sees w ks && test (after ks)) ≡ false
  column_and_then no_sign (column at alias name) ks rest h =
      rw h.1.1 (name_and_then alias.text h.1.0 h.0 h.1.2 (rw h.2.1 (no_sign 46 h.2.0)))
  column_and_then no_sign (int at v) ks rest h = absurd h
  column_and_then no_sign (str at x) ks rest h = absurd h
  column_and_then no_sign (regex at x) ks rest h = absurd h
  column_and_then no_sign (bare at name) ks rest h = absurd h
  column_and_then no_sign (call at v args) ks rest h = absurd h
  column_and_then no_sign (star at v) ks rest h = absurd h

  item_and_then : ((c : ℕ) (ks : List Kind) → test (k.symbol c ∷ ks) ≡ false) → ((ks rest : List Kind) → Keyword free "as" ks rest → test ks ≡ false) → (t : Term) (name : Option Name) (ks rest : List Kind) → IsNamed free t name ks rest → (sees w ks && test (after ks)) ≡ false
  item_and_then no_sign no_as t (Some name) ks rest h = term_and_then no_sign t ks h.0 h.1 (no_as h.0 h.2.0 h.2.1)
  item_and_then no_sign no_as t None ks rest h = column_and_then no_sign t ks rest h

-- `dictionary` begins no expression but a call
name_no_dict : (name : Name) (ks rest : List Kind) → IsName free name ks rest → begins_dict ks ≡ false
unfolding is_reserved same_word
name_no_dict name ks rest h = rw (name_no_keyword "dictionary" refl name ks rest h) refl

term_no_dict : (t : Term) (ks rest : List Kind) → IsTerm free t ks rest → begins_dict ks ≡ false
term_no_dict (int at v) ks rest h = rw h refl
term_no_dict (str at x) ks rest h = rw h refl
term_no_dict (regex at x) ks rest h = rw h refl
term_no_dict (bare at name) ks rest h = name_no_dict name ks rest h
term_no_dict (column at alias name) ks rest h = name_no_dict alias ks h.0 h.1
term_no_dict (call at v args) ks rest h = rw (h.1, h.2.1) (and_false _)
term_no_dict (star at v) ks rest h = rw (h.1, h.2.1) (and_false _)

item_no_dict : (t : Term) (name : Option Name) (ks rest : List Kind) → IsNamed free t name ks rest → begins_dict ks ≡ false
item_no_dict t (Some name) ks rest h = term_no_dict t ks h.0 h.1
item_no_dict (column at alias name) None ks rest h = name_no_dict alias ks h.0 h.1
item_no_dict (int at v) None ks rest h = absurd h
item_no_dict (str at x) None ks rest h = absurd h
item_no_dict (regex at x) None ks rest h = absurd h
item_no_dict (bare at name) None ks rest h = absurd h
item_no_dict (call at v args) None ks rest h = absurd h
item_no_dict (star at v) None ks rest h = absurd h

item_no_pattern : (item : Item) (ks rest : List Kind) → IsItem free item ks rest → begins_pattern ks ≡ false
item_no_pattern item ks rest h =
    item_and_then "regex" sees_regex (λ c ks. refl) (λ ks rest h. rw h.1 refl) item.expr item.name ks rest h

item_no_blocks : (item : Item) (ks rest : List Kind) → IsItem free item ks rest → begins_blocks ks ≡ false
unfolding same_word
item_no_blocks item ks rest h =
    item_and_then "blocks" (sees "with") (λ c ks. refl) (λ ks rest h. keyword_no_other "as" "with" refl ks rest h) item.expr item.name ks rest h

item_not_sought : (item : Item) (ks rest : List Kind) → (IsItem free item ▸ Symbol ",") ks rest → begins_sought ks ≡ false
item_not_sought item ks rest h = rw (item_no_pattern item ks h.0 h.1, item_no_dict item.expr item.name ks h.0 h.1) refl

-- what is looked for begins so
pattern_begins : (text : Name) (ks mid rest : List Kind) → Keyword free "regex" ks mid → Token (k.regex text.text) mid rest → begins_pattern ks ≡ true
pattern_begins text ks mid rest h e = rw (h.1, e) (rw h.2 refl)

dict_no_pattern : (ks rest : List Kind) → Keyword free "dictionary" ks rest → begins_pattern ks ≡ false
unfolding same_word
dict_no_pattern ks rest h = rw (keyword_no_other "dictionary" "regex" refl ks rest h) refl

dictionary_no_open : (text : List ℕ) (kind : Kind) (ks : List Kind) → SpellsDictionary free text kind → sees_sign "(" (kind ∷ ks) ≡ false
dictionary_no_open text (k.word v) ks h = refl
dictionary_no_open text (k.name x) ks h = refl
dictionary_no_open text (k.str x) ks h = refl
dictionary_no_open text (k.int v) ks h = refl
dictionary_no_open text (k.regex x) ks h = refl
dictionary_no_open text (k.symbol c) ks h = absurd h

dict_begins : (table : Name) (ks mid rest : List Kind) → Keyword free "dictionary" ks mid → IsDictionaryName free table mid rest → begins_dict ks ≡ true
dict_begins table ks mid rest h e = rw (h.1, e.1) (rw (h.2, dictionary_no_open table.text e.0 rest e.2) refl)

blocks_begin : (ks mid rest : List Kind) → Keyword free "blocks" ks mid → Keyword free "with" mid rest → begins_blocks ks ≡ true
blocks_begin ks mid rest h e = rw (h.1, e.1) (rw (h.2, e.2) refl)

pattern_no_blocks : (ks rest : List Kind) → Keyword free "regex" ks rest → begins_blocks ks ≡ false
unfolding same_word
pattern_no_blocks ks rest h = rw (keyword_no_other "regex" "blocks" refl ks rest h) refl

dict_no_blocks : (ks rest : List Kind) → Keyword free "dictionary" ks rest → begins_blocks ks ≡ false
unfolding same_word
dict_no_blocks ks rest h = rw (keyword_no_other "dictionary" "blocks" refl ks rest h) refl

abbrev IsSought : Spec → Part
IsSought (pattern text bound alias name groups) = IsPattern free text bound alias name groups
IsSought (dict table flag alias name out) = IsDict free table flag alias name out
IsSought (blocks count gap tokens alias name out) = Nowhere

module _ (d : ℕ) where
  pattern_sought : (spec : Spec) (ks rest : List Kind) → IsPatternSpec d spec ks rest → IsSought spec ks rest
  pattern_sought (pattern text bound alias name groups) ks rest h = h
  pattern_sought (dict table flag alias name out) ks rest h = absurd h
  pattern_sought (blocks count gap tokens alias name out) ks rest h = absurd h

  dict_sought : (spec : Spec) (ks rest : List Kind) → IsDictSpec d spec ks rest → IsSought spec ks rest
  dict_sought (dict table flag alias name out) ks rest h = h
  dict_sought (pattern text bound alias name groups) ks rest h = absurd h
  dict_sought (blocks count gap tokens alias name out) ks rest h = absurd h

  sought_split : (spec : Spec) (ks rest : List Kind) → IsSought spec ks rest → ((begins_pattern ks ≡ true) × IsPatternSpec d spec ks rest) ⊎ ((begins_pattern ks ≡ false) × IsDictSpec d spec ks rest)
  sought_split (pattern text bound alias name groups) ks rest h = inl (pattern_begins text ks h.0 h.2.0 h.1 h.2.1, h)
  sought_split (dict table flag alias name out) ks rest h = inr (dict_no_pattern ks h.0 h.1, h)
  sought_split (blocks count gap tokens alias name out) ks rest h = absurd h

  reads_sought : Reads read_sought IsSought placed_spec d (StopsGroups d)
  reads_sought =
      reads_tested begins_pattern d (reads_pattern d) (reads_where d (reads_dict d) (λ ks stops. tt)) IsSought pattern_sought dict_sought sought_split

  sought_begins : (spec : Spec) (ks rest : List Kind) → IsSought spec ks rest → begins_sought ks ≡ true
  sought_begins (pattern text bound alias name groups) ks rest h = rw (pattern_begins text ks h.0 h.2.0 h.1 h.2.1) refl
  sought_begins (dict table flag alias name out) ks rest h = rw (dict_no_pattern ks h.0 h.1, dict_begins table ks h.0 h.2.0 h.1 h.2.1) refl
  sought_begins (blocks count gap tokens alias name out) ks rest h = absurd h

  comma_stops : (ks rest : List Kind) → Symbol "," ks rest → StopsItem ks
  comma_stops ks rest h = rw h ((refl, refl), refl)

  reads_item_before : Reads (item_before d) (λ item. IsItem free item ▸ Symbol ",") placed_item_before d Always
  reads_item_before = reads_before d (reads_item d) (reads_token d (takes_sign 44 refl refl)) comma_stops

  item_takes : (item : Item) (ks rest : List Kind) → IsWithin d ks → (IsItem free item ▸ Symbol ",") ks rest → length rest < length ks
  item_takes item ks rest within h =
      let one = (reads_item d).complete 0 ks item h.0 (comma_stops h.0 rest h.2) within h.1 in
      let comma : length h.0 ≡ suc (length rest) = ap length h.2 in
      omega (arith, one.shorter, comma)

  reads_items_before : Reads (read_items_before d) (AreItemsBefore free) (placed_each placed_item_before) d (λ ks. begins_sought ks ≡ true)
  unfolding read_items_before
  reads_items_before = reads_repeated begins_sought d reads_item_before item_not_sought item_takes

  -- the items and what is looked for
  abbrev IsBlocksAlone : List Item × Spec → Part
  IsBlocksAlone ([], spec) = IsBlocksSpec d spec
  IsBlocksAlone (item ∷ items, spec) = Nowhere

  abbrev AreItemsAndSought : List Item × Spec → Part
  AreItemsAndSought pair = AreItemsBefore free pair.0 ▸ IsSought pair.1

  abbrev pub IsExtractedPair : List Item × Spec → Part
  IsExtractedPair pair = IsExtracted free pair.0 pair.1

  abbrev pub placed_extracted : Placing (List Item × Spec)
  placed_extracted = placed_pair (placed_each placed_item_before) placed_spec

  alone_made : (pair : List Item × Spec) (ks rest : List Kind) → IsBlocksAlone pair ks rest → Made (λ spec. ([], spec)) (IsBlocksSpec d) placed_spec placed_extracted pair ks rest
  alone_made ([], spec) ks rest h = record { of = spec; part = h; places = λ n. refl; next = λ n. refl }
  alone_made (item ∷ items, spec) ks rest h = absurd h

  alone_extracted : (pair : List Item × Spec) (ks rest : List Kind) → IsBlocksAlone pair ks rest → IsExtractedPair pair ks rest
  alone_extracted ([], blocks count gap tokens alias name out) ks rest h = h
  alone_extracted ([], pattern text bound alias name groups) ks rest h = absurd h
  alone_extracted ([], dict table flag alias name out) ks rest h = absurd h
  alone_extracted (item ∷ items, spec) ks rest h = absurd h

  sought_extracted : (pair : List Item × Spec) (ks rest : List Kind) → AreItemsAndSought pair ks rest → IsExtractedPair pair ks rest
  sought_extracted (items, pattern text bound alias name groups) ks rest h = h
  sought_extracted (items, dict table flag alias name out) ks rest h = h
  sought_extracted (items, blocks count gap tokens alias name out) ks rest h = absurd h.2

  items_no_blocks : (items : List Item) (ks mid rest : List Kind) → AreItemsBefore free items ks mid → begins_blocks mid ≡ false → begins_blocks ks ≡ false
  items_no_blocks [] ks mid rest h no_blocks = rw h no_blocks
  items_no_blocks (item ∷ items) ks mid rest h no_blocks = item_no_blocks item ks h.1.0 h.1.1

  extracted_split : (pair : List Item × Spec) (ks rest : List Kind) → IsExtractedPair pair ks rest → ((begins_blocks ks ≡ true) × IsBlocksAlone pair ks rest) ⊎ ((begins_blocks ks ≡ false) × AreItemsAndSought pair ks rest)
  extracted_split (items, pattern text bound alias name groups) ks rest h =
      inr (items_no_blocks items ks h.0 rest h.1 (pattern_no_blocks h.0 h.2.0 h.2.1), h)
  extracted_split (items, dict table flag alias name out) ks rest h =
      inr (items_no_blocks items ks h.0 rest h.1 (dict_no_blocks h.0 h.2.0 h.2.1), h)
  extracted_split ([], blocks count gap tokens alias name out) ks rest h = inl (blocks_begin ks h.0 h.2.0 h.1 h.2.1, h)
  extracted_split (item ∷ items, blocks count gap tokens alias name out) ks rest h = absurd h

  pub reads_extracted : Reads (read_extracted d) IsExtractedPair placed_extracted d (StopsGroups d)
  unfolding read_extracted
  reads_extracted =
      reads_tested begins_blocks d
      (reads_where d (reads_mapped d (λ spec. ([], spec)) (reads_blocks d) IsBlocksAlone placed_extracted (λ spec ks rest h. h) alone_made) (λ ks stops. tt))
      (reads_pair d reads_items_before reads_sought (λ spec ks rest stops h. sought_begins spec ks rest h))
      IsExtractedPair alone_extracted sought_extracted extracted_split
