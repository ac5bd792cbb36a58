-- What an extraction looks for is read.
use Rattle.std.proofs.Common.{◌≡◌, ◌∙◌, ◌⊎◌, inl, inr, ⊎_elim, ℕ, ◌+◌, Bool, true, false, List, [], ◌∷◌, Option, Some, None, refl, ap, subst, codes}
use Rattle.std.proofs.lemmas.Slice.Eq.{bytes_eq-Decides}
use Rattle.std.specs.Str.{bytes_eq}
use Rattle.aql_lexer.specs.Kinds.{Kind}
use Rattle.aql_lexer.specs.Kinds as k
use Rattle.aql_syntax.specs.Spellings.{free, is_reserved, same_word, SpellsName}
use Rattle.aql_syntax.specs.Parts.{Part, ◌▸◌, ◌or◌, Nowhere, Token, Keyword, IsName, IsDictionaryName, IsInt, Optional, Separated}
use Rattle.aql_syntax.specs.Grammar.Expressions.{IsColumn}
use Rattle.aql_syntax.specs.Grammar.Extractions.{IsRange, IsBound, IsOutput, IsNumbered, IsOnlyGroup, AreGroups, IsPattern, flag_text, IsFlag, IsDict, unit_of, IsBlocks}
use Rattle.aql_syntax.specs.Places.{Placing, placed_name, placed_number, placed_range, placed_bound, placed_optional, placed_separated, placed_output, placed_numbered, placed_groups, after_flag, placed_spec}
use Rattle.aql_syntax.specs.Trees.{Name, Number, Range, one, two, Group, Flag, exact, ignore_case, Spec, pattern, dict, blocks}
use Rattle.aql_parser.specs.Readers.{◌⊗◌, ◌▷◌, separated, sees, keyword, a_name, a_pattern}
use Rattle.aql_parser.specs.Reading.Expressions.{read_column}
use Rattle.aql_parser.specs.Reading.Extractions.{read_range, sees_int, begins_range, token_or_tokens, read_bound, read_output, numbered, unnumbered, read_numbered, read_groups, made_pattern, read_pattern, flag_named, flagged, a_flag, read_flag, a_dictionary, made_dict, read_dict, tokens_or_characters, made_blocks, read_separation, read_blocks}
use Rattle.aql_parser.proofs.Rules.{Reads, Always, Made, none_some, some_is, some_parts, chosen, takes_keyword, reads_keyword, reads_pair, reads_after, reads_before, reads_mapped, reads_after_mapped, reads_value, reads_where, reads_choice, reads_optional, reads_where_seen, reads_recast, one as one_token, placed_pair}
use Rattle.aql_parser.proofs.ListRules.{reads_separated}
use Rattle.aql_parser.proofs.NameRules.{reads_name, reads_dictionary, reads_pattern_text, reads_int, found_token}
use Rattle.aql_parser.proofs.ExpressionRules.{reads_column}
use Rattle.aql_parser.proofs.ItemRules.{keyword_no_other, name_no_keyword}

-- one range or the other
abbrev IsTwo : Range → Part
IsTwo (two low high) = Keyword free "between" ▸ IsInt low ▸ Keyword free "and" ▸ IsInt high
IsTwo (one number) = Nowhere

abbrev IsOne : Range → Part
IsOne (one number) = IsInt number
IsOne (two low high) = Nowhere

-- a column's two names
abbrev placed_columns : Placing (Name × Name)
placed_columns = placed_pair placed_name (λ n name. placed_name (n + 1) name)

name_no_int : (name : Name) (ks rest : List Kind) → IsName free name ks rest → sees_int ks ≡ false
name_no_int name ks rest h = rw h.1 (no_int h.0 h.2)
  where
    no_int : (kind : Kind) → SpellsName free name.text kind → sees_int (kind ∷ rest) ≡ false
    no_int (k.word v) spelled = refl
    no_int (k.name x) spelled = refl
    no_int (k.int v) spelled = absurd spelled
    no_int (k.str x) spelled = refl
    no_int (k.regex x) spelled = refl
    no_int (k.symbol c) spelled = refl

module _ (d : ℕ) where
  two_made : (range : Range) (ks rest : List Kind) → IsTwo range ks rest → Made (λ pair. two pair.0 pair.1) (λ pair. Keyword free "between" ▸ IsInt pair.0 ▸ Keyword free "and" ▸ IsInt pair.1) (λ n pair. placed_pair placed_number (λ n number. placed_number (n + 1) number) (n + 1) pair) placed_range range ks rest
  two_made (two low high) ks rest h = record { of = (low, high); part = h; places = λ n. refl; next = λ n. refl }
  two_made (one number) ks rest h = absurd h

  one_made : (range : Range) (ks rest : List Kind) → IsOne range ks rest → Made one IsInt placed_number placed_range range ks rest
  one_made (one number) ks rest h = record { of = number; part = h; places = λ n. refl; next = λ n. refl }
  one_made (two low high) ks rest h = absurd h

  two_or_one : (range : Range) (ks rest : List Kind) → Always rest → IsRange free range ks rest → IsTwo range ks rest ⊎ ((sees "between" ks ≡ false) × IsOne range ks rest)
  two_or_one (two low high) ks rest stops h = inl h
  two_or_one (one number) ks rest stops h = inr (rw h refl, h)

  from_two : (range : Range) (ks rest : List Kind) → IsTwo range ks rest → IsRange free range ks rest
  from_two (two low high) ks rest h = h
  from_two (one number) ks rest h = absurd h

  from_one : (range : Range) (ks rest : List Kind) → IsOne range ks rest → IsRange free range ks rest
  from_one (one number) ks rest h = h
  from_one (two low high) ks rest h = absurd h

  pub reads_range : Reads read_range (IsRange free) placed_range d Always
  reads_range =
      reads_choice (sees "between") _ _ d
      (reads_after_mapped (keyword "between") _ d (λ pair. two pair.0 pair.1)
      (reads_after d (reads_keyword d "between") (reads_pair d (reads_int d) (reads_after d (reads_keyword d "and") (reads_int d)) (λ b ks rest stops h. tt)))
      IsTwo placed_range (λ pair ks rest h. h) two_made)
      (reads_mapped d one (reads_int d) IsOne placed_range (λ number ks rest h. h) one_made)
      (IsRange free) from_two from_one two_or_one

  token_or_tokens_split : (u : Unit {0}) (ks rest : List Kind) → Always rest → (Keyword free "token" or Keyword free "tokens") ks rest → Keyword free "token" ks rest ⊎ ((sees "token" ks ≡ false) × Keyword free "tokens" ks rest)
  unfolding same_word
  token_or_tokens_split u ks rest stops (inl h) = inl h
  token_or_tokens_split u ks rest stops (inr h) = inr (keyword_no_other "tokens" "token" refl ks rest h, h)

  reads_token_or_tokens : Reads token_or_tokens (λ u. Keyword free "token" or Keyword free "tokens") one_token d Always
  reads_token_or_tokens =
      reads_choice (sees "token") _ _ d
      (reads_value (sees "token") d (takes_keyword "token") tt (λ u. Keyword free "token") (λ ks rest h. h) (λ u ks rest h. (refl, h)))
      (reads_keyword d "tokens")
      (λ u. Keyword free "token" or Keyword free "tokens") (λ u ks rest h. inl h) (λ u ks rest h. inr h) token_or_tokens_split

  range_begins : (range : Range) (ks rest : List Kind) → IsRange free range ks rest → begins_range ks ≡ true
  range_begins (two low high) ks rest h = rw ((takes_keyword "between").tested ks h.0 h.1).0 refl
  range_begins (one number) ks rest h = rw h refl

  -- no range begins here
  abbrev StopsBound : List Kind → Type 0
  StopsBound ks = Always ks × (begins_range ks ≡ false)

  reads_bound : Reads read_bound (Optional (IsBound free)) (placed_optional placed_bound) d StopsBound
  reads_bound =
      reads_where_seen begins_range _ d
      (reads_before d reads_range (reads_after d reads_token_or_tokens (reads_keyword d "in")) (λ ks rest h. tt))
      (λ range ks rest h. range_begins range ks h.0 h.1)

  reads_output : Reads read_output (IsOutput free) placed_output d Always
  reads_output = reads_after d (reads_keyword d "as") (reads_name d)

  numbered_made : (number : Option Number) (name : Name) (ks rest : List Kind) → IsNumbered free number name ks rest → Made numbered (λ pair. Keyword free "group" ▸ IsInt pair.0 ▸ IsOutput free pair.1) (λ n pair. placed_pair placed_number placed_output (n + 1) pair) placed_numbered (record { number = number; name = name }) ks rest
  numbered_made None name ks rest h = absurd h
  numbered_made (Some number) name ks rest h = record { of = (number, name); part = h; places = λ n. refl; next = λ n. refl }

  reads_numbered : Reads read_numbered (λ group. IsNumbered free group.number group.name) placed_numbered d Always
  reads_numbered =
      reads_mapped d numbered
      (reads_after d (reads_keyword d "group") (reads_pair d (reads_int d) reads_output (λ b ks rest stops h. tt)))
      (λ group. IsNumbered free group.number group.name) placed_numbered (λ pair ks rest h. h)
      (λ group ks rest h. numbered_made group.number group.name ks rest h)

  abbrev AreReturned : List Group → Part
  AreReturned groups = Keyword free "return" ▸ Separated (Keyword free "and") (λ group. IsNumbered free group.number group.name) groups

  abbrev IsNamedOnly : Option Number → Name → Part
  IsNamedOnly None name = IsOutput free name
  IsNamedOnly (Some number) name = Nowhere

  abbrev AreNamedOnly : List Group → Part
  AreNamedOnly [] = Nowhere
  AreNamedOnly (group ∷ []) = IsNamedOnly group.number group.name
  AreNamedOnly (group ∷ other ∷ groups) = Nowhere

  only_made : (number : Option Number) (name : Name) (ks rest : List Kind) → IsNamedOnly number name ks rest → Made unnumbered (λ name. IsOutput free name) placed_output placed_groups (record { number = number; name = name } ∷ []) ks rest
  only_made None name ks rest h = record { of = name; part = h; places = λ n. refl; next = λ n. refl }
  only_made (Some number) name ks rest h = absurd h

  named_only_made : (groups : List Group) (ks rest : List Kind) → AreNamedOnly groups ks rest → Made unnumbered (λ name. IsOutput free name) placed_output placed_groups groups ks rest
  named_only_made [] ks rest h = absurd h
  named_only_made (group ∷ []) ks rest h = only_made group.number group.name ks rest h
  named_only_made (group ∷ other ∷ groups) ks rest h = absurd h

  returned_placed_one : (number : Option Number) (name : Name) (ks rest : List Kind) → AreReturned (record { number = number; name = name } ∷ []) ks rest → (n : ℕ) → placed_groups n (record { number = number; name = name } ∷ []) ≡ placed_separated placed_numbered (n + 1) (record { number = number; name = name } ∷ [])
  returned_placed_one None name ks rest h n = absurd h.2.1
  returned_placed_one (Some number) name ks rest h n = refl

  returned_placed : (groups : List Group) (ks rest : List Kind) → AreReturned groups ks rest → (n : ℕ) → placed_groups n groups ≡ placed_separated placed_numbered (n + 1) groups
  returned_placed [] ks rest h n = absurd h.2
  returned_placed (group ∷ []) ks rest h n = returned_placed_one group.number group.name ks rest h n
  returned_placed (group ∷ other ∷ groups) ks rest h n = refl

  -- no further group goes on here
  abbrev pub StopsGroups : List Kind → Type 0
  StopsGroups ks = Always ks × (sees "and" ks ≡ false)

  reads_returned : Reads (keyword "return" ▷ separated (sees "and") read_numbered) AreReturned placed_groups d StopsGroups
  reads_returned =
      reads_recast d
      (reads_after d (reads_keyword d "return") (reads_separated (sees "and") d (takes_keyword "and") reads_numbered (λ ks h. tt)))
      AreReturned placed_groups (λ groups ks rest h. h) (λ groups ks rest h. h) returned_placed

  one_named : (number : Option Number) (name : Name) (ks rest : List Kind) → IsNamedOnly number name ks rest → IsOnlyGroup free number name ks rest
  one_named None name ks rest h = h
  one_named (Some number) name ks rest h = absurd h

  named_groups : (groups : List Group) (ks rest : List Kind) → AreNamedOnly groups ks rest → AreGroups free groups ks rest
  named_groups [] ks rest h = absurd h
  named_groups (group ∷ []) ks rest h = one_named group.number group.name ks rest h
  named_groups (group ∷ other ∷ groups) ks rest h = absurd h

  one_returned : (number : Option Number) (name : Name) (ks rest : List Kind) → AreReturned (record { number = number; name = name } ∷ []) ks rest → IsOnlyGroup free number name ks rest
  one_returned None name ks rest h = absurd h.2.1
  one_returned (Some number) name ks rest h = (h.0, h.1, subst (λ (r : List Kind). IsNumbered free (Some number) name h.0 r) h.2.2 h.2.1)

  returned_groups : (groups : List Group) (ks rest : List Kind) → AreReturned groups ks rest → AreGroups free groups ks rest
  returned_groups [] ks rest h = absurd h.2
  returned_groups (group ∷ []) ks rest h = one_returned group.number group.name ks rest h
  returned_groups (group ∷ other ∷ groups) ks rest h = h

  return_not_as : (ks rest : List Kind) → Keyword free "return" ks rest → sees "as" ks ≡ false
  unfolding same_word
  return_not_as ks rest h = keyword_no_other "return" "as" refl ks rest h

  one_split : (number : Option Number) (name : Name) (ks rest : List Kind) → IsOnlyGroup free number name ks rest → AreNamedOnly (record { number = number; name = name } ∷ []) ks rest ⊎ ((sees "as" ks ≡ false) × AreReturned (record { number = number; name = name } ∷ []) ks rest)
  one_split None name ks rest h = inl h
  one_split (Some number) name ks rest h = inr (return_not_as ks h.0 h.1, (h.0, h.1, (rest, h.2, refl)))

  groups_split : (groups : List Group) (ks rest : List Kind) → StopsGroups rest → AreGroups free groups ks rest → AreNamedOnly groups ks rest ⊎ ((sees "as" ks ≡ false) × AreReturned groups ks rest)
  groups_split [] ks rest stops h = absurd h
  groups_split (group ∷ []) ks rest stops h = one_split group.number group.name ks rest h
  groups_split (group ∷ other ∷ groups) ks rest stops h = inr (return_not_as ks h.0 h.1, h)

  reads_groups : Reads read_groups (AreGroups free) placed_groups d StopsGroups
  reads_groups =
      reads_choice (sees "as") _ _ d
      (reads_where d (reads_after_mapped (keyword "as") a_name d unnumbered reads_output AreNamedOnly placed_groups (λ name ks rest h. h) named_only_made) (λ ks stops. tt))
      reads_returned (AreGroups free) named_groups returned_groups groups_split

  -- a pattern
  abbrev pub IsPatternSpec : Spec → Part
  IsPatternSpec (pattern text bound alias name groups) = IsPattern free text bound alias name groups
  IsPatternSpec (dict table flag alias name out) = Nowhere
  IsPatternSpec (blocks count gap tokens alias name out) = Nowhere

  -- no column begins a range
  column_stops_bound : (alias name : Name) (ks rest : List Kind) → IsColumn free alias name ks rest → begins_range ks ≡ false
  unfolding is_reserved same_word
  column_stops_bound alias name ks rest h =
      let not_between = name_no_keyword "between" refl alias ks h.0 h.1 in
      rw not_between (name_no_int alias ks h.0 h.1)

  reads_pattern_parts : Reads (keyword "regex" ▷ a_pattern ⊗ keyword "on" ▷ read_bound ⊗ read_column ⊗ read_groups)
      (λ parts. Keyword free "regex" ▸ Token (k.regex parts.0.text) ▸ Keyword free "on" ▸ Optional (IsBound free) parts.1.0 ▸ IsColumn free parts.1.1.0.0 parts.1.1.0.1 ▸ AreGroups free parts.1.1.1)
      (λ n parts. placed_pair placed_name (λ m rest. placed_pair (placed_optional placed_bound) (placed_pair placed_columns placed_groups) (m + 1) rest) (n + 1) parts) d StopsGroups
  reads_pattern_parts =
      reads_after d (reads_keyword d "regex") (reads_pair d (reads_pattern_text d) (reads_after d (reads_keyword d "on")
      (reads_pair d reads_bound (reads_pair d (reads_column d) reads_groups (λ b ks rest stops h. tt))
      (λ b ks rest stops h. (tt, column_stops_bound b.0.0 b.0.1 ks h.0 h.1)))) (λ b ks rest stops h. tt))

  pattern_made : (spec : Spec) (ks rest : List Kind) → IsPatternSpec spec ks rest → Made made_pattern (λ parts. Keyword free "regex" ▸ Token (k.regex parts.0.text) ▸ Keyword free "on" ▸ Optional (IsBound free) parts.1.0 ▸ IsColumn free parts.1.1.0.0 parts.1.1.0.1 ▸ AreGroups free parts.1.1.1) (λ n parts. placed_pair placed_name (λ m rest. placed_pair (placed_optional placed_bound) (placed_pair placed_columns placed_groups) (m + 1) rest) (n + 1) parts) placed_spec spec ks rest
  pattern_made (pattern text bound alias name groups) ks rest h =
      record { of = (text, (bound, ((alias, name), groups))); part = h; places = λ n. refl; next = λ n. refl }
  pattern_made (dict table flag alias name out) ks rest h = absurd h
  pattern_made (blocks count gap tokens alias name out) ks rest h = absurd h

  pub reads_pattern : Reads read_pattern IsPatternSpec placed_spec d StopsGroups
  reads_pattern = reads_mapped d made_pattern reads_pattern_parts IsPatternSpec placed_spec (λ parts ks rest h. h) pattern_made

  -- a flag
  flag_sound : (text : List ℕ) (flag : Flag) → flag_named text ≡ Some flag → text ≡ flag_text flag
  flag_sound text flag h = ⊎_elim
      (λ c. (bytes_eq-Decides text (codes "Exact")).0 c.0 ∙ ap flag_text (some_is exact flag c.1))
      (λ c. ⊎_elim
      (λ c2. (bytes_eq-Decides text (codes "IgnoreCase")).0 c2.0 ∙ ap flag_text (some_is ignore_case flag c2.1))
      (λ c2. absurd (none_some flag c2.1))
      (chosen (bytes_eq text (codes "IgnoreCase")) _ _ _ c.1))
      (chosen (bytes_eq text (codes "Exact")) _ _ _ h)

  flag_is : (flag : Flag) → flag_named (flag_text flag) ≡ Some flag
  flag_is exact = refl
  flag_is ignore_case = refl

  -- a flag is one token
  abbrev placed_flag : Placing Flag
  placed_flag n flag = (flag, n + 1)

  a_flag_sound : (n : ℕ) (ks : List Kind) (flag : Flag) (m : ℕ) (rest : List Kind) → a_flag n ks ≡ Some (flag, m, rest) → Token (k.str (flag_text flag)) ks rest
  a_flag_sound n (k.str text ∷ ks) flag m rest h = flag_from (flag_named text) refl h
    where
      flag_from : (o : Option Flag) → flag_named text ≡ o → flagged n o ks ≡ Some (flag, m, rest) → Token (k.str (flag_text flag)) (k.str text ∷ ks) rest
      flag_from None is e = absurd (none_some _ e)
      flag_from (Some other) is e =
          let same = some_parts _ _ _ _ _ _ e in
          rw (flag_sound text flag (is ∙ ap Some same.0)) (ap (λ (r : List Kind). k.str (flag_text flag) ∷ r) same.2)
  a_flag_sound n [] flag m rest h = absurd (none_some _ h)
  a_flag_sound n (k.word w ∷ ks) flag m rest h = absurd (none_some _ h)
  a_flag_sound n (k.name x ∷ ks) flag m rest h = absurd (none_some _ h)
  a_flag_sound n (k.int v ∷ ks) flag m rest h = absurd (none_some _ h)
  a_flag_sound n (k.regex x ∷ ks) flag m rest h = absurd (none_some _ h)
  a_flag_sound n (k.symbol c ∷ ks) flag m rest h = absurd (none_some _ h)

  reads_a_flag : Reads a_flag (λ flag. Token (k.str (flag_text flag))) placed_flag d Always
  reads_a_flag = record {
    sound = a_flag_sound;
    complete = λ n ks flag rest stops within h.
        rw h (found_token d n (k.str (flag_text flag)) flag rest (rw h at within) refl refl (rw (flag_is flag) refl));
  }

  -- no flag goes on here
  abbrev StopsFlag : List Kind → Type 0
  StopsFlag ks = Always ks × (sees "with" ks ≡ false)

  flag_placed : (flag : Option Flag) (ks rest : List Kind) → Optional (IsFlag free) flag ks rest → (n : ℕ) → ◌≡◌ {A = Option Flag × ℕ} (flag, after_flag n flag) (placed_optional (λ m flag. placed_flag (m + 1 + 1) flag) n flag)
  flag_placed None ks rest h n = refl
  flag_placed (Some flag) ks rest h n = refl

  reads_flag : Reads read_flag (Optional (IsFlag free)) (λ n flag. (flag, after_flag n flag)) d StopsFlag
  reads_flag =
      reads_recast d
      (reads_optional (sees "with") _ d (reads_after d (reads_keyword d "with") (reads_after d (reads_keyword d "flags") reads_a_flag)))
      (Optional (IsFlag free)) (λ n flag. (flag, after_flag n flag)) (λ flag ks rest h. h) (λ flag ks rest h. h) flag_placed

  -- a dictionary
  abbrev pub IsDictSpec : Spec → Part
  IsDictSpec (dict table flag alias name out) = IsDict free table flag alias name out
  IsDictSpec (pattern text bound alias name groups) = Nowhere
  IsDictSpec (blocks count gap tokens alias name out) = Nowhere

  on_no_flag : (ks rest : List Kind) → Keyword free "on" ks rest → sees "with" ks ≡ false
  unfolding same_word
  on_no_flag ks rest h = keyword_no_other "on" "with" refl ks rest h

  abbrev DictParts : Name × (Option Flag × ((Name × Name) × Name)) → Part
  DictParts parts = Keyword free "dictionary" ▸ IsDictionaryName free parts.0 ▸ Optional (IsFlag free) parts.1.0 ▸ Keyword free "on" ▸ IsColumn free parts.1.1.0.0 parts.1.1.0.1 ▸ IsOutput free parts.1.1.1

  abbrev placed_dict_parts : Placing (Name × (Option Flag × ((Name × Name) × Name)))
  placed_dict_parts n parts = placed_pair placed_name (placed_pair (λ m flag. (flag, after_flag m flag)) (λ m rest. placed_pair placed_columns placed_output (m + 1) rest)) (n + 1) parts

  reads_dict_parts : Reads (keyword "dictionary" ▷ a_dictionary ⊗ read_flag ⊗ keyword "on" ▷ read_column ⊗ read_output) DictParts placed_dict_parts d Always
  reads_dict_parts =
      reads_after d (reads_keyword d "dictionary") (reads_pair d (reads_dictionary d)
      (reads_pair d reads_flag (reads_after d (reads_keyword d "on") (reads_pair d (reads_column d) reads_output (λ b ks rest stops h. tt)))
      (λ b ks rest stops h. (tt, on_no_flag ks h.0 h.1)))
      (λ b ks rest stops h. tt))

  dict_made : (spec : Spec) (ks rest : List Kind) → IsDictSpec spec ks rest → Made made_dict DictParts placed_dict_parts placed_spec spec ks rest
  dict_made (dict table flag alias name out) ks rest h =
      record { of = (table, (flag, ((alias, name), out))); part = h; places = λ n. refl; next = λ n. refl }
  dict_made (pattern text bound alias name groups) ks rest h = absurd h
  dict_made (blocks count gap tokens alias name out) ks rest h = absurd h

  pub reads_dict : Reads read_dict IsDictSpec placed_spec d Always
  reads_dict = reads_mapped d made_dict reads_dict_parts IsDictSpec placed_spec (λ parts ks rest h. h) dict_made

  -- blocks
  abbrev IsTokens : Bool → Part
  IsTokens true = Keyword free "tokens"
  IsTokens false = Nowhere

  abbrev IsCharacters : Bool → Part
  IsCharacters false = Keyword free "characters"
  IsCharacters true = Nowhere

  abbrev placed_unit : Placing Bool
  placed_unit n tokens = (tokens, n + 1)

  tokens_value : (b : Bool) (ks rest : List Kind) → IsTokens b ks rest → (true ≡ b) × Keyword free "tokens" ks rest
  tokens_value true ks rest h = (refl, h)
  tokens_value false ks rest h = absurd h

  characters_made : (b : Bool) (ks rest : List Kind) → IsCharacters b ks rest → Made (λ u. false) (λ u. Keyword free "characters") one_token placed_unit b ks rest
  characters_made false ks rest h = record { of = tt; part = h; places = λ n. refl; next = λ n. refl }
  characters_made true ks rest h = absurd h

  unit_tokens : (b : Bool) (ks rest : List Kind) → IsTokens b ks rest → Keyword free (unit_of b) ks rest
  unit_tokens true ks rest h = h
  unit_tokens false ks rest h = absurd h

  unit_characters : (b : Bool) (ks rest : List Kind) → IsCharacters b ks rest → Keyword free (unit_of b) ks rest
  unit_characters false ks rest h = h
  unit_characters true ks rest h = absurd h

  unit_split : (b : Bool) (ks rest : List Kind) → Always rest → Keyword free (unit_of b) ks rest → IsTokens b ks rest ⊎ ((sees "tokens" ks ≡ false) × IsCharacters b ks rest)
  unfolding same_word
  unit_split true ks rest stops h = inl h
  unit_split false ks rest stops h = inr (keyword_no_other "characters" "tokens" refl ks rest h, h)

  reads_unit : Reads tokens_or_characters (λ b. Keyword free (unit_of b)) placed_unit d Always
  reads_unit =
      reads_choice (sees "tokens") _ _ d
      (reads_value (sees "tokens") d (takes_keyword "tokens") true IsTokens (λ ks rest h. h) tokens_value)
      (reads_mapped d (λ u. false) (reads_keyword d "characters") IsCharacters placed_unit (λ u ks rest h. h) characters_made)
      (λ b. Keyword free (unit_of b)) unit_tokens unit_characters unit_split

  abbrev pub IsBlocksSpec : Spec → Part
  IsBlocksSpec (blocks count gap tokens alias name out) = IsBlocks free count gap tokens alias name out
  IsBlocksSpec (pattern text bound alias name groups) = Nowhere
  IsBlocksSpec (dict table flag alias name out) = Nowhere

  abbrev SeparationParts : Range × Bool → Part
  SeparationParts parts = Keyword free "and" ▸ Keyword free "separation" ▸ IsRange free parts.0 ▸ Keyword free (unit_of parts.1)

  abbrev placed_separation : Placing (Range × Bool)
  placed_separation n parts = placed_pair placed_range placed_unit (n + 1 + 1) parts

  reads_separation : Reads read_separation SeparationParts placed_separation d Always
  reads_separation =
      reads_after d (reads_keyword d "and") (reads_after d (reads_keyword d "separation") (reads_pair d reads_range reads_unit (λ b ks rest stops h. tt)))

  abbrev BlocksParts : Range × ((Range × Bool) × ((Name × Name) × Name)) → Part
  BlocksParts parts = Keyword free "blocks" ▸ Keyword free "with" ▸ Keyword free "count" ▸ IsRange free parts.0 ▸ SeparationParts parts.1.0 ▸ Keyword free "on" ▸ IsColumn free parts.1.1.0.0 parts.1.1.0.1 ▸ IsOutput free parts.1.1.1

  abbrev placed_blocks_parts : Placing (Range × ((Range × Bool) × ((Name × Name) × Name)))
  placed_blocks_parts n parts = placed_pair placed_range (placed_pair placed_separation (λ m rest. placed_pair placed_columns placed_output (m + 1) rest)) (n + 1 + 1 + 1) parts

  reads_blocks_parts : Reads (keyword "blocks" ▷ keyword "with" ▷ keyword "count" ▷ read_range ⊗ read_separation ⊗ keyword "on" ▷ read_column ⊗ read_output) BlocksParts placed_blocks_parts d Always
  reads_blocks_parts =
      reads_after d (reads_keyword d "blocks") (reads_after d (reads_keyword d "with") (reads_after d (reads_keyword d "count")
      (reads_pair d reads_range (reads_pair d reads_separation
      (reads_after d (reads_keyword d "on") (reads_pair d (reads_column d) reads_output (λ b ks rest stops h. tt)))
      (λ b ks rest stops h. tt)) (λ b ks rest stops h. tt))))

  -- the parts of blocks, as the grammar has them
  blocks_into : (parts : Range × ((Range × Bool) × ((Name × Name) × Name))) (ks rest : List Kind) → BlocksParts parts ks rest → IsBlocksSpec (made_blocks parts) ks rest
  blocks_into parts ks rest (a, h1, (b, h2, (c, h3, (e, h4, (f, (g, h5, (i, h6, (j, h7, h8))), h9))))) =
      (a, h1, (b, h2, (c, h3, (e, h4, (g, h5, (i, h6, (j, h7, (f, h8, h9))))))))

  blocks_made : (spec : Spec) (ks rest : List Kind) → IsBlocksSpec spec ks rest → Made made_blocks BlocksParts placed_blocks_parts placed_spec spec ks rest
  blocks_made (blocks count gap tokens alias name out) ks rest (a, h1, (b, h2, (c, h3, (e, h4, (g, h5, (i, h6, (j, h7, (f, h8, h9)))))))) =
      record {
        of = (count, ((gap, tokens), ((alias, name), out)));
        part = (a, h1, (b, h2, (c, h3, (e, h4, (f, (g, h5, (i, h6, (j, h7, h8))), h9)))));
        places = λ n. refl;
        next = λ n. refl;
      }
  blocks_made (pattern text bound alias name groups) ks rest h = absurd h
  blocks_made (dict table flag alias name out) ks rest h = absurd h

  pub reads_blocks : Reads read_blocks IsBlocksSpec placed_spec d Always
  reads_blocks = reads_mapped d made_blocks reads_blocks_parts IsBlocksSpec placed_spec blocks_into blocks_made
