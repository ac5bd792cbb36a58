-- Queries are read.
use Rattle.std.proofs.Common.{◌≡◌, ◌∙◌, ◌⊎◌, inl, inr, ⊎_elim, ℕ, zero, suc, ◌+◌, true, false, List, [], ◌∷◌, length, Some, refl, ap, sym, subst, arith}
use Rattle.aql_lexer.specs.Kinds.{Kind}
use Rattle.aql_lexer.specs.Kinds as k
use Rattle.aql_syntax.specs.Spellings.{free, same_word, SpellsName}
use Rattle.aql_syntax.specs.Parts.{Part, ◌▸◌, Nowhere, Symbol, InParens, Keyword, IsName, Optional, Each, Separated}
use Rattle.aql_syntax.specs.Grammar.Expressions.{IsItem}
use Rattle.aql_syntax.specs.Grammar.Queries.{AreClauses, IsTail, IsExtracted, IsQuery, AreSides, AreOtherSides, AreLaterSides, IsSource, AreSources, AreLaterSources}
use Rattle.aql_syntax.specs.Places.{Placing, placed_name, placed_optional, placed_each, placed_separated, placed_item, placed_clauses, placed_tail, placed_query, placed_later_sides, placed_source, placed_sources, placed_later_sources}
use Rattle.aql_syntax.specs.Trees.{Name, Item, Clauses, Tail, Spec, Query, select, extract, union, minus, Queries, no_queries, more_queries, as_queries, Source, view, nested, Sources, no_sources, more_sources, as_sources}
use Rattle.aql_parser.specs.Nesting.{IsWithin}
use Rattle.aql_parser.specs.Readers.{Reader, and_then, ◌⊗◌, ◌▷◌, eaten, separated, sees, sees_sign, sees_symbol, sees_name, take_if, symbol, keyword, a_name, after}
use Rattle.aql_parser.specs.Reading.Expressions.{read_item}
use Rattle.aql_parser.specs.Reading.Queries.{read_clauses, read_tail, read_extracted, made_view, made_nested, read_view, made_select, made_extract, source_with, selection, extraction, side, put_together, query_with, within, read_query, read_source}
use Rattle.aql_parser.proofs.Rules.{Found, Reads, Always, Made, bind, none_some, some_parts, chosen, carried, within_open, within_close, takes_sign, takes_keyword, reads_keyword, reads_pair, reads_after, reads_mapped, reads_after_mapped, reads_where, reads_choice, reads_where_seen, reads_recast, reads_passed_pair, passed_on, reads_at, placed_pair, sees_symbol_is}
use Rattle.aql_parser.proofs.ListRules.{reads_separated}
use Rattle.aql_parser.proofs.NameRules.{reads_name, name_seen}
use Rattle.aql_parser.proofs.ExpressionRules.{close_sound, within_parens}
use Rattle.aql_parser.proofs.ItemRules.{StopsItem, reads_item, keyword_no_other, keyword_no_sign, keyword_stops_term}
use Rattle.aql_parser.proofs.ExtractionRules.{StopsGroups}
use Rattle.aql_parser.proofs.SoughtRules.{placed_extracted, reads_extracted}
use Rattle.aql_parser.proofs.EndRules.{Ends, at_close, ends_no_name, ends_no_comma, ends_no_union, ends_weaker}
use Rattle.aql_parser.proofs.ClauseRules.{reads_clauses, reads_tail, clauses_end, tail_ends}

-- a query in parentheses
abbrev IsClosed : Query → Part
IsClosed q = InParens (IsQuery free q)

abbrev placed_closed : Placing Query
placed_closed n q = ((placed_query (n + 1) q).0, (placed_query (n + 1) q).1 + 1)

-- the next token is "(", or not
name_no_sign : (name : Name) (ks rest : List Kind) → IsName free name ks rest → (c : ℕ) → sees_symbol c ks ≡ false
name_no_sign name ks rest h c = rw h.1 (no_sign h.0 h.2)
  where
    no_sign : (kind : Kind) → SpellsName free name.text kind → sees_symbol c (kind ∷ rest) ≡ false
    no_sign (k.word v) spelled = refl
    no_sign (k.name x) spelled = refl
    no_sign (k.int v) spelled = absurd spelled
    no_sign (k.str x) spelled = absurd spelled
    no_sign (k.regex x) spelled = absurd spelled
    no_sign (k.symbol b) spelled = absurd spelled

-- what stands in parentheses is read
no_parens : Reads (symbol "(" ▷ within 0) IsClosed placed_closed 0 Always
unfolding within
no_parens = record {
  sound = λ n ks q m rest h. let one = bind (symbol "(" n ks) _ _ h in absurd (none_some _ one.4);
  complete = λ n ks q rest stops inside h. no_room ks h.0 h.1 inside;
}
  where
    no_room : {P : Type 0} (ks mid : List Kind) → ks ≡ k.symbol 40 ∷ mid → IsWithin 0 ks → P
    no_room ks mid is inside = let one = within_open 0 mid (rw is at inside) in absurd (omega (arith, one.1))

more_parens : (e : ℕ) → Reads (read_query e) (IsQuery free) placed_query e (Ends 5) → Reads (symbol "(" ▷ within (suc e)) IsClosed placed_closed (suc e) Always
unfolding within read_query
more_parens e inner = record {
  sound = λ n ks q m rest h.
      let one = bind (symbol "(" n ks) _ _ h in
      let two = bind (read_query e one.1 one.2) _ _ one.4 in
      let three = bind (symbol ")" two.1 two.2) _ _ two.4 in
      let same = some_parts _ _ _ _ _ _ three.4 in
      let opened : ks ≡ k.symbol 40 ∷ one.2 = open_sound n ks one.0 one.1 one.2 one.3 in
      let query : IsQuery free q one.2 two.2 = subst (λ x. IsQuery free x one.2 two.2) same.0 (inner.sound one.1 one.2 two.0 two.1 two.2 two.3) in
      let close : two.2 ≡ k.symbol 41 ∷ rest = subst (λ (r : List Kind). two.2 ≡ k.symbol 41 ∷ r) same.2 (close_sound two.1 two.2 three.0 three.1 three.2 three.3) in
      (one.2, opened, (two.2, query, close));
  complete = λ n ks q rest stops inside h.
      let room = within_parens e h.0 (rw h.1 at inside) in
      let one = inner.complete (n + 1) h.0 q h.2.0 (rw h.2.2 at_close) room h.2.1 in
      let opened : length ks ≡ suc (length h.0) = ap length h.1 in
      let close : length h.2.0 ≡ suc (length rest) = ap length h.2.2 in
      record {
        reads = rw h.1 (rw (one.reads, h.2.2) refl);
        within = within_close e rest (rw h.2.2 at one.within);
        shorter = omega (arith, one.shorter, opened, close);
      };
}
  where
    open_sound : (n : ℕ) (ks : List Kind) (u : Unit {0}) (m : ℕ) (rest : List Kind) → symbol "(" n ks ≡ Some (u, m, rest) → ks ≡ k.symbol 40 ∷ rest
    open_sound n ks u m rest h = ⊎_elim
        (λ c. subst (λ (r : List Kind). ks ≡ k.symbol 40 ∷ r) (some_parts _ _ _ _ _ _ c.1).2 (sees_symbol_is 40 ks c.0))
        (λ c. absurd (none_some _ c.1))
        (chosen (sees_sign "(" ks) _ _ _ h)

-- sources and sides as lists
abbrev IsSideAfter : Query → Part
IsSideAfter q = Keyword free "all" ▸ IsClosed q

abbrev sources_list : Sources → List Source
sources_list no_sources = []
sources_list (more_sources s ss) = s ∷ sources_list ss

later_sources_listed : (ss : Sources) (ks rest : List Kind) → AreLaterSources free ss ks rest → Each (λ s. Symbol "," ▸ IsSource free s) (sources_list ss) ks rest
later_sources_listed no_sources ks rest h = h
later_sources_listed (more_sources s ss) ks rest h = (h.2.0, (h.0, h.1, h.2.1), later_sources_listed ss h.2.0 rest h.2.2)

listed_later_sources : (xs : List Source) (ks rest : List Kind) → Each (λ s. Symbol "," ▸ IsSource free s) xs ks rest → AreLaterSources free (as_sources xs) ks rest
listed_later_sources [] ks rest h = h
listed_later_sources (x ∷ xs) ks rest h = (h.1.0, h.1.1, (h.0, h.1.2, listed_later_sources xs h.0 rest h.2))

sources_listed : (ss : Sources) (ks rest : List Kind) → AreSources free ss ks rest → Separated (Symbol ",") (IsSource free) (sources_list ss) ks rest
sources_listed no_sources ks rest h = h
sources_listed (more_sources s ss) ks rest h = (h.0, h.1, later_sources_listed ss h.0 rest h.2)

listed_sources : (xs : List Source) (ks rest : List Kind) → Separated (Symbol ",") (IsSource free) xs ks rest → AreSources free (as_sources xs) ks rest
listed_sources [] ks rest h = h
listed_sources (x ∷ xs) ks rest h = (h.0, h.1, listed_later_sources xs h.0 rest h.2)

as_sources_list : (ss : Sources) → as_sources (sources_list ss) ≡ ss
as_sources_list no_sources = refl
as_sources_list (more_sources s ss) = ap (more_sources s) (as_sources_list ss)

placed_later_sources-list : (n : ℕ) (xs : List Source) → placed_later_sources n (as_sources xs) ≡ (as_sources (placed_each (λ m. placed_source (m + 1)) n xs).0, (placed_each (λ m. placed_source (m + 1)) n xs).1)
placed_later_sources-list n [] = refl
placed_later_sources-list n (x ∷ xs) = rw (placed_later_sources-list (placed_source (n + 1) x).1 xs) refl

placed_sources-list : (n : ℕ) (xs : List Source) → placed_sources n (as_sources xs) ≡ (as_sources (placed_separated placed_source n xs).0, (placed_separated placed_source n xs).1)
placed_sources-list n [] = refl
placed_sources-list n (x ∷ xs) = rw (placed_later_sources-list (placed_source n x).1 xs) refl

placed_sources_as : (n : ℕ) (ss : Sources) → placed_sources n ss ≡ (as_sources (placed_separated placed_source n (sources_list ss)).0, (placed_separated placed_source n (sources_list ss)).1)
placed_sources_as n ss = ap (placed_sources n) (sym (as_sources_list ss)) ∙ placed_sources-list n (sources_list ss)

-- one query of the grammar or another
abbrev IsNestedSource : Source → Part
IsNestedSource (nested q alias) = IsClosed q ▸ IsName free alias
IsNestedSource (view name alias) = Nowhere

abbrev IsViewSource : Source → Part
IsViewSource (view name alias) = IsName free name ▸ Optional (IsName free) alias
IsViewSource (nested q alias) = Nowhere

module _ (d : ℕ) (parens : Reads (symbol "(" ▷ within d) IsClosed placed_closed d Always) where
  nested_made : (s : Source) (ks rest : List Kind) → IsNestedSource s ks rest → Made made_nested (λ pair. IsClosed pair.0 ▸ IsName free pair.1) (placed_pair placed_closed placed_name) placed_source s ks rest
  nested_made (nested q alias) ks rest h = record { of = (q, alias); part = h; places = λ n. refl; next = λ n. refl }
  nested_made (view name alias) ks rest h = absurd h

  view_made : (s : Source) (ks rest : List Kind) → IsViewSource s ks rest → Made made_view (λ pair. IsName free pair.0 ▸ Optional (IsName free) pair.1) (placed_pair placed_name (placed_optional placed_name)) placed_source s ks rest
  view_made (view name alias) ks rest h = record { of = (name, alias); part = h; places = λ n. refl; next = λ n. refl }
  view_made (nested q alias) ks rest h = absurd h

  -- no alias goes on here
  abbrev StopsSource : List Kind → Type 0
  StopsSource ks = Always ks × (sees_name ks ≡ false)

  reads_view : Reads read_view IsViewSource placed_source d StopsSource
  unfolding read_view
  reads_view =
      reads_mapped d made_view
      (reads_pair d (reads_name d) (reads_where_seen sees_name a_name d (reads_name d) name_seen) (λ b ks rest stops h. tt))
      IsViewSource placed_source (λ pair ks rest h. h) view_made

  nested_source : (s : Source) (ks rest : List Kind) → IsNestedSource s ks rest → IsSource free s ks rest
  nested_source (nested q alias) ks rest h = h
  nested_source (view name alias) ks rest h = absurd h

  view_source : (s : Source) (ks rest : List Kind) → IsViewSource s ks rest → IsSource free s ks rest
  view_source (view name alias) ks rest h = h
  view_source (nested q alias) ks rest h = absurd h

  source_split : (s : Source) (ks rest : List Kind) → StopsSource rest → IsSource free s ks rest → IsNestedSource s ks rest ⊎ ((sees_sign "(" ks ≡ false) × IsViewSource s ks rest)
  source_split (nested q alias) ks rest stops h = inl h
  source_split (view name alias) ks rest stops h = inr (name_no_sign name ks h.0 h.1 40, h)

  reads_source : Reads (read_source d) (IsSource free) placed_source d StopsSource
  unfolding source_with
  reads_source =
      reads_choice (sees_sign "(") _ _ d
      (reads_where d
      (reads_after_mapped (symbol "(") _ d made_nested
      (reads_passed_pair (symbol "(") (within d) a_name d (reads_pair d parens (reads_name d) (λ b ks rest stops h. tt)))
      IsNestedSource placed_source (λ pair ks rest h. h) nested_made)
      (λ ks stops. tt))
      reads_view (IsSource free) nested_source view_source source_split

  comma_stops_source : (ks : List Kind) → sees_sign "," ks ≡ true → StopsSource ks
  comma_stops_source ks h = rw (sees_symbol_is 44 ks h) (tt, refl)

  reads_sources : Reads (separated (sees_sign ",") (read_source d)) (Separated (Symbol ",") (IsSource free)) (placed_separated placed_source) d (λ ks. StopsSource ks × (sees_sign "," ks ≡ false))
  reads_sources = reads_separated (sees_sign ",") d (takes_sign 44 refl refl) reads_source comma_stops_source

  -- a selection, with the place of its first token
  abbrev IsSelect : Query → Part
  IsSelect (select at items froms clauses) = Keyword free "select" ▸ Separated (Symbol ",") (IsItem free) items ▸ Keyword free "from" ▸ AreSources free froms ▸ AreClauses free clauses
  IsSelect (extract at items spec source tail) = Nowhere
  IsSelect (union sides) = Nowhere
  IsSelect (minus left right) = Nowhere

  abbrev SelectParts : List Item × (List Source × Clauses) → Part
  SelectParts parts = Keyword free "select" ▸ Separated (Symbol ",") (IsItem free) parts.0 ▸ Keyword free "from" ▸ Separated (Symbol ",") (IsSource free) parts.1.0 ▸ AreClauses free parts.1.1

  abbrev placed_select_parts : Placing (List Item × (List Source × Clauses))
  placed_select_parts n parts = placed_pair (placed_separated placed_item) (λ m rest. placed_pair (placed_separated placed_source) placed_clauses (m + 1) rest) (n + 1) parts

  comma_stops_item : (ks : List Kind) → sees_sign "," ks ≡ true → StopsItem ks
  comma_stops_item ks h = rw (sees_symbol_is 44 ks h) ((refl, refl), refl)

  from_stops_items : (ks rest : List Kind) → Keyword free "from" ks rest → StopsItem ks × (sees_sign "," ks ≡ false)
  unfolding same_word
  from_stops_items ks rest h = ((keyword_stops_term "from" ks rest h, keyword_no_other "from" "as" refl ks rest h), keyword_no_sign "from" ks rest h 44)

  reads_select_parts : Reads (keyword "select" ▷ separated (sees_sign ",") (read_item d) ⊗ keyword "from" ▷ separated (sees_sign ",") (read_source d) ⊗ read_clauses d) SelectParts placed_select_parts d (Ends 5)
  reads_select_parts =
      reads_after d (reads_keyword d "select")
      (reads_pair d (reads_separated (sees_sign ",") d (takes_sign 44 refl refl) (reads_item d) comma_stops_item)
      (reads_after d (reads_keyword d "from") (reads_pair d reads_sources (reads_clauses d)
      (λ b ks rest e h. let ends = clauses_end d b ks rest e h in ((tt, ends_no_name ends), ends_no_comma ends))))
      (λ b ks rest e h. from_stops_items ks h.0 h.1))

  -- the places of a selection whose first token has the number `at`
  abbrev placed_as_select : ℕ → Placing Query
  placed_as_select at n (select other items froms clauses) =
      let parts = placed_select_parts n (items, (sources_list froms, clauses)) in (made_select at parts.0, parts.1)
  placed_as_select at n q = (q, n)

  select_made : (at : ℕ) (q : Query) (ks rest : List Kind) → IsSelect q ks rest → Made (made_select at) SelectParts placed_select_parts (placed_as_select at) q ks rest
  select_made at (select other items froms clauses) ks rest (a, h1, (b, h2, (c, h3, (e, h4, h5)))) =
      record {
        of = (items, (sources_list froms, clauses));
        part = (a, h1, (b, h2, (c, h3, (e, sources_listed froms c e h4, h5))));
        places = λ n. refl;
        next = λ n. refl;
      }
  select_made at (extract other items spec source tail) ks rest h = absurd h
  select_made at (union sides) ks rest h = absurd h
  select_made at (minus left right) ks rest h = absurd h

  select_from_parts : (at : ℕ) (parts : List Item × (List Source × Clauses)) (ks rest : List Kind) → SelectParts parts ks rest → IsSelect (made_select at parts) ks rest
  select_from_parts at parts ks rest (a, h1, (b, h2, (c, h3, (e, h4, h5)))) =
      (a, h1, (b, h2, (c, h3, (e, listed_sources parts.1.0 c e h4, h5))))

  reads_select : (at : ℕ) → Reads (keyword "select" ▷ selection d (within d) at) IsSelect (placed_as_select at) d (Ends 5)
  unfolding selection
  reads_select at =
      reads_after_mapped (keyword "select") _ d (made_select at) reads_select_parts IsSelect (placed_as_select at) (select_from_parts at) (select_made at)

  -- an extraction
  abbrev IsExtract : Query → Part
  IsExtract (extract at items spec source tail) = Keyword free "extract" ▸ IsExtracted free items spec ▸ Keyword free "from" ▸ IsSource free source ▸ IsTail free tail
  IsExtract (select at items froms clauses) = Nowhere
  IsExtract (union sides) = Nowhere
  IsExtract (minus left right) = Nowhere

  abbrev ExtractParts : (List Item × Spec) × (Source × Tail) → Part
  ExtractParts parts = Keyword free "extract" ▸ IsExtracted free parts.0.0 parts.0.1 ▸ Keyword free "from" ▸ IsSource free parts.1.0 ▸ IsTail free parts.1.1

  abbrev placed_extract_parts : Placing ((List Item × Spec) × (Source × Tail))
  placed_extract_parts n parts = placed_pair (placed_extracted d) (λ m rest. placed_pair placed_source placed_tail (m + 1) rest) (n + 1) parts

  from_no_and : (ks rest : List Kind) → Keyword free "from" ks rest → StopsGroups d ks
  unfolding same_word
  from_no_and ks rest h = (tt, keyword_no_other "from" "and" refl ks rest h)

  reads_extract_parts : Reads (keyword "extract" ▷ read_extracted d ⊗ keyword "from" ▷ read_source d ⊗ read_tail d) ExtractParts placed_extract_parts d (Ends 5)
  reads_extract_parts =
      reads_after d (reads_keyword d "extract")
      (reads_pair d (reads_extracted d)
      (reads_after d (reads_keyword d "from") (reads_pair d reads_source (reads_tail d)
      (λ b ks rest e h. let ends = tail_ends d b ks rest e h in (tt, ends_no_name ends))))
      (λ b ks rest e h. from_no_and ks h.0 h.1))

  abbrev placed_as_extract : ℕ → Placing Query
  placed_as_extract at n (extract other items spec source tail) =
      let parts = placed_extract_parts n ((items, spec), (source, tail)) in (made_extract at parts.0, parts.1)
  placed_as_extract at n q = (q, n)

  extract_made : (at : ℕ) (q : Query) (ks rest : List Kind) → IsExtract q ks rest → Made (made_extract at) ExtractParts placed_extract_parts (placed_as_extract at) q ks rest
  extract_made at (extract other items spec source tail) ks rest h =
      record { of = ((items, spec), (source, tail)); part = h; places = λ n. refl; next = λ n. refl }
  extract_made at (select other items froms clauses) ks rest h = absurd h
  extract_made at (union sides) ks rest h = absurd h
  extract_made at (minus left right) ks rest h = absurd h

  reads_extract : (at : ℕ) → Reads (keyword "extract" ▷ extraction d (within d) at) IsExtract (placed_as_extract at) d (Ends 5)
  unfolding extraction
  reads_extract at =
      reads_after_mapped (keyword "extract") _ d (made_extract at) reads_extract_parts IsExtract (placed_as_extract at) (λ parts ks rest h. h) (extract_made at)

  -- a selection or an extraction, whose first token has the number `at`
  abbrev IsPlain : Query → Part
  IsPlain (select at items froms clauses) = IsQuery free (select at items froms clauses)
  IsPlain (extract at items spec source tail) = IsQuery free (extract at items spec source tail)
  IsPlain (union sides) = Nowhere
  IsPlain (minus left right) = Nowhere

  abbrev placed_plain : ℕ → Placing Query
  placed_plain at n (select other items froms clauses) = placed_as_select at n (select other items froms clauses)
  placed_plain at n (extract other items spec source tail) = placed_as_extract at n (extract other items spec source tail)
  placed_plain at n q = (q, n)

  select_placed : (at : ℕ) (q : Query) (ks rest : List Kind) → IsSelect q ks rest → (n : ℕ) → placed_plain at n q ≡ placed_as_select at n q
  select_placed at (select other items froms clauses) ks rest h n = refl
  select_placed at (extract other items spec source tail) ks rest h n = absurd h
  select_placed at (union sides) ks rest h n = absurd h
  select_placed at (minus left right) ks rest h n = absurd h

  extract_placed : (at : ℕ) (q : Query) (ks rest : List Kind) → IsExtract q ks rest → (n : ℕ) → placed_plain at n q ≡ placed_as_extract at n q
  extract_placed at (extract other items spec source tail) ks rest h n = refl
  extract_placed at (select other items froms clauses) ks rest h n = absurd h
  extract_placed at (union sides) ks rest h n = absurd h
  extract_placed at (minus left right) ks rest h n = absurd h

  select_plain : (q : Query) (ks rest : List Kind) → IsSelect q ks rest → IsPlain q ks rest
  select_plain (select other items froms clauses) ks rest h = h
  select_plain (extract other items spec source tail) ks rest h = absurd h
  select_plain (union sides) ks rest h = absurd h
  select_plain (minus left right) ks rest h = absurd h

  extract_plain : (q : Query) (ks rest : List Kind) → IsExtract q ks rest → IsPlain q ks rest
  extract_plain (extract other items spec source tail) ks rest h = h
  extract_plain (select other items froms clauses) ks rest h = absurd h
  extract_plain (union sides) ks rest h = absurd h
  extract_plain (minus left right) ks rest h = absurd h

  extract_no_select : (ks rest : List Kind) → Keyword free "extract" ks rest → sees "select" ks ≡ false
  unfolding same_word
  extract_no_select ks rest h = keyword_no_other "extract" "select" refl ks rest h

  plain_split : (q : Query) (ks rest : List Kind) → Ends 5 rest → IsPlain q ks rest → IsSelect q ks rest ⊎ ((sees "select" ks ≡ false) × IsExtract q ks rest)
  plain_split (select other items froms clauses) ks rest e h = inl h
  plain_split (extract other items spec source tail) ks rest e h = inr (extract_no_select ks h.0 h.1, h)
  plain_split (union sides) ks rest e h = absurd h
  plain_split (minus left right) ks rest e h = absurd h

  reads_plain_at : (at : ℕ) → Reads (eaten (sees "select") (selection d (within d) at) (keyword "extract" ▷ extraction d (within d) at)) IsPlain (placed_plain at) d (Ends 5)
  reads_plain_at at =
      reads_choice (sees "select") _ _ d
      (reads_recast d (reads_select at) IsSelect (placed_plain at) (λ q ks rest h. h) (λ q ks rest h. h) (select_placed at))
      (reads_recast d (reads_extract at) IsExtract (placed_plain at) (λ q ks rest h. h) (λ q ks rest h. h) (extract_placed at))
      IsPlain select_plain extract_plain plain_split

  -- the places of a query that begins here
  plain_placed : (q : Query) (ks rest : List Kind) → IsPlain q ks rest → (n : ℕ) → placed_query n q ≡ placed_plain n n q
  plain_placed (select other items froms clauses) ks rest h n =
      rw (placed_sources_as ((placed_separated placed_item (n + 1) items).1 + 1) froms) refl
  plain_placed (extract other items spec source tail) ks rest h n = refl
  plain_placed (union sides) ks rest h n = absurd h
  plain_placed (minus left right) ks rest h n = absurd h

  reads_plain : Reads (λ n ks. eaten (sees "select") (selection d (within d) n) (keyword "extract" ▷ extraction d (within d) n) n ks) IsPlain placed_query d (Ends 5)
  reads_plain =
      reads_recast d (reads_at (λ at. eaten (sees "select") (selection d (within d) at) (keyword "extract" ▷ extraction d (within d) at)) placed_plain d reads_plain_at)
      IsPlain placed_query (λ q ks rest h. h) (λ q ks rest h. h) plain_placed

  -- queries put together
  abbrev IsTogether : Query → Part
  IsTogether (union sides) = AreSides free sides
  IsTogether (minus left right) = IsClosed left ▸ Keyword free "minus" ▸ IsClosed right
  IsTogether (select at items froms clauses) = Nowhere
  IsTogether (extract at items spec source tail) = Nowhere

  reads_minus_side : Reads (keyword "minus" ▷ symbol "(" ▷ within d) (λ q. Keyword free "minus" ▸ IsClosed q) (λ n q. placed_closed (n + 1) q) d Always
  reads_minus_side = reads_after d (reads_keyword d "minus") parens

  reads_side : Reads (side d (within d)) IsSideAfter (λ n q. placed_closed (n + 1) q) d Always
  unfolding side
  reads_side = reads_after d (reads_keyword d "all") parens

  reads_sides : Reads (keyword "union" ▷ separated (sees "union") (side d (within d))) (λ qs. Keyword free "union" ▸ Separated (Keyword free "union") IsSideAfter qs) (λ n qs. placed_separated (λ m q. placed_closed (m + 1) q) (n + 1) qs) d (λ ks. Always ks × (sees "union" ks ≡ false))
  reads_sides =
      reads_after d (reads_keyword d "union") (reads_separated (sees "union") d (takes_keyword "union") reads_side (λ ks h. tt))

  -- the sides after the first as a list
  listed_later_sides : (qs : List Query) (ks rest : List Kind) → Each (λ q. Keyword free "union" ▸ IsSideAfter q) qs ks rest → AreLaterSides free (as_queries qs) ks rest
  listed_later_sides [] ks rest h = h
  listed_later_sides (q ∷ qs) ks rest h = (h.1.0, h.1.1, (h.1.2.0, h.1.2.1, (h.0, h.1.2.2, listed_later_sides qs h.0 rest h.2)))

  listed_other_sides : (qs : List Query) (ks rest : List Kind) → (Keyword free "union" ▸ Separated (Keyword free "union") IsSideAfter qs) ks rest → AreOtherSides free (as_queries qs) ks rest
  listed_other_sides [] ks rest h = absurd h.2
  listed_other_sides (q ∷ qs) ks rest h = (h.0, h.1, (h.2.1.0, h.2.1.1, (h.2.0, h.2.1.2, listed_later_sides qs h.2.0 rest h.2.2)))

  abbrev sides_list : Queries → List Query
  sides_list no_queries = []
  sides_list (more_queries q qs) = q ∷ sides_list qs

  later_sides_listed : (qs : Queries) (ks rest : List Kind) → AreLaterSides free qs ks rest → Each (λ q. Keyword free "union" ▸ IsSideAfter q) (sides_list qs) ks rest
  later_sides_listed no_queries ks rest h = h
  later_sides_listed (more_queries q qs) ks rest h = (h.2.2.0, (h.0, h.1, (h.2.0, h.2.1, h.2.2.1)), later_sides_listed qs h.2.2.0 rest h.2.2.2)

  other_sides_listed : (qs : Queries) (ks rest : List Kind) → AreOtherSides free qs ks rest → (Keyword free "union" ▸ Separated (Keyword free "union") IsSideAfter (sides_list qs)) ks rest
  other_sides_listed no_queries ks rest h = absurd h
  other_sides_listed (more_queries q qs) ks rest h = (h.0, h.1, (h.2.2.0, (h.2.0, h.2.1, h.2.2.1), later_sides_listed qs h.2.2.0 rest h.2.2.2))

  as_sides_list : (qs : Queries) → as_queries (sides_list qs) ≡ qs
  as_sides_list no_queries = refl
  as_sides_list (more_queries q qs) = ap (more_queries q) (as_sides_list qs)

  placed_later_sides-list : (n : ℕ) (qs : List Query) → placed_later_sides n (as_queries qs) ≡ (as_queries (placed_each (λ m q. placed_closed (m + 1 + 1) q) n qs).0, (placed_each (λ m q. placed_closed (m + 1 + 1) q) n qs).1)
  placed_later_sides-list n [] = refl
  placed_later_sides-list n (q ∷ qs) = rw (placed_later_sides-list ((placed_query (n + 1 + 1 + 1) q).1 + 1) qs) refl

  placed_other_sides-list : (n : ℕ) (q : Query) (qs : Queries) → placed_later_sides n (more_queries q qs) ≡ (as_queries (placed_separated (λ m q. placed_closed (m + 1) q) (n + 1) (q ∷ sides_list qs)).0, (placed_separated (λ m q. placed_closed (m + 1) q) (n + 1) (q ∷ sides_list qs)).1)
  placed_other_sides-list n q qs =
      let later = ap (placed_later_sides ((placed_query (n + 1 + 1 + 1) q).1 + 1)) (sym (as_sides_list qs)) ∙ placed_later_sides-list ((placed_query (n + 1 + 1 + 1) q).1 + 1) (sides_list qs) in
      rw later refl

  union_no_minus : (ks rest : List Kind) → Keyword free "union" ks rest → sees "minus" ks ≡ false
  unfolding same_word
  union_no_minus ks rest h = keyword_no_other "union" "minus" refl ks rest h

  put_sound : (first : Query) (ks : List Kind) (n : ℕ) (mid : List Kind) (q : Query) (m : ℕ) (rest : List Kind) → IsClosed first ks mid → put_together d (within d) first n mid ≡ Some (q, m, rest) → IsTogether q ks rest
  unfolding put_together
  put_sound first ks n mid q m rest closed h = ⊎_elim
      (λ c.
      let one = bind ((symbol "(" ▷ within d) (n + 1) (after mid)) _ _ c.1 in
      let same = some_parts _ _ _ _ _ _ one.4 in
      carried IsTogether (minus first one.0) q ks one.2 rest same.0 same.2
      (mid, closed, (after mid, (takes_keyword "minus").found mid c.0, parens.sound (n + 1) (after mid) one.0 one.1 one.2 one.3)))
      (λ c.
      let one = bind ((keyword "union" ▷ separated (sees "union") (side d (within d))) n mid) _ _ c.1 in
      let same = some_parts _ _ _ _ _ _ one.4 in
      carried IsTogether (union (as_queries (first ∷ one.0))) q ks one.2 rest same.0 same.2
      (mid, closed, listed_other_sides one.0 mid one.2 (reads_sides.sound n mid one.0 one.1 one.2 one.3)))
      (chosen (sees "minus" mid) _ _ _ h)

  put_minus : (first second : Query) (n : ℕ) (mid : List Kind) (q : Query) (m : ℕ) (rest : List Kind) → sees "minus" mid ≡ true → (keyword "minus" ▷ symbol "(" ▷ within d) n mid ≡ Some (q, m, rest) → put_together d (within d) first n mid ≡ Some (minus first q, m, rest)
  unfolding put_together
  put_minus first second n mid q m rest seen h =
      let here : (symbol "(" ▷ within d) (n + 1) (after mid) ≡ Some (q, m, rest) = rw seen at h in
      rw (seen, here) refl

  put_union : (first : Query) (n : ℕ) (mid : List Kind) (qs : List Query) (m : ℕ) (rest : List Kind) → sees "minus" mid ≡ false → (keyword "union" ▷ separated (sees "union") (side d (within d))) n mid ≡ Some (qs, m, rest) → put_together d (within d) first n mid ≡ Some (union (as_queries (first ∷ qs)), m, rest)
  unfolding put_together
  put_union first n mid qs m rest unseen h = rw (unseen, h) refl

  abbrev together : Reader Query
  together m ks = and_then (within d m ks) (put_together d (within d))

  together_complete : (n : ℕ) (ks : List Kind) (q : Query) (rest : List Kind) → Ends 5 rest → IsWithin d ks → IsTogether q ks rest → Found (take_if (sees_sign "(") ▷ together) placed_query d n ks q rest
  together_complete n ks (minus left right) rest e inside h =
      let one = parens.complete n ks left h.0 tt inside h.1 in
      let two = reads_minus_side.complete (placed_closed n left).1 h.0 right rest tt one.within h.2 in
      let seen = (takes_keyword "minus").tested h.0 h.2.0 h.2.1 in
      record {
        reads = passed_on (symbol "(" n ks) (within d) (put_together d (within d)) ∙ rw one.reads (put_minus (placed_closed n left).0 right (placed_closed n left).1 h.0 _ _ rest seen.0 two.reads);
        within = two.within;
        shorter = omega (arith, one.shorter, two.shorter);
      }
  together_complete n ks (union no_queries) rest e inside h = absurd h
  together_complete n ks (union (more_queries first no_queries)) rest e inside h = absurd h.2
  together_complete n ks (union (more_queries first (more_queries second others))) rest e inside h =
      let one = parens.complete n ks first h.0 tt inside h.1 in
      let two = reads_sides.complete (placed_closed n first).1 h.0 (second ∷ sides_list others) rest (tt, ends_no_union (ends_weaker 0 (omega arith) e)) one.within (other_sides_listed (more_queries second others) h.0 rest h.2) in
      let put = put_union (placed_closed n first).0 (placed_closed n first).1 h.0 _ _ rest (union_no_minus h.0 h.2.0 h.2.1) two.reads in
      record {
        reads = passed_on (symbol "(" n ks) (within d) (put_together d (within d)) ∙ rw one.reads (put ∙ ap (λ placed. Some (union (more_queries (placed_closed n first).0 placed.0), placed.1, rest)) (sym (placed_other_sides-list (placed_closed n first).1 second others)));
        within = two.within;
        shorter = omega (arith, one.shorter, two.shorter);
      }
  together_complete n ks (select at items froms clauses) rest e inside h = absurd h
  together_complete n ks (extract at items spec source tail) rest e inside h = absurd h

  reads_together : Reads (take_if (sees_sign "(") ▷ together) IsTogether placed_query d (Ends 5)
  reads_together = record {
    sound = λ n ks q m rest h.
        let one = bind ((symbol "(" ▷ within d) n ks) _ _ (sym (passed_on (symbol "(" n ks) (within d) (put_together d (within d))) ∙ h) in
        put_sound one.0 ks one.1 one.2 q m rest (parens.sound n ks one.0 one.1 one.2 one.3) one.4;
    complete = together_complete;
  }

  together_query : (q : Query) (ks rest : List Kind) → IsTogether q ks rest → IsQuery free q ks rest
  together_query (union sides) ks rest h = h
  together_query (minus left right) ks rest h = h
  together_query (select at items froms clauses) ks rest h = absurd h
  together_query (extract at items spec source tail) ks rest h = absurd h

  plain_query : (q : Query) (ks rest : List Kind) → IsPlain q ks rest → IsQuery free q ks rest
  plain_query (select at items froms clauses) ks rest h = h
  plain_query (extract at items spec source tail) ks rest h = h
  plain_query (union sides) ks rest h = absurd h
  plain_query (minus left right) ks rest h = absurd h

  query_split : (q : Query) (ks rest : List Kind) → Ends 5 rest → IsQuery free q ks rest → IsTogether q ks rest ⊎ ((sees_sign "(" ks ≡ false) × IsPlain q ks rest)
  query_split (union sides) ks rest e h = inl h
  query_split (minus left right) ks rest e h = inl h
  query_split (select at items froms clauses) ks rest e h = inr (keyword_no_sign "select" ks h.0 h.1 40, h)
  query_split (extract at items spec source tail) ks rest e h = inr (keyword_no_sign "extract" ks h.0 h.1 40, h)

  reads_query_with : Reads (query_with d (within d)) (IsQuery free) placed_query d (Ends 5)
  reads_query_with =
      reads_choice (sees_sign "(") together (λ n ks. eaten (sees "select") (selection d (within d) n) (keyword "extract" ▷ extraction d (within d) n) n ks) d
      reads_together reads_plain (IsQuery free) together_query plain_query query_split

-- a query is read within any number of parentheses
pub reads_query : (d : ℕ) → Reads (read_query d) (IsQuery free) placed_query d (Ends 5)
unfolding read_query
reads_query zero = reads_query_with 0 no_parens
reads_query (suc e) = reads_query_with (suc e) (more_parens e (reads_query e))
