-- An extraction without a fault gives as many columns as its items and what it looks for, and the columns that it reads
-- are there.
use Rattle.std.proofs.Common.{◌≡◌, ◌∙◌, ◌+◌, ◌<◌, ◌≤◌, ℕ, ℤ, pos, negsuc, nat_abs, int_le, true, ◌&&◌, Option, Some, None, List, [], ◌++◌, length, refl, ap₂, sym, subst, arith}
use Rattle.std.proofs.lemmas.Bool.{leb-true, and_parts, false≢true}
use Rattle.std.proofs.lemmas.List.{length-append, length-map}
use Rattle.std.proofs.lemmas.List.Elements.{All-head}
use Rattle.aql_syntax.specs.Trees.{Name, Item, Tail, Range, Group, Spec, pattern, dict, blocks}
use Rattle.aql_typed.specs.Fitting.{found_width, extract_width, FitsExtraction, searched_column, ExtractReads}
use Rattle.aql_typed.specs.Trees as tree
use Rattle.scalar_ops.specs.Expressions as expressed
use Rattle.scalar_ops.specs.Expressions.{ReadsBelow}
use Rattle.scalar_ops.specs.declared.kind.Kind.TheVariants as kind
use Rattle.clause_types.specs.declared.fault.Breach.{Breach}
use Rattle.clause_types.specs.declared.fault.TypeRule.TheVariants.{BadRange}
use Rattle.clause_types.specs.declared.wanted.Wanted.TheVariants.{OfKind}
use Rattle.clause_types.specs.Calls.{wrong_argument}
use Rattle.clause_types.specs.Clauses.{kind_faults}
use Rattle.clause_types.specs.Expressions.{wrong_pattern}
use Rattle.clause_types.specs.Extractions.{low_of, high_of, are_count_bounds, bad_range, bad_bound, bad_groups, group_numbers, items_beside, alias_on, name_on, names_found, columns_found, pattern_looked_for, typing_on, column_scope, spec_faults, looked_for, tail_faults, items_extracted, columns_given, found_faults, extract_clauses}
use Rattle.clause_types.specs.Items.{duplicate_columns, faults_of_items, columns_of_items, names_of_items}
use Rattle.clause_types.specs.Known.{Known}
use Rattle.clause_types.specs.Scopes.{Visible, Scope, Numbered, SourceColumns, column_named, source_named, found_or_unknown, column_in}
use Rattle.clause_types.specs.Typings.{Typing, ItemTyping, term_meant, column_meant, column_of_item}
use Rattle.clause_types.specs.FaultlessLaws.{both_none, not_nil, unbroken}
use Rattle.clause_types.specs.ReadingLaws.{row_width, ScopeReads, column_reads, terms_read, target_reads, extract_items_read}
use Rattle.clause_types.specs.SelectionLaws.{values_read}

-- a number from 1
one_or_more : (low : ℤ) → int_le (pos 1) low ≡ true → 1 ≤ nat_abs low
one_or_more (pos n) h = leb-true 1 n h
one_or_more (negsuc n) h = absurd (false≢true h)

low_within : (range : Range) → bad_range are_count_bounds range ≡ [] → 1 ≤ nat_abs (low_of range).value
low_within range h =
    let low = (low_of range).value in
    let high = (high_of range).value in
    let within = unbroken (are_count_bounds low high) (low_of range).at (BadRange low high) h in
    one_or_more low (and_parts (int_le (pos 1) low) (int_le low high && int_le high (pos 1000)) within).0

-- a pattern gives a column for each group
pattern_wide : (column p : ℕ) (groups : List Group) (bound : Option Range) → found_width (pattern_looked_for column p (group_numbers groups) bound) ≡ length groups
pattern_wide column p groups None = length-map groups _
pattern_wide column p groups (Some range) = length-map groups _

-- a column without a fault is one by its number
found_is : (at : ℕ) (name : List ℕ) (found : Option Numbered) → (found_or_unknown at name found).faults ≡ []
    → term_meant (found_or_unknown at name found).meant ≡ expressed.column (column_meant (found_or_unknown at name found).meant)
found_is at name None h = absurd (not_nil _ _ h)
found_is at name (Some found) h = refl

column_is : (at : ℕ) (alias name : Name) (source : Option SourceColumns) → (column_in at alias name source).faults ≡ []
    → term_meant (column_in at alias name source).meant ≡ expressed.column (column_meant (column_in at alias name source).meant)
column_is at alias name None h = absurd (not_nil _ _ h)
column_is at alias name (Some source) h = found_is at name.text (column_named name.text source.start source.columns) h

-- the column in which is looked is one of the row
column_within : (width : ℕ) (sources : List Visible) (spec : Spec) → row_width sources ≤ width → (typing_on sources spec).faults ≡ []
    → column_meant (typing_on sources spec).meant < width
column_within width sources spec wide h =
    let alias = alias_on spec in
    let name = name_on spec in
    All-head (λ n. n < width) (column_meant (typing_on sources spec).meant) []
    (subst (λ (t : expressed.Term). ReadsBelow width t) (column_is alias.at alias name (source_named alias.text 0 sources) h)
    (column_reads width alias.at alias name 0 sources (omega (arith, wide))))

pattern_column : (column p : ℕ) (groups : List ℕ) (bound : Option Range) → searched_column (pattern_looked_for column p groups bound) ≡ column
pattern_column column p groups None = refl
pattern_column column p groups (Some range) = refl

module _ (known : Known) where
  column_searched : (column : ℕ) (spec : Spec) → searched_column (looked_for known column spec) ≡ column
  column_searched column (pattern text bound alias name groups) =
      pattern_column column (known.pattern_number text.text) (group_numbers groups) bound
  column_searched column (dict table flag alias name out) = refl
  column_searched column (blocks count gap tokens alias name out) = refl

  found_wide : (column : ℕ) (spec : Spec) → found_width (looked_for known column spec) ≡ length (columns_found spec)
  found_wide column (pattern text bound alias name groups) =
      pattern_wide column (known.pattern_number text.text) groups bound
      ∙ sym (length-map (names_found (pattern text bound alias name groups)) _ ∙ length-map groups _)
  found_wide column (dict table flag alias name out) = refl
  found_wide column (blocks count gap tokens alias name out) = refl

  module _ (row : Scope) (items : List Item) (spec : Spec) (tail : Tail) where
    -- its columns are as many as what it is made of
    pub extract_wide : extract_width (extract_clauses known row items spec tail) ≡ length (columns_given known row items spec tail)
    extract_wide =
        let typed = items_extracted known row items spec tail in
        ap₂ ◌+◌ (length-map typed _ ∙ sym (length-map typed column_of_item)) (found_wide (column_meant (typing_on row.sources spec).meant) spec)
        ∙ sym (length-append (columns_of_items typed) (columns_found spec))

    module _ (none : found_faults known row items spec tail ≡ []) where
      abbrev typed : List ItemTyping
      typed = items_extracted known row items spec tail

      abbrev names : List Breach
      names = duplicate_columns (names_of_items typed ++ names_found spec)

      abbrev rest : List Breach
      rest = tail_faults known (column_scope (columns_given known row items spec tail)) tail

      abbrev on : Typing
      on = typing_on row.sources spec

      after_items : kind_faults known kind.Span on ++ (spec_faults known spec ++ (names ++ rest)) ≡ []
      after_items = (both_none (faults_of_items typed) (kind_faults known kind.Span on ++ (spec_faults known spec ++ (names ++ rest))) none).1

      on_sound : on.faults ≡ []
      on_sound =
          let p = both_none (kind_faults known kind.Span on) (spec_faults known spec ++ (names ++ rest)) after_items in
          (both_none on.faults (wrong_argument known (OfKind kind.Span) on) p.0).0

      from_spec : spec_faults known spec ++ (names ++ rest) ≡ []
      from_spec = (both_none (kind_faults known kind.Span on) (spec_faults known spec ++ (names ++ rest)) after_items).1

      pub found_once : names ≡ []
      found_once = (both_none names rest (both_none (spec_faults known spec) (names ++ rest) from_spec).1).0

      pub spec_sound : spec_faults known spec ≡ []
      spec_sound = (both_none (spec_faults known spec) (names ++ rest) from_spec).0

      abbrev given : Scope
      given = column_scope (columns_given known row items spec tail)

      abbrev wide : ℕ
      wide = extract_width (extract_clauses known row items spec tail)

      given_reads : ScopeReads wide given
      given_reads = record {
        sources = omega arith;
        names = subst (λ n. length (columns_given known row items spec tail) ≤ n) (sym extract_wide) (omega arith);
      }

      -- items read the columns of the source; what stands behind them reads the columns that are given
      pub extract_reads : (width : ℕ) → ScopeReads width row → ExtractReads width (extract_clauses known row items spec tail)
      extract_reads width reads = record {
        column = subst (λ n. n < width) (sym (column_searched (column_meant on.meant) spec)) (column_within width row.sources spec reads.sources on_sound);
        items = values_read width typed (extract_items_read width known row reads (items_beside spec items));
        conds = terms_read wide known given given_reads tail.conds;
        target = target_reads wide known given given_reads tail.cons;
      }

  pattern_fits : (clauses : tree.ExtractClauses) (column p : ℕ) (groups : List ℕ) (bound : Option Range) → bad_bound bound ≡ []
      → FitsExtraction clauses (pattern_looked_for column p groups bound)
  pattern_fits clauses column p groups None h = tt
  pattern_fits clauses column p groups (Some range) h = low_within range h

  -- a run of tokens has one or more, and blocks have no items
  pub extraction_fits : (row : Scope) (items : List Item) (spec : Spec) (tail : Tail) → spec_faults known spec ≡ []
      → FitsExtraction (extract_clauses known row items spec tail) (extract_clauses known row items spec tail).extraction
  extraction_fits row items (pattern text bound alias name groups) tail h =
      let clauses = extract_clauses known row items (pattern text bound alias name groups) tail in
      let column = column_meant (typing_on row.sources (pattern text bound alias name groups)).meant in
      let p = both_none (wrong_pattern text.at (known.pattern_fault text.text)) (bad_bound bound ++ bad_groups (known.group_count text.text) groups) h in
      let q = both_none (bad_bound bound) (bad_groups (known.group_count text.text) groups) p.1 in
      pattern_fits clauses column (known.pattern_number text.text) (group_numbers groups) bound q.0
  extraction_fits row items (dict table flag alias name out) tail h = tt
  extraction_fits row items (blocks count gap tokens alias name out) tail h = refl
