-- Rows of the definitions, computed.
use Rattle.std.proofs.Common.{◌≡◌, pos, negsuc, true, false, [], ◌∷◌, refl}
use Rattle.std.specs.declared.cmp.Ordering.TheVariants.{Less, Equal, Greater}
use Rattle.aql_base.specs.Sorting.{put_in_order, sorted_by}
use Rattle.row_values.specs.Datums.{null, int, truth, text, span, datum_cmp}
use Rattle.row_values.specs.Rows.{row_cmp, sorted}

null_comes_first : datum_cmp null (int (negsuc 4)) ≡ Less
null_comes_first = refl

null_equals_null : datum_cmp null null ≡ Equal
null_equals_null = refl

numbers_come_by_size : datum_cmp (int (negsuc 0)) (int (pos 0)) ≡ Less
numbers_come_by_size = refl

false_comes_before_true : datum_cmp (truth false) (truth true) ≡ Less
false_comes_before_true = refl

numbers_come_before_truth_values : datum_cmp (int (pos 9)) (truth false) ≡ Less
numbers_come_before_truth_values = refl

texts_come_by_bytes : datum_cmp (text (98 ∷ [])) (text (97 ∷ 97 ∷ [])) ≡ Greater
texts_come_by_bytes = refl

spans_come_by_begin : datum_cmp (span (record { begin = 0; end = 9 })) (span (record { begin = 1; end = 1 })) ≡ Less
spans_come_by_begin = refl

spans_of_one_begin_come_by_end : datum_cmp (span (record { begin = 1; end = 3 })) (span (record { begin = 1; end = 2 })) ≡ Greater
spans_of_one_begin_come_by_end = refl

a_prefix_comes_first : row_cmp (null ∷ []) (null ∷ null ∷ []) ≡ Less
a_prefix_comes_first = refl

the_first_column_that_differs_decides : row_cmp (int (pos 1) ∷ int (pos 9) ∷ []) (int (pos 2) ∷ []) ≡ Less
the_first_column_that_differs_decides = refl

sorted_keeps_equal_rows : sorted ((int (pos 2) ∷ []) ∷ (null ∷ []) ∷ (int (pos 2) ∷ []) ∷ []) ≡ (null ∷ []) ∷ (int (pos 2) ∷ []) ∷ (int (pos 2) ∷ []) ∷ []
unfolding sorted sorted_by put_in_order
sorted_keeps_equal_rows = refl
