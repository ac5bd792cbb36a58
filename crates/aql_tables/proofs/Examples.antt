-- Rows of the definitions, computed.
use Rattle.std.proofs.Common.{◌≡◌, ℕ, true, false, List, [], ◌∷◌, Some, None, refl}
use Rattle.std.specs.Prelude.{codes}
use Rattle.std.specs.Bool.{nat_eq}
use Rattle.aql_syntax.specs.Trees.{Term, str, regex, bare, call, Terms, as_terms, dictionary, exact}
use Rattle.aql_tables.specs.Mentions.{of_pattern, of_dictionary, flags_in, mentions_in_term, mentions_in_text, is_exact}
use Rattle.aql_tables.specs.Numbers.{each_once, number_among}
use Rattle.aql_tables.specs.Programs.{entries_of}

-- texts and a name in a tree
abbrev text : List ℕ → Term
text bytes = str 0 bytes

abbrev name : Term
name = bare 0 (record { text = codes "n"; at = 0 })

a_value_stands_where_it_stands_first : each_once nat_eq (3 ∷ 1 ∷ 3 ∷ 2 ∷ 1 ∷ []) ≡ 3 ∷ 1 ∷ 2 ∷ []
a_value_stands_where_it_stands_first = refl

the_first_equal_value_decides : number_among nat_eq 1 (3 ∷ 1 ∷ 1 ∷ []) ≡ 1
the_first_equal_value_decides = refl

a_value_that_is_not_there_has_the_number_behind_all : number_among nat_eq 9 (3 ∷ 1 ∷ []) ≡ 2
a_value_that_is_not_there_has_the_number_behind_all = refl

two_arguments_have_no_flag : flags_in (as_terms (text (codes "Exact") ∷ [])) ≡ false ∷ []
two_arguments_have_no_flag = refl

of_three_arguments_the_second_is_the_flag : flags_in (as_terms (text (codes "Exact") ∷ name ∷ [])) ≡ true ∷ []
of_three_arguments_the_second_is_the_flag = refl

case_does_not_count_by_another_flag : flags_in (as_terms (text (codes "IgnoreCase") ∷ name ∷ [])) ≡ false ∷ []
case_does_not_count_by_another_flag = refl

a_name_may_stand_for_either_flag : flags_in (as_terms (name ∷ name ∷ [])) ≡ false ∷ true ∷ []
a_name_may_stand_for_either_flag = refl

arguments_come_from_the_left : mentions_in_term (call 0 (codes "ContainsDict") (as_terms (text (codes "D") ∷ regex 0 (codes "a") ∷ [])))
    ≡ of_dictionary (codes "D") false ∷ of_pattern (codes "a") ∷ []
arguments_come_from_the_left = refl

another_function_names_no_dictionary : mentions_in_term (call 0 (codes "Equals") (as_terms (text (codes "D") ∷ name ∷ []))) ≡ []
another_function_names_no_dictionary = refl

a_text_of_an_item_is_compared_either_way : mentions_in_text (text (codes "D")) ≡ of_dictionary (codes "D") false ∷ of_dictionary (codes "D") true ∷ []
a_text_of_an_item_is_compared_either_way = refl

an_extraction_ignores_case : is_exact None ≡ false
an_extraction_ignores_case = refl

the_first_dictionary_with_the_name : entries_of (dictionary (record { text = codes "D"; at = 0 }) (codes "a" ∷ []) ∷ dictionary (record { text = codes "D"; at = 0 }) [] ∷ []) (codes "D")
    ≡ Some (codes "a" ∷ [])
the_first_dictionary_with_the_name = refl
