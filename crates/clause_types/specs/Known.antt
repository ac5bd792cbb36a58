-- What is known of a program's patterns and dictionaries.
use Rattle.std.specs.Prelude.{ℕ, Bool, List, Option}
use Rattle.std.specs.Str.{bytes_eq}
use Rattle.aql_regex_extract.specs.declared.pattern.PatternFault.{PatternFault}
use Rattle.aql_syntax.specs.Trees.{Statement}
use Rattle.aql_tables.specs.Numbers.{number_among}
use Rattle.aql_tables.specs.Programs.{Collected, collected, is_dictionary, same_dict}
use Rattle.aql_tables.specs.Verdicts as verdict

-- the number of a pattern, the fault of a text that is none, and how many groups it has besides group 0; whether a
-- dictionary has a name, and its number, by name and by whether case counts
pub record Known : Type 0 where
  pub pattern_number : List ℕ → ℕ
  pub pattern_fault : List ℕ → Option PatternFault
  pub group_count : List ℕ → ℕ
  pub is_dictionary : List ℕ → Bool
  pub dict_number : List ℕ → Bool → ℕ

-- of a program of which these patterns and dictionaries are collected
abbrev pub known_in : List Statement → Collected → Known
known_in program tables = record {
  pattern_number = λ text. number_among bytes_eq text tables.lists.patterns;
  pattern_fault = verdict.pattern_fault;
  group_count = verdict.groups_of;
  is_dictionary = is_dictionary program;
  dict_number = λ name exact. number_among same_dict (name, exact) tables.dicts;
}

-- of a program
abbrev pub known_of_program : List Statement → Known
known_of_program program = known_in program (collected program)
