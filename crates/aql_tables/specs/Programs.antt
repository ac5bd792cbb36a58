-- The patterns and dictionaries of a program, each once, in the order in which they are first mentioned.
use Rattle.std.specs.Prelude.{ℕ, Bool, ◌&&◌, if◌then◌else◌, List, [], ◌∷◌, Option, Some, None, is_some, unwrap_or, map, flat_map, ◌≡◌, IsTrue, slice_get, All, Contains}
use Rattle.std.specs.Bool.{beq}
use Rattle.std.specs.Str.{bytes_eq}
use Rattle.aql_syntax.specs.Trees.{Statement, dictionary}
use Rattle.dict_match.specs.declared.dict_use.DictUse.{DictUse}
use Rattle.scalar_ops.specs.Tables.{Lists}
use Rattle.aql_tables.specs.Mentions.{Mention, of_pattern, of_dictionary, mentions_of}
use Rattle.view_graph.specs.Names.{AllDiffer}
use Rattle.aql_tables.specs.Numbers.{each_once, number_among}
use Rattle.aql_tables.specs.Verdicts.{is_pattern}

-- a dictionary's name, and whether case counts
abbrev pub DictKey : Type 0
DictKey = List ℕ × Bool

abbrev pub same_dict : DictKey → DictKey → Bool
same_dict a b = bytes_eq a.0 b.0 && beq a.1 b.1

-- the entries of the first dictionary with this name, if there is one
abbrev pub entries_of : List Statement → List ℕ → Option (List (List ℕ))
entries_of [] name = None
entries_of (dictionary own entries ∷ statements) name =
    if bytes_eq name own.text then Some entries else entries_of statements name
entries_of (statement ∷ statements) name = entries_of statements name

-- a dictionary has this name
abbrev pub is_dictionary : List Statement → List ℕ → Bool
is_dictionary program name = is_some (entries_of program name)

-- the dictionary with its entries, for a name that one has
abbrev pub use_of : List Statement → DictKey → DictUse
use_of program key = record { entries = unwrap_or (entries_of program key.0) []; exact = key.1 }

-- what is mentioned, where it is a pattern
abbrev pub pattern_in : Mention → List (List ℕ)
pattern_in (of_pattern text) = if is_pattern text then text ∷ [] else []
pattern_in (of_dictionary name exact) = []

-- what is mentioned, where it is a dictionary of the program
abbrev pub dict_in : List Statement → Mention → List DictKey
dict_in program (of_pattern text) = []
dict_in program (of_dictionary name exact) = if is_dictionary program name then (name, exact) ∷ [] else []

-- the patterns of some mentions, each once
abbrev pub patterns_among : List Mention → List (List ℕ)
patterns_among mentions = each_once bytes_eq (flat_map pattern_in mentions)

-- the dictionaries of some mentions, each once
abbrev pub dicts_among : List Statement → List Mention → List DictKey
dicts_among program mentions = each_once same_dict (flat_map (dict_in program) mentions)

-- the texts of a program that are patterns
abbrev pub patterns_of : List Statement → List (List ℕ)
patterns_of program = patterns_among (mentions_of program)

-- the dictionaries of a program, with whether case counts
abbrev pub dicts_of : List Statement → List DictKey
dicts_of program = dicts_among program (mentions_of program)

-- the patterns, and the dictionaries with their entries
abbrev pub lists_of : List Statement → Lists
lists_of program = record { patterns = patterns_of program; dicts = map (use_of program) (dicts_of program) }

-- what is collected of a program: the lists that its expressions count in, and the dictionaries by name
pub record Collected : Type 0 where
  pub lists : Lists
  pub dicts : List DictKey

abbrev pub collected : List Statement → Collected
collected program = record { lists = lists_of program; dicts = dicts_of program }

-- what is mentioned stands at its number: a pattern with its text, a dictionary with its entries
abbrev pub IsListed : List Statement → Collected → Mention → Type 0
IsListed program tables (of_pattern text) =
    IsTrue (is_pattern text) → slice_get tables.lists.patterns (number_among bytes_eq text tables.lists.patterns) ≡ Some text
IsListed program tables (of_dictionary name exact) = IsTrue (is_dictionary program name)
    → slice_get tables.lists.dicts (number_among same_dict (name, exact) tables.dicts) ≡ Some (use_of program (name, exact))

-- all patterns and dictionaries that a program mentions are listed, each once, and nothing else is
pub record ListsMentions (program : List Statement) (tables : Collected) : Type 0 where
  pub listed : All (IsListed program tables) (mentions_of program)
  pub patterns_distinct : AllDiffer tables.lists.patterns
  pub dicts_distinct : AllDiffer tables.dicts
  pub only_patterns : All (λ text. IsTrue (is_pattern text) × Contains (mentions_of program) (of_pattern text)) tables.lists.patterns
  pub only_dicts : All (λ key. IsTrue (is_dictionary program key.0) × Contains (mentions_of program) (of_dictionary key.0 key.1)) tables.dicts
