-- How definitions see what the code keeps.
use Rattle.std.specs.Prelude.{◌≡◌, ℕ, ◌<◌, ◌^◌, Bool, if◌then◌else◌, List, Option, Some, None, map, length}
use Rattle.std.specs.Str.{bytes_eq}
use Rattle.std.specs.Map.{update}
use Rattle.std.specs.HashMap.{HashMap, get_by_text}
use Rattle.std.specs.declared.string.String.{String}
use Rattle.aql_syntax.specs.Trees.{Statement}
use Rattle.dict_match.specs.declared.dict_use.DictUse.{DictUse}
use Rattle.aql_tables.specs.declared.mention.Mention as declared
use Rattle.aql_tables.specs.declared.mention.Mention.TheVariants.{Pattern, Dictionary}
use Rattle.aql_tables.specs.declared.dicts.Dicts.{Dicts}
use Rattle.aql_tables.specs.declared.patterns.Patterns.{Patterns}
use Rattle.aql_tables.specs.declared.patterns.Verdict.{Verdict}
use Rattle.aql_tables.specs.declared.patterns.Verdict.TheVariants.{Number, Fault}
use Rattle.aql_tables.specs.Mentions.{Mention, of_pattern, of_dictionary}
use Rattle.aql_tables.specs.Numbers.{number_among}
use Rattle.aql_tables.specs.Verdicts.{pattern_fault}
use Rattle.aql_tables.specs.Programs.{Collected, DictKey, same_dict, use_of, patterns_among, dicts_among}

abbrev pub mention_of : declared.Mention → Mention
mention_of (Pattern text) = of_pattern text.now
mention_of (Dictionary name exact) = of_dictionary name.now exact

-- what a map has at a text
abbrev pub entry_of : {Y X S : Type 0} → HashMap (String Y) X S → List ℕ → Option X
entry_of entries text = get_by_text entries text

-- a value that is there has this number
pub record IsAt {X : Type 0} (same : X → X → Bool) (xs : List X) (x : X) (number : ℕ) : Type 0 where
  pub number_is : number_among same x xs ≡ number
  pub within : number < length xs

-- the number of a value, or none where it isn't there
abbrev pub IsNumberOf : {X : Type 0} → (X → X → Bool) → List X → X → Option ℕ → Type 0
IsNumberOf same xs x None = number_among same x xs ≡ length xs
IsNumberOf same xs x (Some number) = IsAt same xs x number

-- what is known of a text: it is a pattern with a number, or has a fault, or isn't there
abbrev pub IsTold : List (List ℕ) → List ℕ → Option Verdict → Type 0
IsTold patterns text None = number_among bytes_eq text patterns ≡ length patterns
IsTold patterns text (Some (Number number)) = IsAt bytes_eq patterns text number × (pattern_fault text ≡ None)
IsTold patterns text (Some (Fault fault)) = (number_among bytes_eq text patterns ≡ length patterns) × (pattern_fault text ≡ Some fault)

-- of each text what is known of it
pub record KeepsPatterns (patterns : List (List ℕ)) (verdict_at : List ℕ → Option Verdict) : Type 0 where
  pub short : length patterns < 2 ^ 32
  pub told : (text : List ℕ) → IsTold patterns text (verdict_at text)

-- the patterns of what was seen
pub record HasPatterns (seen : List Mention) (patterns : List (List ℕ)) (verdict_at : List ℕ → Option Verdict) : Type 0 where
  pub patterns_are : patterns_among seen ≡ patterns
  pub keeps : KeepsPatterns patterns verdict_at

-- the number of a dictionary, by the numbers of those whose case counts and of the others
abbrev pub number_by : (List ℕ → Option ℕ) → (List ℕ → Option ℕ) → DictKey → Option ℕ
number_by exact_at other_at key = if key.1 then exact_at key.0 else other_at key.0

-- of each dictionary its number
pub record KeepsDicts (dicts : List DictKey) (number_at : DictKey → Option ℕ) : Type 0 where
  pub short : length dicts < 2 ^ 32
  pub numbered : (key : DictKey) → IsNumberOf same_dict dicts key (number_at key)

-- the dictionaries of what was seen, with their entries
pub record HasDicts (program : List Statement) (seen : List Mention) (dicts : List DictKey) (uses : List DictUse) (number_at : DictKey → Option ℕ) : Type 0 where
  pub dicts_are : dicts_among program seen ≡ dicts
  pub uses_are : map (use_of program) dicts ≡ uses
  pub keeps : KeepsDicts dicts number_at

-- what the code keeps, after what was seen
abbrev pub HoldsPatterns : List Mention → Patterns → Type 0
HoldsPatterns seen patterns = HasPatterns seen patterns.compiled.items (entry_of patterns.verdicts)

abbrev pub dict_numbers : Dicts → DictKey → Option ℕ
dict_numbers dicts = number_by (entry_of dicts.exact) (entry_of dicts.other)

abbrev pub HoldsDicts : List Statement → List Mention → Dicts → Type 0
HoldsDicts program seen dicts = HasDicts program seen dicts.keys.items dicts.uses.items (dict_numbers dicts)

-- the key has the value, and the others are as they were
abbrev pub IsSet : {K X : Type 0} → (K → K → Bool) → (K → Option X) → (K → Option X) → K → X → Type 0
IsSet same old new key value = (other : _) → new other ≡ update same old key (Some value) other

-- tables with these parts
abbrev pub tables_of : List (List ℕ) → List DictUse → List DictKey → Collected
tables_of patterns uses dicts = record { lists = record { patterns = patterns; dicts = uses }; dicts = dicts }

-- what the tables of a program keep
pub record KeepsTables (tables : Collected) (verdict_at : List ℕ → Option Verdict) (number_at : DictKey → Option ℕ) : Type 0 where
  pub patterns : KeepsPatterns tables.lists.patterns verdict_at
  pub dicts : KeepsDicts tables.dicts number_at
