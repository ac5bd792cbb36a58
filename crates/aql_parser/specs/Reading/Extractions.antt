-- Reading what an extraction looks for.
use Rattle.std.specs.Prelude.{ℕ, ◌+◌, Bool, true, false, ◌&&◌, ◌||◌, not, if◌then◌else◌, List, [], ◌∷◌, Option, Some, None, codes}
use Rattle.std.specs.Str.{bytes_eq}
use Rattle.aql_lexer.specs.Kinds.{Kind}
use Rattle.aql_lexer.specs.Kinds as k
use Rattle.aql_syntax.specs.Trees.{Name, Number, Range, one, two, Group, Flag, exact, ignore_case, Spec, pattern, dict, blocks}
use Rattle.aql_parser.specs.Readers.{Reader, pure, ◌⊗◌, ◌▷◌, ◌◁◌, mapped, eaten, optional, where_seen, separated, sees, sees_sign, keyword, named, a_name, a_pattern, an_int, after}
use Rattle.aql_parser.specs.Reading.Expressions.{read_column}

abbrev pub read_range : Reader Range
read_range = eaten (sees "between") (mapped (λ pair. two pair.0 pair.1) (an_int ⊗ keyword "and" ▷ an_int)) (mapped one an_int)

abbrev pub sees_int : List Kind → Bool
sees_int (k.int value ∷ ks) = true
sees_int _ = false

-- the next token begins a range
abbrev pub begins_range : List Kind → Bool
begins_range ks = sees "between" ks || sees_int ks

abbrev pub token_or_tokens : Reader (Unit {0})
token_or_tokens = eaten (sees "token") (pure tt) (keyword "tokens")

abbrev pub read_bound : Reader (Option Range)
read_bound = where_seen begins_range (read_range ◁ token_or_tokens ▷ keyword "in")

abbrev pub read_output : Reader Name
read_output = keyword "as" ▷ a_name

abbrev pub numbered : Number × Name → Group
numbered pair = record { number = Some pair.0; name = pair.1 }

abbrev pub unnumbered : Name → List Group
unnumbered name = record { number = None; name = name } ∷ []

abbrev pub read_numbered : Reader Group
read_numbered = mapped numbered (keyword "group" ▷ an_int ⊗ read_output)

abbrev pub read_groups : Reader (List Group)
read_groups = eaten (sees "as") (mapped unnumbered a_name) (keyword "return" ▷ separated (sees "and") read_numbered)

abbrev pub made_pattern : Name × (Option Range × ((Name × Name) × List Group)) → Spec
made_pattern parts = pattern parts.0 parts.1.0 parts.1.1.0.0 parts.1.1.0.1 parts.1.1.1

abbrev pub read_pattern : Reader Spec
read_pattern = mapped made_pattern (keyword "regex" ▷ a_pattern ⊗ keyword "on" ▷ read_bound ⊗ read_column ⊗ read_groups)

abbrev pub flag_named : List ℕ → Option Flag
flag_named text =
    if bytes_eq text (codes "Exact") then Some exact
    else (if bytes_eq text (codes "IgnoreCase") then Some ignore_case else None)

abbrev pub flagged : ℕ → Option Flag → List Kind → Option (Flag × ℕ × List Kind)
flagged n None ks = None
flagged n (Some flag) ks = Some (flag, n + 1, ks)

abbrev pub a_flag : Reader Flag
a_flag n (k.str text ∷ ks) = flagged n (flag_named text) ks
a_flag n _ = None

abbrev pub read_flag : Reader (Option Flag)
read_flag = optional (sees "with") (keyword "flags" ▷ a_flag)

abbrev pub a_dictionary : Reader Name
a_dictionary n (k.str text ∷ ks) = named n text ks
a_dictionary n ks = a_name n ks

abbrev pub made_dict : Name × (Option Flag × ((Name × Name) × Name)) → Spec
made_dict parts = dict parts.0 parts.1.0 parts.1.1.0.0 parts.1.1.0.1 parts.1.1.1

abbrev pub read_dict : Reader Spec
read_dict = mapped made_dict (keyword "dictionary" ▷ a_dictionary ⊗ read_flag ⊗ keyword "on" ▷ read_column ⊗ read_output)

abbrev pub tokens_or_characters : Reader Bool
tokens_or_characters = eaten (sees "tokens") (pure true) (mapped (λ u. false) (keyword "characters"))

abbrev pub made_blocks : Range × ((Range × Bool) × ((Name × Name) × Name)) → Spec
made_blocks parts = blocks parts.0 parts.1.0.0 parts.1.0.1 parts.1.1.0.0 parts.1.1.0.1 parts.1.1.1

abbrev pub read_separation : Reader (Range × Bool)
read_separation = keyword "and" ▷ keyword "separation" ▷ read_range ⊗ tokens_or_characters

abbrev pub read_blocks : Reader Spec
read_blocks =
    mapped made_blocks (keyword "blocks" ▷ keyword "with" ▷ keyword "count" ▷ read_range ⊗
    read_separation ⊗ keyword "on" ▷ read_column ⊗ read_output)

abbrev pub sees_string : List Kind → Bool
sees_string (k.str text ∷ ks) = true
sees_string _ = false

abbrev pub sees_regex : List Kind → Bool
sees_regex (k.regex text ∷ ks) = true
sees_regex _ = false

abbrev pub begins_pattern : List Kind → Bool
begins_pattern ks = sees "regex" ks && sees_regex (after ks)

-- `dictionary`, but not as the word of a call
abbrev pub begins_dict : List Kind → Bool
begins_dict ks = sees "dictionary" ks && not (sees_sign "(" (after ks))

abbrev pub begins_blocks : List Kind → Bool
begins_blocks ks = sees "blocks" ks && sees "with" (after ks)

abbrev pub read_sought : Reader Spec
read_sought n ks = if begins_pattern ks then read_pattern n ks else read_dict n ks
