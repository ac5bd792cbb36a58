-- What a text is as a pattern: its fault, or none, and its groups.
use Rattle.std.specs.Prelude.{ℕ, ◌*◌, Bool, ◌||◌, if◌then◌else◌, List, length, Option, Some, None, is_none, nat_lt}
use Rattle.aql_regex_extract.specs.declared.pattern.PatternFault.{PatternFault}
use Rattle.aql_regex_extract.specs.declared.pattern.PatternFault.TheVariants.{Bad, Large}
use Rattle.aql_regex_extract.specs.Faults.{IsPattern, HasFault}
use Rattle.aql_regex_extract.specs.Patterns.{tree_of, group_count_of, whole_form}
use Rattle.aql_regex_extract.specs.Weight.{weight_of}

-- the text is too large for a pattern
unfoldable pub is_large : List ℕ → Bool
is_large text = nat_lt 1000 (length text) || nat_lt 50000 (length text * weight_of text)

-- the text, or its whole-text form, isn't read
unfoldable pub is_bad : List ℕ → Bool
is_bad text = is_none (tree_of text) || is_none (tree_of (whole_form text))

-- why the text is no pattern, where it is none; whether it is large is looked at first
unfoldable pub pattern_fault : List ℕ → Option PatternFault
pattern_fault text =
    if is_large text then Some (Large (length text) (weight_of text)) else if is_bad text then Some Bad else None

-- the text is a pattern
abbrev pub is_pattern : List ℕ → Bool
is_pattern text = is_none (pattern_fault text)

-- the verdict on a text in the words of patterns: it is one, or has the fault
abbrev pub IsVerdict : List ℕ → Option PatternFault → Type 0
IsVerdict text None = IsPattern text
IsVerdict text (Some fault) = HasFault text fault

-- the number of capture groups of a pattern, without group 0; 0 where the text is no pattern
abbrev pub groups_of : List ℕ → ℕ
groups_of text = if is_pattern text then group_count_of text else 0
