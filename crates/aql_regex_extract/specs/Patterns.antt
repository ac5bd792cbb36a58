-- What a text means as a pattern. Each text is read by the grammar of the `regex` crate, and nothing here names a
-- compiled value.
use Rattle.std.specs.Prelude.{◌≡◌, ℕ, ◌-◌, ◌++◌, ◌⊎◌, List, length, Option, Some, None, option_and_then, nat_le, if◌then◌else◌, chars, codes}
use Rattle.regex.specs.Patterns.{Re, default_config}
use Rattle.regex_syntax.specs.Grammar.{Names, read}
use Rattle.regex_syntax.specs.Brackets.{Nested}

-- the tree of what was read, where it nests at most 250 deep
abbrev pub tree_within : Option (Nested Re × Names) → Option Re
tree_within = option_and_then (λ (found, _). if nat_le found.depth 250 then Some found.value else None)

-- the tree that the text stands for; None where the grammar doesn't read it, or it nests deeper than 250
unfoldable pub tree_of : List ℕ → Option Re
tree_of text = tree_within (read default_config (chars text))

-- how many groups were opened, without group 0
abbrev pub groups_within : Option (Nested Re × Names) → ℕ
groups_within None = 0
groups_within (Some found) = length found.1 - 1

-- the number of capture groups in the text, without group 0; 0 where it is no pattern
unfoldable pub group_count_of : List ℕ → ℕ
group_count_of text = groups_within (read default_config (chars text))

-- the whole-text form: the pattern, and nothing before or after it
unfoldable pub whole_form : List ℕ → List ℕ
whole_form text = codes "\\A(?:" ++ text ++ codes ")\\z"

-- the text, or its whole-text form, stands for no tree
abbrev pub IsBad : List ℕ → Type 0
IsBad text = (tree_of text ≡ None) ⊎ (tree_of (whole_form text) ≡ None)
