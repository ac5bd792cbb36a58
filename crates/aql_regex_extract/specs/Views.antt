-- What contracts see of a compiled pattern: its text.
use Rattle.std.specs.Prelude.{◌≡◌, ℕ, List, IsSomeAnd}
use Rattle.regex.specs.Patterns.{Re, SameCaptures, default_config}
use Rattle.regex.specs.Strings.{regex_source, regex_config, matcher_pattern, IsReadFromSource}
use Rattle.regex.specs.declared.string.regex.Regex.{Regex}
use Rattle.aql_regex_extract.specs.Patterns.{tree_of, group_count_of, whole_form}
use Rattle.aql_regex_extract.specs.Bytes.{AdmitsMatches}
use Rattle.aql_regex_extract.specs.declared.whole_matcher.WholeMatcher.{WholeMatcher}
use Rattle.aql_regex_extract.specs.declared.pattern.Pattern.TheInside.{Inside}

-- the expression is the one that the text stands for
pub record IsBuiltFrom (text : List ℕ) (r : Regex) : Type 0 where
  pub source : regex_source r ≡ text
  pub config : regex_config r ≡ default_config
  pub read : IsReadFromSource r

abbrev pub pattern_text : Inside → List ℕ
pattern_text p = regex_source p.plain

-- both expressions are built from the pattern's text, its groups are counted, and no match is lost by its bytes
pub record IsCompiled (p : Inside) : Type 0 where
  pub plain : IsBuiltFrom (pattern_text p) p.plain
  pub whole : IsBuiltFrom (whole_form (pattern_text p)) p.whole
  pub admits : AdmitsMatches (whole_form (pattern_text p)) p.admitted
  pub groups : p.groups ≡ group_count_of (pattern_text p)

-- an expression finds what the text stands for
abbrev pub Finds : Re → List ℕ → Type 0
Finds re text = IsSomeAnd (tree_of text) (SameCaptures re)

-- the matcher finds what the pattern's whole-text form stands for, and no match is lost by its bytes
pub record FindsWhole (m : WholeMatcher) (pattern : List ℕ) : Type 0 where
  pub finds : Finds (matcher_pattern m.matcher) (whole_form pattern)
  pub admits : AdmitsMatches (whole_form pattern) m.admitted.now

-- the matcher looks for the same, and nothing else is told by bytes
pub record IsSameWhole (old new : WholeMatcher) : Type 0 where
  pub pattern : matcher_pattern new.matcher ≡ matcher_pattern old.matcher
  pub admitted : new.admitted ≡ old.admitted
