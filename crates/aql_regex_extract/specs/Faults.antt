-- Why a text is refused as a pattern.
use Rattle.std.specs.Prelude.{◌≡◌, ℕ, List, None, IsSome, length}
use Rattle.span_token.specs.declared.refusal.Failure.{Failure}
use Rattle.span_token.specs.declared.refusal.Failure.TheVariants.{OutOfMemory, Fault}
use Rattle.aql_regex_extract.specs.declared.pattern.PatternFault.{PatternFault}
use Rattle.aql_regex_extract.specs.declared.pattern.PatternFault.TheVariants.{Bad, Large}
use Rattle.aql_regex_extract.specs.Patterns.{tree_of, whole_form, IsBad}
use Rattle.aql_regex_extract.specs.Weight.{weight_of, IsLarge}

-- a text that is a pattern: it isn't large, and it and its whole-text form stand for trees
pub record IsPattern (text : List ℕ) : Type 0 where
  pub not_large : ¬ (IsLarge text)
  pub is_read : IsSome (tree_of text)
  pub whole_is_read : IsSome (tree_of (whole_form text))

-- the text has the fault; whether it is large is looked at first
abbrev pub HasFault : List ℕ → PatternFault → Type 0
HasFault text Bad = ¬ (IsLarge text) × IsBad text
HasFault text (Large bytes weight) = IsLarge text × (bytes ≡ length text) × (weight ≡ weight_of text)

-- memory ran out, or the text has the fault
abbrev pub HasCause : List ℕ → Failure PatternFault → Type 0
HasCause text OutOfMemory = Unit {0}
HasCause text (Fault fault) = HasFault text fault

-- memory ran out, or the text stands for no tree
abbrev pub IsUnread : List ℕ → Failure PatternFault → Type 0
IsUnread text OutOfMemory = Unit {0}
IsUnread text (Fault Bad) = tree_of text ≡ None
IsUnread text (Fault (Large bytes weight)) = ⊥
