-- Expressions: what is said of one, in the scope of its names.
use Rattle.std.specs.Prelude.{ℕ, ℤ, true, List, [], ◌∷◌, Option, Some, None}
use Rattle.aql_syntax.specs.Trees.{Term, int, str, regex, column, bare, call, star, Terms, no_terms, more_terms}
use Rattle.scalar_ops.specs.declared.kind.Kind.TheVariants as kind
use Rattle.scalar_ops.specs.Expressions as expressed
use Rattle.aql_regex_extract.specs.declared.pattern.PatternFault.{PatternFault}
use Rattle.aql_regex_extract.specs.declared.pattern.PatternFault.TheVariants.{Bad, Large}
use Rattle.clause_types.specs.declared.fault.Breach.{Breach}
use Rattle.clause_types.specs.declared.fault.TypeRule.TheVariants.{BadPattern, PatternLarge, UnknownFunction}
use Rattle.clause_types.specs.Faults.{broken}
use Rattle.clause_types.specs.Known.{Known}
use Rattle.clause_types.specs.Typings.{value, pattern, Typing}
use Rattle.clause_types.specs.Scopes.{Scope, faulty, typing_of_column, typing_of_name}
use Rattle.clause_types.specs.Calls.{typing_of_call}

-- BadPattern, PatternLarge: the text is no pattern; at the regular expression
abbrev pub wrong_pattern : ℕ → Option PatternFault → List Breach
wrong_pattern at None = []
wrong_pattern at (Some Bad) = broken true at BadPattern
wrong_pattern at (Some (Large bytes weight)) = broken true at (PatternLarge bytes weight)

abbrev pub typing_of_int : ℕ → ℤ → Typing
typing_of_int at n = record { at = at; faults = []; kind = kind.Integer; meant = value (expressed.number n) }

abbrev pub typing_of_str : ℕ → List ℕ → Typing
typing_of_str at text = record { at = at; faults = []; kind = kind.Text; meant = value (expressed.string text) }

abbrev pub typing_of_regex : Known → ℕ → List ℕ → Typing
typing_of_regex known at text =
    record { at = at; faults = wrong_pattern at (known.pattern_fault text); kind = kind.Pattern; meant = pattern text }

module _ (known : Known) (scope : Scope) where
  abbrev mutual
    pub typing : Term → Typing
    typing (int at n) = typing_of_int at n
    typing (str at text) = typing_of_str at text
    typing (regex at text) = typing_of_regex known at text
    typing (column at alias name) = typing_of_column scope.sources at alias name
    typing (bare at name) = typing_of_name scope.names at name.text
    typing (call at name args) = typing_of_call known at name (typings args)
    typing (star at name) = faulty at (broken true at (UnknownFunction name))

    pub typings : Terms → List Typing
    typings no_terms = []
    typings (more_terms arg args) = typing arg ∷ typings args
