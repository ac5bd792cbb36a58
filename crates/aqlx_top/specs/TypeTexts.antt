-- What is said of a rule of types that is broken.
use Rattle.std.specs.Prelude.{List, ℕ, ◌++◌, codes}
use Rattle.std.specs.Fmt.{decimal, signed_decimal}
use Rattle.scalar_ops.specs.declared.kind.Kind.{Kind}
use Rattle.scalar_ops.specs.declared.kind.Kind.TheVariants.{Integer, Boolean, Text, Span, SpanOrText, Number, Pattern, Dictionary, Any, Nothing}
use Rattle.clause_types.specs.declared.fault.TypeRule.{TypeRule}
use Rattle.clause_types.specs.declared.fault.TypeRule.TheVariants.{UnknownAlias, UnknownColumn, DuplicateAlias, DuplicateColumn, UnknownFunction, WrongArgument, SchemaMismatch, NotGrouped, BadRange, UnknownPolicy, BadPattern, PatternLarge, BadGroup}

-- a kind is called by its name
abbrev pub kind_text : Kind → List ℕ
kind_text Integer = codes "Integer"
kind_text Boolean = codes "Boolean"
kind_text Text = codes "Text"
kind_text Span = codes "Span"
kind_text SpanOrText = codes "SpanOrText"
kind_text Number = codes "Number"
kind_text Pattern = codes "Pattern"
kind_text Dictionary = codes "Dictionary"
kind_text Any = codes "Any"
kind_text Nothing = codes "Nothing"

abbrev pub rule_text : TypeRule → List ℕ
rule_text (UnknownAlias name) = codes "no alias " ++ name
rule_text (UnknownColumn name) = codes "no column " ++ name
rule_text (DuplicateAlias name) = codes "alias " ++ name ++ codes " again"
rule_text (DuplicateColumn name) = codes "column " ++ name ++ codes " again"
rule_text (UnknownFunction name) = codes "no function " ++ name
rule_text (WrongArgument wanted found) = codes "wanted " ++ kind_text wanted ++ codes ", found " ++ kind_text found
rule_text SchemaMismatch = codes "schemas differ"
rule_text NotGrouped = codes "not grouped"
rule_text (BadRange low high) = codes "range " ++ signed_decimal low ++ codes " to " ++ signed_decimal high
rule_text (UnknownPolicy name) = codes "no policy " ++ name
rule_text BadPattern = codes "bad pattern"
rule_text (PatternLarge bytes weight) = codes "pattern too large: " ++ decimal bytes ++ codes " bytes, weight " ++ decimal weight
rule_text (BadGroup number) = codes "no group " ++ signed_decimal number
