-- The function table: names, the kinds that arguments are wanted to be, and the kind that is given. A new function is
-- a line in each definition.
use Rattle.std.specs.Prelude.{ℕ, List, [], ◌∷◌, Option, option_map, find, length, max, replicate, codes}
use Rattle.std.specs.Str.{bytes_eq}
use Rattle.scalar_ops.specs.declared.kind.Kind.{Kind}
use Rattle.scalar_ops.specs.declared.kind.Kind.TheVariants as kind
use Rattle.clause_types.specs.declared.function.Function.{Function}
use Rattle.clause_types.specs.declared.function.Function.TheVariants as function
use Rattle.clause_types.specs.declared.function.Aggregate.{Aggregate}
use Rattle.clause_types.specs.declared.function.Aggregate.TheVariants as aggregate
use Rattle.clause_types.specs.declared.wanted.Wanted.{Wanted}
use Rattle.clause_types.specs.declared.wanted.Wanted.TheVariants.{OfKind, Flag}

-- the functions and predicates with their names
abbrev pub functions : List (List ℕ × Function)
functions =
    (codes "GetBegin", function.GetBegin) ∷ (codes "GetEnd", function.GetEnd) ∷ (codes "GetLength", function.GetLength)
    ∷ (codes "GetText", function.GetText) ∷ (codes "CombineSpans", function.CombineSpans)
    ∷ (codes "SpanBetween", function.SpanBetween) ∷ (codes "LeftContext", function.LeftContext)
    ∷ (codes "RightContext", function.RightContext) ∷ (codes "LeftContextTok", function.LeftContextTok)
    ∷ (codes "RightContextTok", function.RightContextTok) ∷ (codes "Follows", function.Follows)
    ∷ (codes "FollowsTok", function.FollowsTok) ∷ (codes "Overlaps", function.Overlaps)
    ∷ (codes "Contains", function.Contains) ∷ (codes "Equals", function.Equals)
    ∷ (codes "GreaterThan", function.GreaterThan) ∷ (codes "NotNull", function.NotNull)
    ∷ (codes "ContainsRegex", function.ContainsRegex) ∷ (codes "MatchesRegex", function.MatchesRegex)
    ∷ (codes "ContainsDict", function.ContainsDict) ∷ (codes "MatchesDict", function.MatchesDict)
    ∷ (codes "Not", function.Not) ∷ (codes "And", function.And) ∷ (codes "Or", function.Or) ∷ []

-- the aggregates with their names
abbrev pub aggregates : List (List ℕ × Aggregate)
aggregates =
    (codes "Count", aggregate.Count) ∷ (codes "Sum", aggregate.Sum) ∷ (codes "Min", aggregate.Min)
    ∷ (codes "Max", aggregate.Max) ∷ []

abbrev pub name_of_aggregate : Aggregate → List ℕ
name_of_aggregate aggregate.Count = codes "Count"
name_of_aggregate aggregate.Sum = codes "Sum"
name_of_aggregate aggregate.Min = codes "Min"
name_of_aggregate aggregate.Max = codes "Max"

-- what stands beside a name in a table, where the name is there; names match exactly
abbrev pub entry_named : {X : Type 0} → List ℕ → List (List ℕ × X) → Option X
entry_named name table = option_map (λ entry. entry.1) (find (λ entry. bytes_eq name entry.0) table)

abbrev pub function_named : List ℕ → Option Function
function_named name = entry_named name functions

abbrev pub aggregate_named : List ℕ → Option Aggregate
aggregate_named name = entry_named name aggregates

-- how a fault names what is wanted: a flag as a dictionary
abbrev pub kind_wanted : Wanted → Kind
kind_wanted (OfKind k) = k
kind_wanted Flag = kind.Dictionary

-- what the second argument of `Equals` is wanted to be: of the kind of the first, but a value beside a pattern
abbrev pub compared : List Kind → Kind
compared [] = kind.Any
compared (first ∷ kind.Pattern ∷ rest) = kind.Any
compared (first ∷ rest) = first

-- a dictionary predicate with three arguments or more has a flag as its second one
abbrev pub dictionary_wanted : List Kind → List Wanted
dictionary_wanted (first ∷ second ∷ third ∷ rest) = OfKind kind.Dictionary ∷ Flag ∷ OfKind kind.Span ∷ []
dictionary_wanted found = OfKind kind.Dictionary ∷ OfKind kind.Span ∷ []

-- two spans, and the least and the greatest gap between them
abbrev pub gap_wanted : List Wanted
gap_wanted = OfKind kind.Span ∷ OfKind kind.Span ∷ OfKind kind.Number ∷ OfKind kind.Number ∷ []

abbrev pub one_span : List Wanted
one_span = OfKind kind.Span ∷ []

abbrev pub two_spans : List Wanted
two_spans = OfKind kind.Span ∷ OfKind kind.Span ∷ []

abbrev pub span_and_integer : List Wanted
span_and_integer = OfKind kind.Span ∷ OfKind kind.Integer ∷ []

abbrev pub pattern_and_text : List Wanted
pattern_and_text = OfKind kind.Pattern ∷ OfKind kind.SpanOrText ∷ []

-- one condition for each argument, and at least one
abbrev pub conditions_wanted : List Kind → List Wanted
conditions_wanted found = replicate (max 1 (length found)) (OfKind kind.Boolean)

-- what the arguments of a function are wanted to be, where those that stand there are of the kinds `found`
abbrev pub wanted_by : Function → List Kind → List Wanted
wanted_by function.GetBegin found = one_span
wanted_by function.GetEnd found = one_span
wanted_by function.GetLength found = one_span
wanted_by function.GetText found = one_span
wanted_by function.CombineSpans found = two_spans
wanted_by function.SpanBetween found = two_spans
wanted_by function.LeftContext found = span_and_integer
wanted_by function.RightContext found = span_and_integer
wanted_by function.LeftContextTok found = span_and_integer
wanted_by function.RightContextTok found = span_and_integer
wanted_by function.Follows found = gap_wanted
wanted_by function.FollowsTok found = gap_wanted
wanted_by function.Overlaps found = two_spans
wanted_by function.Contains found = two_spans
wanted_by function.Equals found = OfKind kind.Any ∷ OfKind (compared found) ∷ []
wanted_by function.GreaterThan found = OfKind kind.Integer ∷ OfKind kind.Integer ∷ []
wanted_by function.NotNull found = OfKind kind.Any ∷ []
wanted_by function.ContainsRegex found = pattern_and_text
wanted_by function.MatchesRegex found = pattern_and_text
wanted_by function.ContainsDict found = dictionary_wanted found
wanted_by function.MatchesDict found = dictionary_wanted found
wanted_by function.Not found = OfKind kind.Boolean ∷ []
wanted_by function.And found = conditions_wanted found
wanted_by function.Or found = conditions_wanted found

-- the kind that a function gives; a predicate gives a truth value
abbrev pub kind_given : Function → Kind
kind_given function.GetBegin = kind.Integer
kind_given function.GetEnd = kind.Integer
kind_given function.GetLength = kind.Integer
kind_given function.GetText = kind.Text
kind_given function.CombineSpans = kind.Span
kind_given function.SpanBetween = kind.Span
kind_given function.LeftContext = kind.Span
kind_given function.RightContext = kind.Span
kind_given function.LeftContextTok = kind.Span
kind_given function.RightContextTok = kind.Span
kind_given function.Follows = kind.Boolean
kind_given function.FollowsTok = kind.Boolean
kind_given function.Overlaps = kind.Boolean
kind_given function.Contains = kind.Boolean
kind_given function.Equals = kind.Boolean
kind_given function.GreaterThan = kind.Boolean
kind_given function.NotNull = kind.Boolean
kind_given function.ContainsRegex = kind.Boolean
kind_given function.MatchesRegex = kind.Boolean
kind_given function.ContainsDict = kind.Boolean
kind_given function.MatchesDict = kind.Boolean
kind_given function.Not = kind.Boolean
kind_given function.And = kind.Boolean
kind_given function.Or = kind.Boolean

-- what the one argument of an aggregate is wanted to be
abbrev pub wanted_by_aggregate : Aggregate → List Wanted
wanted_by_aggregate aggregate.Count = OfKind kind.Any ∷ []
wanted_by_aggregate aggregate.Sum = OfKind kind.Integer ∷ []
wanted_by_aggregate aggregate.Min = OfKind kind.Any ∷ []
wanted_by_aggregate aggregate.Max = OfKind kind.Any ∷ []

-- the kind that an aggregate gives of an argument of this kind
abbrev pub kind_told : Aggregate → Kind → Kind
kind_told aggregate.Count found = kind.Integer
kind_told aggregate.Sum found = kind.Integer
kind_told aggregate.Min found = found
kind_told aggregate.Max found = found
