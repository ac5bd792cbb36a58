-- Calls: what is wrong with one, in the order of checking, and what it stands for.
use Rattle.std.specs.Prelude.{ℕ, ℤ, pos, ◌-◌, Bool, true, false, not, ◌&&◌, ◌||◌, List, [], ◌∷◌, ◌++◌, Option, Some, None, int_le, length, take, drop, codes}
use Rattle.std.specs.Str.{bytes_eq}
use Rattle.scalar_ops.specs.declared.kind.Kind.{Kind}
use Rattle.scalar_ops.specs.declared.kind.Kind.TheVariants as kind
use Rattle.scalar_ops.specs.declared.op.Op.{Op}
use Rattle.scalar_ops.specs.declared.op.Op.TheVariants as op
use Rattle.scalar_ops.specs.Expressions.{Term, number, string, call, terms}
use Rattle.scalar_ops.specs.Kinds.{suits}
use Rattle.clause_types.specs.declared.fault.Breach.{Breach}
use Rattle.clause_types.specs.declared.fault.TypeRule.TheVariants.{WrongArgument, BadRange, UnknownFunction}
use Rattle.clause_types.specs.declared.function.Function.{Function}
use Rattle.clause_types.specs.declared.function.Function.TheVariants as function
use Rattle.clause_types.specs.declared.wanted.Wanted.{Wanted}
use Rattle.clause_types.specs.declared.wanted.Wanted.TheVariants.{OfKind, Flag}
use Rattle.clause_types.specs.Faults.{broken}
use Rattle.clause_types.specs.Functions.{function_named, kind_wanted, wanted_by, kind_given}
use Rattle.clause_types.specs.Known.{Known}
use Rattle.clause_types.specs.Typings.{Meant, value, pattern, Typing, kinds_of, faults_of, terms_meant, integer_meant, text_meant}
use Rattle.clause_types.specs.Scopes.{nothing}

-- the texts that are flags
abbrev pub is_flag : List ℕ → Bool
is_flag text = bytes_eq text (codes "Exact") || bytes_eq text (codes "IgnoreCase")

-- whether a call's bounds, a separation's bounds are in order
abbrev pub are_gap_bounds : ℤ → ℤ → Bool
are_gap_bounds low high = int_le (pos 0) low && int_le low high

-- BadRange: not 0 <= low <= high; at the first integer
abbrev pub bad_gap : ℕ → ℤ → ℤ → List Breach
bad_gap at low high = broken (not (are_gap_bounds low high)) at (BadRange low high)

abbrev pub bad_bounds : List Typing → List Breach
bad_bounds (a ∷ b ∷ low ∷ high ∷ rest) = bad_gap low.at (integer_meant low.meant) (integer_meant high.meant)
bad_bounds args = []

abbrev pub bad_bounds_of : Function → List Typing → List Breach
bad_bounds_of function.Follows args = bad_bounds args
bad_bounds_of function.FollowsTok args = bad_bounds args
bad_bounds_of f args = []

-- what the first argument stands for
abbrev pub first_meant : List Typing → Meant
first_meant [] = nothing
first_meant (arg ∷ args) = arg.meant

-- the bounds among the arguments of a function of a gap
abbrev pub least_gap : List Typing → ℤ
least_gap (a ∷ b ∷ low ∷ rest) = integer_meant low.meant
least_gap args = pos 0

abbrev pub greatest_gap : List Typing → ℤ
greatest_gap (a ∷ b ∷ low ∷ high ∷ rest) = integer_meant high.meant
greatest_gap args = pos 0

-- case counts with the flag `Exact`; without a flag it doesn't
abbrev pub is_exact : List Typing → Bool
is_exact (name ∷ flag ∷ span ∷ rest) = bytes_eq (text_meant flag.meant) (codes "Exact")
is_exact args = false

-- the arguments that an operator is applied to: of a dictionary predicate the last one
abbrev pub operands : Function → List Typing → List Typing
operands function.Follows args = take 2 args
operands function.FollowsTok args = take 2 args
operands function.ContainsRegex args = drop 1 args
operands function.MatchesRegex args = drop 1 args
operands function.ContainsDict args = drop (length args - 1) args
operands function.MatchesDict args = drop (length args - 1) args
operands f args = args

module _ (known : Known) where
  -- whether an argument is what is wanted: a Number is an integer as such, a Dictionary a text that names one, a Pattern
  -- a regular expression, a flag one of the two texts; else its kind decides
  abbrev pub fits : Wanted → Kind → Meant → Bool
  fits (OfKind kind.Number) found (value (number n)) = true
  fits (OfKind kind.Dictionary) found (value (string text)) = known.is_dictionary text
  fits (OfKind kind.Pattern) found (pattern text) = true
  fits Flag found (value (string text)) = is_flag text
  fits (OfKind wanted) found meant = suits wanted found
  fits Flag found meant = false

  -- WrongArgument: an argument isn't what is wanted; at the argument
  abbrev pub wrong_argument : Wanted → Typing → List Breach
  wrong_argument wanted arg = broken (not (fits wanted arg.kind arg.meant)) arg.at (WrongArgument (kind_wanted wanted) arg.kind)

  -- from the left; a missing argument is found Nothing, at the call, and a surplus one is wanted Nothing
  abbrev pub wrong_arguments : ℕ → List Wanted → List Typing → List Breach
  wrong_arguments at [] [] = []
  wrong_arguments at (wanted ∷ more) [] = broken true at (WrongArgument (kind_wanted wanted) kind.Nothing) ++ wrong_arguments at more []
  wrong_arguments at [] (arg ∷ args) = broken true arg.at (WrongArgument kind.Nothing arg.kind) ++ wrong_arguments at [] args
  wrong_arguments at (wanted ∷ more) (arg ∷ args) = wrong_argument wanted arg ++ wrong_arguments at more args

  -- what is wrong with the call itself: UnknownFunction at the call; or the kinds of its arguments, and then its bounds
  abbrev pub wrong_call : ℕ → List ℕ → Option Function → List Typing → List Breach
  wrong_call at name None args = broken true at (UnknownFunction name)
  wrong_call at name (Some f) args = wrong_arguments at (wanted_by f (kinds_of args)) args ++ bad_bounds_of f args

  -- the operator of a function: bounds, patterns and dictionaries stand in it
  abbrev pub operator : Function → List Typing → Op
  operator function.GetBegin args = op.GetBegin
  operator function.GetEnd args = op.GetEnd
  operator function.GetLength args = op.GetLength
  operator function.GetText args = op.GetText
  operator function.CombineSpans args = op.CombineSpans
  operator function.SpanBetween args = op.SpanBetween
  operator function.LeftContext args = op.LeftContext
  operator function.RightContext args = op.RightContext
  operator function.LeftContextTok args = op.LeftContextTok
  operator function.RightContextTok args = op.RightContextTok
  operator function.Follows args = op.Follows (least_gap args) (greatest_gap args)
  operator function.FollowsTok args = op.FollowsTok (least_gap args) (greatest_gap args)
  operator function.Overlaps args = op.Overlaps
  operator function.Contains args = op.Contains
  operator function.Equals args = op.Equals
  operator function.GreaterThan args = op.GreaterThan
  operator function.NotNull args = op.NotNull
  operator function.ContainsRegex args = op.ContainsRegex (known.pattern_number (text_meant (first_meant args)))
  operator function.MatchesRegex args = op.MatchesRegex (known.pattern_number (text_meant (first_meant args)))
  operator function.ContainsDict args = op.ContainsDict (known.dict_number (text_meant (first_meant args)) (is_exact args))
  operator function.MatchesDict args = op.MatchesDict (known.dict_number (text_meant (first_meant args)) (is_exact args))
  operator function.Not args = op.Not
  operator function.And args = op.And
  operator function.Or args = op.Or

  -- what a call stands for
  abbrev pub applied_to : Function → List Typing → Term
  applied_to f args = call (operator f args) (terms (terms_meant (operands f args)))

  abbrev pub kind_of_call : Option Function → Kind
  kind_of_call None = kind.Nothing
  kind_of_call (Some f) = kind_given f

  abbrev pub meant_by_call : Option Function → List Typing → Meant
  meant_by_call None args = nothing
  meant_by_call (Some f) args = value (applied_to f args)

  abbrev pub typing_with : ℕ → List ℕ → List Typing → Option Function → Typing
  typing_with at name args f = record {
    at = at;
    faults = faults_of args ++ wrong_call at name f args;
    kind = kind_of_call f;
    meant = meant_by_call f args;
  }

  -- a call: its arguments by themselves, from the left, and then the call
  abbrev pub typing_of_call : ℕ → List ℕ → List Typing → Typing
  typing_of_call at name args = typing_with at name args (function_named name)
