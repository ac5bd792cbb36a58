-- Which kind of values an expression gives: the kinds of the function table.
use Rattle.std.specs.Prelude.{ℕ, ◌≡◌, ◌<◌, Bool, true, false, ◌&&◌, cond, List, [], ◌∷◌, Option, Some, None, length, max, replicate, slice_get}
use Rattle.row_values.specs.Datums.{Datum, null, int, truth, text, span}
use Rattle.row_values.specs.Rows.{value_in}
use Rattle.scalar_ops.specs.declared.kind.Kind.{Kind}
use Rattle.scalar_ops.specs.declared.kind.Kind.TheVariants.{Integer, Boolean, Text, Span, SpanOrText, Number, Any, Nothing}
use Rattle.scalar_ops.specs.declared.op.Op.{Op}
use Rattle.scalar_ops.specs.declared.op.Op.TheVariants.{GetBegin, GetEnd, GetLength, GetText, CombineSpans, SpanBetween, LeftContext, RightContext, LeftContextTok, RightContextTok, Follows, FollowsTok, Overlaps, Contains, Equals, GreaterThan, NotNull, ContainsRegex, MatchesRegex, ContainsDict, MatchesDict, Not, And, Or}
use Rattle.scalar_ops.specs.Expressions.{Term, column, number, string, call, Terms, none, more}
use Rattle.scalar_ops.specs.Tables.{Lists}

-- a value is of a kind; Null is of each but Boolean, since a predicate gives true or false
abbrev pub IsOfKind : Kind → Datum → Type 0
IsOfKind Boolean null = ⊥
IsOfKind kind null = Unit {0}
IsOfKind Integer (int n) = Unit {0}
IsOfKind Number (int n) = Unit {0}
IsOfKind Boolean (truth b) = Unit {0}
IsOfKind Text (text t) = Unit {0}
IsOfKind Span (span e) = Unit {0}
IsOfKind SpanOrText (text t) = Unit {0}
IsOfKind SpanOrText (span e) = Unit {0}
IsOfKind Any value = Unit {0}
IsOfKind kind value = ⊥

-- a row has a value for each column, of its kind
pub record IsOfKinds (kinds : List Kind) (row : List Datum) : Type 0 where
  pub width : length row ≡ length kinds
  pub each : (n : ℕ) (kind : Kind) → slice_get kinds n ≡ Some kind → IsOfKind kind (value_in row n)

-- whether an argument of the second kind is one of the first
abbrev pub suits : Kind → Kind → Bool
suits Integer Integer = true
suits Boolean Boolean = true
suits Text Text = true
suits Span Span = true
suits SpanOrText Text = true
suits SpanOrText Span = true
suits Any Integer = true
suits Any Boolean = true
suits Any Text = true
suits Any Span = true
suits wanted found = false

-- as many kinds as are wanted, and each is one of the wanted kind
abbrev pub do_suit : List Kind → List Kind → Bool
do_suit [] [] = true
do_suit (wanted ∷ more_wanted) (found ∷ more_found) = suits wanted found && do_suit more_wanted more_found
do_suit wanted found = false

-- the kind that is given where the arguments are of the wanted kinds
abbrev pub given : Kind → List Kind → List Kind → Option Kind
given kind wanted found = cond (do_suit wanted found) (Some kind) None

-- the kind of the first argument
abbrev pub first_kind : List Kind → Kind
first_kind [] = Nothing
first_kind (kind ∷ kinds) = kind

-- Boolean for each argument, of which there is one or more
abbrev pub all_boolean : List Kind → List Kind
all_boolean found = replicate (max 1 (length found)) Boolean

-- what an operator gives for arguments of some kinds, and None where it takes no such arguments: one line each
abbrev pub kind_given : Op → List Kind → Option Kind
kind_given GetBegin found = given Integer (Span ∷ []) found
kind_given GetEnd found = given Integer (Span ∷ []) found
kind_given GetLength found = given Integer (Span ∷ []) found
kind_given GetText found = given Text (Span ∷ []) found
kind_given CombineSpans found = given Span (Span ∷ Span ∷ []) found
kind_given SpanBetween found = given Span (Span ∷ Span ∷ []) found
kind_given LeftContext found = given Span (Span ∷ Integer ∷ []) found
kind_given RightContext found = given Span (Span ∷ Integer ∷ []) found
kind_given LeftContextTok found = given Span (Span ∷ Integer ∷ []) found
kind_given RightContextTok found = given Span (Span ∷ Integer ∷ []) found
kind_given (Follows low high) found = given Boolean (Span ∷ Span ∷ []) found
kind_given (FollowsTok low high) found = given Boolean (Span ∷ Span ∷ []) found
kind_given Overlaps found = given Boolean (Span ∷ Span ∷ []) found
kind_given Contains found = given Boolean (Span ∷ Span ∷ []) found
kind_given Equals found = given Boolean (Any ∷ first_kind found ∷ []) found
kind_given GreaterThan found = given Boolean (Integer ∷ Integer ∷ []) found
kind_given NotNull found = given Boolean (Any ∷ []) found
kind_given (ContainsRegex p) found = given Boolean (SpanOrText ∷ []) found
kind_given (MatchesRegex p) found = given Boolean (SpanOrText ∷ []) found
kind_given (ContainsDict d) found = given Boolean (Span ∷ []) found
kind_given (MatchesDict d) found = given Boolean (Span ∷ []) found
kind_given Not found = given Boolean (Boolean ∷ []) found
kind_given And found = given Boolean (all_boolean found) found
kind_given Or found = given Boolean (all_boolean found) found

-- the kind of a call whose arguments have these kinds; None where one has none
abbrev pub kind_of_call : Op → Option (List Kind) → Option Kind
kind_of_call op None = None
kind_of_call op (Some found) = kind_given op found

-- the kinds of one argument and of more, where each has one
abbrev pub kinds_with : Option Kind → Option (List Kind) → Option (List Kind)
kinds_with (Some kind) (Some kinds) = Some (kind ∷ kinds)
kinds_with kind kinds = None

module _ (row : List Kind) where
  abbrev mutual
    -- the kind of an expression where columns have these kinds; None where it isn't well typed
    pub kind_in : Term → Option Kind
    kind_in (column n) = slice_get row n
    kind_in (number n) = Some Integer
    kind_in (string t) = Some Text
    kind_in (call op args) = kind_of_call op (kinds_in args)

    pub kinds_in : Terms → Option (List Kind)
    kinds_in none = Some []
    kinds_in (more t ts) = kinds_with (kind_in t) (kinds_in ts)

-- the pattern or the dictionary that an operator names is there
abbrev pub IsNamedIn : Lists → Op → Type 0
IsNamedIn lists (ContainsRegex p) = p < length lists.patterns
IsNamedIn lists (MatchesRegex p) = p < length lists.patterns
IsNamedIn lists (ContainsDict d) = d < length lists.dicts
IsNamedIn lists (MatchesDict d) = d < length lists.dicts
IsNamedIn lists op = Unit {0}

module _ (lists : Lists) where
  abbrev mutual
    -- every pattern and every dictionary that an expression names is there
    pub NamesIn : Term → Type 0
    NamesIn (column n) = Unit {0}
    NamesIn (number n) = Unit {0}
    NamesIn (string t) = Unit {0}
    NamesIn (call op args) = IsNamedIn lists op × AllNameIn args

    pub AllNameIn : Terms → Type 0
    AllNameIn none = Unit {0}
    AllNameIn (more t ts) = NamesIn t × AllNameIn ts
