-- What is well typed is worth a value of its kind, and reads columns that are there.
use Rattle.std.specs.Prelude.{ℕ, zero, suc, ℤ, pos, ◌≡◌, ◌<◌, ◌+◌, ◌-◌, ◌++◌, Bool, true, false, cond, List, [], ◌∷◌, Option, Some, None, length, slice_get, All, refl}
use Rattle.std.proofs.Common.{sym, subst, ap₂, ◌∙◌, arith}
use Rattle.std.proofs.lemmas.List.{length-append}
use Rattle.std.proofs.lemmas.Option.{none-some, slice_get_within}
use Rattle.std.proofs.lemmas.List.Elements.{All-append, All-cons, All-nil}
use Rattle.span_token.specs.Extents.{Extent}
use Rattle.span_token.specs.Documents.{Doc, text_in, characters, len_of}
use Rattle.span_token.specs.Tokens.{tokens_of}
use Rattle.span_token.specs.Relations.{combined, gap_of}
use Rattle.span_token.specs.Contexts.{left_of, right_of, left_of_tok, right_of_tok}
use Rattle.row_values.specs.Datums.{Datum, null, int, text, span}
use Rattle.row_values.specs.Rows.{value_in}
use Rattle.scalar_ops.specs.declared.kind.Kind.{Kind}
use Rattle.scalar_ops.specs.declared.kind.Kind.TheVariants.{Integer, Boolean, Text, Span, SpanOrText, Any}
use Rattle.scalar_ops.specs.declared.op.Op.{Op}
use Rattle.scalar_ops.specs.declared.op.Op.TheVariants.{GetBegin, GetEnd, GetLength, GetText, CombineSpans, SpanBetween, LeftContext, RightContext, LeftContextTok, RightContextTok, Follows, FollowsTok, Overlaps, Contains, Equals, GreaterThan, NotNull, ContainsRegex, MatchesRegex, ContainsDict, MatchesDict, Not, And, Or}
use Rattle.scalar_ops.specs.Expressions.{Term, column, number, string, call, Terms, none, more, columns_of, columns_in, ReadsBelow}
use Rattle.scalar_ops.specs.Operators.{of_span, of_spans, of_span_and_number}
use Rattle.scalar_ops.specs.Tables.{Lists}
use Rattle.scalar_ops.specs.Values.{applied, value, values}
use Rattle.scalar_ops.specs.Kinds.{IsOfKind, IsOfKinds, do_suit, given, first_kind, all_boolean, kind_given, kind_of_call, kinds_with, kind_in, kinds_in}

-- functions of spans and numbers give values of the kind of their values
one_span : (kind : Kind) (f : Extent → Datum) → IsOfKind kind null → ((s : Extent) → IsOfKind kind (f s)) → (args : List Datum) → IsOfKind kind (of_span f args)
one_span kind f of_null each (span s ∷ []) = each s
one_span kind f of_null each args = of_null

two_spans : (args : List Datum) (f : Extent → Extent → Extent) → IsOfKind Span (of_spans (λ a b. span (f a b)) args)
two_spans (span a ∷ span b ∷ []) f = tt
two_spans args f = tt

span_and_number : (args : List Datum) (f : Extent → ℤ → Extent) → IsOfKind Span (of_span_and_number (λ s n. span (f s n)) args)
span_and_number (span s ∷ int n ∷ []) f = tt
span_and_number args f = tt

-- the kind that is given, where one is
some-is : (kind found : Kind) → Some kind ≡ Some found → kind ≡ found
some-is kind found is = cc

no_list : (found : List Kind) → ◌≡◌ {A = Option (List Kind)} None (Some found) → ⊥
no_list found is = none-some found is

given-is : (kind : Kind) (fits : Bool) (found : Kind) → cond fits (Some kind) None ≡ Some found → kind ≡ found
given-is kind true found is = some-is kind found is
given-is kind false found is = absurd (none-some found is)

-- a value of the kind that is given is of the kind that is found
moved : (kind found : Kind) (wanted kinds : List Kind) (x : Datum) → given kind wanted kinds ≡ Some found → IsOfKind kind x → IsOfKind found x
moved kind found wanted kinds x is = subst (λ k. IsOfKind k x) (given-is kind (do_suit wanted kinds) found is)

module _ (lists : Lists) (doc : Doc) where
  -- what an operator gives is of the kind that it gives, whatever it is applied to
  applied-kind : (op : Op) (kinds : List Kind) (kind : Kind) (args : List Datum) → kind_given op kinds ≡ Some kind → IsOfKind kind (applied lists doc op args)
  applied-kind GetBegin kinds kind args is = moved Integer kind (Span ∷ []) kinds (applied lists doc GetBegin args) is (one_span Integer (λ s. int (pos s.begin)) tt (λ s. tt) args)
  applied-kind GetEnd kinds kind args is = moved Integer kind (Span ∷ []) kinds (applied lists doc GetEnd args) is (one_span Integer (λ s. int (pos s.end)) tt (λ s. tt) args)
  applied-kind GetLength kinds kind args is = moved Integer kind (Span ∷ []) kinds (applied lists doc GetLength args) is (one_span Integer (λ s. int (pos (s.end - s.begin))) tt (λ s. tt) args)
  applied-kind GetText kinds kind args is = moved Text kind (Span ∷ []) kinds (applied lists doc GetText args) is (one_span Text (λ s. text (text_in doc s)) tt (λ s. tt) args)
  applied-kind CombineSpans kinds kind args is = moved Span kind (Span ∷ Span ∷ []) kinds (applied lists doc CombineSpans args) is (two_spans args combined)
  applied-kind SpanBetween kinds kind args is = moved Span kind (Span ∷ Span ∷ []) kinds (applied lists doc SpanBetween args) is (two_spans args gap_of)
  applied-kind LeftContext kinds kind args is = moved Span kind (Span ∷ Integer ∷ []) kinds (applied lists doc LeftContext args) is (span_and_number args left_of)
  applied-kind RightContext kinds kind args is = moved Span kind (Span ∷ Integer ∷ []) kinds (applied lists doc RightContext args) is (span_and_number args (right_of (len_of doc)))
  applied-kind LeftContextTok kinds kind args is = moved Span kind (Span ∷ Integer ∷ []) kinds (applied lists doc LeftContextTok args) is (span_and_number args (left_of_tok (tokens_of (characters doc))))
  applied-kind RightContextTok kinds kind args is = moved Span kind (Span ∷ Integer ∷ []) kinds (applied lists doc RightContextTok args) is (span_and_number args (right_of_tok (tokens_of (characters doc))))
  applied-kind (Follows low high) kinds kind args is = moved Boolean kind (Span ∷ Span ∷ []) kinds (applied lists doc (Follows low high) args) is tt
  applied-kind (FollowsTok low high) kinds kind args is = moved Boolean kind (Span ∷ Span ∷ []) kinds (applied lists doc (FollowsTok low high) args) is tt
  applied-kind Overlaps kinds kind args is = moved Boolean kind (Span ∷ Span ∷ []) kinds (applied lists doc Overlaps args) is tt
  applied-kind Contains kinds kind args is = moved Boolean kind (Span ∷ Span ∷ []) kinds (applied lists doc Contains args) is tt
  applied-kind Equals kinds kind args is = moved Boolean kind (Any ∷ first_kind kinds ∷ []) kinds (applied lists doc Equals args) is tt
  applied-kind GreaterThan kinds kind args is = moved Boolean kind (Integer ∷ Integer ∷ []) kinds (applied lists doc GreaterThan args) is tt
  applied-kind NotNull kinds kind args is = moved Boolean kind (Any ∷ []) kinds (applied lists doc NotNull args) is tt
  applied-kind (ContainsRegex p) kinds kind args is = moved Boolean kind (SpanOrText ∷ []) kinds (applied lists doc (ContainsRegex p) args) is tt
  applied-kind (MatchesRegex p) kinds kind args is = moved Boolean kind (SpanOrText ∷ []) kinds (applied lists doc (MatchesRegex p) args) is tt
  applied-kind (ContainsDict d) kinds kind args is = moved Boolean kind (Span ∷ []) kinds (applied lists doc (ContainsDict d) args) is tt
  applied-kind (MatchesDict d) kinds kind args is = moved Boolean kind (Span ∷ []) kinds (applied lists doc (MatchesDict d) args) is tt
  applied-kind Not kinds kind args is = moved Boolean kind (Boolean ∷ []) kinds (applied lists doc Not args) is tt
  applied-kind And kinds kind args is = moved Boolean kind (all_boolean kinds) kinds (applied lists doc And args) is tt
  applied-kind Or kinds kind args is = moved Boolean kind (all_boolean kinds) kinds (applied lists doc Or args) is tt

  call-kind : (op : Op) (kinds : Option (List Kind)) (kind : Kind) (args : List Datum) → kind_of_call op kinds ≡ Some kind → IsOfKind kind (applied lists doc op args)
  call-kind op None kind args is = absurd (none-some kind is)
  call-kind op (Some kinds) kind args is = applied-kind op kinds kind args is

  module _ (kinds : List Kind) (row : List Datum) (fits : IsOfKinds kinds row) where
    -- an expression of some kind is worth a value of that kind
    pub value-kind : (t : Term) (kind : Kind) → kind_in kinds t ≡ Some kind → IsOfKind kind (value lists doc row t)
    value-kind (column n) kind is = fits.each n kind is
    value-kind (number n) kind is = subst (λ k. IsOfKind k (int n)) (some-is Integer kind is) tt
    value-kind (string t) kind is = subst (λ k. IsOfKind k (text t)) (some-is Text kind is) tt
    value-kind (call op args) kind is = call-kind op (kinds_in kinds args) kind (values lists doc row args) is

-- the kinds of arguments, one by one
call-kinds : (op : Op) (kinds : Option (List Kind)) (kind : Kind) → kind_of_call op kinds ≡ Some kind → (found : List Kind) × (kinds ≡ Some found)
call-kinds op None kind is = absurd (none-some kind is)
call-kinds op (Some found) kind is = (found, refl)

both-kinds : (kind : Option Kind) (kinds : Option (List Kind)) (found : List Kind) → kinds_with kind kinds ≡ Some found
    → ((k : Kind) × (kind ≡ Some k)) × ((ks : List Kind) × (kinds ≡ Some ks))
both-kinds (Some k) (Some ks) found is = ((k, refl), (ks, refl))
both-kinds (Some k) None found is = absurd (no_list found is)
both-kinds None kinds found is = absurd (no_list found is)

module _ (kinds : List Kind) where
  mutual
    -- a well-typed expression reads columns that have a kind
    pub reads-below : (t : Term) (kind : Kind) → kind_in kinds t ≡ Some kind → ReadsBelow (length kinds) t
    reads-below (column n) kind is = All-cons (λ n. n < length kinds) n [] (slice_get_within kinds n kind is) (All-nil (λ n. n < length kinds))
    reads-below (number n) kind is = All-nil (λ n. n < length kinds)
    reads-below (string t) kind is = All-nil (λ n. n < length kinds)
    reads-below (call op args) kind is = let found = call-kinds op (kinds_in kinds args) kind is in all-read-below args found.0 found.1

    all-read-below : (ts : Terms) (found : List Kind) → kinds_in kinds ts ≡ Some found → All (λ n. n < length kinds) (columns_in ts)
    all-read-below none found is = All-nil (λ n. n < length kinds)
    all-read-below (more t ts) found is =
        let both = both-kinds (kind_in kinds t) (kinds_in kinds ts) found is in
        All-append (λ n. n < length kinds) (columns_of t) (columns_in ts) (reads-below t both.0.0 both.0.1) (all-read-below ts both.1.0 both.1.1)

-- a row of one view's columns, and behind it one of another's
abbrev each_of : List Kind → List Datum → Type 0
each_of kinds row = (n : ℕ) (kind : Kind) → slice_get kinds n ≡ Some kind → IsOfKind kind (value_in row n)

each-append : (kinds more_kinds : List Kind) (row more_row : List Datum) → length row ≡ length kinds
    → each_of kinds row → each_of more_kinds more_row → each_of (kinds ++ more_kinds) (row ++ more_row)
each-append [] more_kinds [] more_row width first second n kind is = second n kind is
each-append [] more_kinds (x ∷ row) more_row width first second n kind is = absurd (omega (arith, width))
each-append (k ∷ kinds) more_kinds [] more_row width first second n kind is = absurd (omega (arith, width))
each-append (k ∷ kinds) more_kinds (x ∷ row) more_row width first second zero kind is = first zero kind is
each-append (k ∷ kinds) more_kinds (x ∷ row) more_row width first second (suc n) kind is =
    each-append kinds more_kinds row more_row (omega (arith, width)) (λ m of_kind at. first (suc m) of_kind at) second n kind is

pub IsOfKinds-append : (kinds more_kinds : List Kind) (row more_row : List Datum) → IsOfKinds kinds row → IsOfKinds more_kinds more_row
    → IsOfKinds (kinds ++ more_kinds) (row ++ more_row)
IsOfKinds-append kinds more_kinds row more_row fits more_fit = record {
  width = length-append row more_row ∙ (ap₂ ◌+◌ fits.width more_fit.width ∙ sym (length-append kinds more_kinds));
  each = each-append kinds more_kinds row more_row fits.width fits.each more_fit.each;
}
