-- What an expression is worth for a row and its document: the function table.
use Rattle.std.specs.Prelude.{◌-◌, pos, int_lt, Bool, not, List, [], ◌∷◌}
use Rattle.std.specs.List.{list_all, list_any}
use Rattle.std.specs.Ordering.{eq_by_cmp}
use Rattle.span_token.specs.Documents.{Doc, text_in, characters, len_of}
use Rattle.span_token.specs.Tokens.{tokens_of}
use Rattle.span_token.specs.Relations.{combined, gap_of, does_follow, does_follow_tok, do_overlap, does_contain}
use Rattle.span_token.specs.Contexts.{left_of, right_of, left_of_tok, right_of_tok}
use Rattle.row_values.specs.Datums.{Datum, int, truth, text, span, is_null, datum_cmp}
use Rattle.row_values.specs.Rows.{value_in}
use Rattle.aql_regex_extract.specs.Patterns.{whole_form}
use Rattle.aql_regex_extract.specs.Matches.{has_match}
use Rattle.span_token.specs.SourceTokens.{tokens_in}
use Rattle.dict_match.specs.Dictionaries.{texts_of}
use Rattle.dict_match.specs.DictMatches.{does_agree, does_match}
use Rattle.scalar_ops.specs.declared.op.Op.{Op}
use Rattle.scalar_ops.specs.declared.op.Op.TheVariants.{GetBegin, GetEnd, GetLength, GetText, CombineSpans, SpanBetween, LeftContext, RightContext, LeftContextTok, RightContextTok, Follows, FollowsTok, Overlaps, Contains, Equals, GreaterThan, NotNull, ContainsRegex, MatchesRegex, ContainsDict, MatchesDict, Not, And, Or}
use Rattle.scalar_ops.specs.Expressions.{Term, column, number, string, call, Terms, none, more}
use Rattle.scalar_ops.specs.Tables.{Lists, holds_of_pattern, holds_of_dict}
use Rattle.scalar_ops.specs.Operators.{of_span, of_spans, of_span_and_number, holds_of_span, holds_of_spans, holds_of_numbers, holds_of_text, holds_of_value, holds_of_values, holds_of_truth, holds_of_all, is_true}

module _ (lists : Lists) (doc : Doc) where
  -- what an operator gives: one line each
  abbrev pub applied : Op → List Datum → Datum
  applied GetBegin args = of_span (λ s. int (pos s.begin)) args
  applied GetEnd args = of_span (λ s. int (pos s.end)) args
  applied GetLength args = of_span (λ s. int (pos (s.end - s.begin))) args
  applied GetText args = of_span (λ s. text (text_in doc s)) args
  applied CombineSpans args = of_spans (λ a b. span (combined a b)) args
  applied SpanBetween args = of_spans (λ a b. span (gap_of a b)) args
  applied LeftContext args = of_span_and_number (λ s n. span (left_of s n)) args
  applied RightContext args = of_span_and_number (λ s n. span (right_of (len_of doc) s n)) args
  applied LeftContextTok args = of_span_and_number (λ s n. span (left_of_tok (tokens_of (characters doc)) s n)) args
  applied RightContextTok args = of_span_and_number (λ s n. span (right_of_tok (tokens_of (characters doc)) s n)) args
  applied (Follows low high) args = truth (holds_of_spans (λ a b. does_follow a b low high) args)
  applied (FollowsTok low high) args = truth (holds_of_spans (λ a b. does_follow_tok (tokens_of (characters doc)) a b low high) args)
  applied Overlaps args = truth (holds_of_spans do_overlap args)
  applied Contains args = truth (holds_of_spans does_contain args)
  applied Equals args = truth (holds_of_values (eq_by_cmp datum_cmp) args)
  applied GreaterThan args = truth (holds_of_numbers (λ m n. int_lt n m) args)
  applied NotNull args = truth (holds_of_value (λ x. not (is_null x)) args)
  applied (ContainsRegex p) args = truth (holds_of_text doc (λ t. holds_of_pattern lists p (λ pattern. has_match pattern t)) args)
  applied (MatchesRegex p) args = truth (holds_of_text doc (λ t. holds_of_pattern lists p (λ pattern. has_match (whole_form pattern) t)) args)
  applied (ContainsDict d) args = truth (holds_of_span (λ s. holds_of_dict lists d (λ dict. does_match dict doc s)) args)
  applied (MatchesDict d) args = truth (holds_of_span (λ s. holds_of_dict lists d (λ dict. does_agree dict (texts_of doc (tokens_in doc s)))) args)
  applied Not args = truth (holds_of_truth not args)
  applied And args = truth (holds_of_all args)
  applied Or args = truth (list_any is_true args)

  module _ (row : List Datum) where
    abbrev mutual
      -- what an expression is worth
      pub value : Term → Datum
      value (column n) = value_in row n
      value (number n) = int n
      value (string t) = text t
      value (call op args) = applied op (values args)

      pub values : Terms → List Datum
      values none = []
      values (more t ts) = value t ∷ values ts

  -- every condition is true
  abbrev pub holding : List Term → List Datum → Bool
  holding conds row = list_all (λ cond. is_true (value row cond)) conds
