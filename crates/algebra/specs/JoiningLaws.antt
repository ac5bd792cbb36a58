-- Laws of joins: a selection over a product is a join, a join without a left row has no row, and a restricted join is the
-- join with all that is found.
use Rattle.std.proofs.Common.{◌≡◌, ℕ, ◌+◌, ◌<◌, Bool, true, false, ◌&&◌, List, [], ◌∷◌, length, refl, sym, ap, ◌∙◌, Option, Some, None, true≢false}
use Rattle.std.specs.Prelude.{slice_get}
use Rattle.std.proofs.lemmas.List.Elements.{filter_agree}
use Rattle.span_token.specs.Documents.{Doc as Document, characters}
use Rattle.span_token.specs.Extents.{Extent}
use Rattle.span_token.specs.Tokens.{tokens_of}
use Rattle.span_token.specs.Relations.{does_follow, does_follow_tok, do_overlap, does_contain}
use Rattle.row_values.specs.Datums.{Datum, null, int, truth, text, span, span_of}
use Rattle.row_values.specs.Rows.{value_in, span_in, product}
use Rattle.row_values.specs.RowBags.{product-nil}
use Rattle.span_joins.specs.Joins.{holds, joined_where}
use Rattle.span_joins.specs.JoinLaws.{joined_where-rows, joined_where-product}
use Rattle.scalar_ops.specs.Operators.{holds_of_spans}
use Rattle.scalar_ops.specs.Tables.{Lists}
use Rattle.scalar_ops.specs.Values.{holding}
use Rattle.aql_typed.specs.Meaning.{Rows, selected}
use Rattle.algebra.specs.declared.node.JoinKind.{JoinKind}
use Rattle.algebra.specs.declared.node.JoinKind.TheVariants as kind
use Rattle.algebra.specs.declared.node.Local.TheVariants as sought
use Rattle.algebra.specs.declared.node.Node.{Node}
use Rattle.algebra.specs.declared.node.Node.TheVariants.{Doc, Regex, TokenRegex, Dict, DictPart, Blocks, Select, Project, Cross, SpanJoin, Restricted, Union, Minus, Consolidate, Group, OrderLimit}
use Rattle.algebra.specs.DictLaws.{dict_part}
use Rattle.algebra.specs.Inputs.{is_conditional}
use Rattle.algebra.specs.Operators.{op, does_join}
use Rattle.algebra.specs.Predicates.{predicate}
use Rattle.algebra.specs.WidthLaws.{AreWide}

-- a test of two values is a test of their spans
of_spans : (f : Extent → Extent → Bool) (x y : Datum) → holds_of_spans f (x ∷ y ∷ []) ≡ holds f (span_of x) (span_of y)
of_spans f (span a) (span b) = refl
of_spans f (span a) null = refl
of_spans f (span a) (int n) = refl
of_spans f (span a) (truth b) = refl
of_spans f (span a) (text t) = refl
of_spans f null y = refl
of_spans f (int n) y = refl
of_spans f (truth b) y = refl
of_spans f (text t) y = refl

turned : (f : Extent → Extent → Bool) (x y : Option Extent) → holds f x y ≡ holds (λ b a. f a b) y x
turned f (Some a) (Some b) = refl
turned f (Some a) None = refl
turned f None (Some b) = refl
turned f None None = refl

and_true : (b : Bool) → (b && true) ≡ b
and_true true = refl
and_true false = refl

module _ (lists : Lists) (doc : Document) where
  -- the condition holds of a row where the predicate holds of the spans in its columns
  pub holding-predicate : (join : JoinKind) (a b : ℕ) (row : List Datum) → holding lists doc (predicate join a b ∷ []) row ≡ holds (does_join doc join) (span_in a row) (span_in b row)
  holding-predicate (kind.Follows min max) a b row = and_true _ ∙ of_spans (λ a b. does_follow a b min max) (value_in row a) (value_in row b)
  holding-predicate (kind.FollowsTok min max) a b row = and_true _ ∙ of_spans (λ a b. does_follow_tok (tokens_of (characters doc)) a b min max) (value_in row a) (value_in row b)
  holding-predicate kind.Overlaps a b row = and_true _ ∙ of_spans do_overlap (value_in row a) (value_in row b)
  holding-predicate kind.Contains a b row = and_true _ ∙ of_spans does_contain (value_in row a) (value_in row b)
  holding-predicate (kind.FollowsBack min max) a b row =
      and_true _ ∙ (of_spans (λ a b. does_follow a b min max) (value_in row b) (value_in row a) ∙ turned (λ a b. does_follow a b min max) (span_in b row) (span_in a row))
  holding-predicate (kind.FollowsTokBack min max) a b row =
      and_true _ ∙ (of_spans (λ a b. does_follow_tok (tokens_of (characters doc)) a b min max) (value_in row b) (value_in row a)
      ∙ turned (λ a b. does_follow_tok (tokens_of (characters doc)) a b min max) (span_in b row) (span_in a row))
  holding-predicate kind.ContainsBack a b row =
      and_true _ ∙ (of_spans does_contain (value_in row b) (value_in row a) ∙ turned does_contain (span_in b row) (span_in a row))

  -- a selection by a predicate of one column of each side, over a product, is the join
  pub selected-join : (join : JoinKind) (lc rc width : ℕ) (left right : Rows) → AreWide width left → lc < width
      → selected lists doc (predicate join lc (width + rc) ∷ []) (product left right) ≡ joined_where (does_join doc join) left lc right rc
  selected-join join lc rc width left right wide inside =
      filter_agree (holding lists doc (predicate join lc (width + rc) ∷ [])) (λ row. holds (does_join doc join) (span_in lc row) (span_in (width + rc) row))
      (λ row. holding-predicate join lc (width + rc) row) (product left right)
      ∙ sym (joined_where-product (does_join doc join) lc rc width inside left right wide)

  joined-nil : (join : JoinKind) (lc rc : ℕ) (right : Rows) → joined_where (does_join doc join) [] lc right rc ≡ []
  joined-nil join lc rc right = joined_where-rows (does_join doc join) lc rc [] right

  -- a conditional join without a left row has no row
  pub conditional-nil : (node : Node) (right : Rows) → is_conditional node ≡ true → op lists doc node [] right ≡ []
  conditional-nil (Cross l r conditional) right is = product-nil right
  conditional-nil (SpanJoin l r join lc rc conditional) right is = joined-nil join lc rc right
  conditional-nil Doc right is = absurd (true≢false (sym is))
  conditional-nil (Regex input column pattern groups) right is = absurd (true≢false (sym is))
  conditional-nil (TokenRegex input column low high pattern groups) right is = absurd (true≢false (sym is))
  conditional-nil (Dict input column dicts) right is = absurd (true≢false (sym is))
  conditional-nil (DictPart input number) right is = absurd (true≢false (sym is))
  conditional-nil (Blocks input column low high from to tokens) right is = absurd (true≢false (sym is))
  conditional-nil (Select input conds) right is = absurd (true≢false (sym is))
  conditional-nil (Project input items) right is = absurd (true≢false (sym is))
  conditional-nil (Restricted outer source join lc local_part) right is = absurd (true≢false (sym is))
  conditional-nil (Union l r) right is = absurd (true≢false (sym is))
  conditional-nil (Minus l r) right is = absurd (true≢false (sym is))
  conditional-nil (Consolidate input policy target) right is = absurd (true≢false (sym is))
  conditional-nil (Group input keys aggs) right is = absurd (true≢false (sym is))
  conditional-nil (OrderLimit input keys limit) right is = absurd (true≢false (sym is))

  -- a restricted join is the join with all runs of tokens
  pub restricted-runs : (outer source input l r : ℕ) (join : JoinKind) (lc low high pattern : ℕ) (conditional : Bool) (left rows other : Rows)
      → op lists doc (Restricted outer source join lc (sought.TokenRegex low high pattern)) left rows
      ≡ op lists doc (SpanJoin l r join lc 1 conditional) left (op lists doc (TokenRegex input 0 low high pattern (0 ∷ [])) rows other)
  restricted-runs outer source input l r join lc low high pattern conditional left rows other = refl

  -- and with all matches of a dictionary, whichever others its node has
  pub restricted-entries : (outer source input above l r : ℕ) (join : JoinKind) (lc d number : ℕ) (dicts : List ℕ) (conditional : Bool) (left rows other third : Rows)
      → number < length dicts → slice_get dicts number ≡ Some d
      → op lists doc (Restricted outer source join lc (sought.Dict d)) left rows
      ≡ op lists doc (SpanJoin l r join lc 1 conditional) left (op lists doc (DictPart above number) (op lists doc (Dict input 0 dicts) rows other) third)
  restricted-entries outer source input above l r join lc d number dicts conditional left rows other third below is =
      ap (λ (found : Rows). joined_where (does_join doc join) left lc found 1) (sym (dict_part lists doc input 0 dicts above number d rows other third below is))
