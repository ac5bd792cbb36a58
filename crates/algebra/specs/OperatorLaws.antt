-- Laws of operators: equal bags in, equal bags out; the numbers of the inputs don't count.
use Rattle.std.proofs.Common.{◌≡◌, ℕ, List, [], ◌∷◌, ◌++◌, refl, sym, ap, ◌∙◌, Option, Some, None, option_map, flat_map}
use Rattle.std.specs.List.{cons_option, filter_map}
use Rattle.aql_base.specs.Bags.{SameBag}
use Rattle.aql_base.specs.BagLaws.{SameBag-refl, SameBag-trans, SameBag-is, SameBag-append, SameBag-map, SameBag-filter, SameBag-flat_map}
use Rattle.span_token.specs.Documents.{Doc as Document}
use Rattle.row_values.specs.Datums.{span_of}
use Rattle.row_values.specs.Rows.{span_in, sorted}
use Rattle.row_values.specs.RowBags.{SameBag-product, SameBag-minus}
use Rattle.span_joins.specs.JoinLaws.{joined_where-SameBag}
use Rattle.span_sets.specs.Blocks.{IsNeighbour, is_neighbour}
use Rattle.span_sets.specs.Laws.{consolidated-SameBag, blocks_of-SameBag, is_neighbour-decides}
use Rattle.group_agg.specs.Laws.{grouped-SameBag, limited-SameBag}
use Rattle.scalar_ops.specs.Tables.{Lists}
use Rattle.scalar_ops.specs.Values.{value, holding}
use Rattle.aql_typed.specs.Trees.{regex, token_regex}
use Rattle.aql_typed.specs.Meaning.{Rows, one_column, row_of}
use Rattle.algebra.specs.declared.node.Node.{Node}
use Rattle.algebra.specs.declared.node.Node.TheVariants.{Doc, Regex, TokenRegex, Dict, DictPart, Blocks, Select, Project, Cross, SpanJoin, Restricted, Union, Minus, Consolidate, Group, OrderLimit}
use Rattle.algebra.specs.declared.shape.Shape.{Shape}
use Rattle.algebra.specs.Inputs.{left_input, right_input, with_inputs}
use Rattle.algebra.specs.Operators.{op, does_join, sought_by, is_marked, unmarked, followed, with_found, marked_in}
use Rattle.algebra.specs.Shapes.{shape_by, IsMade}

put_first : {X : Type 0} (o : Option X) (xs : List X) → cons_option o xs ≡ cons_option o [] ++ xs
put_first None xs = refl
put_first (Some x) xs = refl

found_one_by_one : {X Y : Type 0} (h : X → Option Y) (xs : List X) → filter_map h xs ≡ flat_map (λ x. cons_option (h x) []) xs
found_one_by_one h [] = refl
found_one_by_one {X} {Y} h (x ∷ xs) = put_first (h x) (filter_map h xs) ∙ ap (λ (ys : List Y). cons_option (h x) [] ++ ys) (found_one_by_one h xs)

SameBag-filter_map : {X Y : Type 0} (h : X → Option Y) (xs ys : List X) → SameBag xs ys → SameBag (filter_map h xs) (filter_map h ys)
SameBag-filter_map h xs ys bag =
    SameBag-trans _ _ _ (SameBag-is _ _ (found_one_by_one h xs))
    (SameBag-trans _ _ _ (SameBag-flat_map (λ x. cons_option (h x) []) xs ys bag) (SameBag-is _ _ (sym (found_one_by_one h ys))))

module _ (lists : Lists) (doc : Document) where
  -- equal bags in, equal bags out
  pub op-SameBag : (node : Node) (left left' right right' : Rows) → SameBag left left' → SameBag right right' → SameBag (op lists doc node left right) (op lists doc node left' right')
  op-SameBag Doc left left' right right' h k = SameBag-refl _
  op-SameBag (Regex input column pattern groups) left left' right right' h k = SameBag-flat_map (followed lists doc (regex column pattern groups)) left left' h
  op-SameBag (TokenRegex input column low high pattern groups) left left' right right' h k = SameBag-flat_map (followed lists doc (token_regex column low high pattern groups)) left left' h
  op-SameBag (Dict input column dicts) left left' right right' h k = SameBag-flat_map (marked_in lists doc column dicts) left left' h
  op-SameBag (DictPart input number) left left' right right' h k = SameBag-map unmarked _ _ (SameBag-filter (is_marked number) left left' h)
  op-SameBag (Blocks input column low high from to tokens) left left' right right' h k =
      SameBag-is _ _ (ap one_column (blocks_of-SameBag (is_neighbour doc tokens from to) (IsNeighbour doc tokens from to) (is_neighbour-decides doc tokens from to) low high
      (filter_map (span_in column) left) (filter_map (span_in column) left') (SameBag-filter_map (span_in column) left left' h)))
  op-SameBag (Select input conds) left left' right right' h k = SameBag-filter (holding lists doc conds) left left' h
  op-SameBag (Project input items) left left' right right' h k = SameBag-map (row_of lists doc items) left left' h
  op-SameBag (Cross l r conditional) left left' right right' h k = SameBag-product left left' right right' h k
  op-SameBag (SpanJoin l r join lc rc conditional) left left' right right' h k = joined_where-SameBag (does_join doc join) lc rc left left' right right' h k
  op-SameBag (Restricted outer source join lc sought) left left' right right' h k =
      joined_where-SameBag (does_join doc join) lc 1 left left' (with_found lists doc (sought_by sought) right) (with_found lists doc (sought_by sought) right') h
      (SameBag-flat_map (followed lists doc (sought_by sought)) right right' k)
  op-SameBag (Union l r) left left' right right' h k = SameBag-append left left' right right' h k
  op-SameBag (Minus l r) left left' right right' h k = SameBag-minus left left' right right' h k
  op-SameBag (Consolidate input policy target) left left' right right' h k = SameBag-is _ _ (consolidated-SameBag policy (λ row. span_of (value lists doc row target)) left left' h)
  op-SameBag (Group input keys aggs) left left' right right' h k = SameBag-is _ _ (ap sorted (grouped-SameBag keys aggs left left' h))
  op-SameBag (OrderLimit input keys None) left left' right right' h k = h
  op-SameBag (OrderLimit input keys (Some n)) left left' right right' h k = SameBag-is _ _ (ap sorted (limited-SameBag keys (Some n) left left' h))

  -- which nodes are read doesn't count beside their rows
  pub op-renamed : (to : ℕ → ℕ) (node : Node) (left right : Rows) → op lists doc (with_inputs to node) left right ≡ op lists doc node left right
  op-renamed to Doc left right = refl
  op-renamed to (Regex input column pattern groups) left right = refl
  op-renamed to (TokenRegex input column low high pattern groups) left right = refl
  op-renamed to (Dict input column dicts) left right = refl
  op-renamed to (DictPart input number) left right = refl
  op-renamed to (Blocks input column low high from upto tokens) left right = refl
  op-renamed to (Select input conds) left right = refl
  op-renamed to (Project input items) left right = refl
  op-renamed to (Cross l r conditional) left right = refl
  op-renamed to (SpanJoin l r join lc rc conditional) left right = refl
  op-renamed to (Restricted outer source join lc sought) left right = refl
  op-renamed to (Union l r) left right = refl
  op-renamed to (Minus l r) left right = refl
  op-renamed to (Consolidate input policy target) left right = refl
  op-renamed to (Group input keys aggs) left right = refl
  op-renamed to (OrderLimit input keys limit) left right = refl

module _ (to : ℕ → ℕ) where
  pub left-renamed : (node : Node) → left_input (with_inputs to node) ≡ option_map to (left_input node)
  left-renamed Doc = refl
  left-renamed (Regex input column pattern groups) = refl
  left-renamed (TokenRegex input column low high pattern groups) = refl
  left-renamed (Dict input column dicts) = refl
  left-renamed (DictPart input number) = refl
  left-renamed (Blocks input column low high from upto tokens) = refl
  left-renamed (Select input conds) = refl
  left-renamed (Project input items) = refl
  left-renamed (Cross l r conditional) = refl
  left-renamed (SpanJoin l r join lc rc conditional) = refl
  left-renamed (Restricted outer source join lc sought) = refl
  left-renamed (Union l r) = refl
  left-renamed (Minus l r) = refl
  left-renamed (Consolidate input policy target) = refl
  left-renamed (Group input keys aggs) = refl
  left-renamed (OrderLimit input keys limit) = refl

  pub right-renamed : (node : Node) → right_input (with_inputs to node) ≡ option_map to (right_input node)
  right-renamed Doc = refl
  right-renamed (Regex input column pattern groups) = refl
  right-renamed (TokenRegex input column low high pattern groups) = refl
  right-renamed (Dict input column dicts) = refl
  right-renamed (DictPart input number) = refl
  right-renamed (Blocks input column low high from upto tokens) = refl
  right-renamed (Select input conds) = refl
  right-renamed (Project input items) = refl
  right-renamed (Cross l r conditional) = refl
  right-renamed (SpanJoin l r join lc rc conditional) = refl
  right-renamed (Restricted outer source join lc sought) = refl
  right-renamed (Union l r) = refl
  right-renamed (Minus l r) = refl
  right-renamed (Consolidate input policy target) = refl
  right-renamed (Group input keys aggs) = refl
  right-renamed (OrderLimit input keys limit) = refl

  pub shape-renamed : (node : Node) (left right : Shape) → shape_by (with_inputs to node) left right ≡ shape_by node left right
  shape-renamed Doc left right = refl
  shape-renamed (Regex input column pattern groups) left right = refl
  shape-renamed (TokenRegex input column low high pattern groups) left right = refl
  shape-renamed (Dict input column dicts) left right = refl
  shape-renamed (DictPart input number) left right = refl
  shape-renamed (Blocks input column low high from upto tokens) left right = refl
  shape-renamed (Select input conds) left right = refl
  shape-renamed (Project input items) left right = refl
  shape-renamed (Cross l r conditional) left right = refl
  shape-renamed (SpanJoin l r join lc rc conditional) left right = refl
  shape-renamed (Restricted outer source join lc sought) left right = refl
  shape-renamed (Union l r) left right = refl
  shape-renamed (Minus l r) left right = refl
  shape-renamed (Consolidate input policy target) left right = refl
  shape-renamed (Group input keys aggs) left right = refl
  shape-renamed (OrderLimit input keys limit) left right = refl

  pub made-renamed : (node : Node) (left right : Shape) → IsMade node left right → IsMade (with_inputs to node) left right
  made-renamed Doc left right made = made
  made-renamed (Regex input column pattern groups) left right made = made
  made-renamed (TokenRegex input column low high pattern groups) left right made = made
  made-renamed (Dict input column dicts) left right made = made
  made-renamed (DictPart input number) left right made = made
  made-renamed (Blocks input column low high from upto tokens) left right made = made
  made-renamed (Select input conds) left right made = made
  made-renamed (Project input items) left right made = made
  made-renamed (Cross l r conditional) left right made = made
  made-renamed (SpanJoin l r join lc rc conditional) left right made = made
  made-renamed (Restricted outer source join lc sought) left right made = made
  made-renamed (Union l r) left right made = made
  made-renamed (Minus l r) left right made = made
  made-renamed (Consolidate input policy target) left right made = made
  made-renamed (Group input keys aggs) left right made = made
  made-renamed (OrderLimit input keys limit) left right made = made
