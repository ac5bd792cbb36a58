-- For each kind of node: when it may be put after others, and what stands for it then, in the words of its operator.
use Rattle.std.proofs.Common.{◌≡◌, ℕ, ℤ, ◌+◌, ◌-◌, ◌<◌, ◌≤◌, Bool, List, [], ◌++◌, length, refl, arith, Option, Some, None}
use Rattle.std.specs.List.{All, flat_map}
use Rattle.span_token.specs.Documents.{Doc as Document}
use Rattle.span_sets.specs.declared.policy.Policy.{Policy}
use Rattle.group_agg.specs.declared.agg.Agg.{Agg}
use Rattle.group_agg.specs.Groups.{HasKey, HasColumn, grouped}
use Rattle.row_values.specs.Rows.{sorted, product, minus as without}
use Rattle.span_joins.specs.Joins.{joined_where}
use Rattle.scalar_ops.specs.Expressions.{Term, ReadsBelow}
use Rattle.scalar_ops.specs.Tables.{Lists}
use Rattle.aql_typed.specs.Trees.{regex, token_regex, blocks, plain}
use Rattle.aql_typed.specs.Meaning.{Rows, document_rows, extracted, selected, projected, kept, cut}
use Rattle.algebra.specs.declared.node.JoinKind.{JoinKind}
use Rattle.algebra.specs.declared.node.Local.{Local}
use Rattle.algebra.specs.declared.node.Node.{Node}
use Rattle.algebra.specs.declared.node.Node.TheVariants.{Doc, Regex, TokenRegex, Dict, DictPart, Blocks, Select, Project, Cross, SpanJoin, Restricted, Union, Minus, Consolidate, Group, OrderLimit}
use Rattle.algebra.specs.declared.shape.Form.TheVariants.{Marked}
use Rattle.algebra.specs.declared.shape.Shape.{Shape}
use Rattle.algebra.specs.FoldLaws.{length-each}
use Rattle.algebra.specs.Growth.{Has, Stands}
use Rattle.algebra.specs.GrowthLaws.{HasAt, has-shape_at, has-op}
use Rattle.algebra.specs.Inputs.{left_input, right_input, IsAmong}
use Rattle.algebra.specs.Nodes.{IsNode}
use Rattle.algebra.specs.Operators.{does_join, part_of, with_found, marked_in, restricted}
use Rattle.algebra.specs.Shapes.{columns, document_shape, shape_by, no_shape, shapes_of, IsOpen, HasDictNumber, IsSought, IsMade}

among : (old : List Node) (o : Option ℕ) (s : Shape) (f : Lists → Document → Rows) → HasAt old o s f → IsAmong (length (shapes_of old)) o
among old None s f has = tt
among old (Some i) s f has = omega (arith, has.there, length-each no_shape shape_by old)

-- a node may be put after others where it may read inputs of the shapes that they have
pub node-by : (old : List Node) (node : Node) (s t : Shape) (f g : Lists → Document → Rows) → HasAt old (left_input node) s f → HasAt old (right_input node) t g → IsMade node s t → IsNode (shapes_of old) node
node-by old node s t f g left right made = record {
  left_below = among old (left_input node) s f left;
  right_below = among old (right_input node) t g right;
  made = rw (has-shape_at old (left_input node) s f left, has-shape_at old (right_input node) t g right) made;
}

-- no rows, of an input that isn't there
abbrev pub no_rows : Lists → Document → Rows
no_rows lists doc = []

pub no_input : (old : List Node) → HasAt old None no_shape no_rows
no_input old = (refl, λ lists doc. refl)

-- ---- the document

pub node-doc : (old : List Node) → IsNode (shapes_of old) Doc
node-doc old = node-by old Doc no_shape no_shape no_rows no_rows (no_input old) (no_input old) tt

pub has-doc : (old new : List Node) (n : ℕ) → Stands old new n Doc → Has new n document_shape (λ lists doc. document_rows lists doc)
has-doc old new n stands = has-op old Doc no_shape no_shape no_rows no_rows (no_input old) (no_input old) new n stands

-- ---- one input

module _ (old : List Node) (i : ℕ) (s : Shape) (f : Lists → Document → Rows) (has : Has old i s f) where
  pub node-regex : (column pattern : ℕ) (groups : List ℕ) → IsOpen s → column < s.width → IsNode (shapes_of old) (Regex i column pattern groups)
  node-regex column pattern groups h0 h1 = node-by old (Regex i column pattern groups) s no_shape f no_rows has (no_input old) (h0, h1)

  -- the rows, followed by the matches of a pattern
  pub has-regex : (column pattern : ℕ) (groups : List ℕ) (new : List Node) (n : ℕ) → Stands old new n (Regex i column pattern groups) → Has new n (columns (s.width + length groups)) (λ lists doc. with_found lists doc (regex column pattern groups) (f lists doc))
  has-regex column pattern groups new n stands = has-op old (Regex i column pattern groups) s no_shape f no_rows has (no_input old) new n stands

  pub node-token_regex : (column low high pattern : ℕ) (groups : List ℕ) → IsOpen s → column < s.width → 1 ≤ low → IsNode (shapes_of old) (TokenRegex i column low high pattern groups)
  node-token_regex column low high pattern groups h0 h1 h2 = node-by old (TokenRegex i column low high pattern groups) s no_shape f no_rows has (no_input old) (h0, h1, h2)

  -- the rows, followed by the runs of tokens that a pattern matches
  pub has-token_regex : (column low high pattern : ℕ) (groups : List ℕ) (new : List Node) (n : ℕ) → Stands old new n (TokenRegex i column low high pattern groups) → Has new n (columns (s.width + length groups)) (λ lists doc. with_found lists doc (token_regex column low high pattern groups) (f lists doc))
  has-token_regex column low high pattern groups new n stands = has-op old (TokenRegex i column low high pattern groups) s no_shape f no_rows has (no_input old) new n stands

  pub node-dict : (column : ℕ) (dicts : List ℕ) → IsOpen s → column < s.width → IsNode (shapes_of old) (Dict i column dicts)
  node-dict column dicts h0 h1 = node-by old (Dict i column dicts) s no_shape f no_rows has (no_input old) (h0, h1)

  -- the rows, followed by the numbers and matches of dictionaries
  pub has-dict : (column : ℕ) (dicts : List ℕ) (new : List Node) (n : ℕ) → Stands old new n (Dict i column dicts) → Has new n (record { width = s.width + 2; form = Marked (length dicts) }) (λ lists doc. flat_map (marked_in lists doc column dicts) (f lists doc))
  has-dict column dicts new n stands = has-op old (Dict i column dicts) s no_shape f no_rows has (no_input old) new n stands

  pub node-dict_part : (number : ℕ) → HasDictNumber s number → IsNode (shapes_of old) (DictPart i number)
  node-dict_part number h0 = node-by old (DictPart i number) s no_shape f no_rows has (no_input old) h0

  -- the rows of one dictionary
  pub has-dict_part : (number : ℕ) (new : List Node) (n : ℕ) → Stands old new n (DictPart i number) → Has new n (columns (s.width - 1)) (λ lists doc. part_of number (f lists doc))
  has-dict_part number new n stands = has-op old (DictPart i number) s no_shape f no_rows has (no_input old) new n stands

  pub node-blocks : (column low high : ℕ) (from upto : ℤ) (tokens : Bool) → IsOpen s → column < s.width → IsNode (shapes_of old) (Blocks i column low high from upto tokens)
  node-blocks column low high from upto tokens h0 h1 = node-by old (Blocks i column low high from upto tokens) s no_shape f no_rows has (no_input old) (h0, h1)

  -- the blocks of a column
  pub has-blocks : (column low high : ℕ) (from upto : ℤ) (tokens : Bool) (new : List Node) (n : ℕ) → Stands old new n (Blocks i column low high from upto tokens) → Has new n (columns 1) (λ lists doc. extracted lists doc [] (blocks column low high from upto tokens) (f lists doc))
  has-blocks column low high from upto tokens new n stands = has-op old (Blocks i column low high from upto tokens) s no_shape f no_rows has (no_input old) new n stands

  pub node-select : (conds : List Term) → IsOpen s → All (ReadsBelow s.width) conds → IsNode (shapes_of old) (Select i conds)
  node-select conds h0 h1 = node-by old (Select i conds) s no_shape f no_rows has (no_input old) (h0, h1)

  -- the rows on which the conditions hold
  pub has-select : (conds : List Term) (new : List Node) (n : ℕ) → Stands old new n (Select i conds) → Has new n (columns s.width) (λ lists doc. selected lists doc conds (f lists doc))
  has-select conds new n stands = has-op old (Select i conds) s no_shape f no_rows has (no_input old) new n stands

  pub node-project : (items : List Term) → IsOpen s → All (ReadsBelow s.width) items → IsNode (shapes_of old) (Project i items)
  node-project items h0 h1 = node-by old (Project i items) s no_shape f no_rows has (no_input old) (h0, h1)

  -- the values of the items
  pub has-project : (items : List Term) (new : List Node) (n : ℕ) → Stands old new n (Project i items) → Has new n (columns (length items)) (λ lists doc. projected lists doc (plain items) (f lists doc))
  has-project items new n stands = has-op old (Project i items) s no_shape f no_rows has (no_input old) new n stands

  pub node-consolidate : (policy : Policy) (target : Term) → IsOpen s → ReadsBelow s.width target → IsNode (shapes_of old) (Consolidate i policy target)
  node-consolidate policy target h0 h1 = node-by old (Consolidate i policy target) s no_shape f no_rows has (no_input old) (h0, h1)

  -- the rows that a policy keeps
  pub has-consolidate : (policy : Policy) (target : Term) (new : List Node) (n : ℕ) → Stands old new n (Consolidate i policy target) → Has new n (columns s.width) (λ lists doc. kept lists doc (Some (record { policy = policy; target = target })) (f lists doc))
  has-consolidate policy target new n stands = has-op old (Consolidate i policy target) s no_shape f no_rows has (no_input old) new n stands

  pub node-group : (keys : List ℕ) (aggs : List Agg) → IsOpen s → All (λ key. key < s.width) keys → All (HasKey (length keys)) aggs → All (HasColumn s.width) aggs → IsNode (shapes_of old) (Group i keys aggs)
  node-group keys aggs h0 h1 h2 h3 = node-by old (Group i keys aggs) s no_shape f no_rows has (no_input old) (h0, h1, h2, h3)

  -- the rows of groups
  pub has-group : (keys : List ℕ) (aggs : List Agg) (new : List Node) (n : ℕ) → Stands old new n (Group i keys aggs) → Has new n (columns (length aggs)) (λ lists doc. sorted (grouped keys aggs (f lists doc)))
  has-group keys aggs new n stands = has-op old (Group i keys aggs) s no_shape f no_rows has (no_input old) new n stands

  pub node-order_limit : (keys : List ℕ) (limit : Option ℕ) → IsOpen s → All (λ key. key < s.width) keys → IsNode (shapes_of old) (OrderLimit i keys limit)
  node-order_limit keys limit h0 h1 = node-by old (OrderLimit i keys limit) s no_shape f no_rows has (no_input old) (h0, h1)

  -- the first rows
  pub has-order_limit : (keys : List ℕ) (limit : Option ℕ) (new : List Node) (n : ℕ) → Stands old new n (OrderLimit i keys limit) → Has new n (columns s.width) (λ lists doc. cut keys limit (f lists doc))
  has-order_limit keys limit new n stands = has-op old (OrderLimit i keys limit) s no_shape f no_rows has (no_input old) new n stands

-- ---- two inputs

module _ (old : List Node) (i j : ℕ) (s t : Shape) (f g : Lists → Document → Rows) (left : Has old i s f) (right : Has old j t g) where
  pub node-cross : (conditional : Bool) → IsOpen s → IsOpen t → IsNode (shapes_of old) (Cross i j conditional)
  node-cross conditional h0 h1 = node-by old (Cross i j conditional) s t f g left right (h0, h1)

  -- all pairs
  pub has-cross : (conditional : Bool) (new : List Node) (n : ℕ) → Stands old new n (Cross i j conditional) → Has new n (columns (s.width + t.width)) (λ lists doc. product (f lists doc) (g lists doc))
  has-cross conditional new n stands = has-op old (Cross i j conditional) s t f g left right new n stands

  pub node-span_join : (join : JoinKind) (lc rc : ℕ) (conditional : Bool) → IsOpen s → IsOpen t → lc < s.width → rc < t.width → IsNode (shapes_of old) (SpanJoin i j join lc rc conditional)
  node-span_join join lc rc conditional h0 h1 h2 h3 = node-by old (SpanJoin i j join lc rc conditional) s t f g left right (h0, h1, h2, h3)

  -- the pairs on which the predicate holds
  pub has-span_join : (join : JoinKind) (lc rc : ℕ) (conditional : Bool) (new : List Node) (n : ℕ) → Stands old new n (SpanJoin i j join lc rc conditional) → Has new n (columns (s.width + t.width)) (λ lists doc. joined_where (does_join doc join) (f lists doc) lc (g lists doc) rc)
  has-span_join join lc rc conditional new n stands = has-op old (SpanJoin i j join lc rc conditional) s t f g left right new n stands

  pub node-restricted : (join : JoinKind) (lc : ℕ) (local_part : Local) → IsOpen s → t ≡ document_shape → lc < s.width → IsSought local_part → IsNode (shapes_of old) (Restricted i j join lc local_part)
  node-restricted join lc local_part h0 h1 h2 h3 = node-by old (Restricted i j join lc local_part) s t f g left right (h0, h1, h2, h3)

  -- the outer rows with what is found that passes the predicate
  pub has-restricted : (join : JoinKind) (lc : ℕ) (local_part : Local) (new : List Node) (n : ℕ) → Stands old new n (Restricted i j join lc local_part) → Has new n (columns (s.width + 2)) (λ lists doc. restricted lists doc join lc local_part (f lists doc) (g lists doc))
  has-restricted join lc local_part new n stands = has-op old (Restricted i j join lc local_part) s t f g left right new n stands

  pub node-union : IsOpen s → IsOpen t → t.width ≡ s.width → IsNode (shapes_of old) (Union i j)
  node-union h0 h1 h2 = node-by old (Union i j) s t f g left right (h0, h1, h2)

  -- the rows of both sides
  pub has-union : (new : List Node) (n : ℕ) → Stands old new n (Union i j) → Has new n (columns s.width) (λ lists doc. f lists doc ++ g lists doc)
  has-union new n stands = has-op old (Union i j) s t f g left right new n stands

  pub node-minus : IsOpen s → IsOpen t → t.width ≡ s.width → IsNode (shapes_of old) (Minus i j)
  node-minus h0 h1 h2 = node-by old (Minus i j) s t f g left right (h0, h1, h2)

  -- the left rows that occur nowhere on the right
  pub has-minus : (new : List Node) (n : ℕ) → Stands old new n (Minus i j) → Has new n (columns s.width) (λ lists doc. without (f lists doc) (g lists doc))
  has-minus new n stands = has-op old (Minus i j) s t f g left right new n stands
