-- Nodes that give rows: kind by kind, when a node may be put, and what it gives then.
use Rattle.std.proofs.Common.{◌≡◌, ◌∙◌, ℕ, ℤ, ◌+◌, ◌-◌, ◌<◌, ◌≤◌, Bool, List, [], ◌∷◌, ◌++◌, length, map, get_or, refl, sym, ap, subst, arith, Option, Some, None, flat_map}
use Rattle.std.specs.List.{All, range_with_len}
use Rattle.std.proofs.lemmas.List.FromFn.{length-range_with_len}
use Rattle.std.specs.Prelude.{slice_get}
use Rattle.std.proofs.lemmas.List.Sorted.{All-permutation}
use Rattle.aql_base.specs.Bags.{SameBag}
use Rattle.aql_base.specs.BagLaws.{SameBag-is, SameBag-sym, SameBag-trans}
use Rattle.span_token.specs.Documents.{Doc as Document}
use Rattle.span_sets.specs.declared.policy.Policy.{Policy}
use Rattle.group_agg.specs.declared.agg.Agg.{Agg}
use Rattle.group_agg.specs.Groups.{HasKey, HasColumn, grouped}
use Rattle.group_agg.specs.Limits.{limited}
use Rattle.row_values.specs.SortedRows.{SameBag-sorted}
use Rattle.row_values.specs.Rows.{sorted, product, minus as without}
use Rattle.scalar_ops.specs.Expressions.{Term, ReadsBelow}
use Rattle.scalar_ops.specs.Extractions.{of_some}
use Rattle.scalar_ops.specs.Tables.{Lists}
use Rattle.aql_typed.specs.Trees.{regex, token_regex, dict, blocks, plain}
use Rattle.aql_typed.specs.Meaning.{Rows, document_rows, extracted, selected, projected, kept, cut}
use Rattle.algebra.specs.declared.node.Node.{Node}
use Rattle.algebra.specs.declared.node.Node.TheVariants.{Doc, Regex, TokenRegex, Dict, DictPart, Blocks, Select, Project, Cross, Union, Minus, Consolidate, Group, OrderLimit}
use Rattle.algebra.specs.declared.shape.Shape.{Shape}
use Rattle.algebra.specs.DictLaws.{part-marked}
use Rattle.algebra.specs.Growth.{Grows, Has, Stands}
use Rattle.algebra.specs.GrowthLaws.{has-grown, has-same}
use Rattle.algebra.specs.KindLaws.{node-doc, has-doc, node-regex, has-regex, node-token_regex, has-token_regex, node-dict, has-dict, node-dict_part, has-dict_part, node-blocks, has-blocks, node-select, has-select, node-project, has-project, node-consolidate, has-consolidate, node-group, has-group, node-order_limit, has-order_limit, node-cross, has-cross, node-union, has-union, node-minus, has-minus}
use Rattle.algebra.specs.Nodes.{IsNode, IsPlan}
use Rattle.algebra.specs.Operators.{with_found}
use Rattle.algebra.specs.Shapes.{columns, document_shape, no_shape, shapes_of}
use Rattle.algebra.specs.Values.{val}
use Rattle.algebra.specs.WidthLaws.{AreWide, val-wide}
use Rattle.plan_maker.specs.Grounds.{Gives}
use Rattle.plan_maker.proofs.Numbers.{numbers_below}

-- ---- what is given stays so

pub gives-grown : (old new : List Node) (n w : ℕ) (f : Lists → Document → Rows) → Grows old new → Gives old n w f → Gives new n w f
gives-grown old new n w f grows gives = record {
  shape = gives.shape;
  readable = gives.readable;
  wide = gives.wide;
  has = has-grown old new n gives.shape f grows gives.has;
}

pub gives-same : (nodes : List Node) (n w : ℕ) (f g : Lists → Document → Rows) → ((lists : Lists) (doc : Document) → SameBag (f lists doc) (g lists doc)) → Gives nodes n w f → Gives nodes n w g
gives-same nodes n w f g same gives = record {
  shape = gives.shape;
  readable = gives.readable;
  wide = gives.wide;
  has = has-same nodes n gives.shape f g same gives.has;
}

pub gives-is : (nodes : List Node) (n w : ℕ) (f g : Lists → Document → Rows) → ((lists : Lists) (doc : Document) → f lists doc ≡ g lists doc) → Gives nodes n w f → Gives nodes n w g
gives-is nodes n w f g is gives = gives-same nodes n w f g (λ lists doc. SameBag-is _ _ (is lists doc)) gives

pub gives-width : (nodes : List Node) (n w v : ℕ) (f : Lists → Document → Rows) → w ≡ v → Gives nodes n w f → Gives nodes n v f
gives-width nodes n w v f is gives = record { shape = gives.shape; readable = gives.readable; wide = gives.wide ∙ is; has = gives.has }

-- the number of columns by the node's shape
pub width-there : (nodes : List Node) (n w : ℕ) (f : Lists → Document → Rows) → Gives nodes n w f → (get_or (shapes_of nodes) n no_shape).width ≡ w
width-there nodes n w f gives = ap (λ (s : Shape). s.width) gives.has.shaped ∙ gives.wide

-- each row has a value for each column
pub gives-wide : (nodes : List Node) (n w : ℕ) (f : Lists → Document → Rows) → IsPlan nodes → Gives nodes n w f → (lists : Lists) (doc : Document) → AreWide w (f lists doc)
gives-wide nodes n w f plan gives lists doc =
    All-permutation (λ row. length row ≡ w) (val lists doc nodes n) (f lists doc) (gives.has.same lists doc)
    (subst (λ (k : ℕ). AreWide k (val lists doc nodes n)) (width-there nodes n w f gives) (val-wide lists doc nodes n plan))

-- ---- the document

pub gives-doc : (old new : List Node) (n : ℕ) → Stands old new n Doc → Gives new n 1 (λ lists doc. document_rows lists doc)
gives-doc old new n stands = record { shape = document_shape; readable = tt; wide = refl; has = has-doc old new n stands }

-- ---- one input

module _ (old : List Node) (i w : ℕ) (f : Lists → Document → Rows) (gives : Gives old i w f) where
  all_read : (ts : List Term) → All (ReadsBelow w) ts → All (ReadsBelow gives.shape.width) ts
  all_read ts reads = subst (λ (k : ℕ). All (ReadsBelow k) ts) (sym gives.wide) reads

  below : (column : ℕ) → column < w → column < gives.shape.width
  below column h = omega (arith, h, gives.wide)

  -- the rows on which the conditions hold
  pub valid-select : (conds seen : List Term) → conds ≡ seen → All (ReadsBelow w) seen → IsNode (shapes_of old) (Select i conds)
  valid-select conds seen are reads =
      node-select old i gives.shape f gives.has conds gives.readable (all_read conds (subst (All (ReadsBelow w)) (sym are) reads))

  pub gives-select : (conds seen : List Term) → conds ≡ seen → (new : List Node) (n : ℕ) → Stands old new n (Select i conds) → Gives new n w (λ lists doc. selected lists doc seen (f lists doc))
  gives-select conds seen are new n stands =
      subst (λ (cs : List Term). Gives new n w (λ lists doc. selected lists doc cs (f lists doc))) are
      (record { shape = columns gives.shape.width; readable = tt; wide = gives.wide; has = has-select old i gives.shape f gives.has conds new n stands })

  -- the values of the items
  pub valid-project : (items seen : List Term) → items ≡ seen → All (ReadsBelow w) seen → IsNode (shapes_of old) (Project i items)
  valid-project items seen are reads =
      node-project old i gives.shape f gives.has items gives.readable (all_read items (subst (All (ReadsBelow w)) (sym are) reads))

  pub gives-project : (items seen : List Term) → items ≡ seen → (new : List Node) (n : ℕ) → Stands old new n (Project i items) → Gives new n (length seen) (λ lists doc. projected lists doc (plain seen) (f lists doc))
  gives-project items seen are new n stands =
      subst (λ (ts : List Term). Gives new n (length ts) (λ lists doc. projected lists doc (plain ts) (f lists doc))) are
      (record { shape = columns (length items); readable = tt; wide = refl; has = has-project old i gives.shape f gives.has items new n stands })

  -- the rows that a policy keeps
  pub valid-consolidate : (policy : Policy) (target seen : Term) → target ≡ seen → ReadsBelow w seen → IsNode (shapes_of old) (Consolidate i policy target)
  valid-consolidate policy target seen is reads =
      node-consolidate old i gives.shape f gives.has policy target gives.readable
      (subst (λ (t : Term). ReadsBelow gives.shape.width t) (sym is) (subst (λ (k : ℕ). ReadsBelow k seen) (sym gives.wide) reads))

  pub gives-consolidate : (policy : Policy) (target seen : Term) → target ≡ seen → (new : List Node) (n : ℕ) → Stands old new n (Consolidate i policy target)
      → Gives new n w (λ lists doc. kept lists doc (Some (record { policy = policy; target = seen })) (f lists doc))
  gives-consolidate policy target seen is new n stands =
      subst (λ (t : Term). Gives new n w (λ lists doc. kept lists doc (Some (record { policy = policy; target = t })) (f lists doc))) is
      (record { shape = columns gives.shape.width; readable = tt; wide = gives.wide; has = has-consolidate old i gives.shape f gives.has policy target new n stands })

  -- the rows of groups
  pub valid-group : (keys : List ℕ) (aggs : List Agg) → All (λ key. key < w) keys → All (HasKey (length keys)) aggs → All (HasColumn w) aggs → IsNode (shapes_of old) (Group i keys aggs)
  valid-group keys aggs there has_key has_column =
      node-group old i gives.shape f gives.has keys aggs gives.readable
      (subst (λ (k : ℕ). All (λ key. key < k) keys) (sym gives.wide) there) has_key (subst (λ (k : ℕ). All (HasColumn k) aggs) (sym gives.wide) has_column)

  pub gives-group : (keys : List ℕ) (aggs : List Agg) (new : List Node) (n : ℕ) → Stands old new n (Group i keys aggs) → Gives new n (length aggs) (λ lists doc. sorted (grouped keys aggs (f lists doc)))
  gives-group keys aggs new n stands =
      record { shape = columns (length aggs); readable = tt; wide = refl; has = has-group old i gives.shape f gives.has keys aggs new n stands }

  -- the first rows
  pub valid-limit : (keys seen : List ℕ) (limit : Option ℕ) → keys ≡ seen → All (λ key. key < w) seen → IsNode (shapes_of old) (OrderLimit i keys limit)
  valid-limit keys seen limit are there =
      node-order_limit old i gives.shape f gives.has keys limit gives.readable
      (subst (λ (k : ℕ). All (λ key. key < k) keys) (sym gives.wide) (subst (All (λ key. key < w)) (sym are) there))

  pub gives-limit : (keys seen : List ℕ) (limit : Option ℕ) → keys ≡ seen → (new : List Node) (n : ℕ) → Stands old new n (OrderLimit i keys limit) → Gives new n w (λ lists doc. cut seen limit (f lists doc))
  gives-limit keys seen limit are new n stands =
      subst (λ (ks : List ℕ). Gives new n w (λ lists doc. cut ks limit (f lists doc))) are
      (record { shape = columns gives.shape.width; readable = tt; wide = gives.wide; has = has-order_limit old i gives.shape f gives.has keys limit new n stands })

  -- what is found
  pub valid-regex : (column pattern : ℕ) (groups : List ℕ) → column < w → IsNode (shapes_of old) (Regex i column pattern groups)
  valid-regex column pattern groups h = node-regex old i gives.shape f gives.has column pattern groups gives.readable (below column h)

  pub gives-regex : (column pattern : ℕ) (groups seen : List ℕ) → groups ≡ seen → (new : List Node) (n : ℕ) → Stands old new n (Regex i column pattern groups)
      → Gives new n (w + length seen) (λ lists doc. with_found lists doc (regex column pattern seen) (f lists doc))
  gives-regex column pattern groups seen are new n stands =
      subst (λ (gs : List ℕ). Gives new n (w + length gs) (λ lists doc. with_found lists doc (regex column pattern gs) (f lists doc))) are
      (record {
        shape = columns (gives.shape.width + length groups);
        readable = tt;
        wide = ap (λ (k : ℕ). k + length groups) gives.wide;
        has = has-regex old i gives.shape f gives.has column pattern groups new n stands;
      })

  pub valid-token_regex : (column low high pattern : ℕ) (groups : List ℕ) → column < w → 1 ≤ low → IsNode (shapes_of old) (TokenRegex i column low high pattern groups)
  valid-token_regex column low high pattern groups h least =
      node-token_regex old i gives.shape f gives.has column low high pattern groups gives.readable (below column h) least

  pub gives-token_regex : (column low high pattern : ℕ) (groups seen : List ℕ) → groups ≡ seen → (new : List Node) (n : ℕ) → Stands old new n (TokenRegex i column low high pattern groups)
      → Gives new n (w + length seen) (λ lists doc. with_found lists doc (token_regex column low high pattern seen) (f lists doc))
  gives-token_regex column low high pattern groups seen are new n stands =
      subst (λ (gs : List ℕ). Gives new n (w + length gs) (λ lists doc. with_found lists doc (token_regex column low high pattern gs) (f lists doc))) are
      (record {
        shape = columns (gives.shape.width + length groups);
        readable = tt;
        wide = ap (λ (k : ℕ). k + length groups) gives.wide;
        has = has-token_regex old i gives.shape f gives.has column low high pattern groups new n stands;
      })

  pub valid-blocks : (column low high : ℕ) (from upto : ℤ) (tokens : Bool) → column < w → IsNode (shapes_of old) (Blocks i column low high from upto tokens)
  valid-blocks column low high from upto tokens h = node-blocks old i gives.shape f gives.has column low high from upto tokens gives.readable (below column h)

  pub gives-blocks : (column low high : ℕ) (from upto : ℤ) (tokens : Bool) (new : List Node) (n : ℕ) → Stands old new n (Blocks i column low high from upto tokens)
      → Gives new n 1 (λ lists doc. extracted lists doc [] (blocks column low high from upto tokens) (f lists doc))
  gives-blocks column low high from upto tokens new n stands =
      record { shape = columns 1; readable = tt; wide = refl; has = has-blocks old i gives.shape f gives.has column low high from upto tokens new n stands }

  -- a `Dict` node of one dictionary, and its part
  pub valid-dict : (column : ℕ) (dicts : List ℕ) → column < w → IsNode (shapes_of old) (Dict i column dicts)
  valid-dict column dicts h = node-dict old i gives.shape f gives.has column dicts gives.readable (below column h)

  module _ (column number : ℕ) (dicts : List ℕ) (single : dicts ≡ number ∷ []) (mid : List Node) (above : ℕ) (marks : Stands old mid above (Dict i column dicts)) where
    pub valid-dict_part : IsNode (shapes_of mid) (DictPart above 0)
    valid-dict_part =
        node-dict_part mid above _ _ (has-dict old i gives.shape f gives.has column dicts mid above marks) 0
        (record { listed = omega (arith, ap length single); room = omega arith })

    pub gives-dict_part : (new : List Node) (n : ℕ) → Stands mid new n (DictPart above 0) → Gives new n (w + 1) (λ lists doc. with_found lists doc (dict column number) (f lists doc))
    gives-dict_part new n stands =
        let has = has-dict_part mid above _ _ (has-dict old i gives.shape f gives.has column dicts mid above marks) 0 new n stands in
        gives-is new n (w + 1) _ (λ lists doc. with_found lists doc (dict column number) (f lists doc))
        (λ lists doc. part-marked lists doc column dicts 0 (f lists doc) (omega (arith, ap length single)) ∙ one_of lists doc)
        (record { shape = columns (gives.shape.width + 2 - 1); readable = tt; wide = omega (arith, gives.wide); has = has })
      where
        one_of : (lists : Lists) (doc : Document) → of_some (λ d. with_found lists doc (dict column d) (f lists doc)) (slice_get dicts 0) ≡ with_found lists doc (dict column number) (f lists doc)
        one_of lists doc = ap (λ (ds : List ℕ). of_some (λ d. with_found lists doc (dict column d) (f lists doc)) (slice_get ds 0)) single

-- ---- groups over columns that are numbered, and no row

module _ (old : List Node) (i w : ℕ) (f : Lists → Document → Rows) (gives : Gives old i w f) (n : ℕ) (keys : List ℕ) (aggs seen : List Agg) (are : keys ≡ range_with_len 0 n) (same : aggs ≡ seen) where
  pub group-valid : n ≤ w → All (HasKey n) seen → All (HasColumn w) seen → IsNode (shapes_of old) (Group i keys aggs)
  group-valid enough has_key has_column =
      valid-group old i w f gives keys aggs
      (subst (All (λ key. key < w)) (sym are) (numbers_below n w enough))
      (subst (λ (k : ℕ). All (HasKey k) aggs) (sym (ap length are ∙ length-range_with_len 0 n)) (subst (All (HasKey n)) (sym same) has_key))
      (subst (All (HasColumn w)) (sym same) has_column)

  pub group-gives : (new : List Node) (m : ℕ) → Stands old new m (Group i keys aggs) → Gives new m (length seen) (λ lists doc. sorted (grouped (range_with_len 0 n) seen (f lists doc)))
  group-gives new m stands =
      subst (λ (ks : List ℕ). Gives new m (length seen) (λ lists doc. sorted (grouped ks seen (f lists doc)))) are
      (subst (λ (xs : List Agg). Gives new m (length xs) (λ lists doc. sorted (grouped keys xs (f lists doc)))) same (gives-group old i w f gives keys aggs new m stands))

limited-none : limited [] (Some 0) ([] ∷ []) ≡ []
unfolding limited
limited-none = refl

-- no row is left where none may stay
pub no-rows : SameBag (cut [] (Some 0) ([] ∷ [])) []
no-rows =
    SameBag-trans _ _ _ (SameBag-sym (limited [] (Some 0) ([] ∷ [])) (sorted (limited [] (Some 0) ([] ∷ []))) (SameBag-sorted (limited [] (Some 0) ([] ∷ []))))
    (SameBag-is _ _ limited-none)

-- ---- two inputs

module _ (old : List Node) (i j w v : ℕ) (f g : Lists → Document → Rows) (left : Gives old i w f) (right : Gives old j v g) where
  pub valid-cross : (conditional : Bool) → IsNode (shapes_of old) (Cross i j conditional)
  valid-cross conditional = node-cross old i j left.shape right.shape f g left.has right.has conditional left.readable right.readable

  pub gives-cross : (conditional : Bool) (new : List Node) (n : ℕ) → Stands old new n (Cross i j conditional) → Gives new n (w + v) (λ lists doc. product (f lists doc) (g lists doc))
  gives-cross conditional new n stands = record {
    shape = columns (left.shape.width + right.shape.width);
    readable = tt;
    wide = omega (arith, left.wide, right.wide);
    has = has-cross old i j left.shape right.shape f g left.has right.has conditional new n stands;
  }

  same_width : v ≡ w → right.shape.width ≡ left.shape.width
  same_width is = omega (arith, is, left.wide, right.wide)

  pub valid-union : v ≡ w → IsNode (shapes_of old) (Union i j)
  valid-union is = node-union old i j left.shape right.shape f g left.has right.has left.readable right.readable (same_width is)

  pub gives-union : (new : List Node) (n : ℕ) → Stands old new n (Union i j) → Gives new n w (λ lists doc. f lists doc ++ g lists doc)
  gives-union new n stands =
      record { shape = columns left.shape.width; readable = tt; wide = left.wide; has = has-union old i j left.shape right.shape f g left.has right.has new n stands }

  pub valid-minus : v ≡ w → IsNode (shapes_of old) (Minus i j)
  valid-minus is = node-minus old i j left.shape right.shape f g left.has right.has left.readable right.readable (same_width is)

  pub gives-minus : (new : List Node) (n : ℕ) → Stands old new n (Minus i j) → Gives new n w (λ lists doc. without (f lists doc) (g lists doc))
  gives-minus new n stands =
      record { shape = columns left.shape.width; readable = tt; wide = left.wide; has = has-minus old i j left.shape right.shape f g left.has right.has new n stands }
