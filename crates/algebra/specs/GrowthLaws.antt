-- Laws of plans that grow: what a node stands for is told by what its inputs have.
use Rattle.std.proofs.Common.{◌≡◌, ℕ, ◌+◌, ◌<◌, ◌≤◌, List, [], ◌∷◌, ◌++◌, length, get_or, take, drop, refl, sym, ap, ap₂, subst, ◌∙◌, arith, Option, Some, None}
use Rattle.std.proofs.lemmas.List.{append-nil, append_assoc, length-append, length-take-le}
use Rattle.aql_base.specs.Bags.{SameBag}
use Rattle.aql_base.specs.BagLaws.{SameBag-refl, SameBag-sym, SameBag-trans, SameBag-is}
use Rattle.span_token.specs.Documents.{Doc}
use Rattle.scalar_ops.specs.Tables.{Lists}
use Rattle.aql_typed.specs.Meaning.{Rows}
use Rattle.algebra.specs.declared.node.Node.{Node}
use Rattle.algebra.specs.declared.shape.Shape.{Shape}
use Rattle.algebra.specs.Inputs.{left_input, right_input, IsAmong}
use Rattle.algebra.specs.Operators.{op}
use Rattle.algebra.specs.OperatorLaws.{op-SameBag}
use Rattle.algebra.specs.Folds.{of_input, had}
use Rattle.algebra.specs.FoldLaws.{length-each, front-kept, last-had, all-at}
use Rattle.algebra.specs.Values.{all_values, val, value_after}
use Rattle.algebra.specs.Shapes.{shape_by, no_shape, shapes_of}
use Rattle.algebra.specs.Nodes.{IsNode, IsPlan}
use Rattle.algebra.specs.NodeLaws.{plan-at, split_at, valid-kept}
use Rattle.algebra.specs.Growth.{Grows, Has, Stands, IsAt}

pub grows-none : (nodes : List Node) → Grows nodes nodes
grows-none nodes = record { added = []; grown = sym (append-nil nodes) }

pub grows-push : (old new : List Node) (node : Node) → new ≡ old ++ node ∷ [] → Grows old new
grows-push old new node is = record { added = node ∷ []; grown = is }

pub grows-trans : (a b c : List Node) → Grows a b → Grows b c → Grows a c
grows-trans a b c g h = record {
  added = g.added ++ h.added;
  grown = h.grown ∙ (ap (λ (xs : List Node). xs ++ h.added) g.grown ∙ append_assoc a g.added h.added);
}

pub grows-length : (old new : List Node) → Grows old new → length old ≤ length new
grows-length old new g = omega (arith, ap length g.grown, length-append old g.added)

-- the nodes that were there keep their shapes and their rows
pub shape-kept : (old new : List Node) (n : ℕ) → Grows old new → n < length old → get_or (shapes_of new) n no_shape ≡ get_or (shapes_of old) n no_shape
shape-kept old new n g there = ap (λ (nodes : List Node). get_or (shapes_of nodes) n no_shape) g.grown ∙ front-kept no_shape shape_by old g.added n there

pub val-kept : (lists : Lists) (doc : Doc) (old new : List Node) (n : ℕ) → Grows old new → n < length old → val lists doc new n ≡ val lists doc old n
val-kept lists doc old new n g there = ap (λ (nodes : List Node). val lists doc nodes n) g.grown ∙ front-kept [] (op lists doc) old g.added n there

pub valid-grown : (old new : List Node) (node : Node) → Grows old new → IsNode (shapes_of old) node → IsNode (shapes_of new) node
valid-grown old new node g valid = subst (λ (nodes : List Node). IsNode (shapes_of nodes) node) (sym g.grown) (valid-kept old g.added node valid)

-- a node has what it has
pub has-node : (nodes : List Node) (n : ℕ) → n < length nodes → Has nodes n (get_or (shapes_of nodes) n no_shape) (λ lists doc. val lists doc nodes n)
has-node nodes n there = record { there = there; shaped = refl; same = λ lists doc. SameBag-refl (val lists doc nodes n) }

pub has-grown : (old new : List Node) (n : ℕ) (shape : Shape) (rows : Lists → Doc → Rows) → Grows old new → Has old n shape rows → Has new n shape rows
has-grown old new n shape rows g has = record {
  there = omega (arith, has.there, grows-length old new g);
  shaped = shape-kept old new n g has.there ∙ has.shaped;
  same = λ lists doc. SameBag-trans _ _ _ (SameBag-is _ _ (val-kept lists doc old new n g has.there)) (has.same lists doc);
}

-- rows of the same bags
pub has-same : (nodes : List Node) (n : ℕ) (shape : Shape) (rows others : Lists → Doc → Rows) → ((lists : Lists) (doc : Doc) → SameBag (rows lists doc) (others lists doc)) → Has nodes n shape rows → Has nodes n shape others
has-same nodes n shape rows others same has = record {
  there = has.there;
  shaped = has.shaped;
  same = λ lists doc. SameBag-trans _ _ _ (has.same lists doc) (same lists doc);
}

-- another word for the shape
pub has-shape : (nodes : List Node) (n : ℕ) (shape other : Shape) (rows : Lists → Doc → Rows) → shape ≡ other → Has nodes n shape rows → Has nodes n other rows
has-shape nodes n shape other rows is has = subst (λ (s : Shape). Has nodes n s rows) is has

-- an input has this shape and these rows: none where there is no input
abbrev pub HasAt : List Node → Option ℕ → Shape → (Lists → Doc → Rows) → Type 0
HasAt nodes None shape rows = (shape ≡ no_shape) × ((lists : Lists) (doc : Doc) → rows lists doc ≡ [])
HasAt nodes (Some n) shape rows = Has nodes n shape rows

pub has-shape_at : (nodes : List Node) (o : Option ℕ) (shape : Shape) (rows : Lists → Doc → Rows) → HasAt nodes o shape rows → of_input no_shape (shapes_of nodes) o ≡ shape
has-shape_at nodes None shape rows has = sym has.0
has-shape_at nodes (Some n) shape rows has = has.shaped

pub has-rows_at : (nodes : List Node) (o : Option ℕ) (shape : Shape) (rows : Lists → Doc → Rows) → HasAt nodes o shape rows → (lists : Lists) (doc : Doc) → SameBag (of_input [] (all_values lists doc nodes) o) (rows lists doc)
has-rows_at nodes None shape rows has lists doc = SameBag-is _ _ (sym (has.1 lists doc))
has-rows_at nodes (Some n) shape rows has lists doc = has.same lists doc

module _ (old : List Node) (node : Node) (s t : Shape) (f g : Lists → Doc → Rows) (left : HasAt old (left_input node) s f) (right : HasAt old (right_input node) t g) where
  shape_after : had no_shape shape_by (shapes_of old) node ≡ shape_by node s t
  shape_after = ap₂ (λ (a b : Shape). shape_by node a b) (has-shape_at old (left_input node) s f left) (has-shape_at old (right_input node) t g right)

  rows_after : (lists : Lists) (doc : Doc) → SameBag (value_after lists doc old node) (op lists doc node (f lists doc) (g lists doc))
  rows_after lists doc =
      op-SameBag lists doc node (of_input [] (all_values lists doc old) (left_input node)) (f lists doc) (of_input [] (all_values lists doc old) (right_input node)) (g lists doc)
      (has-rows_at old (left_input node) s f left lists doc) (has-rows_at old (right_input node) t g right lists doc)

  -- what stands for a node has the rows of its operator
  pub has-op : (new : List Node) (n : ℕ) → Stands old new n node → Has new n (shape_by node s t) (λ lists doc. op lists doc node (f lists doc) (g lists doc))
  has-op new n stands = record {
    there = stands.has.there;
    shaped = stands.has.shaped ∙ shape_after;
    same = λ lists doc. SameBag-trans _ _ _ (stands.has.same lists doc) (rows_after lists doc);
  }

  -- and what has them stands for it
  pub stands-by : (new : List Node) (n : ℕ) → Grows old new → Has new n (shape_by node s t) (λ lists doc. op lists doc node (f lists doc) (g lists doc)) → Stands old new n node
  stands-by new n grows has = record {
    grows = grows;
    has = record {
      there = has.there;
      shaped = has.shaped ∙ sym shape_after;
      same = λ lists doc. SameBag-trans _ _ _ (has.same lists doc) (SameBag-sym _ _ (rows_after lists doc));
    };
  }

-- a node that was put after the others stands for itself
pub stands-added : (old new : List Node) (n : ℕ) (node : Node) → n ≡ length old → new ≡ old ++ node ∷ [] → Stands old new n node
stands-added old new n node last is = rw (last, is) (record {
  grows = record { added = node ∷ []; grown = refl };
  has = record {
    there = omega (arith, length-append old (node ∷ []));
    shaped = last-had no_shape shape_by old node;
    same = λ lists doc. SameBag-is _ _ (last-had [] (op lists doc) old node);
  };
})

-- what stands for a node behind some nodes stands for it behind more of them
pub stands-grown : (old new later : List Node) (n : ℕ) (node : Node) → Stands old new n node → Grows new later → Stands old later n node
stands-grown old new later n node stands g = record {
  grows = grows-trans old new later stands.grows g;
  has = has-grown new later n (had no_shape shape_by (shapes_of old) node) (λ lists doc. value_after lists doc old node) g stands.has;
}

at_split : (xs : List Node) (node : Node) (ys : List Node) → IsPlan (xs ++ node ∷ ys) → IsAt (xs ++ node ∷ ys) (length xs) node
at_split xs node ys plan =
    let whole = xs ++ node ∷ ys in
    let valid : IsNode (shapes_of xs) node = plan-at xs node ys plan in
    let left : IsAmong (length xs) (left_input node) = subst (λ k. IsAmong k (left_input node)) (length-each no_shape shape_by xs) valid.left_below in
    let right : IsAmong (length xs) (right_input node) = subst (λ k. IsAmong k (right_input node)) (length-each no_shape shape_by xs) valid.right_below in
    record {
      plan = plan;
      stands = record {
        grows = grows-none whole;
        has = record {
          there = omega (arith, length-append xs (node ∷ ys));
          shaped = all-at no_shape shape_by xs node ys left right;
          same = λ lists doc. SameBag-is _ _ (all-at [] (op lists doc) xs node ys left right);
        };
      };
      valid = valid-kept xs (node ∷ ys) node valid;
      left_lower = left;
      right_lower = right;
    }

-- node i of a plan stands for itself: it is worth what its operator gives of what its inputs are worth
pub is-at : (nodes : List Node) (i : ℕ) (node : Node) → IsPlan nodes → i < length nodes → node ≡ get_or nodes i node → IsAt nodes i node
is-at nodes i node plan below is =
    let split = split_at nodes i node below is in
    let at = at_split (take i nodes) node (drop (i + 1) nodes) (subst IsPlan split plan) in
    let here : IsAt nodes (length (take i nodes)) node = subst (λ (all : List Node). IsAt all (length (take i nodes)) node) (sym split) at in
    subst (λ (k : ℕ). IsAt nodes k node) (length-take-le i nodes (omega (arith, below))) here

-- that equation: the value of a node is its operator's
pub val-is : (lists : Lists) (doc : Doc) (nodes : List Node) (i : ℕ) (node : Node) → IsPlan nodes → i < length nodes → node ≡ get_or nodes i node
    → val lists doc nodes i ≡ value_after lists doc nodes node
val-is lists doc nodes i node plan below is =
    let split = split_at nodes i node below is in
    let xs = take i nodes in
    let ys = drop (i + 1) nodes in
    let whole : IsPlan (xs ++ node ∷ ys) = subst IsPlan split plan in
    let valid : IsNode (shapes_of xs) node = plan-at xs node ys whole in
    let left : IsAmong (length xs) (left_input node) = subst (λ k. IsAmong k (left_input node)) (length-each no_shape shape_by xs) valid.left_below in
    let right : IsAmong (length xs) (right_input node) = subst (λ k. IsAmong k (right_input node)) (length-each no_shape shape_by xs) valid.right_below in
    let there : val lists doc (xs ++ node ∷ ys) (length xs) ≡ value_after lists doc (xs ++ node ∷ ys) node = all-at [] (op lists doc) xs node ys left right in
    let here : val lists doc nodes (length xs) ≡ value_after lists doc nodes node =
    subst (λ (all : List Node). val lists doc all (length xs) ≡ value_after lists doc all node) (sym split) there in
    subst (λ (k : ℕ). val lists doc nodes k ≡ value_after lists doc nodes node) (length-take-le i nodes (omega (arith, below))) here
