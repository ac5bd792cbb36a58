-- Selections over nodes that combine two others, side by side.
use Rattle.std.proofs.Common.{◌≡◌, ◌∙◌, ℕ, ◌+◌, ◌<◌, not, List, map, length, get_or, sym, ap, ap₂, subst, arith}
use Rattle.std.specs.List.{All}
use Rattle.std.proofs.lemmas.List.Elements.{All-filter}
use Rattle.aql_base.specs.Bags.{SameBag}
use Rattle.aql_base.specs.BagLaws.{SameBag-sym, SameBag-trans, SameBag-is, SameBag-filter}
use Rattle.span_token.specs.Documents.{Doc as Document}
use Rattle.row_values.specs.RowBags.{SameBag-product}
use Rattle.span_joins.specs.JoinLaws.{joined_where-SameBag}
use Rattle.scalar_ops.specs.Expressions.{Term, ReadsBelow, does_read_below, does_read_from}
use Rattle.scalar_ops.specs.SideLaws.{left_conditions, later_conditions, right_conditions, joint_conditions}
use Rattle.scalar_ops.specs.Tables.{Lists}
use Rattle.scalar_ops.specs.Values.{holding}
use Rattle.scalar_ops.specs.Views.{term_of}
use Rattle.aql_typed.specs.Meaning.{Rows, selected}
use Rattle.algebra.specs.declared.node.Node.{Node}
use Rattle.algebra.specs.declared.node.Node.TheVariants.{Select}
use Rattle.algebra.specs.declared.shape.Shape.{Shape}
use Rattle.algebra.specs.Growth.{Has, Stands, IsAt}
use Rattle.algebra.specs.GrowthLaws.{grows-trans, grows-length, shape-kept, val-kept}
use Rattle.algebra.specs.Nodes.{IsNode, IsPlan}
use Rattle.algebra.specs.Operators.{does_join}
use Rattle.algebra.specs.SelectionLaws.{selected-product, selected-joined}
use Rattle.algebra.specs.Shapes.{IsOpen, columns, no_shape, shapes_of}
use Rattle.algebra.specs.Values.{val}
use Rattle.algebra.specs.WidthLaws.{AreWide, val-wide}
use Rattle.push_select.specs.declared.below.Pair.{Pair}
use Rattle.push_select.specs.declared.join.Join.{Join}
use Rattle.push_select.specs.declared.selection.NarrowedPair.{NarrowedPair}
use Rattle.push_select.specs.declared.sides.Sides.{Sides}
use Rattle.push_select.specs.Conditions.{AreSides, IsApart}
use Rattle.push_select.specs.Replacing.{Combination, all_pairs, joined_by, cross_of, join_of_pair, joint_width, Gives, Narrows, NarrowsPair, Combines}
use Rattle.push_select.specs.Pushed.{width_at, ReadsBoth}
use Rattle.push_select.proofs.JoiningRows.{selected-same}
use Rattle.push_select.proofs.Replacing.{node_there, shape_there, gives-grown, gives-is, gives-width, width-given, open-given}
use Rattle.push_select.proofs.SideViews.{left-read, right-read, joint-read}
use Rattle.push_select.proofs.Standing.{joint-both}

-- ---- two nodes, narrowed one by one

module _ (old : List Node) (pair : Pair) (both : IsNode (shapes_of old) (cross_of pair)) (conds : List Term) (reads : All (ReadsBelow (joint_width old pair)) conds) (sides : Sides) (are : AreSides (width_at old pair.left) conds sides) where
  parts_read : All (ReadsBelow (joint_width old pair)) are.parts
  parts_read = are.reads (joint_width old pair) reads

  pub left-valid : IsNode (shapes_of old) (Select pair.left sides.left)
  left-valid = record {
    left_below = both.left_below;
    right_below = tt;
    made = (both.made.0, subst (All (ReadsBelow (width_at old pair.left))) (sym are.left) (left-read (width_at old pair.left) are.parts));
  }

  module _ (mid : List Node) (left : ℕ) (fewer : Narrows old mid pair.left left sides.left) where
    right_there : pair.right < length old
    right_there = node_there old pair.right both.right_below

    right_shape : get_or (shapes_of mid) pair.right no_shape ≡ get_or (shapes_of old) pair.right no_shape
    right_shape = shape-kept old mid pair.right fewer.grows right_there

    pub right-valid : IsNode (shapes_of mid) (Select pair.right sides.right)
    right-valid = record {
      left_below = shape_there mid pair.right (omega (arith, right_there, grows-length old mid fewer.grows));
      right_below = tt;
      made = subst (λ (s : Shape). IsOpen s × All (ReadsBelow s.width) sides.right) (sym right_shape)
          (both.made.1, subst (All (ReadsBelow (width_at old pair.right))) (sym are.right) (right-read (width_at old pair.left) (width_at old pair.right) are.parts parts_read));
    }

    pub pair-narrows : (new : List Node) (right : ℕ) (narrowed : NarrowedPair) → Narrows mid new pair.right right sides.right → narrowed.pair.left ≡ left → narrowed.pair.right ≡ right
        → map term_of narrowed.joint.items ≡ map term_of sides.joint.items → NarrowsPair old new pair conds narrowed
    pair-narrows new right narrowed others left_is right_is joint_is =
        let on_left : Gives new left (width_at old pair.left) (λ lists doc. selected lists doc (left_conditions (width_at old pair.left) are.parts) (val lists doc old pair.left)) =
        gives-is new left (width_at old pair.left) _ _ (λ lists doc. ap (λ (cs : List Term). selected lists doc cs (val lists doc old pair.left)) are.left)
        (gives-grown mid new left (width_at old pair.left) _ others.grows fewer.gives) in
        let on_right : Gives new right (width_at old pair.right) (λ lists doc. selected lists doc (right_conditions (width_at old pair.left) are.parts) (val lists doc old pair.right)) =
        gives-is new right (width_at old pair.right) _ _
        (λ lists doc. ap₂ (λ (cs : List Term) (rows : Rows). selected lists doc cs rows) are.right (val-kept lists doc old mid pair.right fewer.grows right_there))
        (gives-width new right (width_at mid pair.right) (width_at old pair.right) _ (ap (λ (s : Shape). s.width) right_shape) others.gives) in
        record {
          parts = are.parts;
          same = are.same;
          reads = parts_read;
          grows = grows-trans old mid new fewer.grows others.grows;
          left = subst (λ (n : ℕ). Gives new n (width_at old pair.left) (λ lists doc. selected lists doc (left_conditions (width_at old pair.left) are.parts) (val lists doc old pair.left))) (sym left_is) on_left;
          right = subst (λ (n : ℕ). Gives new n (width_at old pair.right) (λ lists doc. selected lists doc (right_conditions (width_at old pair.left) are.parts) (val lists doc old pair.right))) (sym right_is) on_right;
          joint = joint_is ∙ are.joint;
          apart = are.apart;
        }

-- ---- what they combine to

module _ (old new : List Node) (pair : Pair) (conds : List Term) (narrowed : NarrowedPair) (are : NarrowsPair old new pair conds narrowed) where
  left_width : width_at new narrowed.pair.left ≡ width_at old pair.left
  left_width = width-given new narrowed.pair.left (width_at old pair.left) _ are.left

  right_width : width_at new narrowed.pair.right ≡ width_at old pair.right
  right_width = width-given new narrowed.pair.right (width_at old pair.right) _ are.right

  both_width : joint_width new narrowed.pair ≡ joint_width old pair
  both_width = ap₂ (λ (m n : ℕ). m + n) left_width right_width

  pub narrowed-valid : IsNode (shapes_of new) (cross_of narrowed.pair)
  narrowed-valid = record {
    left_below = shape_there new narrowed.pair.left are.left.has.there;
    right_below = shape_there new narrowed.pair.right are.right.has.there;
    made = (open-given new narrowed.pair.left (width_at old pair.left) _ are.left, open-given new narrowed.pair.right (width_at old pair.right) _ are.right);
  }

  pub narrowed-join-valid : (join : Join) → IsNode (shapes_of old) (join_of_pair pair join) → IsNode (shapes_of new) (join_of_pair narrowed.pair join)
  narrowed-join-valid join valid = record {
    left_below = narrowed-valid.left_below;
    right_below = narrowed-valid.right_below;
    made = (
      narrowed-valid.made.0,
      narrowed-valid.made.1,
      subst (λ (w : ℕ). join.lc < w) (sym left_width) valid.made.2,
      subst (λ (w : ℕ). join.rc < w) (sym right_width) valid.made.3,
    );
  }

  pub narrowed-reads : All (ReadsBelow (joint_width new narrowed.pair)) (map term_of narrowed.joint.items)
  narrowed-reads =
      subst (λ (w : ℕ). All (ReadsBelow w) (map term_of narrowed.joint.items)) (sym both_width)
      (subst (All (ReadsBelow (joint_width old pair))) (sym are.joint) (joint-read (width_at old pair.left) (joint_width old pair) are.parts are.reads))

  pub narrowed-both : All (ReadsBoth (width_at new narrowed.pair.left)) (map term_of narrowed.joint.items)
  narrowed-both =
      subst (λ (w : ℕ). All (ReadsBoth w) (map term_of narrowed.joint.items)) (sym left_width)
      (subst (All (ReadsBoth (width_at old pair.left))) (sym are.joint) (joint-both (width_at old pair.left) are.parts))

  pub narrowed-apart : All IsApart (map term_of narrowed.joint.items)
  narrowed-apart =
      subst (λ (ts : List Term). All IsApart ts) (sym are.joint)
      (All-filter (λ c. not (does_read_from (width_at old pair.left) c)) IsApart (later_conditions (width_at old pair.left) are.parts)
      (All-filter (λ c. not (does_read_below (width_at old pair.left) c)) IsApart are.parts are.apart))

  -- whichever way rows are combined that keeps bags and lets conditions of one side go down
  module _ (rows : Combination) (keeps : (doc : Document) (a c b d : Rows) → SameBag a c → SameBag b d → SameBag (rows doc a b) (rows doc c d)) (law : (lists : Lists) (doc : Document) (cs : List Term) (a b : Rows) → AreWide (width_at old pair.left) a → selected lists doc cs (rows doc a b) ≡ selected lists doc (joint_conditions (width_at old pair.left) cs) (rows doc (selected lists doc (left_conditions (width_at old pair.left) cs) a) (selected lists doc (right_conditions (width_at old pair.left) cs) b))) (plan : IsPlan old) where
    -- the joint conditions over the new rows are all conditions over the old ones
    narrowed_same : (lists : Lists) (doc : Document)
        → SameBag (selected lists doc (map term_of narrowed.joint.items) (rows doc (val lists doc new narrowed.pair.left) (val lists doc new narrowed.pair.right)))
        (selected lists doc conds (rows doc (val lists doc old pair.left) (val lists doc old pair.right)))
    narrowed_same lists doc =
        let w = width_at old pair.left in
        let a = val lists doc old pair.left in
        let b = val lists doc old pair.right in
        SameBag-trans _ _ _
        (SameBag-filter (holding lists doc (map term_of narrowed.joint.items)) _ _ (keeps doc _ _ _ _ (are.left.has.same lists doc) (are.right.has.same lists doc)))
        (SameBag-is _ _ (ap (λ (cs : List Term). selected lists doc cs (rows doc (selected lists doc (left_conditions w are.parts) a) (selected lists doc (right_conditions w are.parts) b))) are.joint
        ∙ (sym (law lists doc are.parts a b (val-wide lists doc old pair.left plan)) ∙ selected-same lists doc are.parts conds (λ row. are.same lists doc row) (rows doc a b))))

    -- so what has them stands for the selection
    selection_stands : (input : ℕ) → Has old input (columns (joint_width old pair)) (λ lists doc. rows doc (val lists doc old pair.left) (val lists doc old pair.right))
        → (later : List Node) (n : ℕ) → Combines new later narrowed.pair n rows (map term_of narrowed.joint.items) → Stands old later n (Select input conds)
    selection_stands input has later n combines = record {
      grows = grows-trans old new later are.grows combines.grows;
      has = record {
        there = combines.has.there;
        shaped = combines.has.shaped ∙ ap columns (both_width ∙ sym (ap (λ (s : Shape). s.width) has.shaped));
        same = λ lists doc.
            SameBag-trans _ _ _ (combines.has.same lists doc)
            (SameBag-trans _ _ _ (narrowed_same lists doc) (SameBag-filter (holding lists doc conds) _ _ (SameBag-sym _ _ (has.same lists doc))));
      };
    }

  -- a selection over a product
  pub product-stands : (input : ℕ) → IsAt old input (cross_of pair) → (later : List Node) (n : ℕ) → Combines new later narrowed.pair n all_pairs (map term_of narrowed.joint.items) → Stands old later n (Select input conds)
  product-stands input at later n combines =
      selection_stands all_pairs (λ doc a c b d h k. SameBag-product a c b d h k) (λ lists doc cs a b wide. selected-product lists doc (width_at old pair.left) cs a b wide) at.plan
      input at.stands.has later n combines

  -- a selection over a join
  pub join-stands : (input : ℕ) (join : Join) → IsAt old input (join_of_pair pair join) → (later : List Node) (n : ℕ) → Combines new later narrowed.pair n (joined_by join) (map term_of narrowed.joint.items)
      → Stands old later n (Select input conds)
  join-stands input join at later n combines =
      selection_stands (joined_by join) (λ doc a c b d h k. joined_where-SameBag (does_join doc join.kind) join.lc join.rc a c b d h k)
      (λ lists doc cs a b wide. selected-joined lists doc (does_join doc join.kind) join.lc join.rc (width_at old pair.left) cs a b wide at.valid.made.2) at.plan
      input at.stands.has later n combines

-- ---- conditions of a selection and of its code

-- conditions that read a node's columns read those of what it combines
pub reads_joint : (old : List Node) (input : ℕ) (pair : Pair) (conds seen : List Term) → seen ≡ conds → get_or (shapes_of old) input no_shape ≡ columns (joint_width old pair)
    → All (ReadsBelow (width_at old input)) conds → All (ReadsBelow (joint_width old pair)) seen
reads_joint old input pair conds seen same shaped reads =
    subst (All (ReadsBelow (joint_width old pair))) (sym same) (subst (λ (w : ℕ). All (ReadsBelow w) conds) (ap (λ (s : Shape). s.width) shaped) reads)

-- the sides by the number of columns of a node's shape
pub sides_at : (old : List Node) (n : ℕ) (shape : Shape) (conds : List Term) (sides : Sides) → shape ≡ get_or (shapes_of old) n no_shape → AreSides shape.width conds sides → AreSides (width_at old n) conds sides
sides_at old n shape conds sides is are = subst (λ (s : Shape). AreSides s.width conds sides) is are
