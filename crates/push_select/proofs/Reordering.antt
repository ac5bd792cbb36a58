-- A selection over a product of three nodes, of which the last two are put together first.
use Rattle.std.proofs.Common.{◌≡◌, ◌∙◌, ℕ, ◌+◌, ◌-◌, ◌<◌, ◌≤◌, Bool, true, false, true≢false, not, cond, List, [], ◌∷◌, map, length, get_or, refl, sym, ap, ap₂, subst, arith}
use Rattle.std.specs.List.{All, filter}
use Rattle.std.proofs.lemmas.List.{length-map, get_or-map}
use Rattle.std.proofs.lemmas.List.Elements.{All-head, All-tail, All-map, All-filter, filter_passes}
use Rattle.aql_base.specs.Bags.{SameBag}
use Rattle.aql_base.specs.BagLaws.{SameBag-refl, SameBag-sym, SameBag-trans, SameBag-is, SameBag-filter}
use Rattle.span_token.specs.Documents.{Doc as Document}
use Rattle.row_values.specs.Rows.{product}
use Rattle.row_values.specs.RowBags.{SameBag-product}
use Rattle.scalar_ops.specs.Expressions.{Term, column, number, string, call, none, more, columns_of, ReadsBelow, ReadsFrom, does_read_below, does_read_from, renamed}
use Rattle.scalar_ops.specs.ReadingLaws.{columns-renamed, does_read_below-is, does_read_from-is}
use Rattle.scalar_ops.specs.SideLaws.{left_conditions, later_conditions, joint_conditions}
use Rattle.scalar_ops.specs.Tables.{Lists}
use Rattle.scalar_ops.specs.Values.{holding}
use Rattle.aql_typed.specs.Meaning.{Rows, selected}
use Rattle.algebra.specs.declared.node.Node.{Node}
use Rattle.algebra.specs.declared.shape.Shape.{Shape}
use Rattle.algebra.specs.Growth.{IsAt}
use Rattle.algebra.specs.GrowthLaws.{grows-trans, grows-length, shape-kept, val-kept}
use Rattle.algebra.specs.Nodes.{IsNode, IsPlan}
use Rattle.algebra.specs.SelectionLaws.{selected-product}
use Rattle.algebra.specs.Shapes.{IsOpen, columns, no_shape, shapes_of}
use Rattle.algebra.specs.Values.{val}
use Rattle.algebra.specs.WidthLaws.{val-wide}
use Rattle.push_select.specs.declared.below.Pair.{Pair}
use Rattle.push_select.specs.declared.below.Three.{Three}
use Rattle.push_select.specs.declared.turning.Turns.{Turns}
use Rattle.push_select.specs.Conditions.{IsApart, AreTurns}
use Rattle.push_select.specs.Replacing.{all_pairs, cross_of, front_of, behind_of, joint_width, three_width, Combines, CombinesThree}
use Rattle.push_select.specs.ProductLaws.{product-assoc}
use Rattle.push_select.specs.Pushed.{width_at, ReadsBoth}
use Rattle.push_select.proofs.JoiningRows.{selected-none}
use Rattle.push_select.proofs.Replacing.{node_there, shape_there}
use Rattle.push_select.proofs.SideViews.{shifted_read}

-- the conditions by the number of columns of a node's shape
pub turns_at : (nodes : List Node) (n : ℕ) (shape : Shape) (conds : List Term) (turns : Turns) → shape ≡ get_or (shapes_of nodes) n no_shape → AreTurns shape.width conds turns → AreTurns (width_at nodes n) conds turns
turns_at nodes n shape conds turns is are = subst (λ (s : Shape). AreTurns s.width conds turns) is are

-- ---- conditions of the last two nodes, and the others

abbrev less : ℕ → ℕ → ℕ
less w n = n - w

abbrev pub later_of : ℕ → List Term → List Term
later_of w cs = map (renamed (less w)) (filter (does_read_from w) cs)

abbrev pub others_of : ℕ → List Term → List Term
others_of w cs = filter (λ c. not (does_read_from w c)) cs

pub unmapped : {X Y : Type 0} (P : Y → Type 0) (f : X → Y) (xs : List X) → All P (map f xs) → All (λ x. P (f x)) xs
unmapped P f xs all k d below = subst P (get_or-map f xs k d (f d) below) (all k (f d) (omega (arith, below, length-map xs f)))

module _ (w v : ℕ) (t : Term) (behind : ReadsFrom w t) where
  shifted_below : ReadsBelow v (renamed (less w) t) → ReadsBelow (w + v) t
  shifted_below reads k d below =
      let less_one : get_or (columns_of t) k d - w < v = unmapped (λ n. n < v) (less w) (columns_of t) (subst (All (λ n. n < v)) (columns-renamed (less w) t) reads) k d below in
      omega (arith, less_one, behind k d below)

  shifted_from : ReadsFrom v (renamed (less w) t) → ReadsFrom (w + v) t
  shifted_from reads k d below =
      let less_one : v ≤ get_or (columns_of t) k d - w = unmapped (λ n. v ≤ n) (less w) (columns_of t) (subst (All (λ n. v ≤ n)) (columns-renamed (less w) t) reads) k d below in
      omega (arith, less_one, behind k d below)

  -- what reads the second and the third of three reads both there
  shifted_both : ReadsBoth (w + v) t → ReadsBoth v (renamed (less w) t)
  shifted_both both = record { left = λ reads. both.left (shifted_from reads); right = λ reads. both.right (shifted_below reads) }

pub apart_renamed : (f : ℕ → ℕ) (t : Term) → IsApart t → IsApart (renamed f t)
apart_renamed f (column n) apart = tt
apart_renamed f (number n) apart = tt
apart_renamed f (string t) apart = tt
apart_renamed f (call o none) apart = tt
apart_renamed f (call o (more t ts)) apart = apart

passes_from : (w : ℕ) (cs : List Term) → All (ReadsFrom w) (filter (does_read_from w) cs)
passes_from w cs k d below = (does_read_from-is w (get_or (filter (does_read_from w) cs) k d)).0 (filter_passes (does_read_from w) cs k d below)

wider_below : (w v : ℕ) (t : Term) → ReadsBelow w t → ReadsBelow (w + v) t
wider_below w v t reads k d below = omega (arith, reads k d below)

not_true : (b : Bool) → not b ≡ true → b ≡ true → ⊥
not_true true p q = true≢false (sym p)
not_true false p q = true≢false (sym q)

module _ (w v : ℕ) (cs : List Term) (joint : All (ReadsBoth (w + v)) cs) where
  later_both : All (ReadsBoth v) (later_of w cs)
  later_both = All-map (ReadsBoth v) (renamed (less w)) (filter (does_read_from w) cs) (λ k d below.
      let c = get_or (filter (does_read_from w) cs) k d in
      shifted_both w v c (passes_from w cs k d below) (All-filter (does_read_from w) (ReadsBoth (w + v)) cs joint k d below))

  others_both : All (ReadsBoth w) (others_of w cs)
  others_both k d below =
      let c = get_or (others_of w cs) k d in
      let both : ReadsBoth (w + v) c = All-filter (λ c. not (does_read_from w c)) (ReadsBoth (w + v)) cs joint k d below in
      record {
        left = λ reads. not_true (does_read_from w c) (filter_passes (λ c. not (does_read_from w c)) cs k d below) ((does_read_from-is w c).1 reads);
        right = λ reads. both.right (wider_below w v c reads);
      }

  -- none reads the first node alone
  behind_first : (c : Term) → ReadsBoth (w + v) c → does_read_below w c ≡ false
  behind_first c both = by (does_read_below w c) refl
    where
      by : (b : Bool) → does_read_below w c ≡ b → b ≡ false
      by true e = absurd (both.right (wider_below w v c ((does_read_below-is w c).0 e)))
      by false e = refl

none_left : (w v : ℕ) (cs : List Term) → All (ReadsBoth (w + v)) cs → left_conditions w cs ≡ []
none_left w v [] joint = refl
none_left w v (c ∷ cs) joint =
    ap (λ (b : Bool). cond b (c ∷ left_conditions w cs) (left_conditions w cs)) (behind_first w v (c ∷ cs) joint c (All-head (ReadsBoth (w + v)) c cs joint))
    ∙ none_left w v cs (All-tail (ReadsBoth (w + v)) c cs joint)

all_later : (w v : ℕ) (cs : List Term) → All (ReadsBoth (w + v)) cs → later_conditions w cs ≡ cs
all_later w v [] joint = refl
all_later w v (c ∷ cs) joint =
    ap (λ (b : Bool). cond (not b) (c ∷ later_conditions w cs) (later_conditions w cs)) (behind_first w v (c ∷ cs) joint c (All-head (ReadsBoth (w + v)) c cs joint))
    ∙ ap (λ (rest : List Term). c ∷ rest) (all_later w v cs (All-tail (ReadsBoth (w + v)) c cs joint))

-- ---- the three nodes

module _ (old : List Node) (three : Three) (plan : IsPlan old) (first_two : IsNode (shapes_of old) (cross_of (front_of three))) (last_two : IsNode (shapes_of old) (cross_of (behind_of three))) (cs : List Term)
    (reads : All (ReadsBelow (three_width old three)) cs) (joint : All (ReadsBoth (joint_width old (front_of three))) cs) (apart : All IsApart cs) where
  abbrev w : ℕ
  w = width_at old three.first

  abbrev v : ℕ
  v = width_at old three.second

  abbrev u : ℕ
  u = width_at old three.third

  reads_here : All (ReadsBelow (w + (v + u))) cs
  reads_here = subst (λ (n : ℕ). All (ReadsBelow n) cs) sums reads
    where
      sums : three_width old three ≡ w + (v + u)
      sums = omega arith

  pub behind-reads : All (ReadsBelow (joint_width old (behind_of three))) (later_of w cs)
  behind-reads = All-map (ReadsBelow (v + u)) (renamed (less w)) (filter (does_read_from w) cs) (shifted_read w (v + u) cs reads_here)

  pub behind-joint : All (ReadsBoth (width_at old three.second)) (later_of w cs)
  behind-joint = later_both w v cs joint

  pub behind-apart : All IsApart (later_of w cs)
  behind-apart = All-map IsApart (renamed (less w)) (filter (does_read_from w) cs) (λ k d below.
      apart_renamed (less w) (get_or (filter (does_read_from w) cs) k d) (All-filter (does_read_from w) IsApart cs apart k d below))

  module _ (mid : List Node) (r : ℕ) (near : Combines old mid (behind_of three) r all_pairs (later_of w cs)) where
    abbrev front : Pair
    front = record { left = three.first; right = r }

    first_there : three.first < length old
    first_there = node_there old three.first first_two.left_below

    first_shape : get_or (shapes_of mid) three.first no_shape ≡ get_or (shapes_of old) three.first no_shape
    first_shape = shape-kept old mid three.first near.grows first_there

    first_width : width_at mid three.first ≡ w
    first_width = ap (λ (s : Shape). s.width) first_shape

    near_width : width_at mid r ≡ v + u
    near_width = ap (λ (s : Shape). s.width) near.has.shaped

    pub front-valid : IsNode (shapes_of mid) (cross_of front)
    front-valid = record {
      left_below = shape_there mid three.first (omega (arith, first_there, grows-length old mid near.grows));
      right_below = shape_there mid r near.has.there;
      made = (subst (λ (s : Shape). IsOpen s) (sym first_shape) first_two.made.0, subst (λ (s : Shape). IsOpen s) (sym near.has.shaped) tt);
    }

    pub front-reads : All (ReadsBelow (joint_width mid front)) (others_of w cs)
    front-reads =
        subst (λ (n : ℕ). All (ReadsBelow n) (others_of w cs)) (sym (ap₂ (λ (m n : ℕ). m + n) first_width near_width))
        (All-filter (λ c. not (does_read_from w c)) (ReadsBelow (w + (v + u))) cs reads_here)

    pub front-joint : All (ReadsBoth (width_at mid front.left)) (others_of w cs)
    front-joint = subst (λ (n : ℕ). All (ReadsBoth n) (others_of w cs)) (sym first_width) (others_both w v cs joint)

    pub front-apart : All IsApart (others_of w cs)
    front-apart = All-filter (λ c. not (does_read_from w c)) IsApart cs apart

    -- the rest of the conditions over the first node and what the others give are all of them over the three
    turned_same : (lists : Lists) (doc : Document)
        → SameBag (selected lists doc (others_of w cs) (product (val lists doc mid three.first) (val lists doc mid r)))
        (selected lists doc cs (product (product (val lists doc old three.first) (val lists doc old three.second)) (val lists doc old three.third)))
    turned_same lists doc =
        let a = val lists doc old three.first in
        let b = val lists doc old three.second in
        let c = val lists doc old three.third in
        let kept : val lists doc mid three.first ≡ a = val-kept lists doc old mid three.first near.grows first_there in
        let sides : selected lists doc cs (product a (product b c)) ≡ selected lists doc (others_of w cs) (product a (selected lists doc (later_of w cs) (product b c))) =
        selected-product lists doc w cs a (product b c) (val-wide lists doc old three.first plan)
        ∙ (ap₂ (λ (l : List Term) (p : List Term). selected lists doc (joint_conditions w cs) (product (selected lists doc l a) (selected lists doc p (product b c)))) (none_left w v cs joint)
        (ap (λ (p : List Term). map (renamed (less w)) (filter (does_read_from w) p)) (all_later w v cs joint))
        ∙ (ap (λ (p : List Term). selected lists doc (filter (λ x. not (does_read_from w x)) p) (product (selected lists doc [] a) (selected lists doc (later_of w cs) (product b c)))) (all_later w v cs joint)
        ∙ ap (λ (rows : Rows). selected lists doc (others_of w cs) (product rows (selected lists doc (later_of w cs) (product b c)))) (selected-none lists doc a))) in
        SameBag-trans _ _ _
        (SameBag-filter (holding lists doc (others_of w cs)) _ _ (SameBag-product _ _ _ _ (SameBag-is _ _ kept) (near.has.same lists doc)))
        (SameBag-is _ _ (sym sides ∙ ap (selected lists doc cs) (sym (product-assoc a b c))))

    pub turned-combines : (new : List Node) (n : ℕ) → Combines mid new front n all_pairs (others_of w cs) → CombinesThree old new three n cs
    turned-combines new n far = record {
      grows = grows-trans old mid new near.grows far.grows;
      has = record {
        there = far.has.there;
        shaped = far.has.shaped ∙ ap columns widths;
        same = λ lists doc. SameBag-trans _ _ _ (far.has.same lists doc) (turned_same lists doc);
      };
    }
      where
        widths : joint_width mid front ≡ three_width old three
        widths = omega (arith, first_width, near_width)

-- ---- a product and a third node

module _ (old : List Node) (pair inner : Pair) (at : IsAt old pair.left (cross_of inner)) (both : IsNode (shapes_of old) (cross_of pair)) where
  pub inner_width : width_at old pair.left ≡ joint_width old inner
  inner_width = ap (λ (s : Shape). s.width) at.stands.has.shaped

  pub three-behind : IsNode (shapes_of old) (cross_of (record { left = inner.right; right = pair.right }))
  three-behind = record { left_below = at.valid.right_below; right_below = both.right_below; made = (at.valid.made.1, both.made.1) }

  module _ (cs : List Term) where
    pub three-reads : All (ReadsBelow (joint_width old pair)) cs → All (ReadsBelow (joint_width old inner + width_at old pair.right)) cs
    three-reads reads = subst (λ (n : ℕ). All (ReadsBelow (n + width_at old pair.right)) cs) inner_width reads

    pub three-joint : All (ReadsBoth (width_at old pair.left)) cs → All (ReadsBoth (joint_width old inner)) cs
    three-joint joint = subst (λ (n : ℕ). All (ReadsBoth n) cs) inner_width joint

    -- the rows of three nodes are those of the product and the third
    pub three-combines : (new : List Node) (n : ℕ) → CombinesThree old new (record { first = inner.left; second = inner.right; third = pair.right }) n cs → Combines old new pair n all_pairs cs
    three-combines new n combines = record {
      grows = combines.grows;
      has = record {
        there = combines.has.there;
        shaped = combines.has.shaped ∙ ap (λ (w : ℕ). columns (w + width_at old pair.right)) (sym inner_width);
        same = λ lists doc.
            SameBag-trans _ _ _ (combines.has.same lists doc)
            (SameBag-filter (holding lists doc cs) _ _ (SameBag-product _ _ _ _ (SameBag-sym _ _ (at.stands.has.same lists doc)) (SameBag-refl (val lists doc old pair.right))));
      };
    }
