-- The marked nodes of a plan, put together anew: no two became equal, each is read, and they stand in the order in which
-- they are needed.
use Rattle.std.proofs.Common.{◌≡◌, ◌≢◌, ◌∙◌, ℕ, ◌<◌, ◌⊎◌, inl, inr, Bool, true, false, cond, List, [], ◌∷◌, length, map, take, get_or, slice_get, refl, sym, ap, ap₂, subst, arith, Option, Some, None, option_map}
use Rattle.std.specs.List.{All, AllPairs, Contains}
use Rattle.std.specs.Option.{IfSome}
use Rattle.std.proofs.lemmas.Bool.{cases_lt}
use Rattle.std.proofs.lemmas.List.{length-map, get_or-map, get_or_default}
use Rattle.std.proofs.lemmas.List.Elements.{All-map}
use Rattle.std.proofs.lemmas.Option.{slice_get_within, slice_get-get_or, get_or_from_slice_get}
use Rattle.algebra.specs.declared.node.Node.{Node}
use Rattle.algebra.specs.declared.node.Node.TheVariants.{Doc, Regex, TokenRegex, Dict, DictPart, Blocks, Select, Project, Cross, SpanJoin, Restricted, Union, Minus, Consolidate, Group, OrderLimit}
use Rattle.algebra.specs.declared.output.PlanOut.{PlanOut}
use Rattle.algebra.specs.Inputs.{left_input, right_input, with_inputs}
use Rattle.algebra.specs.Items.{output_nodes}
use Rattle.algebra.specs.Mapping.{new_number, renumbered, KeepsInputs}
use Rattle.algebra.specs.Nodes.{IsPlan}
use Rattle.algebra.specs.OperatorLaws.{left-renamed, right-renamed}
use Rattle.algebra.specs.Plans.{Parts, AreOutputs}
use Rattle.algebra.specs.Shapes.{no_shape, shapes_of}
use Rattle.share_plan.specs.Marks.{IsMarked, AreClosed, AreFounded, IsMovedBy, IsArranged, IsPruned}
use Rattle.share_plan.specs.Ordering.{AreRightOf, IsInOrder}
use Rattle.share_plan.specs.Pruning.{Reads, IsRead, AreRead, IsDropped}
use Rattle.share_plan.specs.Renumbering.{IsRenumbered}
use Rattle.share_plan.specs.Sharing.{AreApart, AreDistinct, AreMerged}
use Rattle.share_plan.specs.Walks as walks
use Rattle.share_plan.specs.Walks.{IsCalled, IsOrder}
use Rattle.share_plan.proofs.Arranging.{arranged-pruned}
use Rattle.share_plan.proofs.Extending.{same_at}
use Rattle.share_plan.proofs.Walking.{marked_within, taken_at, order-closed, order-founded, called_marked}

-- ---- a node is told by its inputs and the node that it becomes

abbrev first : Option ℕ → ℕ
first None = 0
first (Some i) = i

abbrev with_these : Option ℕ → Option ℕ → Node → Node
with_these l r Doc = Doc
with_these l r (Regex i c p groups) = Regex (first l) c p groups
with_these l r (TokenRegex i c low high p groups) = TokenRegex (first l) c low high p groups
with_these l r (Dict i c dicts) = Dict (first l) c dicts
with_these l r (DictPart i p) = DictPart (first l) p
with_these l r (Blocks i c low high from upto tokens) = Blocks (first l) c low high from upto tokens
with_these l r (Select i conds) = Select (first l) conds
with_these l r (Project i items) = Project (first l) items
with_these l r (Cross i j conditional) = Cross (first l) (first r) conditional
with_these l r (SpanJoin i j join lc rc conditional) = SpanJoin (first l) (first r) join lc rc conditional
with_these l r (Restricted i j join lc part) = Restricted (first l) (first r) join lc part
with_these l r (Union i j) = Union (first l) (first r)
with_these l r (Minus i j) = Minus (first l) (first r)
with_these l r (Consolidate i policy target) = Consolidate (first l) policy target
with_these l r (Group i keys aggs) = Group (first l) keys aggs
with_these l r (OrderLimit i keys limit) = OrderLimit (first l) keys limit

told_again : (f : ℕ → ℕ) (node : Node) → with_these (left_input node) (right_input node) (with_inputs f node) ≡ node
told_again f Doc = refl
told_again f (Regex i c p groups) = refl
told_again f (TokenRegex i c low high p groups) = refl
told_again f (Dict i c dicts) = refl
told_again f (DictPart i p) = refl
told_again f (Blocks i c low high from upto tokens) = refl
told_again f (Select i conds) = refl
told_again f (Project i items) = refl
told_again f (Cross i j conditional) = refl
told_again f (SpanJoin i j join lc rc conditional) = refl
told_again f (Restricted i j join lc part) = refl
told_again f (Union i j) = refl
told_again f (Minus i j) = refl
told_again f (Consolidate i policy target) = refl
told_again f (Group i keys aggs) = refl
told_again f (OrderLimit i keys limit) = refl

apart_turned : (a b : Node) → AreApart a b → AreApart b a
apart_turned a b apart input column dicts others first second = apart input column others dicts second first

some_number : (a b : ℕ) → Some a ≡ Some b → a ≡ b
some_number a b e = cc

none_some : (b : ℕ) → None ≡ Some b → ⊥
none_some b e = cc

contains_map : {X Y : Type 0} (f : X → Y) (xs : List X) (x : X) → Contains xs x → Contains (map f xs) (f x)
contains_map f xs x c = (c.0, omega (arith, c.1, length-map xs f), get_or-map f xs c.0 x (f x) c.1 ∙ ap f c.2)

contains_before : (f : ℕ → ℕ) (xs : List ℕ) (y : ℕ) → Contains (map f xs) y → (x : ℕ) × Contains xs x × (f x ≡ y)
contains_before f xs y c =
    let below : c.0 < length xs = omega (arith, c.1, length-map xs f) in
    let x = get_or xs c.0 0 in
    (x, (c.0, below, get_or_default xs c.0 x 0 below), sym (get_or-map f xs c.0 0 y below) ∙ c.2)

module _ (marks : List Bool) (old new : List Node) (to : List ℕ) (pruned : IsPruned marks old new to) (plan : IsPlan old) (closed : AreClosed old marks) (wide : length marks ≡ length old) where
  abbrev look : ℕ → ℕ
  look i = new_number to i

  marked_there : (i : ℕ) → IsMarked marks i → i < length old
  marked_there i marked = omega (arith, marked_within marks i marked, wide)

  -- two new numbers are those of two nodes, of which either may be the first
  in_either : (R : Node → Node → Type 0) → ((a b : Node) → R a b → R b a) → (i j : ℕ) (a b : Node) → slice_get old i ≡ Some a → slice_get old j ≡ Some b → (i ≡ j → ⊥) → AllPairs R old → R a b
  in_either R turned i j a b at_a at_b apart pairs = elim (cases_lt i j) [
    | inl h ↦ subst (λ (x : Node). R x b) (get_or_from_slice_get old i a a at_a) (subst (R (get_or old i a)) (get_or_from_slice_get old j b a at_b) (pairs i j a h (slice_get_within old j b at_b)))
    | inr h ↦ elim (cases_lt j i) [
      | inl l ↦ turned b a (subst (λ (x : Node). R x a) (get_or_from_slice_get old j b a at_b) (subst (R (get_or old j a)) (get_or_from_slice_get old i a a at_a) (pairs j i a l (slice_get_within old i a at_a))))
      | inr l ↦ absurd (apart (omega (arith, h, l)))
    ]
  ]

  -- what a new node was
  pub record Was (n : ℕ) (after : Node) : Type 0 where
    pub i : ℕ
    pub marked : IsMarked marks i
    pub number : look i ≡ n
    pub before : Node
    pub at : slice_get old i ≡ Some before
    pub moved : IsMovedBy to before after

  was : (n : ℕ) (after : Node) → slice_get new n ≡ Some after → Was n after
  was n after at =
      let f = pruned.from n (slice_get_within new n after at) in
      let before = get_or old f.0 Doc in
      let at_before : slice_get old f.0 ≡ Some before = slice_get-get_or old f.0 Doc (marked_there f.0 f.2) in
      let m = pruned.moved f.0 before at_before f.2 in
      record {
        i = f.0;
        marked = f.2;
        number = f.3;
        before = before;
        at = at_before;
        moved = subst (λ (x : Node). IsMovedBy to before x) (same_at new n m.0 after (ap (λ (k : ℕ). slice_get new k) (sym f.3) ∙ m.1) at) m.2;
      }

  inputs_marked : (i : ℕ) (node : Node) → slice_get old i ≡ Some node → IsMarked marks i → KeepsInputs (IsMarked marks) node
  inputs_marked i node at marked = let both = closed i node at marked in record { left = both.0; right = both.1 }

  same_input : (f g : ℕ → ℕ) (o p : Option ℕ) → option_map f o ≡ option_map g p → IfSome o (IsMarked marks) → IfSome p (IsMarked marks) → IfSome o (λ i. look i ≡ f i) → IfSome p (λ i. look i ≡ g i) → o ≡ p
  same_input f g None None e a b s t = refl
  same_input f g None (Some j) e a b s t = absurd (none_some (g j) e)
  same_input f g (Some i) None e a b s t = absurd (none_some (f i) (sym e))
  same_input f g (Some i) (Some j) e a b s t = ap (λ (k : ℕ). Some k) (pruned.apart i j a b (s ∙ (some_number (f i) (g j) e ∙ sym t)))

  -- two nodes that become one are one
  before_same : (i j : ℕ) (a b x : Node) → slice_get old i ≡ Some a → slice_get old j ≡ Some b → IsMarked marks i → IsMarked marks j → IsMovedBy to a x → IsMovedBy to b x → a ≡ b
  before_same i j a b x at_a at_b mi mj ma mb =
      let ka = inputs_marked i a at_a mi in
      let kb = inputs_marked j b at_b mj in
      let became : with_inputs ma.number a ≡ with_inputs mb.number b = sym ma.same ∙ mb.same in
      let lefts : left_input a ≡ left_input b =
      same_input ma.number mb.number (left_input a) (left_input b) (sym (left-renamed ma.number a) ∙ (ap (λ (y : Node). left_input y) became ∙ left-renamed mb.number b)) ka.left kb.left ma.left mb.left in
      let rights : right_input a ≡ right_input b =
      same_input ma.number mb.number (right_input a) (right_input b) (sym (right-renamed ma.number a) ∙ (ap (λ (y : Node). right_input y) became ∙ right-renamed mb.number b)) ka.right kb.right ma.right mb.right in
      sym (told_again ma.number a) ∙ (ap₂ (λ (l r : Option ℕ). with_these l r (with_inputs ma.number a)) lefts rights
      ∙ (ap (λ (y : Node). with_these (left_input b) (right_input b) y) became ∙ told_again mb.number b))

  at_new : (n : ℕ) (d : Node) → n < length new → slice_get new n ≡ Some (get_or new n d)
  at_new n d below = slice_get-get_or new n d below

  -- two numbers are those of two nodes
  numbers_apart : (n m i j : ℕ) → n < m → look i ≡ n → look j ≡ m → i ≡ j → ⊥
  numbers_apart n m i j low first second e = omega (arith, low, first, second, ap look e)

  pub pruned-distinct : AreDistinct old → AreDistinct new
  pruned-distinct distinct n m d low high e =
      let x = get_or new n d in
      let wn = was n x (at_new n d (omega (arith, low, high))) in
      let wm = was m x (at_new m d high ∙ ap (λ (y : Node). Some y) (sym e)) in
      in_either (λ a b. a ≢ b) (λ a b apart same. apart (sym same)) wn.i wm.i wn.before wm.before wn.at wm.at (numbers_apart n m wn.i wm.i low wn.number wm.number) distinct
      (before_same wn.i wm.i wn.before wm.before x wn.at wm.at wn.marked wm.marked wn.moved wm.moved)

  -- what becomes a `Dict` node is one of the same column
  pub record WasDict (i input column : ℕ) (dicts : List ℕ) (before : Node) : Type 0 where
    pub from : ℕ
    pub is : before ≡ Dict from column dicts
    pub marked : IsMarked marks from
    pub number : look from ≡ input

  was_dict : (i input column : ℕ) (dicts : List ℕ) (before : Node) → slice_get old i ≡ Some before → IsMarked marks i → IsMovedBy to before (Dict input column dicts) → WasDict i input column dicts before
  was_dict i input column dicts before at marked moved = by (left_input before) refl
    where
      became : option_map moved.number (left_input before) ≡ Some input
      became = sym (left-renamed moved.number before) ∙ ap (λ (x : Node). left_input x) (sym moved.same)

      is_dict : before ≡ Dict (first (left_input before)) column dicts
      is_dict = sym (told_again moved.number before) ∙ ap (λ (x : Node). with_these (left_input before) (right_input before) x) (sym moved.same)

      by : (o : Option ℕ) → left_input before ≡ o → WasDict i input column dicts before
      by None e = absurd (none_some input (ap (λ (o : Option ℕ). option_map moved.number o) (sym e) ∙ became))
      by (Some j) e = record {
        from = j;
        is = is_dict ∙ ap (λ (o : Option ℕ). Dict (first o) column dicts) e;
        marked = subst (λ (o : Option ℕ). IfSome o (IsMarked marks)) e (inputs_marked i before at marked).left;
        number = subst (λ (o : Option ℕ). IfSome o (λ k. look k ≡ moved.number k)) e moved.left ∙ some_number (moved.number j) input (ap (λ (o : Option ℕ). option_map moved.number o) (sym e) ∙ became);
      }

  pub pruned-merged : AreMerged old → AreMerged new
  pruned-merged merged n m d low high input column dicts others first second =
      let at_n : slice_get new n ≡ Some (Dict input column dicts) = at_new n d (omega (arith, low, high)) ∙ ap (λ (x : Node). Some x) first in
      let at_m : slice_get new m ≡ Some (Dict input column others) = at_new m d high ∙ ap (λ (x : Node). Some x) second in
      let wn = was n (Dict input column dicts) at_n in
      let wm = was m (Dict input column others) at_m in
      let a = was_dict wn.i input column dicts wn.before wn.at wn.marked wn.moved in
      let b = was_dict wm.i input column others wm.before wm.at wm.marked wm.moved in
      let same : b.from ≡ a.from = pruned.apart b.from a.from b.marked a.marked (b.number ∙ sym a.number) in
      in_either AreApart apart_turned wn.i wm.i wn.before wm.before wn.at wm.at (numbers_apart n m wn.i wm.i low wn.number wm.number) merged a.from column dicts others a.is
      (b.is ∙ ap (λ (k : ℕ). Dict k column others) same)

  -- ---- the new numbers

  abbrev to_number : ℕ → Option ℕ
  to_number i = cond (get_or marks i false) (Some (look i)) None

  given : (i : ℕ) → IsMarked marks i → to_number i ≡ Some (look i)
  given i marked = ap (λ (b : Bool). cond b (Some (look i)) None) marked

  told : (i n : ℕ) → to_number i ≡ Some n → IsMarked marks i × (look i ≡ n)
  told i n e = by (get_or marks i false) refl
    where
      by : (b : Bool) → get_or marks i false ≡ b → IsMarked marks i × (look i ≡ n)
      by true is = (is, some_number (look i) n (sym (ap (λ (b : Bool). cond b (Some (look i)) None) is) ∙ e))
      by false is = absurd (none_some n (sym (ap (λ (b : Bool). cond b (Some (look i)) None) is) ∙ e))

  input_numbered : (number : ℕ → ℕ) (o : Option ℕ) → IfSome o (IsMarked marks) → IfSome o (λ i. look i ≡ number i) → IfSome o (λ i. to_number i ≡ Some (number i))
  input_numbered number None marked named = tt
  input_numbered number (Some i) marked named = given i marked ∙ ap (λ (k : ℕ). Some k) named

  pub pruned-renumbered : IsRenumbered old new
  pruned-renumbered = record {
    to = to_number;
    there = λ i n e. marked_there i (told i n e).0;
    shaped = λ i n e.
        let t = told i n e in
        ap (λ (k : ℕ). get_or (shapes_of new) k no_shape) (sym t.1) ∙ pruned.mapped.shaped i (omega (arith, marked_there i t.0, pruned.mapped.long)) t.0;
    moved = λ i n before e at.
        let t = told i n e in
        let m = pruned.moved i before at t.0 in
        let keeps = inputs_marked i before at t.0 in (
          m.0,
          ap (λ (k : ℕ). slice_get new k) (sym t.1) ∙ m.1,
          inl (record {
            number = m.2.number;
            same = m.2.same;
            left = input_numbered m.2.number (left_input before) keeps.left m.2.left;
            right = input_numbered m.2.number (right_input before) keeps.right m.2.right;
          }),
        );
    from = λ n after at plain.
        let w = was n after at in
        (w.i, given w.i w.marked ∙ ap (λ (k : ℕ). Some k) w.number);
  }

  shown_again : (outs : List PlanOut) → map (λ (out : PlanOut). out.node) (map (renumbered to) outs) ≡ map look (map (λ (out : PlanOut). out.node) outs)
  shown_again [] = refl
  shown_again (out ∷ outs) = ap (λ (ns : List ℕ). look out.node ∷ ns) (shown_again outs)

  marked_among : (outs : List PlanOut) → All (λ out. IsMarked marks out.node) outs → (i : ℕ) → Contains (map (λ (out : PlanOut). out.node) outs) i → IsMarked marks i
  marked_among outs marked i c = subst (IsMarked marks) c.2 (All-map (IsMarked marks) (λ (out : PlanOut). out.node) outs marked c.0 i c.1)

  pub pruned-dropped : (outs after : List PlanOut) (nodes : List Node) → All (λ out. IsMarked marks out.node) outs → nodes ≡ new → after ≡ map (renumbered to) outs
      → IsDropped old (map (λ (out : PlanOut). out.node) outs) nodes (map (λ (out : PlanOut). out.node) after)
  pruned-dropped outs after nodes marked nodes_are after_are =
      subst (λ (ns : List Node). IsDropped old shown ns (map (λ (out : PlanOut). out.node) after)) (sym nodes_are)
      (subst (IsDropped old shown new) (sym (ap (map (λ (out : PlanOut). out.node)) after_are ∙ shown_again outs)) dropped)
    where
      shown : List ℕ
      shown = map (λ (out : PlanOut). out.node) outs

      dropped : IsDropped old shown new (map look shown)
      dropped = record {
        to = to_number;
        moved = λ i n before e at.
            let t = told i n e in
            let m = pruned.moved i before at t.0 in
            let keeps = inputs_marked i before at t.0 in (
              m.0,
              ap (λ (k : ℕ). slice_get new k) (sym t.1) ∙ m.1,
              record {
                number = m.2.number;
                same = m.2.same;
                left = input_numbered m.2.number (left_input before) keeps.left m.2.left;
                right = input_numbered m.2.number (right_input before) keeps.right m.2.right;
              },
            );
        from = λ n below.
            let f = pruned.from n below in
            (f.0, marked_there f.0 f.2, given f.0 f.2 ∙ ap (λ (k : ℕ). Some k) f.3);
        apart = λ i j n a b.
            let s = told i n a in
            let t = told j n b in
            pruned.apart i j s.0 t.0 (s.1 ∙ sym t.1);
        shows = λ i c. (look i, given i (marked_among outs marked i c), contains_map look shown i c);
        shown_from = λ n c.
            let was = contains_before look shown n c in
            (was.0, given was.0 (marked_among outs marked was.0 was.1) ∙ ap (λ (k : ℕ). Some k) was.2, was.1);
      }

  -- ---- each is read

  reads_again : (before after : Node) (i : ℕ) → IsMovedBy to before after → Reads before i → Reads after (look i)
  reads_again before after i moved (inl e) =
      let named : look i ≡ moved.number i = subst (λ (o : Option ℕ). IfSome o (λ k. look k ≡ moved.number k)) e moved.left in
      inl (ap (λ (x : Node). left_input x) moved.same ∙ (left-renamed moved.number before ∙ (ap (λ (o : Option ℕ). option_map moved.number o) e ∙ ap (λ (k : ℕ). Some k) (sym named))))
  reads_again before after i moved (inr e) =
      let named : look i ≡ moved.number i = subst (λ (o : Option ℕ). IfSome o (λ k. look k ≡ moved.number k)) e moved.right in
      inr (ap (λ (x : Node). right_input x) moved.same ∙ (right-renamed moved.number before ∙ (ap (λ (o : Option ℕ). option_map moved.number o) e ∙ ap (λ (k : ℕ). Some k) (sym named))))

  pub pruned-read : (outs : List PlanOut) → AreFounded (map (λ (out : PlanOut). out.node) outs) old marks → (plan_new : Parts) → plan_new.nodes ≡ new → plan_new.outputs ≡ map (renumbered to) outs → AreRead plan_new
  pruned-read outs founded plan_new nodes_are outputs_are n below =
      let f = pruned.from n (omega (arith, below, ap length nodes_are)) in
      subst (IsRead plan_new) f.3 (by f.0 (founded f.0 f.2))
    where
      by : (i : ℕ) → Contains (map (λ (out : PlanOut). out.node) outs) i ⊎ ((k : ℕ) × (node : Node) × (slice_get old k ≡ Some node) × IsMarked marks k × Reads node i) → IsRead plan_new (look i)
      by i (inl c) =
          inl (subst (λ (ns : List ℕ). Contains ns (look i)) (sym (ap (map (λ (out : PlanOut). out.node)) outputs_are ∙ shown_again outs))
          (contains_map look (map (λ (out : PlanOut). out.node) outs) i c))
      by i (inr r) =
          let m = pruned.moved r.0 r.1 r.2 r.3 in
          inr (look r.0, m.0, ap (λ (list : List Node). slice_get list (look r.0)) nodes_are ∙ m.1, reads_again r.1 m.0 i m.2 r.4)

-- ---- a plan whose nodes are marked

pub record IsMarkedPlan (plan : Parts) (marks : List Bool) : Type 0 where
  pub valid : AreOutputs plan.nodes plan.outputs
  pub long : length marks ≡ length plan.nodes
  pub shown : All (λ out. IsMarked marks out.node) plan.outputs
  pub closed : AreClosed plan.nodes marks
  pub founded : AreFounded (map (λ (out : PlanOut). out.node) plan.outputs) plan.nodes marks

pub marked_plan : (plan : Parts) (order : List ℕ) (marks : List Bool) → IsOrder plan.nodes (output_nodes plan) order marks → AreOutputs plan.nodes plan.outputs → IsMarkedPlan plan marks
marked_plan plan order marks is valid = record {
  valid = valid;
  long = is.walked.long;
  shown = λ k d below.
      let out = get_or plan.outputs k d in
      is.all out.node (contains_map (λ (o : PlanOut). o.node) plan.outputs out (k, below, get_or_default plan.outputs k out d below));
  closed = order-closed plan.nodes (output_nodes plan) order marks is;
  founded = order-founded plan.nodes (output_nodes plan) order marks is;
}

-- and the nodes that are kept of it
pub record IsKept (plan : Parts) (order to : List ℕ) (marks : List Bool) (new : List Node) : Type 0 where
  pub is : IsOrder plan.nodes (output_nodes plan) order marks
  pub arranged : IsArranged order plan.nodes new to
  pub marked : IsMarkedPlan plan marks
  pub pruned : IsPruned marks plan.nodes new to

pub kept_of : (plan : Parts) (order to : List ℕ) (marks : List Bool) (new : List Node) (numbers : List ℕ) (nodes : List Node) → IsOrder plan.nodes (output_nodes plan) order marks → AreOutputs plan.nodes plan.outputs
    → numbers ≡ order → nodes ≡ plan.nodes → IsArranged numbers nodes new to → IsKept plan order to marks new
kept_of plan order to marks new numbers nodes is valid same_numbers same_nodes arranged =
    let here : IsArranged order plan.nodes new to = subst (λ (ns : List ℕ). IsArranged ns plan.nodes new to) same_numbers (subst (λ (xs : List Node). IsArranged numbers xs new to) same_nodes arranged) in
    record {
      is = is;
      arranged = here;
      marked = marked_plan plan order marks is valid;
      pruned = arranged-pruned marks plan.nodes new (output_nodes plan) order to is here;
    }

-- ---- the order of the new nodes

module _ (plan : Parts) (new : List Node) (order to : List ℕ) (marks : List Bool) (is : IsOrder plan.nodes (output_nodes plan) order marks) (arranged : IsArranged order plan.nodes new to) where
  abbrev sight : ℕ → ℕ
  sight i = new_number to i

  module _ (g : ℕ) (these : List ℕ) (right_of : AreRightOf new (map sight (output_nodes plan)) g these) (n : ℕ) where
    goes_left : (before after : Node) (j : ℕ) → IsMovedBy to before after → left_input before ≡ Some j → left_input after ≡ Some (sight j)
    goes_left before after j moved e =
        let named : sight j ≡ moved.number j = subst (λ (o : Option ℕ). IfSome o (λ k. sight k ≡ moved.number k)) e moved.left in
        ap left_input moved.same ∙ (left-renamed moved.number before ∙ (ap (option_map moved.number) e ∙ ap (λ (k : ℕ). Some k) (sym named)))

    goes_right : (before after : Node) (j : ℕ) → IsMovedBy to before after → right_input before ≡ Some j → right_input after ≡ Some (sight j)
    goes_right before after j moved e =
        let named : sight j ≡ moved.number j = subst (λ (o : Option ℕ). IfSome o (λ k. sight k ≡ moved.number k)) e moved.right in
        ap right_input moved.same ∙ (right-renamed moved.number before ∙ (ap (option_map moved.number) e ∙ ap (λ (k : ℕ). Some k) (sym named)))

    -- what stands before index n has a lower number
    sight_before : (l : ℕ) → Contains (take n order) l → sight l < n
    sight_before l c = let t = taken_at order n l c in omega (arith, t.1, arranged.numbered t.0 l t.2)

    left_before : (o : Option ℕ) (number : ℕ → ℕ) → IfSome o (Contains (take n order)) → IfSome o (λ l. sight l ≡ number l) → option_map number o ≡ Some g → g < n
    left_before None number c named e = absurd (none_some g e)
    left_before (Some l) number c named e = omega (arith, sight_before l c, named, some_number (number l) g e)

    behind : (j : ℕ) → IsCalled plan.nodes (output_nodes plan) (take n order) j → Contains these (sight j) → g < n
    behind _ (walks.output j listed) c = absurd (right_of.unshown (sight j) c (contains_map sight (output_nodes plan) j listed))
    behind _ (walks.left k j node at e called) c =
        let m = arranged.moved k node at (is.walked.listed k (called_marked plan.nodes (output_nodes plan) order marks is (take n order) k called)) in
        behind k called (right_of.left (sight j) (sight k) m.0 c m.1 (goes_left node m.0 j m.2 e))
    behind _ (walks.right k j node at e left called) c =
        let m = arranged.moved k node at (is.walked.listed k (called_marked plan.nodes (output_nodes plan) order marks is (take n order) k called)) in
        elim (right_of.right (sight j) (sight k) m.0 c m.1 (goes_right node m.0 j m.2 e)) [
          | inl h ↦ behind k called h
          | inr h ↦ left_before (left_input node) m.2.number left m.2.left (sym (left-renamed m.2.number node) ∙ (ap left_input (sym m.2.same) ∙ h))
        ]

  sight_again : (outs : List PlanOut) → map (λ (out : PlanOut). out.node) (map (renumbered to) outs) ≡ map sight (map (λ (out : PlanOut). out.node) outs)
  sight_again [] = refl
  sight_again (out ∷ outs) = ap (λ (ns : List ℕ). sight out.node ∷ ns) (sight_again outs)

  pub arranged-order : (plan_new : Parts) → plan_new.nodes ≡ new → plan_new.outputs ≡ map (renumbered to) plan.outputs → IsInOrder plan_new.nodes (output_nodes plan_new)
  arranged-order plan_new nodes_are outputs_are g these right_of n low c =
      let shown : output_nodes plan_new ≡ map sight (output_nodes plan) = ap (map (λ (out : PlanOut). out.node)) outputs_are ∙ sight_again plan.outputs in
      let of_new : AreRightOf new (map sight (output_nodes plan)) g these =
      subst (λ (ns : List ℕ). AreRightOf new ns g these) shown (subst (λ (xs : List Node). AreRightOf xs (output_nodes plan_new) g these) nodes_are right_of) in
      let j = get_or order n 0 in
      let at : slice_get order n ≡ Some j = slice_get-get_or order n 0 (omega (arith, low, ap length nodes_are, arranged.long)) in
      behind g these of_new n j (is.walked.called n j at) (subst (Contains these) (sym (arranged.numbered n j at)) c)
