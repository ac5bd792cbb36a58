-- Where conditions stand in plans that grow.
use Rattle.std.proofs.Common.{◌≡◌, ◌∙◌, ℕ, ◌<◌, Bool, true, false, not, List, [], ◌∷◌, ◌++◌, map, length, get_or, refl, sym, ap, ap₂, subst, arith, Option, Some, None, inl, inr, true≢false}
use Rattle.std.specs.Prelude.{slice_get}
use Rattle.std.specs.List.{All}
use Rattle.std.proofs.lemmas.Bool.{lt-ltb, le-ltb}
use Rattle.std.proofs.lemmas.List.{length-append, get_or_append_left, get_or_default}
use Rattle.std.proofs.lemmas.List.Elements.{All-nil, All-map, All-filter, All-push, filter_passes}
use Rattle.std.proofs.lemmas.Option.{none-some, slice_get_read, slice_get_within, get_or_from_slice_get, slice_get-get_or}
use Rattle.scalar_ops.specs.declared.expr.Expr.{Expr}
use Rattle.scalar_ops.specs.declared.op.Op.{Op}
use Rattle.scalar_ops.specs.declared.op.Op.TheVariants as op
use Rattle.scalar_ops.specs.Expressions.{Term, column, number, string, call, none as no_terms, more, does_read_below, does_read_from}
use Rattle.scalar_ops.specs.ReadingLaws.{does_read_below-is, does_read_from-is}
use Rattle.scalar_ops.specs.SideLaws.{later_conditions, joint_conditions}
use Rattle.scalar_ops.specs.Views.{term_of}
use Rattle.algebra.specs.declared.node.JoinKind.{JoinKind}
use Rattle.algebra.specs.declared.node.JoinKind.TheVariants as kind
use Rattle.algebra.specs.declared.node.Local.{Local}
use Rattle.algebra.specs.declared.node.Node.{Node}
use Rattle.algebra.specs.declared.node.Node.TheVariants.{Doc, Select, Project, Cross, SpanJoin, Restricted, Union}
use Rattle.algebra.specs.declared.shape.Shape.{Shape}
use Rattle.algebra.specs.FoldLaws.{length-each}
use Rattle.algebra.specs.Growth.{Grows}
use Rattle.algebra.specs.GrowthLaws.{is-at, shape-kept}
use Rattle.algebra.specs.NodeLaws.{plan-push}
use Rattle.algebra.specs.Nodes.{IsNode, IsPlan}
use Rattle.algebra.specs.Predicates.{of_columns}
use Rattle.algebra.specs.Shapes.{shape_by, no_shape, shapes_of}
use Rattle.push_select.specs.declared.below.Pair.{Pair}
use Rattle.push_select.specs.declared.join.Join.{Join}
use Rattle.push_select.specs.Conditions.{IsApart}
use Rattle.push_select.specs.Joins.{join_by_sides, join_between, join_of}
use Rattle.push_select.specs.Replacing.{cross_of, join_of_pair, IsPushed}
use Rattle.push_select.specs.Pushed.{width_at, IsOfSpans, AreOfBothSides, IsSpanPredicate, ReadsBoth, ReadsBothFreely, IsAnd, ShowsColumns, StandAbove, MayStand, IsUnrestricted}

node_before : (nodes : List Node) (n : ℕ) → n < length (shapes_of nodes) → n < length nodes
node_before nodes n below = omega (arith, below, length-each no_shape shape_by nodes)

front_there : (xs ys : List Node) (i : ℕ) → i < length xs → slice_get (xs ++ ys) i ≡ slice_get xs i
front_there xs ys i below =
    slice_get-get_or (xs ++ ys) i Doc (omega (arith, below, length-append xs ys))
    ∙ (ap (λ (x : Node). Some x) (get_or_append_left xs ys Doc i below) ∙ sym (slice_get-get_or xs i Doc below))

-- whether a node that is there shows plain columns
pub shows-there : (nodes : List Node) (n : ℕ) (node : Node) → n < length nodes → node ≡ get_or nodes n node → (ShowsColumns (Some node) → ⊥) → ShowsColumns (slice_get nodes n) → ⊥
shows-there nodes n node there is other shows = other (subst (λ (o : Option Node). ShowsColumns o) (slice_get_read nodes (length nodes) n node refl there is) shows)

width_kept : (old new : List Node) (n : ℕ) → Grows old new → n < length old → width_at new n ≡ width_at old n
width_kept old new n grows there = ap (λ (s : Shape). s.width) (shape-kept old new n grows there)

-- ---- one node more

stand_more : (old new : List Node) → IsPlan old → Grows old new → (conds : List Term) (k : ℕ) (below : Node) → slice_get old k ≡ Some below → StandAbove old conds (Some below) → StandAbove new conds (Some below)
stand_more old new plan grows conds k below at above = by below (is-at old k below plan (slice_get_within old k below at) (sym (get_or_from_slice_get old k below below at))).valid above
  where
    by : (node : Node) → IsNode (shapes_of old) node → StandAbove old conds (Some node) → StandAbove new conds (Some node)
    by (Cross left right conditional) valid above = subst (λ (w : ℕ). All (ReadsBothFreely w) conds) (sym (width_kept old new left grows (node_before old left valid.left_below))) above
    by (SpanJoin left right join lc rc conditional) valid above = subst (λ (w : ℕ). All (ReadsBoth w) conds) (sym (width_kept old new left grows (node_before old left valid.left_below))) above
    by (Project i items) valid above = above
    by (Union left right) valid above = above
    by node valid above = tt

-- what may stand in a plan may stand there when more nodes were put
may_more : (old new : List Node) → IsPlan old → Grows old new → (node : Node) → IsNode (shapes_of old) node → MayStand old node → MayStand new node
may_more old new plan grows (Select i conds) valid may =
    let below : i < length old = node_before old i valid.left_below in
    let x = get_or old i (Select i conds) in
    let at : slice_get old i ≡ Some x = slice_get-get_or old i (Select i conds) below in
    let there : slice_get new i ≡ Some x = ap (λ (ns : List Node). slice_get ns i) grows.grown ∙ (front_there old grows.added i below ∙ at) in
    subst (λ (o : Option Node). StandAbove new conds o) (sym there)
    (stand_more old new plan grows conds i x at (subst (λ (o : Option Node). StandAbove old conds o) at may))
may_more old new plan grows (Project i items) valid may =
    let there : slice_get new i ≡ slice_get old i = ap (λ (ns : List Node). slice_get ns i) grows.grown ∙ front_there old grows.added i (node_before old i valid.left_below) in
    λ shows. may (subst (λ (o : Option Node). ShowsColumns o) there shows)
may_more old new plan grows node valid may = tt

pub pushed-none : IsPushed []
pushed-none = record { plan = tt; pushed = λ k d below. absurd (omega (arith, below)); unrestricted = λ k d below. absurd (omega (arith, below)) }

-- one node more, whose conditions may stand, and which asks for both of its inputs where it is a join
pub pushed-add : (old new : List Node) (node : Node) → new ≡ old ++ node ∷ [] → IsNode (shapes_of old) node → IsPushed old → MayStand old node → IsUnrestricted node → IsPushed new
pushed-add old new node is valid so_far may asks = subst IsPushed (sym is) (record {
  plan = plan-push old node so_far.plan valid;
  pushed = All-push (MayStand (old ++ node ∷ [])) old node each (may_more old (old ++ node ∷ []) so_far.plan grows node valid may);
  unrestricted = All-push IsUnrestricted old node so_far.unrestricted asks;
})
  where
    grows : Grows old (old ++ node ∷ [])
    grows = record { added = node ∷ []; grown = refl }

    each : All (MayStand (old ++ node ∷ [])) old
    each k d below =
        let x = get_or old k d in
        may_more old (old ++ node ∷ []) so_far.plan grows x
        (is-at old k x so_far.plan below (get_or_default old k d x below)).valid (so_far.pushed k d below)

-- a node that is no join looks near no rows, and asks for its inputs
pub other-asks : (node : Node) → ((l r : ℕ) (c : Bool) → node ≡ Cross l r c → ⊥) → ((l r : ℕ) (k : JoinKind) (lc rc : ℕ) (c : Bool) → node ≡ SpanJoin l r k lc rc c → ⊥)
    → ((o s : ℕ) (k : JoinKind) (lc : ℕ) (part : Local) → node ≡ Restricted o s k lc part → ⊥) → IsUnrestricted node
other-asks (Cross l r c) cross join restricted = absurd (cross l r c refl)
other-asks (SpanJoin l r k lc rc c) cross join restricted = absurd (join l r k lc rc c refl)
other-asks (Restricted o s k lc part) cross join restricted = absurd (restricted o s k lc part refl)
other-asks node cross join restricted = tt

-- any node but a selection and a projection may stand anywhere
pub other-stands : (nodes : List Node) (node : Node) → ((i : ℕ) (conds : List Term) → node ≡ Select i conds → ⊥) → ((i : ℕ) (items : List Term) → node ≡ Project i items → ⊥) → MayStand nodes node
other-stands nodes (Select i conds) other another = absurd (other i conds refl)
other-stands nodes (Project i items) other another = absurd (another i items refl)
other-stands nodes node other another = tt

-- ---- above a node

last_node : (old : List Node) (node : Node) → slice_get (old ++ node ∷ []) (length old) ≡ Some node
last_node [] node = refl
last_node (n ∷ old) node = last_node old node

-- above the node that was put last
pub above-last : (old new : List Node) (n : ℕ) (node : Node) (conds : List Term) → n ≡ length old → new ≡ old ++ node ∷ [] → StandAbove new conds (Some node) → StandAbove new conds (slice_get new n)
above-last old new n node conds last is above =
    subst (λ (o : Option Node). StandAbove new conds o) (sym (ap₂ (λ (ns : List Node) (i : ℕ). slice_get ns i) is last ∙ last_node old node)) above

-- above a node that is there
pub above-there : (nodes : List Node) (n : ℕ) (node : Node) (conds : List Term) → n < length nodes → node ≡ get_or nodes n node → StandAbove nodes conds (Some node) → StandAbove nodes conds (slice_get nodes n)
above-there nodes n node conds there is above =
    subst (λ (o : Option Node). StandAbove nodes conds o) (sym (slice_get_read nodes (length nodes) n node refl there is)) above

-- above a join
pub above-join : (old new : List Node) (pair : Pair) (join : Join) (conds : List Term) → Grows old new → pair.left < length old → All (ReadsBoth (width_at old pair.left)) conds
    → StandAbove new conds (Some (join_of_pair pair join))
above-join old new pair join conds grows there both = subst (λ (w : ℕ). All (ReadsBoth w) conds) (sym (width_kept old new pair.left grows there)) both

-- ---- which conditions are span predicates

sides_some : (width : ℕ) (kinds : JoinKind × JoinKind) (a b : ℕ) → AreOfBothSides width a b → join_between width kinds (a, b) ≡ None → ⊥
sides_some width kinds a b (inl h) none = none-some _ (sym none ∙ ap₂ (λ (x y : Bool). join_by_sides x y width kinds (a, b)) (lt-ltb a width h.0) (le-ltb b width h.1))
sides_some width kinds a b (inr h) none = none-some _ (sym none ∙ ap₂ (λ (x y : Bool). join_by_sides x y width kinds (a, b)) (le-ltb a width h.1) (lt-ltb b width h.0))

found_some : (width : ℕ) (o : Op) (a b : ℕ) → IsOfSpans o → AreOfBothSides width a b → join_of width (of_columns o a b) ≡ None → ⊥
found_some width (op.Follows min max) a b spans apart none = sides_some width (kind.Follows min max, kind.FollowsBack min max) a b apart none
found_some width (op.FollowsTok min max) a b spans apart none = sides_some width (kind.FollowsTok min max, kind.FollowsTokBack min max) a b apart none
found_some width op.Overlaps a b spans apart none = sides_some width (kind.Overlaps, kind.Overlaps) a b apart none
found_some width op.Contains a b spans apart none = sides_some width (kind.Contains, kind.ContainsBack) a b apart none
found_some width o a b spans apart none = absurd spans

-- a condition for which no join is found isn't one
pub no_predicate : (width : ℕ) (c : Term) → join_of width c ≡ None → IsSpanPredicate width c → ⊥
no_predicate width c none is = found_some width is.o is.a is.b is.of_spans is.of_both (ap (join_of width) (sym is.is) ∙ none)

-- a condition of both sides that is taken apart is no `And`
no_and : (width : ℕ) (c : Term) → IsApart c → ReadsBoth width c → IsAnd c → ⊥
no_and width (column n) apart both is = is
no_and width (number n) apart both is = is
no_and width (string t) apart both is = is
no_and width (call o no_terms) apart both is = both.right (All-nil (λ n. n < width))
no_and width (call o (more t ts)) apart both is = apart is

-- above a product
pub above-cross : (old new : List Node) (pair : Pair) (conds : List Expr) → Grows old new → pair.left < length old → All (ReadsBoth (width_at old pair.left)) (map term_of conds)
    → All IsApart (map term_of conds) → All (λ (cond : Expr). join_of (width_at old pair.left) (term_of cond) ≡ None) conds → StandAbove new (map term_of conds) (Some (cross_of pair))
above-cross old new pair conds grows there both apart none =
    let w = width_at old pair.left in
    let nones : All (λ (c : Term). join_of w c ≡ None) (map term_of conds) = All-map (λ (c : Term). join_of w c ≡ None) term_of conds none in
    subst (λ (v : ℕ). All (ReadsBothFreely v) (map term_of conds)) (sym (width_kept old new pair.left grows there))
    (λ k d at. record { both = both k d at; no_join = no_predicate w (get_or (map term_of conds) k d) (nones k d at); no_and = no_and w (get_or (map term_of conds) k d) (apart k d at) (both k d at) })

-- ---- which conditions read both sides

not_true : (b : Bool) → not b ≡ true → b ≡ true → ⊥
not_true true p q = true≢false (sym p)
not_true false p q = true≢false (sym q)

-- what is on neither side
pub joint-both : (width : ℕ) (cs : List Term) → All (ReadsBoth width) (joint_conditions width cs)
joint-both width cs =
    let later = later_conditions width cs in
    let below : All (λ (c : Term). not (does_read_below width c) ≡ true) (joint_conditions width cs) =
    All-filter (λ c. not (does_read_from width c)) (λ (c : Term). not (does_read_below width c) ≡ true) later (filter_passes (λ c. not (does_read_below width c)) cs) in
    let from : All (λ (c : Term). not (does_read_from width c) ≡ true) (joint_conditions width cs) = filter_passes (λ c. not (does_read_from width c)) later in
    λ k d at.
    let c = get_or (joint_conditions width cs) k d in
    record {
      left = λ reads. not_true (does_read_from width c) (from k d at) ((does_read_from-is width c).1 reads);
      right = λ reads. not_true (does_read_below width c) (below k d at) ((does_read_below-is width c).1 reads);
    }
