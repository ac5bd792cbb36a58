-- Nodes that are put together anew, one by one: what holds after some of them.
use Rattle.std.proofs.Common.{◌≡◌, ◌∙◌, inl, inr, ℕ, zero, suc, ◌+◌, ◌<◌, ◌≤◌, List, [], ◌∷◌, ◌++◌, map, length, append_assoc, get_or, take, drop, refl, sym, ap, ap₂, subst, arith, Option, Some, None}
use Rattle.std.specs.Prelude.{slice_get}
use Rattle.std.specs.List.{All, range_with_len}
use Rattle.std.specs.Option.{IfSome}
use Rattle.std.proofs.lemmas.Bool.{cases_lt}
use Rattle.std.proofs.lemmas.List.{length-append, map-append, map-id, get_or_append_left, get_or_at}
use Rattle.std.proofs.lemmas.List.Elements.{All-nil, All-cons, All-append}
use Rattle.std.proofs.lemmas.Option.{none-some, same_Some, slice_get_within}
use Rattle.scalar_ops.specs.Expressions.{Term, column}
use Rattle.algebra.specs.declared.node.JoinKind.{JoinKind}
use Rattle.algebra.specs.declared.node.Node.{Node}
use Rattle.algebra.specs.declared.node.Node.TheVariants.{Project, Cross, SpanJoin, Restricted}
use Rattle.algebra.specs.FoldLaws.{length-each}
use Rattle.algebra.specs.Growth.{Stands, IsAt}
use Rattle.algebra.specs.GrowthLaws.{stands-added}
use Rattle.algebra.specs.Inputs.{left_input, right_input, with_inputs, IsAmong}
use Rattle.algebra.specs.Mapping.{every, new_number, IsMapped, KeepsInputs}
use Rattle.algebra.specs.MappingLaws.{mapped-none, mapped-push, node-renamed}
use Rattle.algebra.specs.NodeLaws.{plan-at, split_at}
use Rattle.algebra.specs.Nodes.{IsNode, IsPlan}
use Rattle.algebra.specs.Shapes.{shape_by, no_shape, shapes_of}
use Rattle.restrict_eval.specs.declared.nearness.Near.{Near}
use Rattle.restrict_eval.specs.Nears.{IsRestriction, IsFate}
use Rattle.restrict_eval.specs.Putting.{beside, width_at, near_nodes, put_for, MayPut}
use Rattle.restrict_eval.specs.Rebuilding.{made_conditional, taken_over, IsNearJoin, IsLeft, IsStood, IsFor, IsRestrictedFrom}
use Rattle.restrict_eval.specs.Rebuilding as words
use Rattle.restrict_eval.specs.Restricting.{IsConditional, AreConditional, ShowsMatch, IsRestrictable}
use Rattle.restrict_eval.proofs.Fates.{restrictable}
use Rattle.restrict_eval.specs.TakenLaws.{carried, with_inputs-agree, carried_conditional}
use Rattle.restrict_eval.proofs.Nearing.{at, finds_below, source_below, near_below, near_valid, near_stands}

-- the nodes so far of a plan, and what stands for them
pub record IsBuilt (old : List Node) (outputs : List ℕ) (front new : List Node) (to : List ℕ) : Type 0 where
  pub mapped : IsMapped every front new to
  pub stood : (i : ℕ) (node : Node) → slice_get old i ≡ Some node → i < length to → IsStood old outputs new to i node
  pub rising : (i k : ℕ) → i < k → k < length to → new_number to i < new_number to k
  pub from : (m : ℕ) → m < length new → IsFor old outputs new to m
  pub conditional : AreConditional new

pub built_none : (old : List Node) (outputs : List ℕ) → IsBuilt old outputs [] [] []
built_none old outputs = record {
  mapped = mapped-none every [];
  stood = λ i node is below. absurd (omega (arith, below));
  rising = λ i k lower below. absurd (omega (arith, below));
  from = λ m below. absurd (omega (arith, below));
  conditional = All-nil IsConditional;
}

-- ---- lists

pub get_front : {X : Type 0} (xs ys : List X) (m : ℕ) (x : X) → slice_get xs m ≡ Some x → slice_get (xs ++ ys) m ≡ Some x
get_front [] ys m x e = absurd (none-some x e)
get_front (y ∷ xs) ys zero x e = e
get_front (y ∷ xs) ys (suc m) x e = get_front xs ys m x e

get_behind : {X : Type 0} (xs : List X) (y : X) (ys : List X) → slice_get (xs ++ y ∷ ys) (length xs) ≡ Some y
get_behind [] y ys = refl
get_behind (x ∷ xs) y ys = get_behind xs y ys

get_next : {X : Type 0} (xs : List X) (y z : X) (ys : List X) → slice_get (xs ++ y ∷ z ∷ ys) (length xs + 1) ≡ Some z
get_next xs y z ys =
    let whole : xs ++ y ∷ z ∷ ys ≡ (xs ++ y ∷ []) ++ z ∷ ys = sym (append_assoc xs (y ∷ []) (z ∷ ys)) in
    let n : length xs + 1 ≡ length (xs ++ y ∷ []) = omega (arith, length-append xs (y ∷ [])) in
    ap₂ (λ (zs : List _) (k : ℕ). slice_get zs k) whole n ∙ get_behind (xs ++ y ∷ []) z ys

-- the plan, where some of its nodes were taken
pub taken : (nodes yielded : List Node) (node : Node) → map (λ x. x) yielded ≡ take (length yielded) nodes → length yielded < length nodes → node ≡ get_or nodes (length yielded) node
    → nodes ≡ yielded ++ node ∷ drop (length yielded + 1) nodes
taken nodes yielded node so_far below is =
    let i = length yielded in
    let front : take i nodes ≡ yielded = sym so_far ∙ map-id yielded in
    split_at nodes i node below is ∙ ap (λ (xs : List Node). xs ++ node ∷ drop (i + 1) nodes) front

-- ---- conditional joins mean the same

valid_conditional : (shapes : List _) (x : Node) → IsNode shapes x → IsNode shapes (made_conditional x)
valid_conditional shapes (Cross l r conditional) valid = record { left_below = valid.left_below; right_below = valid.right_below; made = valid.made }
valid_conditional shapes (SpanJoin l r join lc rc conditional) valid = record { left_below = valid.left_below; right_below = valid.right_below; made = valid.made }
valid_conditional shapes x valid = valid

stands_conditional : (new later : List Node) (n : ℕ) (x : Node) → Stands new later n (made_conditional x) → Stands new later n x
stands_conditional new later n (Cross l r conditional) stands = record { grows = stands.grows; has = stands.has }
stands_conditional new later n (SpanJoin l r join lc rc conditional) stands = record { grows = stands.grows; has = stands.has }
stands_conditional new later n x stands = stands

-- the node that is put may be put
pub conditional_valid : (nodes : List Node) (to : List ℕ) (node : Node) → IsNode (shapes_of nodes) (with_inputs (new_number to) node) → IsNode (shapes_of nodes) (carried (new_number to) node)
conditional_valid nodes to node valid = valid_conditional (shapes_of nodes) (with_inputs (new_number to) node) valid

every_input : (o : Option ℕ) → IfSome o every
every_input None = tt
every_input (Some i) = tt

every_kept : (node : Node) → KeepsInputs every node
every_kept node = record { left = every_input (left_input node); right = every_input (right_input node) }

module _ (old : List Node) (outputs : List ℕ) (front new : List Node) (to : List ℕ) (node : Node) (rest : List Node) (whole : old ≡ front ++ node ∷ rest) (plan : IsPlan old) (built : IsBuilt old outputs front new to) where
  abbrev j : ℕ
  j = length front

  abbrev look : ℕ → ℕ
  look i = new_number to i

  long : length to ≡ j
  long = built.mapped.long

  valid : IsNode (shapes_of front) node
  valid = plan-at front node rest (subst IsPlan whole plan)

  node_at : slice_get old j ≡ Some node
  node_at = ap (λ (nodes : List Node). slice_get nodes j) whole ∙ get_behind front node rest

  among_to : (o : Option ℕ) → IsAmong (length (shapes_of front)) o → IsAmong (length to) o
  among_to o among = subst (λ (k : ℕ). IsAmong k o) (length-each no_shape shape_by front ∙ sym long) among

  -- of a join whose right rows can be looked for
  join_at : (near : Near) (is : IsRestriction old outputs j near) → IsAt old j (SpanJoin is.left is.right is.kind is.lc is.rc is.conditional)
  join_at near is = at old plan j (SpanJoin is.left is.right is.kind is.lc is.rc is.conditional) is.is

  node_join : (near : Near) (is : IsRestriction old outputs j near) → node ≡ SpanJoin is.left is.right is.kind is.lc is.rc is.conditional
  node_join near is = same_Some node (SpanJoin is.left is.right is.kind is.lc is.rc is.conditional) (sym node_at ∙ is.is)

  -- ---- the node may be put

  pub may_put : (fate : Option Near) → IsFate old outputs j fate → MayPut new to fate node
  may_put None is = (
    node-renamed every front new to built.mapped node valid (every_kept node),
    among_to (left_input node) valid.left_below,
    among_to (right_input node) valid.right_below,
  )
  may_put (Some near) is =
      let at_join = join_at near is in
      let left : is.left < j = at_join.left_lower in
      let right : is.right < j = at_join.right_lower in
      let source : near.source < is.right = source_below old plan is.right is.rc near is.is_near in
      subst (λ (x : Node). MayPut new to (Some near) x) (sym (node_join near is)) (
        near_valid old front new to node rest whole plan built.mapped is.left is.right is.lc is.rc is.kind is.conditional at_join near is.is_near,
        omega (arith, left, long),
        omega (arith, source, right, long),
        near_below old plan is.right is.rc near is.is_near,
      )

  -- ---- what stands for the nodes so far, when more is put

  module _ (later : List Node) (n : ℕ) (fate : Option Near) (is_fate : IsFate old outputs j fate) (added : later ≡ new ++ put_for new to fate node) (last : n + 1 ≡ length later) where
    abbrev more : List ℕ
    more = to ++ n ∷ []

    look_kept : (i : ℕ) → i < length to → new_number more i ≡ new_number to i
    look_kept i below = get_or_append_left to (n ∷ []) 0 i below

    look_last : new_number more j ≡ n
    look_last = get_or_at to n [] 0 j long

    there_later : (m : ℕ) (x : Node) → slice_get new m ≡ Some x → slice_get later m ≡ Some x
    there_later m x is = ap (λ (nodes : List Node). slice_get nodes m) added ∙ get_front new (put_for new to fate node) m x is

    carried_same : (x : Node) → IsAmong (length to) (left_input x) → IsAmong (length to) (right_input x) → carried (new_number to) x ≡ carried (new_number more) x
    carried_same x left right = ap made_conditional (with_inputs-agree (length to) (new_number to) (new_number more) (λ i below. sym (look_kept i below)) x left right)

    lower_among : (k : ℕ) (o : Option ℕ) → k ≤ length to → IsAmong k o → IsAmong (length to) o
    lower_among k None below among = tt
    lower_among k (Some i) below among = omega (arith, below, among)

    match_below : (t right rc : ℕ) → ShowsMatch old t right rc → t ≤ right
    match_below t right rc (inl same) = omega (arith, same.0)
    match_below t right rc (inr part) = let below : t < right = (at old plan right (Project t (map column part.0)) part.1).left_lower in omega (arith, below)

    source_among : (i right rc : ℕ) → right < i → i ≤ length to → (may : IsRestrictable old outputs i right rc) → may.found.source < length to
    source_among i right rc lower below may =
        let source : may.found.source < may.t = finds_below old plan may.t may.found.source may.found.part may.found.finds in
        let base : may.t ≤ right = match_below may.t right rc may.match in
        omega (arith, source, base, lower, below)

    near_later : (i m m' : ℕ) → i < length to → m ≡ m' → IsNearJoin old outputs new to i m → IsNearJoin old outputs later more i m'
    near_later i m m' below same is =
        let at_join = at old plan i (SpanJoin is.left is.right is.kind is.lc is.rc is.conditional) is.is in
        let left : is.left < i = at_join.left_lower in
        let right : is.right < i = at_join.right_lower in
        let left_is : new_number to is.left ≡ new_number more is.left = sym (look_kept is.left (omega (arith, left, below))) in
        let source_is : new_number to is.may.found.source ≡ new_number more is.may.found.source = sym (look_kept is.may.found.source (source_among i is.right is.rc right (omega (arith, below)) is.may)) in
        record {
          left = is.left;
          right = is.right;
          kind = is.kind;
          lc = is.lc;
          rc = is.rc;
          conditional = is.conditional;
          is = is.is;
          live = is.live;
          may = is.may;
          at = ap (slice_get later) (sym same)
              ∙ (there_later m (Restricted (new_number to is.left) (new_number to is.may.found.source) is.kind is.lc is.may.found.part) is.at
              ∙ ap₂ (λ (o s : ℕ). Some (Restricted o s is.kind is.lc is.may.found.part)) left_is source_is);
        }

    stood_later : (i : ℕ) (x : Node) → slice_get old i ≡ Some x → i < length to → IsStood old outputs new to i x → IsStood old outputs later more i x
    stood_later i x is below (words.same left stands) =
        let at_x = at old plan i x is in
        words.same left
        (ap (slice_get later) (look_kept i below)
        ∙ (there_later (new_number to i) (carried (new_number to) x) stands
        ∙ ap (λ (y : Node). Some y) (carried_same x (lower_among i (left_input x) (omega (arith, below)) at_x.left_lower) (lower_among i (right_input x) (omega (arith, below)) at_x.right_lower))))
    stood_later i x is below (words.near near) = words.near (near_later i (new_number to i) (new_number more i) below (sym (look_kept i below)) near)
    stood_later i x is below (words.shown m columns near above stands) =
        words.shown m columns (near_later i m m below refl near) (look_kept i below ∙ above)
        (ap (slice_get later) (look_kept i below) ∙ there_later (new_number to i) (Project m (map column columns)) stands)

    for_later : (m : ℕ) → IsFor old outputs new to m → IsFor old outputs later more m
    for_later m (words.itself i below is) = words.itself i (omega (arith, below, length-append to (n ∷ []))) (is ∙ sym (look_kept i below))
    for_later m (words.below i cs below near above stands) =
        words.below i cs (omega (arith, below, length-append to (n ∷ []))) (near_later i m m below refl near) (look_kept i below ∙ above)
        (ap (slice_get later) (look_kept i below) ∙ there_later (new_number to i) (Project m (map column cs)) stands)

    -- ---- what is put

    stands_put : (f : Option Near) → IsFate old outputs j f → later ≡ new ++ put_for new to f node → Stands new later n (with_inputs (new_number to) node)
    stands_put None is put =
        let n_is : n ≡ length new = omega (arith, last, ap length put, length-append new (carried (new_number to) node ∷ [])) in
        stands_conditional new later n (with_inputs (new_number to) node) (stands-added new later n (carried (new_number to) node) n_is put)
    stands_put (Some near) is put =
        let join = node_join near is in
        subst (λ (x : Node). Stands new later n (with_inputs (new_number to) x)) (sym join)
        (near_stands old front new to node rest whole plan built.mapped is.left is.right is.lc is.rc is.kind is.conditional (join_at near is) near is.is_near later n
        (put ∙ ap (λ (x : Node). new ++ put_for new to (Some near) x) join) last)

    -- the restricted join, where it stands
    near_put : (near : Near) (is : IsRestriction old outputs j near) (m : ℕ)
        → slice_get later m ≡ Some (Restricted (new_number to is.left) (new_number to near.source) is.kind is.lc near.sought) → IsNearJoin old outputs later more j m
    near_put near is m stands =
        let at_join = join_at near is in
        let left : is.left < j = at_join.left_lower in
        let right : is.right < j = at_join.right_lower in
        let source : near.source < is.right = source_below old plan is.right is.rc near is.is_near in
        let source_is : new_number to near.source ≡ new_number more near.source = sym (look_kept near.source (omega (arith, source, right, long))) in
        record {
          left = is.left;
          right = is.right;
          kind = is.kind;
          lc = is.lc;
          rc = is.rc;
          conditional = is.conditional;
          is = is.is;
          live = is.live;
          may = restrictable old outputs j near is;
          at = stands ∙ ap₂ (λ (o s : ℕ). Some (Restricted o s is.kind is.lc near.sought)) (sym (look_kept is.left (omega (arith, left, long)))) source_is;
        }

    -- the columns above it, where they stand
    abbrev columns_put : ℕ → List ℕ → List ℕ
    columns_put width cs = range_with_len 0 width ++ map (λ c. width + c) cs

    above_put : (near : Near) (is : IsRestriction old outputs j near) (cs : List ℕ)
        → later ≡ new ++ near_nodes new (new_number to is.left) (Restricted (new_number to is.left) (new_number to near.source) is.kind is.lc near.sought) (Some cs)
        → (new_number more j ≡ length new + 1) × (slice_get later (new_number more j) ≡ Some (Project (length new) (map column (columns_put (width_at new (new_number to is.left)) cs))))
    above_put near is cs put =
        let join = Restricted (new_number to is.left) (new_number to near.source) is.kind is.lc near.sought in
        let width = width_at new (new_number to is.left) in
        let above = Project (length new) (beside width cs) in
        let n_is : new_number more j ≡ length new + 1 = look_last ∙ omega (arith, last, ap length put, length-append new (join ∷ above ∷ [])) in
        let are : beside width cs ≡ map column (columns_put width cs) = sym (map-append column (range_with_len 0 width) (map (λ c. width + c) cs)) in (
          n_is,
          ap (slice_get later) n_is ∙ (ap (λ (nodes : List Node). slice_get nodes (length new + 1)) put ∙ (get_next new join above [] ∙ ap (λ (items : List Term). Some (Project (length new) items)) are)),
        )

    stood_near : (near : Near) (is : IsRestriction old outputs j near) (shown : Option (List ℕ))
        → later ≡ new ++ near_nodes new (new_number to is.left) (Restricted (new_number to is.left) (new_number to near.source) is.kind is.lc near.sought) shown → IsStood old outputs later more j node
    stood_near near is None put =
        let join = Restricted (new_number to is.left) (new_number to near.source) is.kind is.lc near.sought in
        let n_is : new_number more j ≡ length new = look_last ∙ omega (arith, last, ap length put, length-append new (join ∷ [])) in
        words.near (near_put near is (new_number more j) (ap (slice_get later) n_is ∙ (ap (λ (nodes : List Node). slice_get nodes (length new)) put ∙ get_behind new join [])))
    stood_near near is (Some cs) put =
        let join = Restricted (new_number to is.left) (new_number to near.source) is.kind is.lc near.sought in
        let width = width_at new (new_number to is.left) in
        let stands = above_put near is cs put in
        words.shown (length new) (columns_put width cs)
        (near_put near is (length new) (ap (λ (nodes : List Node). slice_get nodes (length new)) put ∙ get_behind new join (Project (length new) (beside width cs) ∷ [])))
        stands.0 stands.1

    put_near : (near : Near) (is : IsRestriction old outputs j near) → later ≡ new ++ put_for new to (Some near) node
        → later ≡ new ++ near_nodes new (new_number to is.left) (Restricted (new_number to is.left) (new_number to near.source) is.kind is.lc near.sought) near.columns
    put_near near is put = put ∙ ap (λ (x : Node). new ++ put_for new to (Some near) x) (node_join near is)

    stood_put : (f : Option Near) → IsFate old outputs j f → later ≡ new ++ put_for new to f node → IsStood old outputs later more j node
    stood_put None is put =
        let n_is : new_number more j ≡ length new = look_last ∙ omega (arith, last, ap length put, length-append new (carried (new_number to) node ∷ [])) in
        words.same (λ l r lc rc kind conditional e. is l r lc rc kind conditional (node_at ∙ ap (λ (x : Node). Some x) e))
        (ap (slice_get later) n_is
        ∙ (ap (λ (nodes : List Node). slice_get nodes (length new)) put
        ∙ (get_behind new (carried (new_number to) node) []
        ∙ ap (λ (y : Node). Some y) (carried_same node (among_to (left_input node) valid.left_below) (among_to (right_input node) valid.right_below)))))
    stood_put (Some near) is put = stood_near near is near.columns (put_near near is put)

    -- for which node it is there
    for_near : (near : Near) (is : IsRestriction old outputs j near) (shown : Option (List ℕ))
        → later ≡ new ++ near_nodes new (new_number to is.left) (Restricted (new_number to is.left) (new_number to near.source) is.kind is.lc near.sought) shown
        → (m : ℕ) → length new ≤ m → m < length later → IsFor old outputs later more m
    for_near near is None put m least below =
        let join = Restricted (new_number to is.left) (new_number to near.source) is.kind is.lc near.sought in
        words.itself j (omega (arith, long, length-append to (n ∷ []))) (omega (arith, least, below, last, ap length put, length-append new (join ∷ []), look_last))
    for_near near is (Some cs) put m least below =
        let join = Restricted (new_number to is.left) (new_number to near.source) is.kind is.lc near.sought in
        let above = Project (length new) (beside (width_at new (new_number to is.left)) cs) in
        let two : length later ≡ length new + 2 = omega (arith, ap length put, length-append new (join ∷ above ∷ [])) in
        elim (cases_lt (length new) m) [
          | inl behind ↦ words.itself j (omega (arith, long, length-append to (n ∷ []))) (omega (arith, behind, below, last, two, look_last))
          | inr first ↦
              let same : m ≡ length new = omega (arith, first, least) in
              let stands = above_put near is cs put in
              words.below j (columns_put (width_at new (new_number to is.left)) cs) (omega (arith, long, length-append to (n ∷ [])))
              (near_put near is m (ap (slice_get later) same ∙ (ap (λ (nodes : List Node). slice_get nodes (length new)) put ∙ get_behind new join (above ∷ []))))
              (omega (arith, same, last, two, look_last))
              (stands.1 ∙ ap (λ (k : ℕ). Some (Project k (map column (columns_put (width_at new (new_number to is.left)) cs)))) (sym same))
        ]

    for_put : (f : Option Near) → IsFate old outputs j f → later ≡ new ++ put_for new to f node → (m : ℕ) → length new ≤ m → m < length later → IsFor old outputs later more m
    for_put None is put m least below =
        words.itself j (omega (arith, long, length-append to (n ∷ []))) (omega (arith, least, below, last, ap length put, length-append new (carried (new_number to) node ∷ []), look_last))
    for_put (Some near) is put m least below = for_near near is near.columns (put_near near is put) m least below

    shown_conditional : (outer : ℕ) (o s lc : ℕ) (kind : JoinKind) (part : _) (shown : Option (List ℕ)) → All IsConditional (near_nodes new outer (Restricted o s kind lc part) shown)
    shown_conditional outer o s lc kind part None = All-cons IsConditional (Restricted o s kind lc part) [] tt (All-nil IsConditional)
    shown_conditional outer o s lc kind part (Some cs) =
        let above = Project (length new) (beside (width_at new outer) cs) in
        All-cons IsConditional (Restricted o s kind lc part) (above ∷ []) tt (All-cons IsConditional above [] tt (All-nil IsConditional))

    put_conditional : (f : Option Near) → IsFate old outputs j f → All IsConditional (put_for new to f node)
    put_conditional None is = All-cons IsConditional (carried (new_number to) node) [] (carried_conditional (new_number to) node) (All-nil IsConditional)
    put_conditional (Some near) is =
        subst (λ (x : Node). All IsConditional (put_for new to (Some near) x)) (sym (node_join near is))
        (shown_conditional (new_number to is.left) (new_number to is.left) (new_number to near.source) is.lc is.kind near.sought near.columns)

    -- ---- one node more

    more_long : length more ≡ j + 1
    more_long = omega (arith, long, length-append to (n ∷ []))

    grown_long : length new ≤ length later
    grown_long = omega (arith, ap length added, length-append new (put_for new to fate node))

    least_near : (near : Near) (is : IsRestriction old outputs j near) (shown : Option (List ℕ))
        → later ≡ new ++ near_nodes new (new_number to is.left) (Restricted (new_number to is.left) (new_number to near.source) is.kind is.lc near.sought) shown → length new ≤ n
    least_near near is None put = omega (arith, last, ap length put, length-append new (Restricted (new_number to is.left) (new_number to near.source) is.kind is.lc near.sought ∷ []))
    least_near near is (Some cs) put =
        omega (arith, last, ap length put, length-append new (Restricted (new_number to is.left) (new_number to near.source) is.kind is.lc near.sought ∷ Project (length new) (beside (width_at new (new_number to is.left)) cs) ∷ []))

    least_put : (f : Option Near) → IsFate old outputs j f → later ≡ new ++ put_for new to f node → length new ≤ n
    least_put None is put = omega (arith, last, ap length put, length-append new (carried (new_number to) node ∷ []))
    least_put (Some near) is put = least_near near is near.columns (put_near near is put)

    rising_more : (i k : ℕ) → i < k → k < length more → new_number more i < new_number more k
    rising_more i k lower below = elim (cases_lt k (length to)) [
      | inl inside ↦
          omega (arith, look_kept i (omega (arith, lower, inside)), look_kept k inside, built.rising i k lower inside)
      | inr past ↦
          let at_end : k ≡ j = omega (arith, past, below, more_long, long) in
          let there : new_number to i < length new = built.mapped.there i (omega (arith, lower, at_end, long)) tt in
          let last_is : new_number more k ≡ n = ap (new_number more) at_end ∙ look_last in
          omega (arith, look_kept i (omega (arith, lower, at_end, long)), there, last_is, least_put fate is_fate added)
    ]

    stood_more : (i : ℕ) (x : Node) → slice_get old i ≡ Some x → i < length more → IsStood old outputs later more i x
    stood_more i x is below = elim (cases_lt i (length to)) [
      | inl inside ↦ stood_later i x is inside (built.stood i x is inside)
      | inr past ↦
          let at_end : i ≡ j = omega (arith, past, below, more_long, long) in
          let same : node ≡ x = same_Some node x (sym node_at ∙ (ap (slice_get old) (sym at_end) ∙ is)) in
          subst (λ (k : ℕ). IsStood old outputs later more k x) (sym at_end) (subst (λ (y : Node). IsStood old outputs later more j y) same (stood_put fate is_fate added))
    ]

    pub one_more : IsBuilt old outputs (front ++ node ∷ []) later more
    one_more = record {
      mapped = mapped-push every front new to built.mapped node later n valid (every_kept node) (stands_put fate is_fate added);
      stood = stood_more;
      rising = rising_more;
      from = λ m below. elim (cases_lt m (length new)) [
        | inl inside ↦ for_later m (built.from m inside)
        | inr past ↦ for_put fate is_fate added m past below
      ];
      conditional = subst AreConditional (sym added) (All-append IsConditional new (put_for new to fate node) built.conditional (put_conditional fate is_fate));
    }

-- all of them
pub built_all : (old : List Node) (outputs : List ℕ) (new : List Node) (to : List ℕ) → IsBuilt old outputs old new to → IsRestrictedFrom old outputs new to
built_all old outputs new to built = record {
  mapped = built.mapped;
  stood = λ i node is. built.stood i node is (omega (arith, slice_get_within old i node is, built.mapped.long));
  rising = built.rising;
  from = built.from;
}
