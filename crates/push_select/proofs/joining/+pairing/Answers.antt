use Rattle.std.proofs.Common.{◌≡◌, ◌∙◌, ℕ, ◌+◌, ◌<◌, List, ◌++◌, map, refl, sym, ap, ap₂, subst, arith}
use Rattle.std.specs.List.{All, range_with_len}
use Rattle.scalar_ops.specs.declared.expr.Expr.{Expr}
use Rattle.scalar_ops.specs.Expressions.{Term, column, ReadsBelow, renamed}
use Rattle.scalar_ops.specs.Views.{term_of}
use Rattle.algebra.specs.declared.node.Node.{Node}
use Rattle.algebra.specs.declared.node.Node.TheVariants.{Project}
use Rattle.algebra.specs.declared.shape.Shape.{Shape}
use Rattle.algebra.specs.Growth.{Stands, IsAt}
use Rattle.algebra.specs.Nodes.{IsNode}
use Rattle.algebra.specs.Shapes.{shapes_of}
use Rattle.push_select.specs.Conditions.{IsApart, AreTurns}
use Rattle.push_select.specs.Replacing.{all_pairs, behind_of, columns_swapped, IsBelow, Combines}
use Rattle.push_select.specs.Pushed.{width_at, ReadsBoth}
use Rattle.push_select.proofs.ExprViews.{named-terms}
use Rattle.push_select.proofs.Going.{name_in}
use Rattle.push_select.proofs.Replacing.{node_there}
use Rattle.push_select.proofs.Reordering.{turns_at, later_of, behind-reads, behind-joint, behind-apart, front-valid, front-reads, front-joint, front-apart, turned-combines, three-behind, three-reads, three-joint, three-combines}
use Rattle.push_select.proofs.Showing.{shown-reads, shown-joint, shown-apart, shown-valid, shown-combines, columns-shows, swapped-shows, swapped-further, swapped-front, swapped-behind}
use Rattle.push_select.proofs.joining.+pairing.Goals as goal

-- ---- by what the left node is

pub paired-get-requires : goal.paired-get-requires
paired-get-requires t c = record { in_range = node_there c.args.nodes.now c.args.pair.left c.requires.both.left_below }

pub paired-three_paired-requires : goal.paired-three_paired-requires
paired-three_paired-requires t c = (
  omega arith,
  (
    subst (λ (node : Node). IsAt c.args.nodes.now c.args.pair.left node) (subst (IsBelow c.get.result.now) c.in-Product.is c.in_ok-below.ensures) c.get.ensures.at,
    (c.requires.both, (c.requires.reads, (c.requires.joint, (c.requires.apart, c.requires.pushed)))),
  ),
)

pub paired-columns_paired-requires : goal.paired-columns_paired-requires
paired-columns_paired-requires t c = (
  omega arith,
  (
    subst (λ (node : Node). IsAt c.args.nodes.now c.args.pair.left node) (subst (IsBelow c.get.result.now) c.in-Columns.is c.in_ok-below.ensures) c.get.ensures.at,
    (c.requires.both, (c.requires.reads, (c.requires.joint, (c.requires.apart, c.requires.pushed)))),
  ),
)

-- ---- a product of three

pub three_paired-shape-first-requires : goal.three_paired-shape-first-requires
three_paired-shape-first-requires t c = record { in_range = node_there c.args.nodes.now c.args.inner.left c.requires.at.valid.left_below }

pub three_paired-shape-width-requires : goal.three_paired-shape-width-requires
three_paired-shape-width-requires t c = record { in_range = node_there c.args.nodes.now c.args.pair.left c.requires.both.left_below }

pub three_paired-turned-requires : goal.three_paired-turned-requires
three_paired-turned-requires t c =
    let left : c.args.inner.left < c.args.pair.left = c.requires.at.left_lower in
    let right : c.args.inner.right < c.args.pair.left = c.requires.at.right_lower in (
      omega (arith, left, right),
      (
        c.requires.at.valid,
        (
          three-behind c.args.nodes.now c.args.pair c.args.inner c.requires.at c.requires.both,
          (
            three-reads c.args.nodes.now c.args.pair c.args.inner c.requires.at c.requires.both (map term_of c.args.conds.items) c.requires.reads,
            (three-joint c.args.nodes.now c.args.pair c.args.inner c.requires.at c.requires.both (map term_of c.args.conds.items) c.requires.joint, (c.requires.apart, c.requires.pushed)),
          ),
        ),
      ),
    )

pub three_paired-swapped-requires : goal.three_paired-swapped-requires
three_paired-swapped-requires t c = (omega arith, (c.requires.at, (c.requires.both, (c.requires.reads, (c.requires.joint, (c.requires.apart, c.requires.pushed))))))

pub three_paired-returns-in_ok-n-clause-combines : goal.three_paired-returns-in_ok-n-clause-combines
three_paired-returns-in_ok-n-clause-combines t c =
    three-combines c.args.nodes.now c.args.pair c.args.inner c.requires.at c.requires.both (map term_of c.args.conds.items) c.turned.new.nodes c.in_ok-n.n c.in_ok-n.ensures.combines

-- ---- the last two of three nodes first

pub turned-shape-width-requires : goal.turned-shape-width-requires
turned-shape-width-requires t c = record { in_range = node_there c.args.nodes.now c.args.three.first c.requires.front.left_below }

pub turned-paired-requires : goal.turned-paired-requires
turned-paired-requires t c =
    let turns = turns_at c.args.nodes.now c.args.three.first c.shape-width.result (map term_of c.as_slice.result.now) c.in_ok-turns.turns c.shape-width.ensures c.in_ok-turns.ensures in
    let are : AreTurns (width_at c.args.nodes.now c.args.three.first) (map term_of c.args.conds.items) c.in_ok-turns.turns =
    subst (λ (es : List Expr). AreTurns (width_at c.args.nodes.now c.args.three.first) (map term_of es) c.in_ok-turns.turns) c.as_slice.ensures.value turns in (
      omega arith,
      (
        c.requires.behind,
        (
          subst (All (ReadsBelow _)) (sym are.later) (behind-reads c.args.nodes.now c.args.three c.requires.pushed.plan c.requires.front c.requires.behind (map term_of c.args.conds.items) c.requires.reads c.requires.joint c.requires.apart),
          (
            subst (All (ReadsBoth _)) (sym are.later) (behind-joint c.args.nodes.now c.args.three c.requires.pushed.plan c.requires.front c.requires.behind (map term_of c.args.conds.items) c.requires.reads c.requires.joint c.requires.apart),
            (
              subst (λ (cs : List Term). All IsApart cs) (sym are.later) (behind-apart c.args.nodes.now c.args.three c.requires.pushed.plan c.requires.front c.requires.behind (map term_of c.args.conds.items) c.requires.reads c.requires.joint c.requires.apart),
              c.requires.pushed,
            ),
          ),
        ),
      ),
    )

pub turned-paired-requires-2 : goal.turned-paired-requires-2
turned-paired-requires-2 t c =
    let turns = turns_at c.args.nodes.now c.args.three.first c.shape-width.result (map term_of c.as_slice.result.now) c.in_ok-turns.turns c.shape-width.ensures c.in_ok-turns.ensures in
    let are : AreTurns (width_at c.args.nodes.now c.args.three.first) (map term_of c.args.conds.items) c.in_ok-turns.turns =
    subst (λ (es : List Expr). AreTurns (width_at c.args.nodes.now c.args.three.first) (map term_of es) c.in_ok-turns.turns) c.as_slice.ensures.value turns in
    let near : Combines c.args.nodes.now c.paired.new.nodes (behind_of c.args.three) c.in_ok-right.right all_pairs (later_of (width_at c.args.nodes.now c.args.three.first) (map term_of c.args.conds.items)) =
    subst (λ (cs : List Term). Combines c.args.nodes.now c.paired.new.nodes (behind_of c.args.three) c.in_ok-right.right all_pairs cs) are.later c.in_ok-right.ensures.combines in (
      omega arith,
      (
        front-valid c.args.nodes.now c.args.three c.requires.pushed.plan c.requires.front c.requires.behind (map term_of c.args.conds.items) c.requires.reads c.requires.joint c.requires.apart c.paired.new.nodes c.in_ok-right.right near,
        (
          subst (All (ReadsBelow _)) (sym are.others) (front-reads c.args.nodes.now c.args.three c.requires.pushed.plan c.requires.front c.requires.behind (map term_of c.args.conds.items) c.requires.reads c.requires.joint c.requires.apart c.paired.new.nodes c.in_ok-right.right near),
          (
            subst (All (ReadsBoth _)) (sym are.others) (front-joint c.args.nodes.now c.args.three c.requires.pushed.plan c.requires.front c.requires.behind (map term_of c.args.conds.items) c.requires.reads c.requires.joint c.requires.apart c.paired.new.nodes c.in_ok-right.right near),
            (
              subst (λ (cs : List Term). All IsApart cs) (sym are.others) (front-apart c.args.nodes.now c.args.three c.requires.pushed.plan c.requires.front c.requires.behind (map term_of c.args.conds.items) c.requires.reads c.requires.joint c.requires.apart c.paired.new.nodes c.in_ok-right.right near),
              c.in_ok-right.ensures.pushed,
            ),
          ),
        ),
      ),
    )

pub turned-returns-clause-combines : goal.turned-returns-clause-combines
turned-returns-clause-combines t c =
    let turns = turns_at c.args.nodes.now c.args.three.first c.shape-width.result (map term_of c.as_slice.result.now) c.in_ok-turns.turns c.shape-width.ensures c.in_ok-turns.ensures in
    let are : AreTurns (width_at c.args.nodes.now c.args.three.first) (map term_of c.args.conds.items) c.in_ok-turns.turns =
    subst (λ (es : List Expr). AreTurns (width_at c.args.nodes.now c.args.three.first) (map term_of es) c.in_ok-turns.turns) c.as_slice.ensures.value turns in
    let near : Combines c.args.nodes.now c.paired.new.nodes (behind_of c.args.three) c.in_ok-right.right all_pairs (later_of (width_at c.args.nodes.now c.args.three.first) (map term_of c.args.conds.items)) =
    subst (λ (cs : List Term). Combines c.args.nodes.now c.paired.new.nodes (behind_of c.args.three) c.in_ok-right.right all_pairs cs) are.later c.in_ok-right.ensures.combines in
    turned-combines c.args.nodes.now c.args.three c.requires.pushed.plan c.requires.front c.requires.behind (map term_of c.args.conds.items) c.requires.reads c.requires.joint c.requires.apart c.paired.new.nodes c.in_ok-right.right near c.paired-2.new.nodes c.in_ok-n.n
    (subst (λ (cs : List Term). Combines c.paired.new.nodes c.paired-2.new.nodes (record { left = c.args.three.first; right = c.in_ok-right.right }) c.in_ok-n.n all_pairs cs) are.others c.in_ok-n.ensures.combines)

-- ---- the first and the third of three nodes first

pub swapped-shape-requires : goal.swapped-shape-requires
swapped-shape-requires t c = record { in_range = node_there c.args.nodes.now c.args.pair.right c.requires.both.right_below }

pub swapped-turned-requires : goal.swapped-turned-requires
swapped-turned-requires t c =
    let left : c.args.inner.left < c.args.pair.left = c.requires.at.left_lower in
    let right : c.args.inner.right < c.args.pair.left = c.requires.at.right_lower in
    let old = c.args.nodes.now in
    let first = width_at old c.args.inner.left in
    let second = width_at old c.args.inner.right in
    let all = c.push_numbers.new.numbers.items in
    let pushed : all ≡ columns_swapped first second ++ range_with_len (second + first) (width_at old c.args.pair.right) =
    swapped-further old c.args.pair c.args.inner c.requires.at c.requires.both all
    (c.in_ok-push_numbers.ensures
    ∙ (ap (λ (ns : List ℕ). ns ++ range_with_len c.shape-width.result.width c.shape.result.width)
    (c.in_ok-shown.ensures ∙ ap₂ (λ (s x : Shape). columns_swapped s.width x.width) c.shape-first.ensures c.shape-second.ensures)
    ∙ ap₂ (λ (s x : Shape). columns_swapped first second ++ range_with_len s.width x.width) c.shape-width.ensures c.shape.ensures)) in
    let named : map term_of c.in_ok-below.below.items ≡ map (renamed (name_in all)) (map term_of c.args.conds.items) =
    named-terms c.as_slice-2.result.now all c.as_slice.result.now c.in_ok-below.below.items (map term_of c.args.conds.items) (map term_of c.in_ok-below.below.items) c.as_slice-2.ensures.value (ap (map term_of) c.as_slice.ensures.value) c.in_ok-below.ensures refl in (
      omega (arith, left, right),
      (
        swapped-front old c.args.pair c.args.inner c.requires.at c.requires.both,
        (
          swapped-behind old c.args.pair c.args.inner c.requires.at c.requires.both,
          (
            shown-reads old c.args.pair c.requires.pushed.plan (columns_swapped first second) (second + first) _ (swapped-shows old c.args.pair c.args.inner c.requires.at c.requires.both) (map term_of c.args.conds.items) c.requires.reads c.requires.joint c.requires.apart all pushed (map term_of c.in_ok-below.below.items) named,
            (
              shown-joint old c.args.pair c.requires.pushed.plan (columns_swapped first second) (second + first) _ (swapped-shows old c.args.pair c.args.inner c.requires.at c.requires.both) (map term_of c.args.conds.items) c.requires.reads c.requires.joint c.requires.apart all pushed (map term_of c.in_ok-below.below.items) named,
              (
                shown-apart old c.args.pair c.requires.pushed.plan (columns_swapped first second) (second + first) _ (swapped-shows old c.args.pair c.args.inner c.requires.at c.requires.both) (map term_of c.args.conds.items) c.requires.reads c.requires.joint c.requires.apart all pushed (map term_of c.in_ok-below.below.items) named,
                c.requires.pushed,
              ),
            ),
          ),
        ),
      ),
    )

pub swapped-shown_of-requires-clause-valid : goal.swapped-shown_of-requires-clause-valid
swapped-shown_of-requires-clause-valid t c =
    let old = c.args.nodes.now in
    let first = width_at old c.args.inner.left in
    let second = width_at old c.args.inner.right in
    let all = c.push_numbers.new.numbers.items in
    let pushed : all ≡ columns_swapped first second ++ range_with_len (second + first) (width_at old c.args.pair.right) =
    swapped-further old c.args.pair c.args.inner c.requires.at c.requires.both all
    (c.in_ok-push_numbers.ensures
    ∙ (ap (λ (ns : List ℕ). ns ++ range_with_len c.shape-width.result.width c.shape.result.width)
    (c.in_ok-shown.ensures ∙ ap₂ (λ (s x : Shape). columns_swapped s.width x.width) c.shape-first.ensures c.shape-second.ensures)
    ∙ ap₂ (λ (s x : Shape). columns_swapped first second ++ range_with_len s.width x.width) c.shape-width.ensures c.shape.ensures)) in
    let named : map term_of c.in_ok-below.below.items ≡ map (renamed (name_in all)) (map term_of c.args.conds.items) =
    named-terms c.as_slice-2.result.now all c.as_slice.result.now c.in_ok-below.below.items (map term_of c.args.conds.items) (map term_of c.in_ok-below.below.items) c.as_slice-2.ensures.value (ap (map term_of) c.as_slice.ensures.value) c.in_ok-below.ensures refl in
    subst (λ (ns : List ℕ). IsNode (shapes_of c.turned.new.nodes) (Project c.in_ok-all.all (map column ns))) (sym c.as_slice-3.ensures.value)
    (shown-valid old c.args.pair c.requires.pushed.plan (columns_swapped first second) (second + first) _ (swapped-shows old c.args.pair c.args.inner c.requires.at c.requires.both) (map term_of c.args.conds.items) c.requires.reads c.requires.joint c.requires.apart all pushed (map term_of c.in_ok-below.below.items) named
    c.turned.new.nodes c.in_ok-all.all c.in_ok-all.ensures.combines.grows c.in_ok-all.ensures.combines.has)

pub swapped-returns-clause-combines : goal.swapped-returns-clause-combines
swapped-returns-clause-combines t c =
    let old = c.args.nodes.now in
    let first = width_at old c.args.inner.left in
    let second = width_at old c.args.inner.right in
    let all = c.push_numbers.new.numbers.items in
    let pushed : all ≡ columns_swapped first second ++ range_with_len (second + first) (width_at old c.args.pair.right) =
    swapped-further old c.args.pair c.args.inner c.requires.at c.requires.both all
    (c.in_ok-push_numbers.ensures
    ∙ (ap (λ (ns : List ℕ). ns ++ range_with_len c.shape-width.result.width c.shape.result.width)
    (c.in_ok-shown.ensures ∙ ap₂ (λ (s x : Shape). columns_swapped s.width x.width) c.shape-first.ensures c.shape-second.ensures)
    ∙ ap₂ (λ (s x : Shape). columns_swapped first second ++ range_with_len s.width x.width) c.shape-width.ensures c.shape.ensures)) in
    let named : map term_of c.in_ok-below.below.items ≡ map (renamed (name_in all)) (map term_of c.args.conds.items) =
    named-terms c.as_slice-2.result.now all c.as_slice.result.now c.in_ok-below.below.items (map term_of c.args.conds.items) (map term_of c.in_ok-below.below.items) c.as_slice-2.ensures.value (ap (map term_of) c.as_slice.ensures.value) c.in_ok-below.ensures refl in
    shown-combines old c.args.pair c.requires.pushed.plan (columns_swapped first second) (second + first) _ (swapped-shows old c.args.pair c.args.inner c.requires.at c.requires.both) (map term_of c.args.conds.items) c.requires.reads c.requires.joint c.requires.apart all pushed (map term_of c.in_ok-below.below.items) named
    c.turned.new.nodes c.in_ok-all.all c.in_ok-all.ensures.combines.grows c.in_ok-all.ensures.combines.has c.shown_of.new.nodes c.in_ok-n.n
    (subst (λ (ns : List ℕ). Stands c.turned.new.nodes c.shown_of.new.nodes c.in_ok-n.n (Project c.in_ok-all.all (map column ns))) c.as_slice-3.ensures.value c.in_ok-n.ensures.stands)

-- ---- columns of a product

pub columns_paired-shape-requires : goal.columns_paired-shape-requires
columns_paired-shape-requires t c = record { in_range = node_there c.args.nodes.now c.args.pair.right c.requires.both.right_below }

pub columns_paired-paired-requires : goal.columns_paired-paired-requires
columns_paired-paired-requires t c =
    let lower : c.args.from < c.args.pair.left = c.requires.at.left_lower in
    let old = c.args.nodes.now in
    let all = c.push_numbers.new.numbers.items in
    let pushed : all ≡ c.args.shown.items ++ range_with_len (width_at old c.args.from) (width_at old c.args.pair.right) =
    c.in_ok-push_numbers.ensures ∙ ap₂ (λ (s x : Shape). c.args.shown.items ++ range_with_len s.width x.width) c.shape-width-2.ensures c.shape.ensures in
    let named : map term_of c.in_ok-below.below.items ≡ map (renamed (name_in all)) (map term_of c.args.conds.items) =
    named-terms c.as_slice-3.result.now all c.as_slice-2.result.now c.in_ok-below.below.items (map term_of c.args.conds.items) (map term_of c.in_ok-below.below.items) c.as_slice-3.ensures.value (ap (map term_of) c.as_slice-2.ensures.value) c.in_ok-below.ensures refl in (
      omega (arith, lower),
      (
        record { left_below = c.requires.at.valid.left_below; right_below = c.requires.both.right_below; made = (c.requires.at.valid.made.0, c.requires.both.made.1) },
        (
          shown-reads old c.args.pair c.requires.pushed.plan c.args.shown.items (width_at old c.args.from) _ (columns-shows old c.args.pair.left c.args.from c.args.shown.items c.requires.at) (map term_of c.args.conds.items) c.requires.reads c.requires.joint c.requires.apart all pushed (map term_of c.in_ok-below.below.items) named,
          (
            shown-joint old c.args.pair c.requires.pushed.plan c.args.shown.items (width_at old c.args.from) _ (columns-shows old c.args.pair.left c.args.from c.args.shown.items c.requires.at) (map term_of c.args.conds.items) c.requires.reads c.requires.joint c.requires.apart all pushed (map term_of c.in_ok-below.below.items) named,
            (
              shown-apart old c.args.pair c.requires.pushed.plan c.args.shown.items (width_at old c.args.from) _ (columns-shows old c.args.pair.left c.args.from c.args.shown.items c.requires.at) (map term_of c.args.conds.items) c.requires.reads c.requires.joint c.requires.apart all pushed (map term_of c.in_ok-below.below.items) named,
              c.requires.pushed,
            ),
          ),
        ),
      ),
    )

pub columns_paired-shown_of-requires-clause-valid : goal.columns_paired-shown_of-requires-clause-valid
columns_paired-shown_of-requires-clause-valid t c =
    let old = c.args.nodes.now in
    let all = c.push_numbers.new.numbers.items in
    let pushed : all ≡ c.args.shown.items ++ range_with_len (width_at old c.args.from) (width_at old c.args.pair.right) =
    c.in_ok-push_numbers.ensures ∙ ap₂ (λ (s x : Shape). c.args.shown.items ++ range_with_len s.width x.width) c.shape-width-2.ensures c.shape.ensures in
    let named : map term_of c.in_ok-below.below.items ≡ map (renamed (name_in all)) (map term_of c.args.conds.items) =
    named-terms c.as_slice-3.result.now all c.as_slice-2.result.now c.in_ok-below.below.items (map term_of c.args.conds.items) (map term_of c.in_ok-below.below.items) c.as_slice-3.ensures.value (ap (map term_of) c.as_slice-2.ensures.value) c.in_ok-below.ensures refl in
    subst (λ (ns : List ℕ). IsNode (shapes_of c.paired.new.nodes) (Project c.in_ok-all.all (map column ns))) (sym c.as_slice-4.ensures.value)
    (shown-valid old c.args.pair c.requires.pushed.plan c.args.shown.items (width_at old c.args.from) _ (columns-shows old c.args.pair.left c.args.from c.args.shown.items c.requires.at) (map term_of c.args.conds.items) c.requires.reads c.requires.joint c.requires.apart all pushed (map term_of c.in_ok-below.below.items) named
    c.paired.new.nodes c.in_ok-all.all c.in_ok-all.ensures.combines.grows c.in_ok-all.ensures.combines.has)

pub columns_paired-returns-clause-combines : goal.columns_paired-returns-clause-combines
columns_paired-returns-clause-combines t c =
    let old = c.args.nodes.now in
    let all = c.push_numbers.new.numbers.items in
    let pushed : all ≡ c.args.shown.items ++ range_with_len (width_at old c.args.from) (width_at old c.args.pair.right) =
    c.in_ok-push_numbers.ensures ∙ ap₂ (λ (s x : Shape). c.args.shown.items ++ range_with_len s.width x.width) c.shape-width-2.ensures c.shape.ensures in
    let named : map term_of c.in_ok-below.below.items ≡ map (renamed (name_in all)) (map term_of c.args.conds.items) =
    named-terms c.as_slice-3.result.now all c.as_slice-2.result.now c.in_ok-below.below.items (map term_of c.args.conds.items) (map term_of c.in_ok-below.below.items) c.as_slice-3.ensures.value (ap (map term_of) c.as_slice-2.ensures.value) c.in_ok-below.ensures refl in
    shown-combines old c.args.pair c.requires.pushed.plan c.args.shown.items (width_at old c.args.from) _ (columns-shows old c.args.pair.left c.args.from c.args.shown.items c.requires.at) (map term_of c.args.conds.items) c.requires.reads c.requires.joint c.requires.apart all pushed (map term_of c.in_ok-below.below.items) named
    c.paired.new.nodes c.in_ok-all.all c.in_ok-all.ensures.combines.grows c.in_ok-all.ensures.combines.has c.shown_of.new.nodes c.in_ok-n-2.n
    (subst (λ (ns : List ℕ). Stands c.paired.new.nodes c.shown_of.new.nodes c.in_ok-n-2.n (Project c.in_ok-all.all (map column ns))) c.as_slice-4.ensures.value c.in_ok-n-2.ensures.stands)
