use Rattle.std.proofs.Common.{rules, ◌≡◌, ◌∙◌, ℕ, ◌<◌, List, length, map, refl, sym, subst, arith}
use Rattle.scalar_ops.specs.Expressions.{Term, column}
use Rattle.scalar_ops.specs.Views.{term_of}
use Rattle.algebra.specs.declared.node.Node.{Node}
use Rattle.algebra.specs.declared.node.Node.TheVariants.{Select, Project, Union}
use Rattle.algebra.specs.Growth.{Stands, IsAt}
use Rattle.algebra.specs.Nodes.{IsNode}
use Rattle.algebra.specs.Shapes.{shapes_of}
use Rattle.push_select.specs.Replacing.{IsBelow}
use Rattle.push_select.proofs.ExprViews.{named-terms}
use Rattle.push_select.proofs.Going.{union-left, union-right, union-valid, union-stands, columns-below, columns-above, columns-stands}
use Rattle.push_select.proofs.Narrowing.{left-valid, right-valid, pair-narrows, narrowed-valid, narrowed-join-valid, narrowed-reads, narrowed-both, narrowed-apart, product-stands, join-stands, reads_joint, sides_at}
use Rattle.push_select.proofs.Replacing.{node_there, terms_none, narrows-none, narrows-stands}
use Rattle.push_select.proofs.Standing.{pushed-add, above-there}
use Rattle.push_select.proofs.selection.+selection.Goals as goal

-- ---- by what stands below

pub selected-get-requires : goal.selected-get-requires
selected-get-requires t c = record { in_range = node_there c.args.nodes.now c.args.input c.requires.valid.left_below }

pub selected-pairs_selected-requires : goal.selected-pairs_selected-requires
selected-pairs_selected-requires t c = (
  omega arith,
  (
    subst (λ (node : Node). IsAt c.args.nodes.now c.args.input node) (subst (IsBelow c.get.result.now) c.in-Product.is c.in_ok-below.ensures) c.get.ensures.at,
    (c.requires.valid, c.requires.pushed),
  ),
)

pub selected-joins_selected-requires : goal.selected-joins_selected-requires
selected-joins_selected-requires t c = (
  omega arith,
  (
    subst (λ (node : Node). IsAt c.args.nodes.now c.args.input node) (subst (IsBelow c.get.result.now) c.in-Joined.is c.in_ok-below.ensures) c.get.ensures.at,
    (c.requires.valid, c.requires.pushed),
  ),
)

pub selected-both_selected-requires : goal.selected-both_selected-requires
selected-both_selected-requires t c = (
  omega arith,
  (
    subst (λ (node : Node). IsAt c.args.nodes.now c.args.input node) (subst (IsBelow c.get.result.now) c.in-Both.is c.in_ok-below.ensures) c.get.ensures.at,
    (c.requires.valid, c.requires.pushed),
  ),
)

pub selected-columns_selected-requires : goal.selected-columns_selected-requires
selected-columns_selected-requires t c = (
  omega arith,
  (
    subst (λ (node : Node). IsAt c.args.nodes.now c.args.input node) (subst (IsBelow c.get.result.now) c.in-Columns.is c.in_ok-below.ensures) c.get.ensures.at,
    (c.requires.valid, c.requires.pushed),
  ),
)

pub selected-returns-in_ok-n-in-Other-clause-pushed : goal.selected-returns-in_ok-n-in-Other-clause-pushed
selected-returns-in_ok-n-in-Other-clause-pushed t c =
    pushed-add c.args.nodes.now c.add.new.self (Select c.args.input c.args.conds) c.in_ok-n-in-Other.ensures.ok.1 c.requires.valid c.requires.pushed
    (above-there c.args.nodes.now c.args.input c.get.result.now c.args.conds (node_there c.args.nodes.now c.args.input c.requires.valid.left_below) c.get.ensures.node
    ((subst (IsBelow c.get.result.now) c.in-Other.is c.in_ok-below.ensures).0 c.args.nodes.now c.args.conds))
    tt

-- ---- over a union

pub both_selected-selected-requires : goal.both_selected-selected-requires
both_selected-selected-requires t c =
    let left : c.args.left < c.args.input = c.requires.at.left_lower in
    (omega (arith, left), (union-left c.args.nodes.now c.args.input c.args.left c.args.right c.requires.at c.args.conds c.requires.valid, c.requires.pushed))

pub both_selected-selected-requires-2 : goal.both_selected-selected-requires-2
both_selected-selected-requires-2 t c =
    let right : c.args.right < c.args.input = c.requires.at.right_lower in (
      omega (arith, right),
      (
        union-right c.args.nodes.now c.args.input c.args.left c.args.right c.requires.at c.args.conds c.requires.valid c.from-copies.result
            (c.from-copies.ensures ∙ (c.in_ok-copies.ensures ∙ c.as_slice.ensures)) c.selected.new.nodes c.in_ok-left.left c.in_ok-left.ensures.stands,
        c.in_ok-left.ensures.pushed,
      ),
    )

pub both_selected-add-requires : goal.both_selected-add-requires
both_selected-add-requires t c = record {
  valid = union-valid c.args.nodes.now c.args.input c.args.left c.args.right c.requires.at c.args.conds c.requires.valid c.from-copies.result
      (c.from-copies.ensures ∙ (c.in_ok-copies.ensures ∙ c.as_slice.ensures)) c.selected.new.nodes c.in_ok-left.left c.in_ok-left.ensures.stands
      c.selected-2.new.nodes c.in_ok-right.right c.in_ok-right.ensures.stands;
}

pub both_selected-returns-clause-stands : goal.both_selected-returns-clause-stands
both_selected-returns-clause-stands t c =
    union-stands c.args.nodes.now c.args.input c.args.left c.args.right c.requires.at c.args.conds c.requires.valid c.from-copies.result
    (c.from-copies.ensures ∙ (c.in_ok-copies.ensures ∙ c.as_slice.ensures)) c.selected.new.nodes c.in_ok-left.left c.in_ok-left.ensures.stands
    c.selected-2.new.nodes c.in_ok-right.right c.in_ok-right.ensures.stands c.add.new.self c.in_ok-n.n c.in_ok-n.ensures.stands

pub both_selected-returns-clause-pushed : goal.both_selected-returns-clause-pushed
both_selected-returns-clause-pushed t c =
    pushed-add c.selected-2.new.nodes c.add.new.self (Union c.in_ok-left.left c.in_ok-right.right) c.in_ok-n.ensures.ok.1
    (union-valid c.args.nodes.now c.args.input c.args.left c.args.right c.requires.at c.args.conds c.requires.valid c.from-copies.result
    (c.from-copies.ensures ∙ (c.in_ok-copies.ensures ∙ c.as_slice.ensures)) c.selected.new.nodes c.in_ok-left.left c.in_ok-left.ensures.stands
    c.selected-2.new.nodes c.in_ok-right.right c.in_ok-right.ensures.stands)
    c.in_ok-right.ensures.pushed tt tt

-- ---- over a projection of plain columns

pub columns_selected-selected-requires : goal.columns_selected-selected-requires
columns_selected-selected-requires t c =
    let from : c.args.from < c.args.input = c.requires.at.left_lower in (
      omega (arith, from),
      (
        columns-below c.args.nodes.now c.args.input c.args.from c.args.shown.items c.requires.at c.args.conds c.requires.valid c.from-below.result
            (named-terms c.as_slice-2.result.now c.args.shown.items c.as_slice.result.now c.in_ok-below.below.items c.args.conds c.from-below.result c.as_slice-2.ensures.value c.as_slice.ensures c.in_ok-below.ensures c.from-below.ensures),
        c.requires.pushed,
      ),
    )

pub columns_selected-shown_of-requires-clause-valid : goal.columns_selected-shown_of-requires-clause-valid
columns_selected-shown_of-requires-clause-valid t c =
    subst (λ (ns : List ℕ). IsNode (shapes_of c.selected.new.nodes) (Project c.in_ok-narrower.narrower (map column ns))) (sym c.as_slice-3.ensures.value)
    (columns-above c.args.nodes.now c.args.input c.args.from c.args.shown.items c.requires.at c.args.conds c.requires.valid c.from-below.result
    (named-terms c.as_slice-2.result.now c.args.shown.items c.as_slice.result.now c.in_ok-below.below.items c.args.conds c.from-below.result c.as_slice-2.ensures.value c.as_slice.ensures c.in_ok-below.ensures c.from-below.ensures)
    c.selected.new.nodes c.in_ok-narrower.narrower c.in_ok-narrower.ensures.stands)

pub columns_selected-returns-clause-stands : goal.columns_selected-returns-clause-stands
columns_selected-returns-clause-stands t c =
    columns-stands c.args.nodes.now c.args.input c.args.from c.args.shown.items c.requires.at c.args.conds c.requires.valid c.from-below.result
    (named-terms c.as_slice-2.result.now c.args.shown.items c.as_slice.result.now c.in_ok-below.below.items c.args.conds c.from-below.result c.as_slice-2.ensures.value c.as_slice.ensures c.in_ok-below.ensures c.from-below.ensures)
    c.selected.new.nodes c.in_ok-narrower.narrower c.in_ok-narrower.ensures.stands c.shown_of.new.nodes c.in_ok-n.n
    (subst (λ (ns : List ℕ). Stands c.selected.new.nodes c.shown_of.new.nodes c.in_ok-n.n (Project c.in_ok-narrower.narrower (map column ns))) c.as_slice-3.ensures.value c.in_ok-n.ensures.stands)

-- ---- over a product

pub pairs_selected-pair_narrowed-requires : goal.pairs_selected-pair_narrowed-requires
pairs_selected-pair_narrowed-requires t c =
    let left : c.args.pair.left < c.args.input = c.requires.at.left_lower in
    let right : c.args.pair.right < c.args.input = c.requires.at.right_lower in (
      omega (arith, left, right),
      (
        c.requires.at.valid,
        (
          reads_joint c.args.nodes.now c.args.input c.args.pair c.args.conds (map term_of c.as_slice.result.now) c.as_slice.ensures c.requires.at.stands.has.shaped c.requires.valid.made.1,
          c.requires.pushed,
        ),
      ),
    )

pub pairs_selected-paired-requires-clause-both : goal.pairs_selected-paired-requires-clause-both
pairs_selected-paired-requires-clause-both t c =
    narrowed-valid c.args.nodes.now c.pair_narrowed.new.nodes c.args.pair (map term_of c.as_slice.result.now) c.in_ok-narrowed.narrowed c.in_ok-narrowed.ensures.narrows

pub pairs_selected-paired-requires-clause-reads : goal.pairs_selected-paired-requires-clause-reads
pairs_selected-paired-requires-clause-reads t c =
    narrowed-reads c.args.nodes.now c.pair_narrowed.new.nodes c.args.pair (map term_of c.as_slice.result.now) c.in_ok-narrowed.narrowed c.in_ok-narrowed.ensures.narrows

pub pairs_selected-paired-requires-clause-joint : goal.pairs_selected-paired-requires-clause-joint
pairs_selected-paired-requires-clause-joint t c =
    narrowed-both c.args.nodes.now c.pair_narrowed.new.nodes c.args.pair (map term_of c.as_slice.result.now) c.in_ok-narrowed.narrowed c.in_ok-narrowed.ensures.narrows

pub pairs_selected-paired-requires-clause-apart : goal.pairs_selected-paired-requires-clause-apart
pairs_selected-paired-requires-clause-apart t c =
    narrowed-apart c.args.nodes.now c.pair_narrowed.new.nodes c.args.pair (map term_of c.as_slice.result.now) c.in_ok-narrowed.narrowed c.in_ok-narrowed.ensures.narrows

pub pairs_selected-returns-clause-stands : goal.pairs_selected-returns-clause-stands
pairs_selected-returns-clause-stands t c =
    subst (λ (cs : List Term). Stands c.args.nodes.now c.paired.new.nodes c.in_ok-n.n (Select c.args.input cs)) c.as_slice.ensures
    (product-stands c.args.nodes.now c.pair_narrowed.new.nodes c.args.pair (map term_of c.as_slice.result.now) c.in_ok-narrowed.narrowed c.in_ok-narrowed.ensures.narrows
    c.args.input c.requires.at c.paired.new.nodes c.in_ok-n.n c.in_ok-n.ensures.combines)

-- ---- over a join

pub joins_selected-pair_narrowed-requires : goal.joins_selected-pair_narrowed-requires
joins_selected-pair_narrowed-requires t c =
    let left : c.args.pair.left < c.args.input = c.requires.at.left_lower in
    let right : c.args.pair.right < c.args.input = c.requires.at.right_lower in (
      omega (arith, left, right),
      (
        record { left_below = c.requires.at.valid.left_below; right_below = c.requires.at.valid.right_below; made = (c.requires.at.valid.made.0, c.requires.at.valid.made.1) },
        (
          reads_joint c.args.nodes.now c.args.input c.args.pair c.args.conds (map term_of c.as_slice.result.now) c.as_slice.ensures c.requires.at.stands.has.shaped c.requires.valid.made.1,
          c.requires.pushed,
        ),
      ),
    )

pub joins_selected-joined-requires-clause-both : goal.joins_selected-joined-requires-clause-both
joins_selected-joined-requires-clause-both t c =
    narrowed-join-valid c.args.nodes.now c.pair_narrowed.new.nodes c.args.pair (map term_of c.as_slice.result.now) c.in_ok-narrowed.narrowed c.in_ok-narrowed.ensures.narrows c.args.join c.requires.at.valid

pub joins_selected-joined-requires-clause-reads : goal.joins_selected-joined-requires-clause-reads
joins_selected-joined-requires-clause-reads t c =
    narrowed-reads c.args.nodes.now c.pair_narrowed.new.nodes c.args.pair (map term_of c.as_slice.result.now) c.in_ok-narrowed.narrowed c.in_ok-narrowed.ensures.narrows

pub joins_selected-joined-requires-clause-joint : goal.joins_selected-joined-requires-clause-joint
joins_selected-joined-requires-clause-joint t c =
    narrowed-both c.args.nodes.now c.pair_narrowed.new.nodes c.args.pair (map term_of c.as_slice.result.now) c.in_ok-narrowed.narrowed c.in_ok-narrowed.ensures.narrows

pub joins_selected-returns-clause-stands : goal.joins_selected-returns-clause-stands
joins_selected-returns-clause-stands t c =
    subst (λ (cs : List Term). Stands c.args.nodes.now c.joined.new.nodes c.in_ok-n.n (Select c.args.input cs)) c.as_slice.ensures
    (join-stands c.args.nodes.now c.pair_narrowed.new.nodes c.args.pair (map term_of c.as_slice.result.now) c.in_ok-narrowed.narrowed c.in_ok-narrowed.ensures.narrows
    c.args.input c.args.join c.requires.at c.joined.new.nodes c.in_ok-n.n c.in_ok-n.ensures.combines)

-- ---- side by side

pub pair_narrowed-shape-width-requires : goal.pair_narrowed-shape-width-requires
pair_narrowed-shape-width-requires t c = record { in_range = node_there c.args.nodes.now c.args.pair.left c.requires.both.left_below }

pub pair_narrowed-narrowed-requires : goal.pair_narrowed-narrowed-requires
pair_narrowed-narrowed-requires t c = (
  omega arith,
  (
    left-valid c.args.nodes.now c.args.pair c.requires.both (map term_of c.args.conds.now) c.requires.reads c.in_ok-parts.parts
        (sides_at c.args.nodes.now c.args.pair.left c.shape-width.result (map term_of c.args.conds.now) c.in_ok-parts.parts c.shape-width.ensures c.in_ok-parts.ensures),
    c.requires.pushed,
  ),
)

pub pair_narrowed-narrowed-requires-2 : goal.pair_narrowed-narrowed-requires-2
pair_narrowed-narrowed-requires-2 t c = (
  omega arith,
  (
    right-valid c.args.nodes.now c.args.pair c.requires.both (map term_of c.args.conds.now) c.requires.reads c.in_ok-parts.parts
        (sides_at c.args.nodes.now c.args.pair.left c.shape-width.result (map term_of c.args.conds.now) c.in_ok-parts.parts c.shape-width.ensures c.in_ok-parts.ensures)
        c.narrowed.new.nodes c.in_ok-left.left c.in_ok-left.ensures.narrows,
    c.in_ok-left.ensures.pushed,
  ),
)

pub pair_narrowed-returns-clause-narrows : goal.pair_narrowed-returns-clause-narrows
pair_narrowed-returns-clause-narrows t c =
    pair-narrows c.args.nodes.now c.args.pair c.requires.both (map term_of c.args.conds.now) c.requires.reads c.in_ok-parts.parts
    (sides_at c.args.nodes.now c.args.pair.left c.shape-width.result (map term_of c.args.conds.now) c.in_ok-parts.parts c.shape-width.ensures c.in_ok-parts.ensures)
    c.narrowed.new.nodes c.in_ok-left.left c.in_ok-left.ensures.narrows c.narrowed-2.new.nodes c.in_ok-right.right _ c.in_ok-right.ensures.narrows refl refl refl

-- ---- one node

pub narrowed-returns-then-is_empty-clause-narrows : goal.narrowed-returns-then-is_empty-clause-narrows
narrowed-returns-then-is_empty-clause-narrows t c =
    let none : length c.as_slice.result.now ≡ 0 = search rules in
    narrows-none c.args.nodes.now c.args.input c.args.conds (sym c.as_slice.ensures ∙ terms_none c.as_slice.result.now none) c.requires.valid

pub narrowed-selected-requires : goal.narrowed-selected-requires
narrowed-selected-requires t c = (omega arith, (c.requires.valid, c.requires.pushed))

pub narrowed-returns-clause-narrows : goal.narrowed-returns-clause-narrows
narrowed-returns-clause-narrows t c = narrows-stands c.args.nodes.now c.selected.new.nodes c.args.input c.in_ok-n.n c.args.conds c.in_ok-n.ensures.stands
