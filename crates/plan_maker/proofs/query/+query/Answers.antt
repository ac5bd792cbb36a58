use Rattle.std.proofs.Common.{rules, arith, ◌≡◌, ◌∙◌, ◌+◌, List, [], ◌∷◌, map, length, drop, ap, ap₂, sym, subst}
use Rattle.std.specs.List.{All}
use Rattle.std.proofs.lemmas.Grind.{common_steps}
use Rattle.std.proofs.lemmas.List.{drop_all}
use Rattle.scalar_ops.specs.Expressions.{Term, ReadsBelow}
use Rattle.scalar_ops.specs.Values.{holding}
use Rattle.aql_typed.specs.declared.tree.TypedQuery.{TypedQuery, the_lemmas}
use Rattle.aql_typed.specs.declared.tree.TypedSource.{TypedSource}
use Rattle.aql_typed.specs.Fitting.{width_of}
use Rattle.aql_typed.specs.Meaning.{meaning_of}
use Rattle.aql_typed.specs.Trees.{minus, nested}
use Rattle.aql_typed.specs.Views.{query_of, source_of}
use Rattle.algebra.specs.GrowthLaws.{grows-trans}
use Rattle.plan_maker.specs.Grounds.{Gives, IsWell, SourceThere, sides_seen, sources_seen, terms_lent}
use Rattle.plan_maker.specs.Lowered.{query_size, source_size}
use Rattle.plan_maker.proofs.Combining.{no_item}
use Rattle.plan_maker.proofs.Queries.{sides_left, sources_left, join_well, join_can, select_gives, source_can, extract_gives, sides_well, union_gives, united-first, side_well, union_valid, united-next, united-last, none-united, right_well, minus_valid, minus_gives, none-joined, first_can, first_joined, next_well, left_can, right_can, next_joined, last_can, last_gives}
use Rattle.plan_maker.proofs.Sizes.{forms_push, select_size, extract_size, union_size, sources_more, sides_more}
use Rattle.plan_maker.proofs.query.+query.Goals as goal

-- ---- products

pub combined-returns-in_default-clause-gives : goal.combined-returns-in_default-clause-gives
combined-returns-in_default-clause-gives t c =
    none-joined c.args.below.now c.args.sources.now (terms_lent c.args.conds.items) c.args.nodes.now _ _ _ _ (terms_lent c.as_slice.result.now) (no_item c.args.sources.now c.in_default.ensures.cases) (ap terms_lent c.as_slice.ensures.value)
    c.in_ok-row.ensures.gives c.in_ok-n.ensures.gives

pub combined-narrowed-requires : goal.combined-narrowed-requires
combined-narrowed-requires t c = record {
  can = first_can c.args.below.now c.args.sources.now (terms_lent c.args.conds.items) c.args.nodes.now c.in-Some.first.now c.in-Some.rest.now c.in-Some.ensures.cases.0 c.source.new.nodes c.in_ok-input.input
      c.in_ok-input.ensures.grows c.in_ok-input.ensures.gives c.requires.well;
}

pub combined-loop-next-init : goal.combined-loop-next-init
combined-loop-next-init t c = record {
  grows = grows-trans _ _ _ c.in_ok-input.ensures.grows c.in_ok-joined.ensures.grows;
  forms = λ olds. c.in_ok-joined.ensures.forms (c.in_ok-input.ensures.forms olds);
  few = omega (
    arith,
    sources_more (sources_seen c.args.sources.now) (sources_seen c.in-Some.rest.now) (source_of c.in-Some.first.now) (ap sources_seen c.in-Some.ensures.cases.0),
    c.in_ok-input.ensures.few,
    c.in_ok-joined.ensures.few,
  );
  joined = first_joined c.args.below.now c.args.sources.now (terms_lent c.args.conds.items) c.args.nodes.now c.in-Some.first.now c.in-Some.rest.now c.in-Some.ensures.cases.0 c.source.new.nodes c.in_ok-input.input
      c.in_ok-input.ensures.grows c.in_ok-input.ensures.gives _ _ _ c.in_ok-joined.ensures.grows c.in_ok-joined.ensures.narrows;
}

pub combined-source-requires-in-loop-next : goal.combined-source-requires-in-loop-next
combined-source-requires-in-loop-next t c =
    let left = sources_left c.in-Some.rest.now c.loop-next.next-index c.next-item.result c.loop-next-test.true c.next-item.is in
    (search (rules, the_lemmas), next_well c.args.below.now c.args.sources.now (terms_lent c.args.conds.items) c.loop-next.nodes _ _ _ _ _ _ _ left (c.loop-next.invariant.joined c.requires.well))

pub combined-crossed-requires-clause-can_left : goal.combined-crossed-requires-clause-can_left
combined-crossed-requires-clause-can_left t c =
    let left = sources_left c.in-Some.rest.now c.loop-next.next-index c.next-item.result c.loop-next-test.true c.next-item.is in
    left_can c.args.below.now c.args.sources.now (terms_lent c.args.conds.items) c.loop-next.nodes _ _ _ _ _ _ _ left (c.loop-next.invariant.joined c.requires.well) _ c.in_ok-right.right
    c.in_ok-right.ensures.grows c.in_ok-right.ensures.gives

pub combined-crossed-requires-clause-can_right : goal.combined-crossed-requires-clause-can_right
combined-crossed-requires-clause-can_right t c =
    let left = sources_left c.in-Some.rest.now c.loop-next.next-index c.next-item.result c.loop-next-test.true c.next-item.is in
    right_can c.args.below.now c.args.sources.now (terms_lent c.args.conds.items) c.loop-next.nodes _ _ _ _ _ _ _ left (c.loop-next.invariant.joined c.requires.well) _ c.in_ok-right.right
    c.in_ok-right.ensures.grows c.in_ok-right.ensures.gives

pub combined-loop-next-preserved : goal.combined-loop-next-preserved
combined-loop-next-preserved t c =
    let left = sources_left c.in-Some.rest.now c.loop-next.next-index c.next-item.result c.loop-next-test.true c.next-item.is in
    record {
      grows = grows-trans _ _ _ c.loop-next.invariant.grows (grows-trans _ _ _ c.in_ok-right.ensures.grows c.in_ok-joined-2.ensures.grows);
      forms = λ olds. c.in_ok-joined-2.ensures.forms (c.in_ok-right.ensures.forms (c.loop-next.invariant.forms olds));
      few = omega (arith, sources_more _ _ _ left, c.loop-next.invariant.few, c.in_ok-right.ensures.few, c.in_ok-joined-2.ensures.few);
      joined = λ well.
          next_joined c.args.below.now c.args.sources.now (terms_lent c.args.conds.items) c.loop-next.nodes _ _ _ _ _ _ _ left (c.loop-next.invariant.joined well) _ c.in_ok-right.right
          c.in_ok-right.ensures.grows c.in_ok-right.ensures.gives _ _ _ c.in_ok-joined-2.ensures.grows c.in_ok-joined-2.ensures.narrows;
    }

pub combined-selected-requires-2 : goal.combined-selected-requires-2
combined-selected-requires-2 t c =
    let none = ap sources_seen (drop_all c.loop-next.next-index c.in-Some.rest.now (search rules)) in
    record {
      can = last_can c.args.below.now c.args.sources.now (terms_lent c.args.conds.items) c.loop-next.nodes _ _ _ _ (terms_lent c.as_slice-2.result.now) c.loop-next.joined none (ap terms_lent c.as_slice-2.ensures.value)
          (c.loop-next.invariant.joined c.requires.well);
    }

pub combined-returns-clause-gives : goal.combined-returns-clause-gives
combined-returns-clause-gives t c = λ well.
    let none = ap sources_seen (drop_all c.loop-next.next-index c.in-Some.rest.now (search rules)) in
    last_gives c.args.below.now c.args.sources.now (terms_lent c.args.conds.items) c.loop-next.nodes _ _ _ _ (terms_lent c.as_slice-2.result.now) c.loop-next.joined none (ap terms_lent c.as_slice-2.ensures.value)
    (c.loop-next.invariant.joined well) _ _ c.in_ok-n-2.ensures.gives

pub combined-returns-clause-forms : goal.combined-returns-clause-forms
combined-returns-clause-forms t c = λ olds. c.in_ok-n-2.ensures.forms (c.loop-next.invariant.forms olds)

-- ---- queries

pub query-combined-requires : goal.query-combined-requires
query-combined-requires t c = (
  search (rules, the_lemmas),
  join_well c.args.nodes.now c.args.below.now c.args.typed.now c.in-Select.select c.in-Select.is c.as_slice-in-Select.result.now c.as_slice-in-Select.ensures.value (terms_lent c.in_ok-conds-in-Select.conds.items)
      (λ lists doc row. c.in_ok-conds-in-Select.ensures.same lists doc row ∙ ap (λ (ts : List Term). holding lists doc ts row) c.as_slice.ensures)
      (λ width reads. c.in_ok-conds-in-Select.ensures.reads width (subst (All (ReadsBelow width)) (sym c.as_slice.ensures) reads))
      c.requires.well,
)

pub query-shaped-requires : goal.query-shaped-requires
query-shaped-requires t c = record {
  can = join_can c.args.nodes.now c.args.below.now c.args.typed.now c.in-Select.select c.in-Select.is c.as_slice-in-Select.result.now c.as_slice-in-Select.ensures.value (terms_lent c.in_ok-conds-in-Select.conds.items)
      (λ lists doc row. c.in_ok-conds-in-Select.ensures.same lists doc row ∙ ap (λ (ts : List Term). holding lists doc ts row) c.as_slice.ensures)
      (λ width reads. c.in_ok-conds-in-Select.ensures.reads width (subst (All (ReadsBelow width)) (sym c.as_slice.ensures) reads))
      c.combined.new.nodes c.in_ok-joined-in-Select.joined c.in_ok-joined-in-Select.ensures.gives c.requires.well;
}

pub query-returns-in_ok-n-in-Select-clause-gives : goal.query-returns-in_ok-n-in-Select-clause-gives
query-returns-in_ok-n-in-Select-clause-gives t c =
    select_gives c.args.nodes.now c.args.below.now c.args.typed.now c.in-Select.select c.in-Select.is c.as_slice-in-Select.result.now c.as_slice-in-Select.ensures.value (terms_lent c.in_ok-conds-in-Select.conds.items)
    (λ lists doc row. c.in_ok-conds-in-Select.ensures.same lists doc row ∙ ap (λ (ts : List Term). holding lists doc ts row) c.as_slice.ensures)
    (λ width reads. c.in_ok-conds-in-Select.ensures.reads width (subst (All (ReadsBelow width)) (sym c.as_slice.ensures) reads))
    c.combined.new.nodes c.in_ok-joined-in-Select.joined c.in_ok-joined-in-Select.ensures.gives _ _ c.in_ok-n-in-Select.ensures.gives

pub query-returns-in_ok-n-in-Select-clause-few : goal.query-returns-in_ok-n-in-Select-clause-few
query-returns-in_ok-n-in-Select-clause-few t c =
    omega (arith, select_size c.args.typed.now c.in-Select.select c.as_slice-in-Select.result.now c.in-Select.is c.as_slice-in-Select.ensures.value, c.in_ok-joined-in-Select.ensures.few, c.in_ok-n-in-Select.ensures.few)

pub query-extraction-requires : goal.query-extraction-requires
query-extraction-requires t c = record {
  can = source_can c.args.nodes.now c.args.below.now c.args.typed.now c.in-Extract.extract c.in-Extract.is c.source.new.nodes c.in_ok-input-in-Extract.input c.in_ok-input-in-Extract.ensures.gives c.requires.well;
}

pub query-returns-in_ok-n-in-Extract-clause-gives : goal.query-returns-in_ok-n-in-Extract-clause-gives
query-returns-in_ok-n-in-Extract-clause-gives t c =
    extract_gives c.args.nodes.now c.args.below.now c.args.typed.now c.in-Extract.extract c.in-Extract.is c.source.new.nodes c.in_ok-input-in-Extract.input c.in_ok-input-in-Extract.ensures.gives _ _
    c.in_ok-n-in-Extract.ensures.gives

pub query-returns-in_ok-n-in-Extract-clause-few : goal.query-returns-in_ok-n-in-Extract-clause-few
query-returns-in_ok-n-in-Extract-clause-few t c =
    omega (arith, extract_size c.args.typed.now c.in-Extract.extract c.in-Extract.is, c.in_ok-input-in-Extract.ensures.few, c.in_ok-n-in-Extract.ensures.few)

pub query-union-requires : goal.query-union-requires
query-union-requires t c = (
  search (rules, the_lemmas),
  sides_well c.args.nodes.now c.args.below.now c.args.typed.now c.in-Union.sides c.in-Union.is c.as_slice-in-Union.result.now c.as_slice-in-Union.ensures.value c.requires.well,
)

pub query-returns-in_ok-n-in-Union-clause-gives : goal.query-returns-in_ok-n-in-Union-clause-gives
query-returns-in_ok-n-in-Union-clause-gives t c =
    union_gives c.args.nodes.now c.args.below.now c.args.typed.now c.in-Union.sides c.in-Union.is c.as_slice-in-Union.result.now c.as_slice-in-Union.ensures.value _ _ c.in_ok-n-in-Union.ensures.gives

pub query-returns-in_ok-n-in-Union-clause-few : goal.query-returns-in_ok-n-in-Union-clause-few
query-returns-in_ok-n-in-Union-clause-few t c =
    omega (arith, union_size c.args.typed.now c.in-Union.sides c.as_slice-in-Union.result.now c.in-Union.is c.as_slice-in-Union.ensures.value, c.in_ok-n-in-Union.ensures.few)

pub query-query-requires-in-Minus : goal.query-query-requires-in-Minus
query-query-requires-in-Minus t c =
    let one : ◌≡◌ {A = TypedQuery} c.in-Minus.left.value c.deref.result.now = search rules in
    let other : ◌≡◌ {A = TypedQuery} c.in-Minus.right.value c.deref-in-Minus.result.now = search rules in
    let is = ap (λ (q : TypedQuery). query_of q) c.in-Minus.is ∙ ap₂ (λ (a b : TypedQuery). minus (query_of a) (query_of b)) one other in
    (search (rules, the_lemmas), right_well c.args.nodes.now c.args.below.now (query_of c.args.typed.now) _ _ is _ c.in_ok-left-in-Minus.ensures.grows c.requires.well)

pub query-add-requires : goal.query-add-requires
query-add-requires t c =
    let one : ◌≡◌ {A = TypedQuery} c.in-Minus.left.value c.deref.result.now = search rules in
    let other : ◌≡◌ {A = TypedQuery} c.in-Minus.right.value c.deref-in-Minus.result.now = search rules in
    let is = ap (λ (q : TypedQuery). query_of q) c.in-Minus.is ∙ ap₂ (λ (a b : TypedQuery). minus (query_of a) (query_of b)) one other in
    record {
      valid = minus_valid c.args.nodes.now c.args.below.now (query_of c.args.typed.now) _ _ is _ c.in_ok-left-in-Minus.ensures.grows _ c.in_ok-left-in-Minus.ensures.gives
          _ c.in_ok-right-in-Minus.ensures.grows _ c.in_ok-right-in-Minus.ensures.gives c.requires.well;
    }

pub query-returns-in_ok-n-in-Minus-clause-gives : goal.query-returns-in_ok-n-in-Minus-clause-gives
query-returns-in_ok-n-in-Minus-clause-gives t c =
    let one : ◌≡◌ {A = TypedQuery} c.in-Minus.left.value c.deref.result.now = search rules in
    let other : ◌≡◌ {A = TypedQuery} c.in-Minus.right.value c.deref-in-Minus.result.now = search rules in
    let is = ap (λ (q : TypedQuery). query_of q) c.in-Minus.is ∙ ap₂ (λ (a b : TypedQuery). minus (query_of a) (query_of b)) one other in
    minus_gives c.args.nodes.now c.args.below.now (query_of c.args.typed.now) _ _ is _ c.in_ok-left-in-Minus.ensures.grows _ c.in_ok-left-in-Minus.ensures.gives
    _ c.in_ok-right-in-Minus.ensures.grows _ c.in_ok-right-in-Minus.ensures.gives _ _ c.in_ok-n-in-Minus.ensures.stands

pub query-returns-in_ok-n-in-Minus-clause-few : goal.query-returns-in_ok-n-in-Minus-clause-few
query-returns-in_ok-n-in-Minus-clause-few t c =
    let one : ◌≡◌ {A = TypedQuery} c.in-Minus.left.value c.deref.result.now = search rules in
    let other : ◌≡◌ {A = TypedQuery} c.in-Minus.right.value c.deref-in-Minus.result.now = search rules in
    let is = ap (λ (q : TypedQuery). query_of q) c.in-Minus.is ∙ ap₂ (λ (a b : TypedQuery). minus (query_of a) (query_of b)) one other in
    grind (arith, common_steps, ap query_size is, c.in_ok-left-in-Minus.ensures.few, c.in_ok-right-in-Minus.ensures.few, c.in_ok-n-in-Minus.ensures.ok.1)

-- ---- sources

pub source-returns-in-Document-clause-gives : goal.source-returns-in-Document-clause-gives
source-returns-in-Document-clause-gives t c = rw c.in-Document.is (λ well. well.base.document)

pub source-returns-in-Document-clause-few : goal.source-returns-in-Document-clause-few
source-returns-in-Document-clause-few t c = rw c.in-Document.is (omega arith)

pub source-returns-in_ok-n-in-Nested-clause-few : goal.source-returns-in_ok-n-in-Nested-clause-few
source-returns-in_ok-n-in-Nested-clause-few t c =
    let is : ◌≡◌ {A = TypedQuery} c.deref.result.now c.in-Nested.nested.value = search rules in
    let sizes : source_size (source_of c.args.source.now) ≡ query_size (query_of c.deref.result.now) =
    ap (λ (s : TypedSource). source_size (source_of s)) c.in-Nested.is ∙ ap (λ (q : TypedQuery). query_size (query_of q)) (sym is) in
    omega (arith, sizes, c.in_ok-n-in-Nested.ensures.few)

pub source-returns-in_ok-n-in-Nested-clause-gives : goal.source-returns-in_ok-n-in-Nested-clause-gives
source-returns-in_ok-n-in-Nested-clause-gives t c =
    let is : ◌≡◌ {A = TypedQuery} c.deref.result.now c.in-Nested.nested.value = search rules in
    rw c.in-Nested.is
    (subst (λ (q : TypedQuery). (well : IsWell c.args.nodes.now c.args.below.now (SourceThere (nested (query_of q))))
    → Gives c.query.new.nodes c.in_ok-n-in-Nested.n (width_of well.widths (query_of q)) (λ lists doc. meaning_of lists doc (well.means lists doc) (query_of q))) is
    (λ well. c.in_ok-n-in-Nested.ensures.gives (record { widths = well.widths; means = well.means; base = well.base; wanted = well.wanted })))

-- ---- unions

pub union-returns-in_default-clause-gives : goal.union-returns-in_default-clause-gives
union-returns-in_default-clause-gives t c = none-united c.args.below.now (sides_seen c.args.sides.now) c.args.nodes.now _ _ (ap sides_seen (no_item c.args.sides.now c.in_default.ensures.cases)) c.in_ok-n.ensures.gives

pub union-loop-side-init : goal.union-loop-side-init
union-loop-side-init t c = record {
  grows = c.in_ok-all.ensures.grows;
  forms = c.in_ok-all.ensures.forms;
  few = omega (arith, sides_more (sides_seen c.args.sides.now) (sides_seen c.in-Some.rest.now) (query_of c.in-Some.first.now) (ap sides_seen c.in-Some.ensures.cases.0), c.in_ok-all.ensures.few);
  united = united-first c.args.below.now (sides_seen c.args.sides.now) c.args.nodes.now _ _ _ _ (ap sides_seen c.in-Some.ensures.cases.0) c.in_ok-all.ensures.grows c.in_ok-all.ensures.gives;
}

pub union-query-requires-in-loop-side : goal.union-query-requires-in-loop-side
union-query-requires-in-loop-side t c =
    let left = sides_left c.in-Some.rest.now c.loop-side.side-index c.side-item.result c.loop-side-test.true c.side-item.is in
    (search (rules, the_lemmas), side_well c.args.below.now (sides_seen c.args.sides.now) c.loop-side.nodes _ _ _ _ _ _ left (c.loop-side.invariant.united c.requires.well))

pub union-add-requires : goal.union-add-requires
union-add-requires t c =
    let left = sides_left c.in-Some.rest.now c.loop-side.side-index c.side-item.result c.loop-side-test.true c.side-item.is in
    record {
      valid = union_valid c.args.below.now (sides_seen c.args.sides.now) c.loop-side.nodes _ _ _ _ _ _ left (c.loop-side.invariant.united c.requires.well) _ _ c.in_ok-right.ensures.grows c.in_ok-right.ensures.gives;
    }

pub union-loop-side-preserved : goal.union-loop-side-preserved
union-loop-side-preserved t c =
    let left = sides_left c.in-Some.rest.now c.loop-side.side-index c.side-item.result c.loop-side-test.true c.side-item.is in
    record {
      grows = grows-trans _ _ _ c.loop-side.invariant.grows (grows-trans _ _ _ c.in_ok-right.ensures.grows c.in_ok-all-2.ensures.stands.grows);
      forms = λ olds. forms_push _ _ _ c.in_ok-all-2.ensures.ok.1 tt (c.in_ok-right.ensures.forms (c.loop-side.invariant.forms olds));
      few = grind (arith, common_steps, c.loop-side.invariant.few, c.in_ok-right.ensures.few, c.in_ok-all-2.ensures.ok.1, sides_more _ _ _ left);
      united = λ well.
          united-next c.args.below.now (sides_seen c.args.sides.now) c.loop-side.nodes _ _ _ _ _ _ left (c.loop-side.invariant.united well) _ _ c.in_ok-right.ensures.grows c.in_ok-right.ensures.gives
          _ _ c.in_ok-all-2.ensures.stands;
    }

pub union-returns-clause-gives : goal.union-returns-clause-gives
union-returns-clause-gives t c = λ well.
    united-last c.args.below.now (sides_seen c.args.sides.now) _ _ _ _ _ (ap sides_seen (drop_all c.loop-side.side-index c.in-Some.rest.now (search rules))) (c.loop-side.invariant.united well)
