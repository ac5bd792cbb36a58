use Rattle.std.proofs.Common.{◌∙◌, ◌++◌, List, length, map, subst}
use Rattle.std.specs.List.{range_with_len}
use Rattle.group_agg.specs.declared.agg.Agg.{Agg}
use Rattle.group_agg.specs.Groups.{grouped}
use Rattle.row_values.specs.Rows.{sorted}
use Rattle.aql_typed.specs.declared.tree.Projection.{Projection}
use Rattle.aql_typed.specs.Meaning.{row_of}
use Rattle.aql_typed.specs.Views.{projection_of}
use Rattle.plan_maker.specs.Grounds.{Gives, ColumnsFit}
use Rattle.plan_maker.proofs.Giving.{valid-project, gives-project}
use Rattle.plan_maker.proofs.selection.projected.Goals as goal

pub add-requires : goal.add-requires
add-requires c =
    let wanted = subst (λ (p : Projection). ColumnsFit (projection_of p) c.requires.can.width) c.in-Plain.is c.requires.can.wanted in
    record { valid = valid-project _ _ _ _ c.requires.can.gives _ c.in-Plain.items (c.in_ok-items-in-Plain.ensures ∙ c.as_slice.ensures) wanted.0 }

pub returns-in_ok-n-in-Plain-clause-gives : goal.returns-in_ok-n-in-Plain-clause-gives
returns-in_ok-n-in-Plain-clause-gives c =
    rw c.in-Plain.is (λ can. gives-project _ _ _ _ can.gives _ c.in-Plain.items (c.in_ok-items-in-Plain.ensures ∙ c.as_slice.ensures) _ _ c.in_ok-n-in-Plain.ensures.stands)

pub returns-in_ok-n-in-Grouped-clause-gives : goal.returns-in_ok-n-in-Grouped-clause-gives
returns-in_ok-n-in-Grouped-clause-gives c =
    let keys = c.in-Grouped.keys in
    let all = keys ++ c.in-Grouped.arguments in
    rw c.in-Grouped.is (λ can.
    subst (λ (aggs : List Agg). Gives c.grouped.new.nodes c.in_ok-n-in-Grouped.n (length aggs) (λ lists doc. sorted (grouped (range_with_len 0 (length keys)) aggs (map (row_of lists doc all) (can.rows lists doc)))))
    c.as_slice-in-Grouped.ensures.value
    (c.in_ok-n-in-Grouped.ensures.gives (record { width = can.width; rows = can.rows; gives = can.gives; wanted = can.wanted.0 })))
