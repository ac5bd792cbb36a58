use Rattle.std.proofs.Common.{◌≡◌, ◌∙◌, ◌++◌, ◌+◌, ◌-◌, ℕ, List, ap, ap₂, arith}
use Rattle.scalar_ops.specs.Expressions.{Term}
use Rattle.aql_typed.specs.Fitting.{found_width}
use Rattle.aql_typed.specs.Views.{extraction_of, extract_clauses_of}
use Rattle.algebra.specs.declared.shape.Shape.{Shape}
use Rattle.algebra.specs.ExtractionLaws.{columns_from}
use Rattle.plan_maker.proofs.Clauses.{can_search, found_valid, found_gives}
use Rattle.plan_maker.proofs.Giving.{width-there}
use Rattle.plan_maker.proofs.extraction.each_extracted.Goals as goal

pub shape-requires : goal.shape-requires
shape-requires c =
    let given = c.in_ok-found.ensures.gives (can_search c.args.nodes.now c.args.input (extract_clauses_of c.args.clauses.now) c.requires.can) in
    record { in_range = given.has.there }

pub overflow_sub-count : goal.overflow_sub-count
overflow_sub-count c =
    let given = c.in_ok-found.ensures.gives (can_search c.args.nodes.now c.args.input (extract_clauses_of c.args.clauses.now) c.requires.can) in
    let first : c.shape-width.result.width ≡ c.requires.can.width = ap (λ (s : Shape). s.width) c.shape-width.ensures ∙ width-there _ _ _ _ c.requires.can.gives in
    let end : c.shape.result.width ≡ c.requires.can.width + found_width (extraction_of c.args.clauses.now.extraction) = ap (λ (s : Shape). s.width) c.shape.ensures ∙ width-there _ _ _ _ given in
    omega (arith, first, end)

pub add-requires : goal.add-requires
add-requires c =
    let can = c.requires.can in
    let given = c.in_ok-found.ensures.gives (can_search c.args.nodes.now c.args.input (extract_clauses_of c.args.clauses.now) can) in
    let first : c.shape-width.result.width ≡ can.width = ap (λ (s : Shape). s.width) c.shape-width.ensures ∙ width-there _ _ _ _ can.gives in
    let end : c.shape.result.width ≡ can.width + found_width (extraction_of c.args.clauses.now.extraction) = ap (λ (s : Shape). s.width) c.shape.ensures ∙ width-there _ _ _ _ given in
    let count : c.shape.result.width - c.shape-width.result.width ≡ found_width (extraction_of c.args.clauses.now.extraction) = omega (arith, first, end) in
    let are = c.in_ok-items.ensures ∙ ap₂ (λ (a b : List Term). a ++ b) c.as_slice.ensures (ap₂ (λ (m n : ℕ). columns_from m n) first count) in
    record { valid = found_valid c.args.nodes.now c.args.input (extract_clauses_of c.args.clauses.now) c.found.new.nodes c.in_ok-found.found c.in_ok-found.ensures.gives can _ are }

pub returns-clause-gives : goal.returns-clause-gives
returns-clause-gives c = λ can.
    let given = c.in_ok-found.ensures.gives (can_search c.args.nodes.now c.args.input (extract_clauses_of c.args.clauses.now) can) in
    let first : c.shape-width.result.width ≡ can.width = ap (λ (s : Shape). s.width) c.shape-width.ensures ∙ width-there _ _ _ _ can.gives in
    let end : c.shape.result.width ≡ can.width + found_width (extraction_of c.args.clauses.now.extraction) = ap (λ (s : Shape). s.width) c.shape.ensures ∙ width-there _ _ _ _ given in
    let count : c.shape.result.width - c.shape-width.result.width ≡ found_width (extraction_of c.args.clauses.now.extraction) = omega (arith, first, end) in
    let are = c.in_ok-items.ensures ∙ ap₂ (λ (a b : List Term). a ++ b) c.as_slice.ensures (ap₂ (λ (m n : ℕ). columns_from m n) first count) in
    found_gives c.args.nodes.now c.args.input (extract_clauses_of c.args.clauses.now) c.found.new.nodes c.in_ok-found.found c.in_ok-found.ensures.gives can _ are c.as_slice-plan.ensures.plan _ _ c.in_ok-n.ensures.stands
