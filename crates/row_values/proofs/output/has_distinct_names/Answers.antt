use Rattle.std.proofs.Common.{sym, subst, ◌∙◌, true≢false, Contains}
use Rattle.aql_base.specs.DistinctLists.{AllPairs-tail, AllPairs-distinct_cons, AllPairs-not_among}
use Rattle.row_values.specs.Outputs.{HasDistinctNames}
use Rattle.row_values.proofs.output.has_distinct_names.Goals as goal

pub returns-then-is_among : goal.returns-then-is_among
returns-then-is_among c =
    let parts = c.in-Some.ensures.cases in
    let among : Contains c.in-Some.later.now c.in-Some.first.now = subst (Contains c.in-Some.later.now) c.as_str.ensures (c.is_among.ensures.0 c.if-is_among.true) in (
      λ e. absurd (true≢false (sym e)),
      λ distinct. absurd (AllPairs-not_among c.in-Some.first.now c.in-Some.later.now (subst HasDistinctNames parts.0 (c.loop-first.invariant.needed distinct)) among),
    )

pub loop-first-preserved : goal.loop-first-preserved
loop-first-preserved c =
    let parts = c.in-Some.ensures.cases in
    let new : Contains c.in-Some.later.now c.in-Some.first.now → ⊥ = λ at. true≢false (sym (c.is_among.ensures.1 (subst (Contains c.in-Some.later.now) (sym c.as_str.ensures) at)) ∙ c.if-is_among.false) in
    record {
      enough = λ distinct. c.loop-first.invariant.enough (subst HasDistinctNames (sym parts.0) (AllPairs-distinct_cons c.in-Some.first.now c.in-Some.later.now new distinct));
      needed = λ distinct. AllPairs-tail c.in-Some.first.now c.in-Some.later.now (subst HasDistinctNames parts.0 (c.loop-first.invariant.needed distinct));
    }
