use Rattle.std.proofs.Common.{◌≡◌, ◌∙◌, ◌<◌, ◌≤◌, ◌-◌, List, Option, map, length, get_or, option_map, ap, sym, subst, arith}
use Rattle.std.proofs.lemmas.List.{get_or-append_right, get_or-map, length-map}
use Rattle.span_token.specs.Extents.{extent_of}
use Rattle.span_token.specs.declared.span.Span.{Span}
use Rattle.row_values.specs.Datums.{Datum, IsOfDocument, datum_of, null}
use Rattle.aql_regex_extract.specs.Matches.{extents_of}
use Rattle.aql_typed.specs.Meaning.{group_value}
use Rattle.row_operators.proofs.found.value_at.Goals as goal

pub returns-then-index-values-clause-lies : goal.returns-then-index-values-clause-lies
returns-then-index-values-clause-lies c = λ doc lead groups.
    let values = c.values-values.result.now in
    let v = c.index-values-index.result in
    let below : c.args.column < length values = c.if-index-values.true in
    let inside : c.args.column < length c.args.lead.now = omega (arith, below, sym (length-map values datum_of) ∙ ap length c.values-values.ensures) in
    let at : get_or c.args.lead.now c.args.column (datum_of v) ≡ datum_of (get_or values c.args.column v) =
    ap (λ (xs : List Datum). get_or xs c.args.column (datum_of v)) (sym c.values-values.ensures) ∙ get_or-map datum_of values c.args.column v (datum_of v) below in
    subst (IsOfDocument doc) (at ∙ ap datum_of (sym c.index-values-index.is)) (lead c.args.column (datum_of v) inside)

pub returns-then-index-values-2-clause-value : goal.returns-then-index-values-2-clause-value
returns-then-index-values-2-clause-value c =
    let values = c.values-values.result.now in
    let groups = c.args.groups.now in
    let lead = c.args.lead.now in
    let g = c.index-groups-index.result in
    let k = c.args.column - length values in
    let worth : Option Span → Datum = λ o. group_value (option_map extent_of o) in
    let long : length lead ≡ length values = ap length (sym c.values-values.ensures) ∙ length-map values datum_of in
    let past : length values ≤ c.args.column = omega (arith, c.if-index-values.false) in
    let below : k < length groups = c.if-index-values-2.true in
    let inside : k < length (extents_of groups) = omega (arith, below, length-map groups (option_map extent_of)) in
    c.value_of.ensures
    ∙ (ap worth c.index-groups-index.is
    ∙ (ap group_value (sym (get_or-map (option_map extent_of) groups k g (option_map extent_of g) below))
    ∙ (sym (get_or-map group_value (extents_of groups) k (option_map extent_of g) null inside)
    ∙ sym (get_or-append_right lead (map group_value (extents_of groups)) (length values) c.args.column null long past))))
