use Rattle.std.proofs.Common.{rules, ◌≡◌, ◌∙◌, ℕ, List, not, map, length, ap, subst, sym}
use Rattle.std.specs.List.{All, filter}
use Rattle.std.proofs.lemmas.Fn.{filter_same}
use Rattle.std.proofs.lemmas.List.Elements.{All-filter}
use Rattle.row_values.specs.Datums.{Datum}
use Rattle.row_values.specs.Rows.{RowList, does_occur}
use Rattle.row_operators.proofs.sides.absent_from.Goals as goal

pub from_vec-requires-clause-width : goal.from_vec-requires-clause-width
from_vec-requires-clause-width c =
    let absent = λ (row : List Datum). not (does_occur (map (λ other. other.now) c.args.others.now) row) in
    let kept : c.retain.new.self.items ≡ filter absent c.into_vec-left.result.items = filter_same _ _ _ (λ x b f' k. search rules) _ _ c.retain.ensures.filtered in
    subst (λ (width : ℕ). All (λ (row : List Datum). length row ≡ width) c.retain.new.self.items) (sym c.width-width.ensures.width)
    (subst (All (λ (row : List Datum). length row ≡ c.args.rows.width)) (sym kept) (All-filter absent (λ (row : List Datum). length row ≡ c.args.rows.width) c.into_vec-left.result.items c.into_vec-left.ensures.each_row))

pub returns-clause-rows : goal.returns-clause-rows
returns-clause-rows c =
    let absent = λ (row : List Datum). not (does_occur (map (λ other. other.now) c.args.others.now) row) in
    let kept : c.retain.new.self.items ≡ filter absent c.into_vec-left.result.items = filter_same _ _ _ (λ x b f' k. search rules) _ _ c.retain.ensures.filtered in
    ap (λ (list : RowList). list.rows) c.from_vec.ensures ∙ (kept ∙ ap (filter absent) c.into_vec-left.ensures.rows)
