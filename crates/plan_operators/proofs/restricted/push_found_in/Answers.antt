use Rattle.std.proofs.Common.{◌≡◌, ◌∙◌, ◌-◌, ◌++◌, List, Some, map, sym, ap, arith}
use Rattle.std.proofs.lemmas.Option.{get_or_from_slice_get}
use Rattle.span_token.specs.Documents.{characters}
use Rattle.span_token.specs.ExtentLaws.{same_extent}
use Rattle.span_token.specs.Extents.{Extent}
use Rattle.span_token.specs.SourceTokens.{run_extent}
use Rattle.span_token.specs.Tokens.{tokens_of}
use Rattle.row_values.specs.Datums.{Datum}
use Rattle.row_values.specs.Rows.{RowList, span_in}
use Rattle.aql_typed.specs.Trees.{Extraction}
use Rattle.aql_typed.specs.Meaning.{group_value, found_in}
use Rattle.plan_operators.proofs.Restricting.{run-tokens, followed-by_token}
use Rattle.plan_operators.proofs.restricted.push_found_in.Goals as goal

pub returns-clause-rows : goal.returns-clause-rows
returns-clause-rows c =
    let lists = c.args.tools.now in
    let doc = c.args.doc.now in
    let tokens = tokens_of (characters doc) in
    let lead = c.args.row.now in
    let first = c.args.first in
    let past = c.args.past in
    let old = c.args.into.now in
    let none : Extent = record { begin = 0; end = 0 } in
    let source = run_extent tokens first (past - 1) in
    let part : List Datum = c.single-part.result in
    let begin = get_or_from_slice_get tokens first _ none c.token-begin.ensures.token in
    let end = get_or_from_slice_get tokens (past - 1) _ none c.token-end.ensures.token in
    let is = same_extent (record { begin = c.token-begin.result.begin; end = c.token-end.result.end }) source (ap (λ (e : Extent). e.begin) (sym begin)) (ap (λ (e : Extent). e.end) (sym end)) in
    let at : span_in 0 part ≡ Some source = ap (λ (r : List Datum). span_in 0 r) c.single-part.ensures ∙ ap Some is in
    let within = run-tokens (characters doc) first past (grind (arith, c.if-first-past.false)) c.requires.there in
    c.in_ok-push_found.ensures.rows
    ∙ ap (λ (rows : List (List Datum)). let list : RowList = record { width = old.width; rows = old.rows ++ rows } in list)
    (ap (λ (e : Extraction). map (λ found. lead ++ map group_value found) (found_in lists doc e part)) c.search_for.ensures
    ∙ followed-by_token lists doc c.args.local lead lead part source first past within c.requires.sought at)
