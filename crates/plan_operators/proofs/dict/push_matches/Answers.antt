use Rattle.std.proofs.Common.{rules, ◌≡◌, ◌∙◌, ◌++◌, ℕ, List, Some, None, map, ap, sym, subst, option_map}
use Rattle.std.specs.List.{All}
use Rattle.std.proofs.lemmas.List.{append-nil}
use Rattle.std.proofs.lemmas.List.Elements.{All-append}
use Rattle.span_token.specs.Extents.{Extent, extent_of}
use Rattle.dict_match.specs.declared.walk.DictMatch.{DictMatch}
use Rattle.dict_match.specs.Rows.{dict_and_extent}
use Rattle.row_values.specs.Datums.{Datum, IsOfDocument}
use Rattle.row_values.specs.Rows.{RowList, RowsLieIn, span_in}
use Rattle.plan_operators.specs.DictNumbers.{numbered_rows}
use Rattle.plan_operators.proofs.DictNumbering.{numbered-marked, none-marked, numbered-lies}
use Rattle.plan_operators.proofs.dict.push_matches.Goals as goal

pub returns-in_ok-push_dicts-in-Some-clause-rows : goal.returns-in_ok-push_dicts-in-Some-clause-rows
returns-in_ok-push_dicts-in-Some-clause-rows c =
    let row = c.args.row.now in
    let dicts = c.args.dicts.now in
    let found = map dict_and_extent c.find_dict_matches.new.into.items in
    let in_column : span_in c.args.column row ≡ Some (extent_of c.in-Some.source) = sym c.source_in.ensures.source ∙ ap (option_map extent_of) c.in-Some.is in
    c.in_ok-push_dicts-in-Some.ensures
    ∙ (ap (λ (ms : List DictMatch). record { width = c.args.into.now.width; rows = c.args.into.now.rows ++ numbered_rows row (map dict_and_extent ms) dicts }) c.as_slice.ensures.value
    ∙ ap (λ (rows : List (List Datum)). record { width = c.args.into.now.width; rows = c.args.into.now.rows ++ rows })
    (numbered-marked c.args.tools.now c.args.doc.now c.args.column dicts row (extent_of c.in-Some.source) found in_column c.in_ok-find_dict_matches-in-Some.ensures.matches))

pub returns-in_ok-push_dicts-in-Some-clause-lies : goal.returns-in_ok-push_dicts-in-Some-clause-lies
returns-in_ok-push_dicts-in-Some-clause-lies c = λ old.
    let row = c.args.row.now in
    let doc = c.args.doc.now in
    let dicts = c.args.dicts.now in
    let found = map dict_and_extent c.as_slice.result.now in
    let inside = subst (λ (ms : List DictMatch). All (λ (m : ℕ × Extent). Rattle.span_token.specs.Relations.ContainsExtent (extent_of c.in-Some.source) m.1) (map dict_and_extent ms)) (sym c.as_slice.ensures.value) c.in_ok-find_dict_matches-in-Some.ensures.within in
    subst (λ (list : RowList). RowsLieIn doc list.rows) (sym c.in_ok-push_dicts-in-Some.ensures)
    (All-append (All (IsOfDocument doc)) c.args.into.now.rows (numbered_rows row found dicts) old
    (numbered-lies doc row (extent_of c.in-Some.source) c.requires.in_document (search rules) found inside dicts))

pub returns-in-None-clause-rows : goal.returns-in-None-clause-rows
returns-in-None-clause-rows c =
    let none : span_in c.args.column c.args.row.now ≡ None = sym c.source_in.ensures.source ∙ ap (option_map extent_of) c.in-None.is in
    ap (λ (rows : List (List Datum)). record { width = c.args.into.now.width; rows = rows })
    (sym (append-nil c.args.into.now.rows) ∙ ap (λ (rows : List (List Datum)). c.args.into.now.rows ++ rows) (none-marked c.args.tools.now c.args.doc.now c.args.column c.args.dicts.now c.args.row.now none))
