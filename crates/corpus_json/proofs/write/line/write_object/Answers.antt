use Rattle.std.proofs.Common.{◌≡◌, ◌++◌, ◌∷◌, [], List, length, map, false, sym, ap, ◌∙◌, codes}
use Rattle.std.proofs.lemmas.List.{length-map}
use Rattle.corpus_json.specs.Outputs.{rows_of, width_of}
use Rattle.corpus_json.specs.Sections.{Section, sections_of}
use Rattle.corpus_json.specs.Writing.{label_text, views_text}
use Rattle.corpus_json.proofs.Views.{has_rows, lists_same, line_text, four_pieces}
use Rattle.corpus_json.proofs.write.line.write_object.Goals as goal

pub write_views-requires-clause-rows : goal.write_views-requires-clause-rows
write_views-requires-clause-rows c = has_rows c.args.layout.now (map width_of c.args.rows.now) c.members.result.now c.requires.columns c.members.ensures

pub returns : goal.returns
returns c =
    let document = c.args.document.now in
    let outputs = c.args.layout.now in
    let rows = map rows_of c.args.rows.now in
    let old = c.args.out.now.items in
    let same : length rows ≡ length outputs = length-map c.args.rows.now rows_of ∙ sym (length-map c.args.rows.now width_of) ∙ lists_same outputs (map width_of c.args.rows.now) c.requires.columns in
    let label : c.write_label.new.out.items ≡ old ++ label_text document.label = c.in_ok-write_label.ensures ∙ ap (λ l. old ++ label_text l) c.label.ensures in
    let views : c.write_views.new.out.items ≡ c.extend_from_slice.new.self.items ++ views_text false document rows (sections_of outputs) =
    c.in_ok-write_views.ensures ∙ ap (λ (sections : List Section). c.extend_from_slice.new.self.items ++ views_text false document rows sections) c.members.ensures in
    four_pieces old c.write_label.new.out.items c.extend_from_slice.new.self.items c.write_views.new.out.items c.push.new.self.items
    (label_text document.label) (codes "\"views\":{") (views_text false document rows (sections_of outputs)) (125 ∷ [])
    label c.in_ok-extend_from_slice.ensures.items views c.in_ok-push.ensures.items
    ∙ ap (λ text. old ++ text) (sym (line_text document outputs rows same))
