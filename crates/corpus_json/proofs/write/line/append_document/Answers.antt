use Rattle.std.proofs.Common.{◌++◌, ◌∷◌, [], List, ℕ, map, ap, ◌∙◌, append_assoc}
use Rattle.serde_json.specs.Written.{compact_text}
use Rattle.corpus_json.specs.Outputs.{rows_of, line_data, output_line}
use Rattle.corpus_json.proofs.write.line.append_document.Goals as goal

pub returns : goal.returns
unfolding output_line
returns c =
    let line = line_data c.args.document.now c.args.layout.now (map rows_of c.args.rows.now) in
    record { line = c.in_ok-push.ensures.items ∙ ap (λ (items : List ℕ). items ++ 10 ∷ []) c.in_ok-write_object.ensures ∙ append_assoc c.args.line.items (compact_text line) (10 ∷ []) }
