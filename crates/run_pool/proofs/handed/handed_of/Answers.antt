use Rattle.std.proofs.Common.{rules, ◌≡◌, ◌∙◌, ◌++◌, ℕ, List, ap, map, length, string_bytes}
use Rattle.corpus_json.specs.Outputs.{output_line, rows_of}
use Rattle.run_pool.specs.Lines.{rows_by}
use Rattle.run_pool.specs.PoolLaws.{lent_wide, lent_lies, lent_line, lent_sizes}
use Rattle.run_pool.proofs.Empty.{same_entry}
use Rattle.run_pool.proofs.handed.handed_of.Goals as goal

pub append_document-requires-clause-columns : goal.append_document-requires-clause-columns
append_document-requires-clause-columns c = lent_wide rows_by c.args.plan.now c.args.document.now c.args.found.now c.requires.found c.args.layout.now c.requires.layout

pub append_document-requires-clause-in_document : goal.append_document-requires-clause-in_document
append_document-requires-clause-in_document c = lent_lies rows_by c.args.plan.now c.args.document.now c.args.found.now c.requires.found

pub returns : goal.returns
returns c =
    let text : string_bytes c.in_ok-text.text ≡ c.args.document.now.text = search rules in
    same_entry _ _ _ _ _ _ _ _ c.in_ok-plan_text.ensures text
    (c.in_ok-line.ensures.line ∙ ap (λ (line : List ℕ). line ++ output_line c.args.document.now c.args.layout.now (map rows_of c.args.found.now)) c.new.ensures.items
    ∙ lent_line rows_by c.args.plan.now c.args.document.now c.args.found.now c.requires.found c.args.layout.now c.requires.layout)
    (c.in_ok-sizes.ensures ∙ lent_sizes rows_by c.args.plan.now c.args.document.now c.args.found.now c.requires.found)
