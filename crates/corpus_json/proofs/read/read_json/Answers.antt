use Rattle.std.proofs.Common.{◌≡◌, ◌∙◌, sym, ap, List, ℕ, option_map, option_and_then}
use Rattle.serde_json.specs.Read.{read}
use Rattle.corpus_json.specs.Documents.{document_of, document_in}
use Rattle.corpus_json.specs.Inputs.{doc_of_ref}
use Rattle.corpus_json.proofs.TextLength.{found_length}
use Rattle.corpus_json.proofs.Values.{value_of_text, value_of_refused}
use Rattle.corpus_json.proofs.read.read_json.Goals as goal

pub returns-in_ok-found-in-Ok : goal.returns-in_ok-found-in-Ok
unfolding document_in
returns-in_ok-found-in-Ok c =
    let is : option_map doc_of_ref c.in_ok-found-in-Ok.found ≡ document_in c.args.line.now =
    c.in_ok-found-in-Ok.ensures ∙ ap (λ (text : List ℕ). option_and_then document_of (read text)) c.in-Ok.ensures.0 ∙ ap (option_and_then document_of) (sym (value_of_text c.args.line.now c.in-Ok.ensures.1)) in
    (is, found_length c.args.line.now c.in_ok-found-in-Ok.found is)

pub returns-in-Err : goal.returns-in-Err
unfolding document_in
returns-in-Err c = (sym (ap (option_and_then document_of) (value_of_refused c.args.line.now (λ text. absurd (c.in-Err.ensures text)))), tt)
