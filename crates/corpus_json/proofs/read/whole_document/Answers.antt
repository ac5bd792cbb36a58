use Rattle.std.proofs.Common.{◌≡◌, List, [], ◌∷◌, ◌∙◌, None, sym, ap, option_map, option_and_then, arith}
use Rattle.json.specs.Token.{Token}
use Rattle.json.specs.Reads.{token_of}
use Rattle.corpus_json.specs.Documents.{document_of}
use Rattle.corpus_json.specs.Inputs.{doc_of_ref}
use Rattle.corpus_json.specs.Passing.{whole_value}
use Rattle.corpus_json.proofs.Passing.{whole_object, other_whole, nothing_whole}
use Rattle.corpus_json.proofs.read.whole_document.Goals as goal

pub returns-in_err-token : goal.returns-in_err-token
returns-in_err-token c =
    let empty : c.args.reader.now ≡ [] = grind arith in
    let nothing : c.from_residual.result ≡ None = grind arith in
    ap (option_map doc_of_ref) nothing ∙ sym (ap (λ (ts : List Token). option_and_then document_of (whole_value ts)) empty ∙ nothing_whole)

pub returns-in-BeginObject : goal.returns-in-BeginObject
returns-in-BeginObject c =
    let first : c.args.reader.now ≡ token_of c.in_ok-token.token ∷ c.next.new.self = grind arith in
    let is : c.args.reader.now ≡ Token.begin_object ∷ c.next.new.self = first ∙ ap (λ k. token_of k ∷ c.next.new.self) c.in-BeginObject.is in
    c.whole_object.ensures ∙ sym (ap (λ (ts : List Token). option_and_then document_of (whole_value ts)) is ∙ ap (option_and_then document_of) (whole_object c.next.new.self))

pub returns-in-String : goal.returns-in-String
returns-in-String c =
    let first : c.args.reader.now ≡ token_of c.in_ok-token.token ∷ c.next.new.self = grind arith in
    sym (ap (λ (ts : List Token). option_and_then document_of (whole_value ts)) first ∙ other_whole (token_of c.in_ok-token.token) c.next.new.self (λ e. grind (arith, e)))
