use Rattle.std.proofs.Common.{◌≡◌, ◌++◌, ◌∷◌, [], List, ℕ, ap, ap₂, subst, sym, ◌∙◌, append_assoc, append-nil, IsUtf8}
use Rattle.json.specs.Lex.{tokens}
use Rattle.json.specs.Token.{Token}
use Rattle.json.specs.Print.{print}
use Rattle.json.specs.Tree.{json_tokens}
use Rattle.serde_json.specs.Written.{outline, compact_text}
use Rattle.serde_json.proofs.Texts.{print-outline}
use Rattle.corpus_json.specs.Inputs.{doc_of}
use Rattle.demo_corpus.specs.Corpora.{document_data, document_text}
use Rattle.demo_corpus.proofs.Objects.{reads}
use Rattle.demo_corpus.proofs.line.append_line.Goals as goal

pub returns : goal.returns
unfolding document_text
returns c =
    let document = doc_of c.args.document.now in
    let line = document_data document in
    let same : c.write_object.new.out.tokens ≡ json_tokens (outline line) = c.in_ok-write_object.ensures.tokens_are ∙ ap (λ (ts : List Token). ts ++ json_tokens (outline line)) c.new-out.ensures.tokens in
    let written : print c.write_object.new.out.tokens ≡ compact_text line = ap print same ∙ print-outline line in
    let bytes : c.into_inner-longer.result.items ≡ c.args.line.items ++ compact_text line =
    c.into_inner-longer.ensures.items ∙ ap₂ (λ (before : List ℕ) (text : List ℕ). before ++ text) (c.in_ok-write_object.ensures.before ∙ c.new-out.ensures.before) written in
    record {
      line = c.in_ok-push.ensures.items ∙ ap (λ (items : List ℕ). items ++ 10 ∷ []) bytes ∙ append_assoc c.args.line.items (compact_text line) (10 ∷ [])
          ∙ ap (λ text. c.args.line.items ++ text) (sym (append-nil (compact_text line ++ 10 ∷ [])));
      read = reads document (compact_text line) (subst IsUtf8 written c.into_inner-longer.ensures.utf8)
          (ap tokens (sym written) ∙ c.into_inner-longer.ensures.reads_back ∙ same);
    }
