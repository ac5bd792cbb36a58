use Rattle.std.proofs.Common.{◌≡◌, ◌++◌, ◌∷◌, [], ap, ◌∙◌, codes}
use Rattle.json.specs.Token.{begin_object, end_object, key, string}
use Rattle.demo_corpus.specs.Tokens.{label_tokens}
use Rattle.demo_corpus.proofs.Objects.{five_pieces, object_tokens}
use Rattle.demo_corpus.proofs.line.write_object.Goals as goal

pub returns : goal.returns
returns c =
    let input = c.args.document.now in
    let text : c.string.new.self.tokens ≡ c.key.new.self.tokens ++ string input.text ∷ [] = c.in_ok-string.ensures.ok ∙ ap (λ bytes. c.key.new.self.tokens ++ string bytes ∷ []) c.as_str.ensures in
    record {
      tokens_are =
          five_pieces c.args.out.now.tokens c.begin_object.new.self.tokens c.write_label.new.out.tokens c.key.new.self.tokens c.string.new.self.tokens c.end_object.new.self.tokens
          (label_tokens input.label) begin_object (key (codes "text")) (string input.text) end_object
          c.in_ok-begin_object.ensures.ok c.in_ok-write_label.ensures.tokens_are c.in_ok-key.ensures.ok text c.in_ok-end_object.ensures.ok
          ∙ ap (λ ts. c.args.out.now.tokens ++ ts) (object_tokens input.label input.text);
      before = c.in_ok-end_object.ensures.room.0 ∙ c.in_ok-string.ensures.room.0 ∙ c.in_ok-key.ensures.room.0 ∙ c.in_ok-write_label.ensures.before ∙ c.in_ok-begin_object.ensures.room.0;
    }
