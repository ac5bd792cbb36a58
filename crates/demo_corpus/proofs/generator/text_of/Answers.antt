use Rattle.std.proofs.Common.{chars, string_bytes}
use Rattle.demo_corpus.proofs.Fillings.{pieces}
use Rattle.demo_corpus.proofs.generator.text_of.Goals as goal

pub returns : goal.returns
returns c =
    pieces (chars c.args.number.now) c.args.i (string_bytes c.new-text.result) (string_bytes c.push_filled.new.text) (string_bytes c.push.new.self) (string_bytes c.push_filled-2.new.text) (string_bytes c.push-2.new.self)
    (string_bytes c.push_filled-3.new.text) c.sentence.result.now c.sentence-2.result.now c.sentence-3.result.now c.new-text.ensures.bytes c.in_ok-push_filled.ensures c.sentence.ensures c.in_ok-push.ensures.bytes
    c.in_ok-push_filled-2.ensures c.sentence-2.ensures c.in_ok-push-2.ensures.bytes c.in_ok-push_filled-3.ensures c.sentence-3.ensures
