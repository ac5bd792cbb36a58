use Rattle.std.proofs.Common.{◌≡◌, ◌%◌, [], sym, ap, arith, encode_utf8_all, slice_index_or}
use Rattle.std.specs.Char.{encode_utf8}
use Rattle.demo_corpus.specs.Sentences.{sentences, sentence_of}
use Rattle.demo_corpus.proofs.sentences.sentence.Goals as goal

pub returns-in_default : goal.returns-in_default
unfolding sentence_of encode_utf8
returns-in_default c =
    let last : c.args.number % 8 ≡ 7 = omega arith in
    ap (λ k. encode_utf8_all (slice_index_or sentences k [])) (sym last)
