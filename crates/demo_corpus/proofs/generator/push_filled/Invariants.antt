use Rattle.std.proofs.Common.{◌≡◌, ◌++◌, IsUtf8, chars, encode_utf8_all, string_bytes}
use Rattle.std.specs.Str.Iter.{chars_rest}
use Rattle.demo_corpus.specs.Generator.{filled}
use Rattle.demo_corpus.proofs.generator.push_filled.Given as goal

abbrev pub invariant-characters : goal.invariant-characters
invariant-characters l = record {
  text : IsUtf8 (chars_rest l.c-iterator);
  put : string_bytes l.text ++ encode_utf8_all (filled (chars l.fn.number) (chars (chars_rest l.c-iterator)))
      ≡ string_bytes l.initial.text ++ encode_utf8_all (filled (chars l.fn.number) (chars l.fn.sentence));
}
