use Rattle.std.proofs.Common.{◌≡◌, ◌++◌, List, ℕ, sym, ap, ◌∙◌, append_assoc, append-nil, chars, encode_utf8, encode_utf8_all, string_bytes}
use Rattle.std.proofs.lemmas.Str.{IsUtf8-past_char}
use Rattle.std.specs.Str.Iter.{chars_rest}
use Rattle.demo_corpus.specs.Generator.{filled, placed}
use Rattle.demo_corpus.proofs.Fillings.{filled_more, filled_none}
use Rattle.demo_corpus.proofs.generator.push_filled.Goals as goal

pub characters-preserved : goal.characters-preserved
characters-preserved c =
    let held = c.characters.invariant in
    let bytes = chars_rest c.characters.c-iterator in
    let rest = chars_rest c.next.new.self in
    let parts : bytes ≡ encode_utf8 c.in-Some.c ++ rest = c.in-Some.ensures.steps.0 in
    let number = chars c.args.number.now in
    let before = string_bytes c.characters.text in
    let one = encode_utf8_all (placed number c.in-Some.c) in
    let others = encode_utf8_all (filled number (chars rest)) in
    record {
      text = IsUtf8-past_char bytes rest c.in-Some.c held.text parts;
      put = ap (λ (put : List ℕ). put ++ others) c.in_ok-push_placed.ensures ∙ append_assoc before one others ∙ ap (λ (put : List ℕ). before ++ put) (sym (filled_more number bytes rest c.in-Some.c held.text parts)) ∙ held.put;
    }

pub returns : goal.returns
returns c =
    let bytes = chars_rest c.characters.c-iterator in
    let before = string_bytes c.characters.text in
    sym (append-nil before) ∙ ap (λ (put : List ℕ). before ++ put) (sym (filled_none (chars c.args.number.now) bytes c.in-None.ensures.steps.0.0)) ∙ c.characters.invariant.put
