use Rattle.std.proofs.Common.{◌≡◌, ◌≤◌, ◌++◌, List, ℕ, codes, decimal, length, chars, encode_utf8_all, string_bytes, sym, ap, subst, ◌∙◌}
use Rattle.span_token.specs.Documents.{Doc}
use Rattle.span_token.specs.Limits.{text_limit}
use Rattle.demo_corpus.specs.Generator.{filled, pattern_of}
use Rattle.demo_corpus.proofs.Fillings.{generated_is}
use Rattle.demo_corpus.proofs.Lengths.{generated-short}
use Rattle.demo_corpus.proofs.generator.gen_document.Goals as goal

pub returns-clause-document : goal.returns-clause-document
returns-clause-document c =
    let number = string_bytes c.in_ok-number.number in
    let is_label : c.from-2.result ≡ codes "d" ++ decimal c.args.i = c.from-2.ensures ∙ c.in_ok-label.ensures.ok in
    let is_text : c.from-3.result ≡ encode_utf8_all (filled (chars number) (pattern_of c.args.i)) = c.from-3.ensures ∙ rw (c.from.ensures, c.deref.ensures) at c.in_ok-text.ensures in
    generated_is c.args.i number c.from-2.result c.from-3.result c.in_ok-number.ensures is_label is_text

pub returns-clause-short : goal.returns-clause-short
returns-clause-short c =
    subst (λ (bytes : List ℕ). length bytes ≤ text_limit) (sym (ap (λ (document : Doc). document.text) (returns-clause-document c))) (generated-short c.args.i)
