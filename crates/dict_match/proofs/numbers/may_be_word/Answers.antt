use Rattle.std.proofs.Common.{◌≡◌, subst, sym, true, false}
use Rattle.dict_match.specs.Marks.{HasMark}
use Rattle.dict_match.proofs.MarkLemmas.{unmarked}
use Rattle.dict_match.proofs.numbers.may_be_word.Goals as goal

pub returns-then-not-has : goal.returns-then-not-has
returns-then-not-has c = λ _.
    let trie = c.args.trie.now in
    sym (unmarked trie c.args.text.now c.requires.trie.made.numbered c.in-Some.ensures.ascii (λ set.
    let yes : c.has.result ≡ true = c.has.ensures.1 (subst (HasMark trie.marks) (sym c.in-Some.ensures.mark) set) in
    let no : c.has.result ≡ false = c.if-not-has.true in cc))
