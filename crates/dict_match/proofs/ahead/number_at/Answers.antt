use Rattle.std.proofs.Common.{◌≡◌, ◌∙◌, ◌∷◌, ◌+◌, ◌-◌, [], ◌<◌, List, ℕ, length, ap, refl, arith}
use Rattle.std.proofs.lemmas.List.{length-append}
use Rattle.std.specs.HashMap.{get_by_text}
use Rattle.dict_match.specs.Dictionaries.{folded}
use Rattle.dict_match.proofs.WalkLemmas.{key, known-number, more-numbers}
use Rattle.dict_match.proofs.ahead.number_at.Goals as goal

pub returns-then-nth-len-clause-number : goal.returns-then-nth-len-clause-number
returns-then-nth-len-clause-number c =
    let ahead = c.args.ahead.now in
    let le = c.requires.next.«from» in
    let known : c.args.i - ahead.begin < length ahead.numbers.items = omega (arith, c.if-nth-len.true, c.len.ensures, ahead.numbers.ok.0) in
    c.index.ensures ∙ known-number c.args.trie.now c.args.tokens.now ahead c.args.i c.index.result.now c.requires.numbers le known c.requires.there

pub returns : goal.returns
returns c =
    let ahead = c.args.ahead.now in
    let words = ahead.numbers.items in
    let le = c.requires.next.«from» in
    let to = c.requires.next.to in
    let next : c.args.i ≡ ahead.begin + length words = omega (arith, c.if-nth-len.false, c.len.ensures, le, to, ahead.numbers.ok.0) in
    let is : c.in_ok-word.word ≡ get_by_text c.args.trie.now.words (key c.args.tokens.now c.args.i) =
    c.in_ok-word.ensures ∙ ap (λ (t : List ℕ). get_by_text c.args.trie.now.words (folded t)) c.text.ensures.text in
    record {
      number = is;
      begin = refl;
      numbers = more-numbers c.args.trie.now c.args.tokens.now ahead c.push.new.self.items c.args.i c.in_ok-word.word c.requires.numbers next c.requires.there is c.in_ok-push.ensures.items;
      past = omega (arith, next, ap length c.in_ok-push.ensures.items, length-append words (c.in_ok-word.word ∷ []));
    }
