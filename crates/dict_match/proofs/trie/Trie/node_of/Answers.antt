use Rattle.std.proofs.Common.{◌∙◌, ◌<◌, List, ℕ, length, map, take, ap, subst, arith}
use Rattle.dict_match.specs.Dictionaries.{folded, texts_of}
use Rattle.dict_match.specs.Tries.{Reaches}
use Rattle.dict_match.proofs.EntryLemmas.{keys-step}
use Rattle.dict_match.proofs.trie.Trie.node_of.Goals as goal

pub loop-i-preserved : goal.loop-i-preserved
loop-i-preserved c = λ put r.
    let tokens = c.args.tokens.now.tokens in
    let path : List (List ℕ) = map folded (take c.loop-i.i (texts_of c.args.tokens.now.doc tokens)) in
    let lt : c.loop-i.i < length tokens = omega (arith, c.loop-i-test.true, c.len-i-end.ensures.len) in
    let before = c.in_ok-word.ensures.kept put c.loop-i.node path (c.loop-i.invariant put r) in
    let text = c.as_str.ensures.value ∙ c.in_ok-fold_into.ensures ∙ ap folded c.text.ensures.text in
    subst (λ (p : List (List ℕ)). Reaches c.child.new.self put c.in_ok-node.node p) (keys-step c.args.tokens.now.doc tokens c.loop-i.i c.as_str.result.now lt text)
    (c.in_ok-node.ensures put path c.as_str.result.now before c.in_ok-word.ensures.number)
