use Rattle.std.proofs.Common.{◌∙◌, ◌<◌, List, ℕ, [], ◌∷◌, ◌++◌, length, ap₂, arith}
use Rattle.dict_match.proofs.EntryLemmas.{texts-step}
use Rattle.dict_match.proofs.trie.spelled_out.Goals as goal

pub loop-i-preserved : goal.loop-i-preserved
loop-i-preserved c =
    let tokens = c.args.tokens.now.tokens in
    let lt : c.loop-i.i < length tokens = omega (arith, c.loop-i-test.true, c.len-i-end.ensures.len) in
    c.in_ok-push.ensures.ok
    ∙ ap₂ (λ (ts : List (List ℕ)) (t : List ℕ). ts ++ t ∷ []) c.loop-i.invariant (c.in_ok-copied.ensures ∙ c.text.ensures.text)
    ∙ texts-step c.args.tokens.now.doc tokens c.loop-i.i lt
