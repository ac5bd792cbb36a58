use Rattle.std.proofs.Common.{◌≡◌, ◌<◌, ◌∙◌, ◌↔◌, ℕ, List, [], Some, None, IsTrue, true, false, map, length, get_or, sym, ap, subst, arith}
use Rattle.std.proofs.lemmas.List.{get_or_default}
use Rattle.std.specs.HashMap.{get_by_text}
use Rattle.dict_match.specs.declared.trie.End.{End}
use Rattle.dict_match.specs.Dictionaries.{folded, AgreesWith}
use Rattle.dict_match.specs.Tries.{Reaches, put_dicts, step}
use Rattle.dict_match.specs.Walks.{run_texts, HasEndFor}
use Rattle.dict_match.proofs.PutLemmas.{end-agrees, agrees-end}
use Rattle.dict_match.proofs.TrieLemmas.{Reaches-edge, node-there}
use Rattle.dict_match.proofs.WalkLemmas.{key, keys, keys-more, length-run, none-longer, run-all, step-of}
use Rattle.dict_match.proofs.probe.is_entry.Goals as goal

pub returns-in_default : goal.returns-in_default
returns-in_default c = λ dicts the made at.
    let trie = c.args.trie.now in
    let tokens = c.args.tokens.now in
    let last = c.loop-last.last in
    let lt : last < length tokens.tokens = omega (arith, c.loop-last-test.true, c.len-last-end.ensures.len) in
    let number : c.in_ok-word.word ≡ get_by_text trie.words (key tokens last) = c.in_ok-word.ensures ∙ ap (λ (t : List ℕ). get_by_text trie.words (folded t)) c.text.ensures.text in
    let none : step trie c.loop-last.node (key tokens last) ≡ None = step-of trie c.loop-last.node (key tokens last) c.in_ok-word.word None number c.in_default.ensures in (
      λ h. let no : false ≡ true = h in cc,
      λ agrees. absurd (none-longer trie dicts c.loop-last.node tokens 0 last (length tokens.tokens) c.args.dict the (c.loop-last.invariant (put_dicts 0 dicts) made) none at (omega arith) lt (omega arith)
          (subst (AgreesWith the) (sym (run-all tokens)) agrees)),
    )

pub loop-last-preserved : goal.loop-last-preserved
loop-last-preserved c = λ put made.
    let trie = c.args.trie.now in
    let tokens = c.args.tokens.now in
    let last = c.loop-last.last in
    let next = c.in-Some.next in
    let lt : last < length tokens.tokens = omega (arith, c.loop-last-test.true, c.len-last-end.ensures.len) in
    let number : c.in_ok-word.word ≡ get_by_text trie.words (key tokens last) = c.in_ok-word.ensures ∙ ap (λ (t : List ℕ). get_by_text trie.words (folded t)) c.text.ensures.text in
    let some : step trie c.loop-last.node (key tokens last) ≡ Some next = step-of trie c.loop-last.node (key tokens last) c.in_ok-word.word (Some next) number c.in-Some.ensures in
    subst (λ (p : List (List ℕ)). Reaches trie put next p) (sym (keys-more tokens 0 last (omega arith) lt))
    (Reaches-edge trie put c.loop-last.node next (key tokens last) (keys tokens 0 last) some (c.loop-last.invariant put made))

pub index-requires : goal.index-requires
index-requires c =
    let trie = c.args.trie.now in
    omega (arith, node-there trie c.requires.trie.put c.loop-last.node (keys c.args.tokens.now 0 c.loop-last.last) (c.loop-last.invariant c.requires.trie.put c.requires.trie.made), trie.ends.ok.0)

pub returns : goal.returns
returns c = λ dicts the made at.
    let trie = c.args.trie.now in
    let tokens = c.args.tokens.now in
    let node = c.loop-last.node in
    let all = length tokens.tokens in
    let texts = run_texts tokens 0 all in
    let last : c.loop-last.last ≡ all = omega (arith, c.loop-last-test.false, c.loop-last.auto.last-end, c.len-last-end.ensures.len) in
    let some : 0 < all = omega (arith, c.if-len-eq0.false, c.len.ensures.len) in
    let long : 0 < length texts = omega (arith, length-run tokens 0 all (omega arith) (omega arith), some) in
    let r : Reaches trie (put_dicts 0 dicts) node (map folded texts) = subst (λ (n : ℕ). Reaches trie (put_dicts 0 dicts) node (keys tokens 0 n)) last (c.loop-last.invariant (put_dicts 0 dicts) made) in
    let within : node < length trie.ends.items = node-there trie (put_dicts 0 dicts) node (map folded texts) r in
    let seen : c.as_slice.result.now ≡ get_or trie.ends.items node [] = c.as_slice.ensures ∙ c.index.ensures ∙ get_or_default trie.ends.items node c.index.result.now [] within in
    let told : IsTrue c.has_end.result ↔ HasEndFor c.args.dict texts (get_or trie.ends.items node []) =
    subst (λ (es : List End). IsTrue c.has_end.result ↔ HasEndFor c.args.dict texts es) seen
    (subst (λ (n : ℕ). IsTrue c.has_end.result ↔ HasEndFor c.args.dict (run_texts tokens 0 n) c.as_slice.result.now) c.len-2.ensures.len c.has_end.ensures) in (
      λ h. subst (AgreesWith the) (run-all tokens) (agrees-end trie dicts node texts r c.args.dict the at long (told.0 h)),
      λ agrees. told.1 (end-agrees trie dicts node texts r c.args.dict the at long (subst (AgreesWith the) (sym (run-all tokens)) agrees)),
    )
