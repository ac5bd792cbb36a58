use Rattle.std.proofs.Common.{◌≡◌, ◌≤◌, ◌<◌, ◌+◌, ◌∙◌, ℕ, List, [], ◌∷◌, ◌++◌, Some, None, true, false, map, length, get_or, refl, sym, subst, arith}
use Rattle.std.proofs.lemmas.List.{get_or_default}
use Rattle.dict_match.specs.declared.trie.End.{End}
use Rattle.dict_match.specs.Dictionaries.{folded}
use Rattle.dict_match.specs.Tries.{Reaches, put_dicts, step}
use Rattle.dict_match.specs.Walks.{run_texts, HasEndFor}
use Rattle.dict_match.proofs.StepLemmas.{none-left, none-here, some-here}
use Rattle.dict_match.proofs.TrieLemmas.{Reaches-edge, node-there}
use Rattle.dict_match.proofs.WalkLemmas.{key, keys, keys-more, keys-none, step-of}
use Rattle.dict_match.proofs.probe.has_run_from.Goals as goal

pub loop-last-init : goal.loop-last-init
loop-last-init c = record {
  reached = λ put made. subst (λ (p : List (List ℕ)). Reaches c.args.trie.now put 0 p) (sym (keys-none c.args.tokens.now c.args.first)) made;
  none = λ dicts the made at run. let le = run.from in let lt = run.before in absurd (omega (arith, le, lt));
  numbers = c.requires.numbers;
  begun = c.requires.next.«from»;
  next = c.requires.next.to;
}

pub returns-in_default-clause-found : goal.returns-in_default-clause-found
returns-in_default-clause-found c = λ dicts the made at.
    let trie = c.args.trie.now in
    let tokens = c.args.tokens.now in
    let last = c.loop-last.last in
    let le : c.args.first ≤ last = omega arith in
    let none : step trie c.loop-last.node (key tokens last) ≡ None = step-of trie c.loop-last.node (key tokens last) c.in_ok-word.word None c.in_ok-word.ensures.number c.in_default.ensures in (
      λ h. let no : false ≡ true = h in cc,
      λ run. absurd (none-left trie dicts tokens c.args.dict the at c.loop-last.node c.args.first last (c.loop-last.invariant.reached (put_dicts 0 dicts) made) none le (c.loop-last.invariant.none dicts the made at) run),
    )

pub index-requires : goal.index-requires
index-requires c =
    let trie = c.args.trie.now in
    let tokens = c.args.tokens.now in
    let last = c.loop-last.last in
    let next = c.in-Some.next in
    let some : step trie c.loop-last.node (key tokens last) ≡ Some next = step-of trie c.loop-last.node (key tokens last) c.in_ok-word.word (Some next) c.in_ok-word.ensures.number c.in-Some.ensures in
    let there = Reaches-edge trie c.requires.trie.put c.loop-last.node next (key tokens last) (keys tokens c.args.first last) some (c.loop-last.invariant.reached c.requires.trie.put c.requires.trie.made) in
    omega (arith, node-there trie c.requires.trie.put next (keys tokens c.args.first last ++ key tokens last ∷ []) there, trie.ends.ok.0)

pub returns-then-has_end-clause-found : goal.returns-then-has_end-clause-found
returns-then-has_end-clause-found c = λ dicts the made at.
    let trie = c.args.trie.now in
    let tokens = c.args.tokens.now in
    let first = c.args.first in
    let last = c.loop-last.last in
    let next = c.in-Some.next in
    let texts = run_texts tokens first (last + 1) in
    let lt : last < length tokens.tokens = omega (arith, c.loop-last-test.true, c.len-last-end.ensures.len) in
    let le : first ≤ last = omega arith in
    let some : step trie c.loop-last.node (key tokens last) ≡ Some next = step-of trie c.loop-last.node (key tokens last) c.in_ok-word.word (Some next) c.in_ok-word.ensures.number c.in-Some.ensures in
    let r : Reaches trie (put_dicts 0 dicts) next (map folded texts) = subst (λ (p : List (List ℕ)). Reaches trie (put_dicts 0 dicts) next p) (sym (keys-more tokens first last le lt))
    (Reaches-edge trie (put_dicts 0 dicts) c.loop-last.node next (key tokens last) (keys tokens first last) some (c.loop-last.invariant.reached (put_dicts 0 dicts) made)) in
    let within : next < length trie.ends.items = node-there trie (put_dicts 0 dicts) next (map folded texts) r in
    let seen : c.as_slice.result.now ≡ get_or trie.ends.items next [] = c.as_slice.ensures ∙ c.index.ensures ∙ get_or_default trie.ends.items next c.index.result.now [] within in
    let has : HasEndFor c.args.dict texts (get_or trie.ends.items next []) = subst (λ (es : List End). HasEndFor c.args.dict texts es) seen (c.has_end.ensures.0 c.if-has_end.true) in (
      λ _. some-here trie dicts tokens c.args.dict the at next first last r le lt has,
      λ _. refl,
    )

pub loop-last-preserved : goal.loop-last-preserved
loop-last-preserved c =
    let trie = c.args.trie.now in
    let tokens = c.args.tokens.now in
    let first = c.args.first in
    let last = c.loop-last.last in
    let next = c.in-Some.next in
    let texts = run_texts tokens first (last + 1) in
    let lt : last < length tokens.tokens = omega (arith, c.loop-last-test.true, c.len-last-end.ensures.len) in
    let le : first ≤ last = omega arith in
    let some : step trie c.loop-last.node (key tokens last) ≡ Some next = step-of trie c.loop-last.node (key tokens last) c.in_ok-word.word (Some next) c.in_ok-word.ensures.number c.in-Some.ensures in
    let reached : (put : List (List (List ℕ) × End)) → Reaches trie put 0 [] → Reaches trie put next (map folded texts) =
    λ put made. subst (λ (p : List (List ℕ)). Reaches trie put next p) (sym (keys-more tokens first last le lt))
    (Reaches-edge trie put c.loop-last.node next (key tokens last) (keys tokens first last) some (c.loop-last.invariant.reached put made)) in
    let within : next < length trie.ends.items = node-there trie c.requires.trie.put next (map folded texts) (reached c.requires.trie.put c.requires.trie.made) in
    let seen : c.as_slice.result.now ≡ get_or trie.ends.items next [] = c.as_slice.ensures ∙ c.index.ensures ∙ get_or_default trie.ends.items next c.index.result.now [] within in
    record {
      reached = reached;
      none = λ dicts the made at.
          none-here trie dicts tokens c.args.dict the at next first last (reached (put_dicts 0 dicts) made) le lt
          (λ has. let yes : c.has_end.result ≡ true = c.has_end.ensures.1 (subst (λ (es : List End). HasEndFor c.args.dict texts es) (sym seen) has) in let no : c.has_end.result ≡ false = c.if-has_end.false in cc)
          (c.loop-last.invariant.none dicts the made at);
      numbers = c.in_ok-word.ensures.numbers;
      begun = omega (arith, c.loop-last.invariant.begun, c.number_at.ensures.begin);
      next = omega (arith, c.in_ok-word.ensures.past);
    }

pub returns-clause-found : goal.returns-clause-found
returns-clause-found c = λ dicts the made at. (
  λ h. let no : false ≡ true = h in cc,
  λ run.
      let before = run.before in
      absurd (c.loop-last.invariant.none dicts the made at
      (record { last = run.last; «from» = run.from; before = omega (arith, before, c.loop-last-test.false, c.len-last-end.ensures.len); agrees = run.agrees })),
)
