use Rattle.std.proofs.Common.{◌≡◌, ◌≤◌, ◌<◌, ◌+◌, ◌-◌, ◌∙◌, ℕ, List, [], ◌∷◌, ◌++◌, Some, None, map, length, get_or, sym, ap, subst, arith, All}
use Rattle.std.proofs.lemmas.List.{get_or_default, append-nil}
use Rattle.span_token.specs.Extents.{Extent}
use Rattle.span_token.specs.SourceTokens.{run_extent}
use Rattle.dict_match.specs.declared.trie.End.{End}
use Rattle.dict_match.specs.Dictionaries.{folded}
use Rattle.dict_match.specs.Rows.{dict_and_extent, extents_for}
use Rattle.dict_match.specs.Tries.{Reaches, put_dicts, step}
use Rattle.dict_match.specs.Walks.{run_texts, HasEndFor, HasOneEach, PutsWhere}
use Rattle.dict_match.specs.LawProofs.MatchLaws.{matches_from-none, matches_from-stop}
use Rattle.dict_match.proofs.PutLemmas.{one-each, ends-within}
use Rattle.dict_match.proofs.RowLemmas.{extends-none, extends-more}
use Rattle.dict_match.proofs.StepLemmas.{stops, one-more}
use Rattle.dict_match.proofs.TrieLemmas.{Reaches-edge, node-there}
use Rattle.dict_match.proofs.WalkLemmas.{key, keys, keys-more, keys-none, step-of}
use Rattle.dict_match.proofs.walk.push_matches_from.Goals as goal

pub loop-last-init : goal.loop-last-init
loop-last-init c =
    let tokens = c.args.tokens.now in
    let first = c.args.first in
    record {
      reached = λ put made. subst (λ (p : List (List ℕ)). Reaches c.args.trie.now put 0 p) (sym (keys-none tokens first)) made;
      matches = λ dicts i dict made at.
          let front = extents_for i (map dict_and_extent c.args.into.now.items) in
          sym (ap (λ (es : List Extent). front ++ es) (matches_from-none dict tokens.doc tokens.tokens first) ∙ append-nil front);
      added = λ dicts made. extends-none (length dicts) c.args.into.now.items;
      numbers = c.requires.numbers;
      begun = c.requires.next.«from»;
      next = c.requires.next.to;
    }

pub returns-in_default-clause-matches : goal.returns-in_default-clause-matches
returns-in_default-clause-matches c = λ dicts i dict made at.
    let trie = c.args.trie.now in
    let tokens = c.args.tokens.now in
    let last = c.loop-last.last in
    let lt : last < length tokens.tokens = omega (arith, c.loop-last-test.true, c.len-last-end.ensures.len) in
    let le : c.args.first ≤ last = omega arith in
    let none : step trie c.loop-last.node (key tokens last) ≡ None = step-of trie c.loop-last.node (key tokens last) c.in_ok-word.word None c.in_ok-word.ensures.number c.in_default.ensures in
    c.loop-last.invariant.matches dicts i dict made at
    ∙ ap (λ (es : List Extent). extents_for i (map dict_and_extent c.args.into.now.items) ++ es)
    (sym (stops trie dicts tokens i dict at c.loop-last.node c.args.first last (c.loop-last.invariant.reached (put_dicts 0 dicts) made) none le lt))

pub index-requires : goal.index-requires
index-requires c =
    let trie = c.args.trie.now in
    let tokens = c.args.tokens.now in
    let last = c.loop-last.last in
    let lt : last < length tokens.tokens = omega (arith, c.loop-last-test.true, c.len-last-end.ensures.len) in
    let some : step trie c.loop-last.node (key tokens last) ≡ Some c.in-Some.next = step-of trie c.loop-last.node (key tokens last) c.in_ok-word.word (Some c.in-Some.next) c.in_ok-word.ensures.number c.in-Some.ensures in
    let there = Reaches-edge trie c.requires.trie.put c.loop-last.node c.in-Some.next (key tokens last) (keys tokens c.args.first last) some (c.loop-last.invariant.reached c.requires.trie.put c.requires.trie.made) in
    omega (arith, node-there trie c.requires.trie.put c.in-Some.next (keys tokens c.args.first last ++ key tokens last ∷ []) there, trie.ends.ok.0)

pub loop-last-preserved : goal.loop-last-preserved
loop-last-preserved c =
    let trie = c.args.trie.now in
    let tokens = c.args.tokens.now in
    let first = c.args.first in
    let last = c.loop-last.last in
    let next = c.in-Some.next in
    let texts = run_texts tokens first (last + 1) in
    let lt : last < length tokens.tokens = omega (arith, c.loop-last-test.true, c.len-last-end.ensures.len) in
    let le : first ≤ last = omega arith in
    let some : step trie c.loop-last.node (key tokens last) ≡ Some next = step-of trie c.loop-last.node (key tokens last) c.in_ok-word.word (Some next) c.in_ok-word.ensures.number c.in-Some.ensures in
    let reached : (put : List (List (List ℕ) × End)) → Reaches trie put 0 [] → Reaches trie put next (map folded texts) =
    λ put made. subst (λ (p : List (List ℕ)). Reaches trie put next p) (sym (keys-more tokens first last le lt))
    (Reaches-edge trie put c.loop-last.node next (key tokens last) (keys tokens first last) some (c.loop-last.invariant.reached put made)) in
    let within : next < length trie.ends.items = node-there trie c.requires.trie.put next (map folded texts) (reached c.requires.trie.put c.requires.trie.made) in
    let seen : c.as_slice.result.now ≡ get_or trie.ends.items next [] = c.as_slice.ensures ∙ c.index.ensures ∙ get_or_default trie.ends.items next c.index.result.now [] within in
    let final : last + 1 - 1 ≡ last = omega arith in
    record {
      reached = reached;
      matches = λ dicts i dict made at.
          let r = reached (put_dicts 0 dicts) made in
          let old = extents_for i (map dict_and_extent c.loop-last.into.items) in
          let new = extents_for i (map dict_and_extent c.push_ends.new.into.items) in
          let one : HasOneEach texts c.as_slice.result.now = subst (HasOneEach texts) (sym seen) (one-each trie dicts next texts r) in
          let puts : PutsWhere (HasEndFor i texts (get_or trie.ends.items next [])) (run_extent tokens.tokens first last) old new =
          subst (λ (n : ℕ). PutsWhere (HasEndFor i texts (get_or trie.ends.items next [])) (run_extent tokens.tokens first n) old new) final
          (subst (λ (es : List End). PutsWhere (HasEndFor i texts es) (run_extent tokens.tokens first (last + 1 - 1)) old new) seen (c.in_ok-push_ends.ensures.matches one i)) in
          one-more trie dicts tokens i dict at next first last (extents_for i (map dict_and_extent c.args.into.now.items)) old new r le lt puts (c.loop-last.invariant.matches dicts i dict made at);
      added = λ dicts made.
          let r = reached (put_dicts 0 dicts) made in
          let below : All (λ (end : End). end.dict < length dicts) c.as_slice.result.now = subst (λ (es : List End). All (λ end. end.dict < length dicts) es) (sym seen) (ends-within trie dicts next texts r) in
          extends-more (length dicts) c.args.into.now.items c.loop-last.into.items c.push_ends.new.into.items (c.loop-last.invariant.added dicts made) (c.in_ok-push_ends.ensures.added (length dicts) below);
      numbers = c.in_ok-word.ensures.numbers;
      begun = omega (arith, c.loop-last.invariant.begun, c.number_at.ensures.begin);
      next = omega (arith, c.in_ok-word.ensures.past);
    }

pub returns-clause-matches : goal.returns-clause-matches
returns-clause-matches c = λ dicts i dict made at.
    let tokens = c.args.tokens.now in
    let last = c.loop-last.last in
    let low : c.args.first ≤ c.len-last-end.result = omega (arith, c.requires.there, c.len-last-end.ensures.len) in
    let within : last ≤ length tokens.tokens = omega (arith, c.loop-last.auto.last-end low, c.len-last-end.ensures.len) in
    let full : length tokens.tokens ≤ last = omega (arith, c.loop-last-test.false, c.len-last-end.ensures.len) in
    c.loop-last.invariant.matches dicts i dict made at
    ∙ ap (λ (es : List Extent). extents_for i (map dict_and_extent c.args.into.now.items) ++ es)
    (sym (matches_from-stop dict tokens.doc tokens.tokens c.args.first last (length tokens.tokens) c.loop-last.auto.last within (λ k more fewer. absurd (omega (arith, more, fewer, full)))))
