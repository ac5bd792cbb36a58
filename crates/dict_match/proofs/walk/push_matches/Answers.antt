use Rattle.std.proofs.Common.{◌≡◌, ◌<◌, ◌∙◌, List, [], ℕ, ◌++◌, map, length, slice_get, Some, None, sym, ap, refl, subst, arith}
use Rattle.std.specs.HashMap.{get_by_text}
use Rattle.span_token.specs.SourceTokens.{SomeTokens}
use Rattle.dict_match.specs.declared.dict_use.DictUse.{DictUse}
use Rattle.dict_match.specs.declared.trie.Trie.{Trie}
use Rattle.dict_match.specs.Dictionaries.{folded}
use Rattle.dict_match.specs.Tries.{Reaches, put_dicts}
use Rattle.dict_match.proofs.StepLemmas.{stops}
use Rattle.std.specs.List.{flat_map, range_with_len}
use Rattle.std.proofs.lemmas.List.{append-nil, append_assoc}
use Rattle.span_token.specs.Extents.{Extent}
use Rattle.dict_match.specs.DictMatches.{matches_from}
use Rattle.dict_match.specs.Rows.{dict_and_extent, extents_for}
use Rattle.dict_match.specs.LawProofs.MatchLaws.{among-more, among-all, matches_from-none}
use Rattle.dict_match.proofs.RowLemmas.{extends-none, extends-more}
use Rattle.dict_match.proofs.WalkLemmas.{key, no-numbers, keys-none, step-of}
use Rattle.dict_match.proofs.walk.push_matches.Goals as goal

pub loop-first-init : goal.loop-first-init
loop-first-init c = record {
  matches = λ dicts i dict made at. sym (append-nil (extents_for i (map dict_and_extent c.args.into.now.items)));
  added = λ dicts made. extends-none (length dicts) c.args.into.now.items;
  numbers = no-numbers c.args.trie.now c.args.tokens.now c.restart.new.self c.restart.ensures.none;
  begun = omega (arith, c.restart.ensures.begin);
}

pub loop-first-preserved : goal.loop-first-preserved
loop-first-preserved c =
    let tokens = c.args.tokens.now in
    let first = c.loop-first.first in
    record {
      matches = λ dicts i dict made at.
          let front = extents_for i (map dict_and_extent c.args.into.now.items) in
          let one : ℕ → List Extent = λ k. matches_from dict tokens.doc tokens.tokens k (length tokens.tokens) in
          c.in_ok-push_matches_from.ensures.matches dicts i dict made at
          ∙ ap (λ (es : List Extent). es ++ one first) (c.loop-first.invariant.matches dicts i dict made at)
          ∙ append_assoc front (flat_map one (range_with_len 0 first)) (one first)
          ∙ ap (λ (es : List Extent). front ++ es) (among-more one first);
      added = λ dicts made.
          extends-more (length dicts) c.args.into.now.items c.loop-first.into.items c.push_matches_from.new.into.items (c.loop-first.invariant.added dicts made) (c.in_ok-push_matches_from.ensures.added dicts made);
      numbers = c.in_ok-push_matches_from.ensures.numbers;
      begun = omega (arith, c.in_ok-push_matches_from.ensures.next.«from»);
    }

-- no run goes on from a token that is no word
nothing : (trie : Trie) (dicts : List DictUse) (tokens : SomeTokens) (i : ℕ) (dict : DictUse) → slice_get dicts i ≡ Some dict → Reaches trie (put_dicts 0 dicts) 0 [] → (first : ℕ) →
    first < length tokens.tokens → get_by_text trie.words (key tokens first) ≡ None → matches_from dict tokens.doc tokens.tokens first (length tokens.tokens) ≡ []
nothing trie dicts tokens i dict at made first lt none =
    stops trie dicts tokens i dict at 0 first first (subst (λ (p : List (List ℕ)). Reaches trie (put_dicts 0 dicts) 0 p) (sym (keys-none tokens first)) made)
    (step-of trie 0 (key tokens first) None None (sym none) refl) (omega arith) lt
    ∙ matches_from-none dict tokens.doc tokens.tokens first

pub loop-first-preserved-then-not-may_be_word : goal.loop-first-preserved-then-not-may_be_word
loop-first-preserved-then-not-may_be_word c =
    let trie = c.args.trie.now in
    let tokens = c.args.tokens.now in
    let first = c.loop-first.first in
    let lt : first < length tokens.tokens = omega (arith, c.loop-first-test.true, c.len-first-end.ensures.len) in
    let none : get_by_text trie.words (key tokens first) ≡ None = ap (λ (t : List ℕ). get_by_text trie.words (folded t)) (sym c.text.ensures.text) ∙ c.may_be_word.ensures c.if-not-may_be_word.true in
    record {
      matches = λ dicts i dict made at.
          let front = extents_for i (map dict_and_extent c.args.into.now.items) in
          let one : ℕ → List Extent = λ k. matches_from dict tokens.doc tokens.tokens k (length tokens.tokens) in
          sym (append-nil (extents_for i (map dict_and_extent c.loop-first.into.items)))
          ∙ ap (λ (es : List Extent). extents_for i (map dict_and_extent c.loop-first.into.items) ++ es) (sym (nothing trie dicts tokens i dict at made first lt none))
          ∙ ap (λ (es : List Extent). es ++ one first) (c.loop-first.invariant.matches dicts i dict made at)
          ∙ append_assoc front (flat_map one (range_with_len 0 first)) (one first)
          ∙ ap (λ (es : List Extent). front ++ es) (among-more one first);
      added = c.loop-first.invariant.added;
      numbers = c.loop-first.invariant.numbers;
      begun = omega (arith, c.loop-first.invariant.begun);
    }

pub returns-clause-matches : goal.returns-clause-matches
returns-clause-matches c = λ dicts i dict made at.
    let tokens = c.args.tokens.now in
    let all : c.loop-first.first ≡ length tokens.tokens = omega (arith, c.loop-first-test.false, c.loop-first.auto.first-end, c.len-first-end.ensures.len) in
    c.loop-first.invariant.matches dicts i dict made at
    ∙ ap (λ (es : List Extent). extents_for i (map dict_and_extent c.args.into.now.items) ++ es) (among-all dict tokens.doc tokens.tokens c.loop-first.first all)
