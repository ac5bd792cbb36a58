use Rattle.std.proofs.Common.{◌≡◌, ◌∙◌, ◌<◌, ◌+◌, ◌-◌, true, false, length, get_or, map, take, ap, sym, refl, subst, arith}
use Rattle.dict_match.specs.declared.trie.End.{End}
use Rattle.dict_match.specs.declared.walk.DictMatch.{DictMatch}
use Rattle.span_token.specs.SourceTokens.{run_extent}
use Rattle.dict_match.specs.Rows.{dict_and_extent, extents_for}
use Rattle.dict_match.specs.Walks.{run_texts, HasEndFor, PutsWhere, Extends}
use Rattle.dict_match.proofs.RowLemmas.{puts-none, puts-passed, puts-agreed, extends-none, extends-push}
use Rattle.dict_match.proofs.walk.push_ends.Goals as goal
use Rattle.dict_match.proofs.walk.push_ends.Goals.{then-does_agree+in_ok-push, else-does_agree}

pub loop-end-preserved : goal.loop-end-preserved
loop-end-preserved c =
    let texts = run_texts c.args.tokens.now c.args.first c.args.past in
    let ends = c.args.ends.now in
    let k = c.loop-end.end-index in
    let end = c.end-item.result in
    let run = run_extent c.args.tokens.now.tokens c.args.first (c.args.past - 1) in
    let lt : k < length ends = omega arith in
    let is : end ≡ get_or ends k end = c.end-item.is in
    record {
      matches = λ each i. elim c.if-does_agree.branch [
        | then-does_agree+in_ok-push w ↦
            let m : DictMatch = record { dict = end.dict; span = w.run-span.result } in
            puts-agreed i texts ends k end run (extents_for i (map dict_and_extent c.args.into.now.items)) lt is c.loop-end.into.items c.if-does_agree.into.items m each (c.does_agree.ensures.0 w.if-does_agree.true)
            (ap (λ v. v.items) w.into-is ∙ w.in_ok-push.ensures.items) refl w.run-span.ensures.run (c.loop-end.invariant.matches each i)
        | else-does_agree w ↦
            subst (λ v. PutsWhere (HasEndFor i texts (take (k + 1) ends)) run (extents_for i (map dict_and_extent c.args.into.now.items)) (extents_for i (map dict_and_extent v.items))) (sym w.into-is)
            (puts-passed i texts ends k end run (extents_for i (map dict_and_extent c.args.into.now.items)) lt is (extents_for i (map dict_and_extent c.loop-end.into.items))
            (λ s. let yes : c.does_agree.result ≡ true = c.does_agree.ensures.1 s in let no : c.does_agree.result ≡ false = w.if-does_agree.false in cc)
            (c.loop-end.invariant.matches each i))
      ];
      added = λ n all. elim c.if-does_agree.branch [
        | then-does_agree+in_ok-push w ↦
            let low : end.dict < n = omega (arith, all k end lt, ap (λ (e : End). e.dict) is) in
            let m : DictMatch = record { dict = end.dict; span = w.run-span.result } in
            extends-push n c.args.into.now.items c.loop-end.into.items c.if-does_agree.into.items m low (c.loop-end.invariant.added n all) (ap (λ v. v.items) w.into-is ∙ w.in_ok-push.ensures.items)
        | else-does_agree w ↦ subst (λ v. Extends n c.args.into.now.items v.items) (sym w.into-is) (c.loop-end.invariant.added n all)
      ];
    }

pub loop-end-init : goal.loop-end-init
loop-end-init c = record {
  matches = λ each i. puts-none i (run_texts c.args.tokens.now c.args.first c.args.past) c.args.ends.now (run_extent c.args.tokens.now.tokens c.args.first (c.args.past - 1)) (extents_for i (map dict_and_extent c.args.into.now.items));
  added = λ n all. extends-none n c.args.into.now.items;
}
