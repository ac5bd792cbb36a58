use Rattle.std.proofs.Common.{◌∙◌, ap, sym, refl, subst, ℕ, List, [], ◌∷◌, ◌++◌, cond, Some}
use Rattle.dict_match.specs.declared.trie.End.{End}
use Rattle.dict_match.specs.declared.trie.Trie.{Trie}
use Rattle.std.specs.HashMap.{get}
use Rattle.dict_match.specs.Tries.{Reaches, is_same_edge}
use Rattle.dict_match.proofs.TrieLemmas.{AddsNode, Reaches-node, Reaches-edge, step-edge}
use Rattle.dict_match.proofs.trie.Trie.child.Goals as goal

pub returns-in-Some : goal.returns-in-Some
returns-in-Some c = λ put path text r has.
    Reaches-edge c.args.self.now put c.args.node c.in-Some.next.now text path
    (step-edge c.args.self.now c.args.node c.args.word text has ∙ sym c.in-Some.ensures.value) r

pub returns : goal.returns
returns c = λ put path text r has.
    let old : Trie = c.args.self.now in
    let new : Trie = record { words = c.args.self.now.words; edges = c.insert.new.self; ends = c.push.new.self; marks = c.args.self.now.marks } in
    let adds : AddsNode old new c.args.node c.args.word = record {
      none = sym c.in_default.ensures.value;
      edges = λ q. c.in_ok-insert.ensures.updates.0 q ∙ ap (λ (n : ℕ). cond (is_same_edge (c.args.node, c.args.word) q) (Some n) (get is_same_edge old.edges q)) (c.len-next.ensures ∙ old.ends.ok.0);
      words = refl;
      marks = refl;
      ends = c.in_ok-push.ensures.items ∙ ap (λ (e : List End). old.ends.items ++ e ∷ []) c.new.ensures;
    } in
    subst (λ (n : ℕ). Reaches new put n (path ++ text ∷ [])) (sym (c.len-next.ensures ∙ old.ends.ok.0)) (Reaches-node old new put c.args.node c.args.word text path adds has r)
