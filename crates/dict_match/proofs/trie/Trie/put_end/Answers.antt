use Rattle.std.proofs.Common.{◌≡◌, ◌∙◌, List, [], ◌∷◌, ◌++◌, ap, sym, refl, subst, get_or, true, false}
use Rattle.std.specs.List.{Contains}
use Rattle.std.specs.Vec.{with_item}
use Rattle.std.proofs.Math.ListN.{set}
use Rattle.std.proofs.lemmas.List.{get_or_default}
use Rattle.dict_match.specs.declared.trie.End.{End}
use Rattle.dict_match.specs.declared.trie.Trie.{Trie}
use Rattle.dict_match.proofs.TrieLemmas.{Reaches-again, Reaches-end}
use Rattle.dict_match.proofs.trie.Trie.put_end.Goals as goal

pub returns-then-is_listed : goal.returns-then-is_listed
returns-then-is_listed c = λ put path r.
    let ends = c.args.self.now.ends.items in
    let seen : c.as_slice.result.now ≡ get_or ends c.args.node [] = c.as_slice.ensures ∙ c.index.ensures ∙ get_or_default ends c.args.node c.index.result.now [] c.requires.there in
    Reaches-again c.args.self.now put c.args.node path c.args.end (subst (λ (es : List End). Contains es c.args.end) seen (c.is_listed.ensures.0 c.if-is_listed.true)) r

pub returns : goal.returns
returns c = λ put path r.
    let ends = c.args.self.now.ends.items in
    let seen : c.as_slice.result.now ≡ get_or ends c.args.node [] = c.as_slice.ensures ∙ c.index.ensures ∙ get_or_default ends c.args.node c.index.result.now [] c.requires.there in
    let lent : c.index_mut.result.now ≡ get_or ends c.args.node [] = c.index_mut.ensures.value ∙ get_or_default ends c.args.node c.index_mut.result.now [] c.requires.there in
    let new : Trie = record { words = c.args.self.now.words; edges = c.args.self.now.edges; ends = with_item c.args.self.now.ends c.args.node c.push.new.self; marks = c.args.self.now.marks } in
    Reaches-end c.args.self.now new put c.args.node path c.args.end refl refl refl
    (ap (set ends c.args.node) (c.in_ok-push.ensures.ok ∙ ap (λ (es : List End). es ++ c.args.end ∷ []) lent))
    (λ there. let yes : c.is_listed.result ≡ true = c.is_listed.ensures.1 (subst (λ (es : List End). Contains es c.args.end) (sym seen) there) in
    let no : c.is_listed.result ≡ false = c.if-is_listed.false in cc)
    r
