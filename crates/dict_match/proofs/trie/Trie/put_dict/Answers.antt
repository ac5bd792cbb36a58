use Rattle.std.proofs.Common.{◌≡◌, ◌∙◌, ◌<◌, ◌+◌, ◌++◌, ◌∷◌, ℕ, List, [], length, take, arith, ap, subst, sym, slice_index_or}
use Rattle.std.specs.List.{flat_map}
use Rattle.std.proofs.lemmas.List.{take_all, flat_map_more, take_more, get_or_default}
use Rattle.dict_match.specs.declared.trie.End.{End}
use Rattle.dict_match.specs.Passes.{HaveAtMost}
use Rattle.dict_match.specs.Tries.{Reaches, put_entry}
use Rattle.dict_match.proofs.MostLemmas.{more_entries}
use Rattle.dict_match.proofs.trie.Trie.put_dict.Goals as goal

pub put_entry-requires : goal.put_entry-requires
put_entry-requires c = record { trie = record { put = _; made = c.loop-entry.invariant.tree c.requires.trie.put c.requires.trie.made } }

pub loop-entry-preserved : goal.loop-entry-preserved
loop-entry-preserved c =
    let entries = c.args.dict.now.entries in
    let i = c.loop-entry.entry-index in
    let item = c.as_str.result.now in
    let same = c.as_slice-entry-items.ensures in
    let lt : i < length entries = omega (arith, c.loop-entry-test.true, ap length same) in
    let put_one = put_entry c.args.dict_number c.args.dict.now.exact in
    let is : item ≡ slice_index_or entries i item =
    c.as_str.ensures ∙ c.entry-item.is ∙ ap (λ (es : List (List ℕ)). slice_index_or es i c.entry-item.result) same ∙ get_or_default entries i c.entry-item.result item lt in
    let next : take i entries ++ item ∷ [] ≡ take (i + 1) entries = ap (λ (x : List ℕ). take i entries ++ x ∷ []) is ∙ sym (take_more entries i item lt) in
    record {
      tree = λ put r.
          subst (λ (ps : List (List (List ℕ) × End)). Reaches c.put_entry.new.self ps 0 [])
          (flat_map_more put_one put (take i entries) item ∙ ap (λ (es : List (List ℕ)). put ++ flat_map put_one es) next)
          ((c.in_ok-number.ensures).put (put ++ flat_map put_one (take i entries)) (c.loop-entry.invariant.tree put r));
      most = more_entries entries i c.loop-entry.most c.in_ok-number.number c.max-most.result item lt is c.loop-entry.invariant.most c.in_ok-number.ensures.number
          (grind (arith, c.max-most.ensures)) (grind (arith, c.max-most.ensures));
    }

pub returns-clause-most : goal.returns-clause-most
returns-clause-most c =
    subst (HaveAtMost c.loop-entry.most) (take_all c.loop-entry.entry-index c.args.dict.now.entries (omega (arith, c.loop-entry-test.false, ap length c.as_slice-entry-items.ensures)))
    c.loop-entry.invariant.most
