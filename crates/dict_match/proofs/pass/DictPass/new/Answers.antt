use Rattle.std.proofs.Common.{◌≡◌, ◌∙◌, ◌<◌, ◌+◌, ◌++◌, ◌∷◌, List, ℕ, [], length, take, ap, sym, subst, arith}
use Rattle.std.proofs.lemmas.List.{take_more, take_all, length-take, map-append}
use Rattle.dict_match.specs.declared.dict_use.DictUse.{DictUse}
use Rattle.dict_match.specs.declared.trie.End.{End}
use Rattle.dict_match.specs.Tries.{Reaches, put_dict, put_dicts}
use Rattle.dict_match.specs.Passes.{AreMost, entries_of}
use Rattle.dict_match.proofs.EntryLemmas.{put_dicts-snoc}
use Rattle.dict_match.proofs.MostLemmas.{AreMost-push}
use Rattle.dict_match.proofs.pass.DictPass.new.Goals as goal

pub loop-dict_number-preserved : goal.loop-dict_number-preserved
loop-dict_number-preserved c =
    let dicts = c.args.dicts.now in
    let number = c.loop-dict_number.dict_number in
    let dict = c.index-dicts-dict_number.result in
    let lt : number < length dicts = c.loop-dict_number-test.true in
    let long : 0 + length (take number dicts) ≡ number = omega (arith, length-take number dicts, lt) in
    let next : take (number + 1) dicts ≡ take number dicts ++ dict ∷ [] =
    take_more dicts number dict lt ∙ ap (λ (d : DictUse). take number dicts ++ d ∷ []) (sym c.index-dicts-dict_number.is) in
    let more : put_dicts 0 (take (number + 1) dicts) ≡ put_dicts 0 (take number dicts) ++ put_dict number dict =
    ap (put_dicts 0) next
    ∙ put_dicts-snoc 0 (take number dicts) dict
    ∙ ap (λ (n : ℕ). put_dicts 0 (take number dicts) ++ put_dict n dict) long in
    let lists : entries_of (take (number + 1) dicts) ≡ entries_of (take number dicts) ++ dict.entries ∷ [] =
    ap entries_of next ∙ map-append (λ (d : DictUse). d.entries) (take number dicts) (dict ∷ []) in
    record {
      tree = subst (λ (ps : List (List (List ℕ) × End)). Reaches c.put_dict.new.self ps 0 []) (sym more) (c.in_ok-tokens.ensures.put (put_dicts 0 (take number dicts)) c.loop-dict_number.invariant.tree);
      most = subst (λ (ls : List (List (List ℕ))). AreMost ls c.push.new.self.items) (sym lists)
          (subst (AreMost (entries_of (take number dicts) ++ dict.entries ∷ [])) (sym c.in_ok-push.ensures.items)
          (AreMost-push (entries_of (take number dicts)) c.loop-dict_number.most.items dict.entries c.in_ok-tokens.tokens c.loop-dict_number.invariant.most c.in_ok-tokens.ensures.most));
    }

pub invariant_of-result : goal.invariant_of-result
invariant_of-result c =
    let all = take_all c.loop-dict_number.dict_number c.args.dicts.now c.loop-dict_number-test.false ∙ sym c.in_ok-dicts.ensures in
    record {
      tree = subst (λ (ds : List DictUse). Reaches c.loop-dict_number.trie (put_dicts 0 ds) 0 []) all c.loop-dict_number.invariant.tree;
      most = subst (λ (ds : List DictUse). AreMost (entries_of ds) c.loop-dict_number.most.items) all c.loop-dict_number.invariant.most;
    }
