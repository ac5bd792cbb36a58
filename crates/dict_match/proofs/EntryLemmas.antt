-- One entry is put into the tree, token by token.
use Rattle.std.proofs.Common.{◌≡◌, ℕ, ◌+◌, ◌<◌, Bool, cond, List, [], ◌∷◌, ◌++◌, map, length, take, get_or, Option, Some, None, refl, sym, ap, ap₂, ◌∙◌, arith}
use Rattle.std.specs.List.{flat_map}
use Rattle.std.proofs.lemmas.List.{length-map, take_more, get_or-map, map-append, append-nil, append_assoc, flat_map_more}
use Rattle.span_token.specs.Documents.{Doc, text_in}
use Rattle.span_token.specs.Extents.{Extent, nth_extent}
use Rattle.dict_match.specs.declared.dict_use.DictUse.{DictUse}
use Rattle.dict_match.specs.declared.trie.End.{End}
use Rattle.dict_match.specs.Dictionaries.{folded, texts_of}
use Rattle.dict_match.specs.Tries.{end_of, put_texts, put_dict, put_dicts}

pub texts-step : (d : Doc) (tokens : List Extent) (i : ℕ) → i < length tokens → take i (texts_of d tokens) ++ text_in d (nth_extent tokens i) ∷ [] ≡ take (i + 1) (texts_of d tokens)
texts-step d tokens i lt =
    sym (take_more (texts_of d tokens) i [] (omega (arith, length-map tokens (text_in d)))
    ∙ ap (λ (t : List ℕ). take i (texts_of d tokens) ++ t ∷ []) (get_or-map (text_in d) tokens i (record { begin = 0; end = 0 }) [] lt))

pub keys-step : (d : Doc) (tokens : List Extent) (i : ℕ) (x : List ℕ) → i < length tokens → x ≡ folded (text_in d (nth_extent tokens i)) →
    map folded (take i (texts_of d tokens)) ++ x ∷ [] ≡ map folded (take (i + 1) (texts_of d tokens))
keys-step d tokens i x lt is =
    ap (λ (y : List ℕ). map folded (take i (texts_of d tokens)) ++ y ∷ []) is
    ∙ sym (map-append folded (take i (texts_of d tokens)) (text_in d (nth_extent tokens i) ∷ []))
    ∙ ap (map folded) (texts-step d tokens i lt)

pub put-some : (dict : ℕ) (exact : Bool) (texts : List (List ℕ)) (path : List (List ℕ)) (end : End) → 0 < length texts → path ≡ map folded texts → end ≡ end_of dict exact texts →
    (path, end) ∷ [] ≡ put_texts dict exact texts
put-some dict exact [] path end lt is_path is_end = absurd (omega arith)
put-some dict exact (x ∷ xs) path end lt is_path is_end =
    ap₂ (λ (p : List (List ℕ)) (e : End). let q : List (List ℕ) × End = (p, e) in q ∷ []) is_path is_end

pub put-none : (dict : ℕ) (exact : Bool) (texts : List (List ℕ)) → length texts ≡ 0 → put_texts dict exact texts ≡ []
put-none dict exact [] h = refl
put-none dict exact (x ∷ xs) h = absurd (omega arith)

-- the end of an entry, as the flag says
pub end-is : (dict : ℕ) (exact : Bool) (spelled : Option (List (List ℕ))) (texts : List (List ℕ)) → spelled ≡ cond exact (Some texts) None →
    (let e : End = record { dict = dict; spelled = spelled } in e) ≡ end_of dict exact texts
end-is dict exact spelled texts is = ap (λ (s : Option (List (List ℕ))). let e : End = record { dict = dict; spelled = s } in e) is

pub flat_map-step : {X Y : Type 0} (f : X → List Y) (front : List Y) (xs : List X) (i : ℕ) (x d : X) → i < length xs → x ≡ get_or xs i d →
    (front ++ flat_map f (take i xs)) ++ f x ≡ front ++ flat_map f (take (i + 1) xs)
flat_map-step f front xs i x d lt is =
    flat_map_more f front (take i xs) x
    ∙ ap (λ (ys : List _). front ++ flat_map f ys) (ap (λ y. take i xs ++ y ∷ []) is ∙ sym (take_more xs i d lt))

-- one more dictionary
pub put_dicts-snoc : (first : ℕ) (dicts : List DictUse) (dict : DictUse) → put_dicts first (dicts ++ dict ∷ []) ≡ put_dicts first dicts ++ put_dict (first + length dicts) dict
put_dicts-snoc first [] dict =
    let here : first ≡ first + 0 = omega arith in
    append-nil (put_dict first dict) ∙ ap (λ (n : ℕ). put_dict n dict) here
put_dicts-snoc first (x ∷ xs) dict =
    let here : first + 1 + length xs ≡ first + length (x ∷ xs) = omega arith in
    ap (λ (ps : List (List (List ℕ) × End)). put_dict first x ++ ps) (put_dicts-snoc (first + 1) xs dict ∙ ap (λ (n : ℕ). put_dicts (first + 1) xs ++ put_dict n dict) here)
    ∙ sym (append_assoc (put_dict first x) (put_dicts (first + 1) xs) (put_dict (first + length (x ∷ xs)) dict))
