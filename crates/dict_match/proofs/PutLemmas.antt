-- What is put into the tree for some dictionaries, and the ends that a run of tokens finds there.
use Rattle.std.proofs.Common.{◌≡◌, ℕ, zero, suc, ◌+◌, ◌<◌, inl, inr, Bool, true, false, cond, List, [], ◌∷◌, map, length, get_or, slice_get, All, Option, Some, None, refl, sym, ap, ap₂, subst, ◌∙◌, arith, suc-le-suc, le_of_suc-le-suc, zero-le}
use Rattle.std.specs.List.{Contains, flat_map}
use Rattle.std.proofs.lemmas.List.{length-map}
use Rattle.std.proofs.lemmas.List.Elements.{Contains-get_or, Contains-append_left, Contains-append_right, Contains-append_cases, Contains-push_cases}
use Rattle.std.proofs.lemmas.Option.{slice_get_within}
use Rattle.dict_match.specs.declared.dict_use.DictUse.{DictUse}
use Rattle.dict_match.specs.declared.trie.End.{End}
use Rattle.dict_match.specs.declared.trie.Trie.{Trie}
use Rattle.dict_match.specs.Dictionaries.{folded, entry_texts, Agree, AgreesWith}
use Rattle.dict_match.specs.Tries.{end_of, put_texts, put_entry, put_dict, put_dicts, Reaches}
use Rattle.dict_match.specs.Walks.{IsSpelled, HasEndFor, HasOneEach}
use Rattle.dict_match.proofs.TreeLemmas.{some_same}

-- ---- members of lists

abbrev Text : Type 0
Text = List ℕ

abbrev Put : Type 0
Put = List Text × End

nothing_in : {X : Type 0} (x : X) → Contains [] x → ⊥
nothing_in x c = let lt = c.1 in omega arith

one_in : {X : Type 0} (y x : X) → Contains (y ∷ []) x → y ≡ x
one_in y x c = elim (Contains-push_cases [] y x c) [ inl a ↦ absurd (nothing_in x a) | inr a ↦ a ]

in_tail : {X : Type 0} (y : X) (xs : List X) (x : X) → Contains xs x → Contains (y ∷ xs) x
in_tail y xs x c = Contains-append_right (y ∷ []) xs x c

pub flat_map-cases : {X Y : Type 0} (f : X → List Y) (xs : List X) (y : Y) → Contains (flat_map f xs) y → (x : X) × Contains xs x × Contains (f x) y
flat_map-cases f [] y c = absurd (nothing_in y c)
flat_map-cases f (x ∷ xs) y c = elim (Contains-append_cases (f x) (flat_map f xs) y c) [
  | inl a ↦ (x, (0, suc-le-suc zero-le, refl), a)
  | inr a ↦ let rest = flat_map-cases f xs y a in (rest.0, in_tail x xs rest.0 rest.1, rest.2)
]

pub flat_map-in : {X Y : Type 0} (f : X → List Y) (xs : List X) (x : X) (y : Y) → Contains xs x → Contains (f x) y → Contains (flat_map f xs) y
flat_map-in f [] x y c d = absurd (nothing_in x c)
flat_map-in f (z ∷ xs) x y (zero, lt, e) d = Contains-append_left (f z) (flat_map f xs) y (subst (λ v. Contains (f v) y) (sym e) d)
flat_map-in f (z ∷ xs) x y (suc k, lt, e) d = Contains-append_right (f z) (flat_map f xs) y (flat_map-in f xs x y (k, le_of_suc-le-suc lt, e) d)

-- ---- what is put in

-- an entry of one of the dictionaries, the first of which has number `first`
pub record IsPut (first : ℕ) (dicts : List DictUse) (path : List Text) (end : End) : Type 0 where
  pub number : ℕ
  pub dict : DictUse
  pub at : slice_get dicts number ≡ Some dict
  pub dict_is : end.dict ≡ first + number
  pub entry : Text
  pub listed : Contains dict.entries entry
  pub path_is : path ≡ map folded (entry_texts entry)
  pub spelled_is : end.spelled ≡ cond dict.exact (Some (entry_texts entry)) None

texts-put : (dict : ℕ) (exact : Bool) (texts : List Text) (p : Put) → Contains (put_texts dict exact texts) p → (map folded texts, end_of dict exact texts) ≡ p
texts-put dict exact [] p c = absurd (nothing_in p c)
texts-put dict exact (x ∷ xs) p c = one_in _ p c

put-texts : (dict : ℕ) (exact : Bool) (texts : List Text) → 0 < length texts → Contains (put_texts dict exact texts) (map folded texts, end_of dict exact texts)
put-texts dict exact [] lt = absurd (omega arith)
put-texts dict exact (x ∷ xs) lt = (0, suc-le-suc zero-le, refl)

pub put-cases : (first : ℕ) (dicts : List DictUse) (path : List Text) (end : End) → Contains (put_dicts first dicts) (path, end) → IsPut first dicts path end
put-cases first [] path end c = absurd (nothing_in _ c)
put-cases first (dict ∷ dicts) path end c = elim (Contains-append_cases (put_dict first dict) (put_dicts (first + 1) dicts) (path, end) c) [
  | inl a ↦
      let one = flat_map-cases (put_entry first dict.exact) dict.entries (path, end) a in
      let is = texts-put first dict.exact (entry_texts one.0) (path, end) one.2 in
      record {
        number = 0;
        dict = dict;
        at = refl;
        dict_is = ap (λ (p : Put). p.1.dict) (sym is) ∙ itself first;
        entry = one.0;
        listed = one.1;
        path_is = ap (λ (p : Put). p.0) (sym is);
        spelled_is = ap (λ (p : Put). p.1.spelled) (sym is);
      }
  | inr a ↦
      let rest = put-cases (first + 1) dicts path end a in
      record {
        number = suc rest.number;
        dict = rest.dict;
        at = rest.at;
        dict_is = rest.dict_is ∙ later first rest.number;
        entry = rest.entry;
        listed = rest.listed;
        path_is = rest.path_is;
        spelled_is = rest.spelled_is;
      }
] where
  itself : (n : ℕ) → n ≡ n + 0
  itself n = omega arith

  later : (n k : ℕ) → n + 1 + k ≡ n + suc k
  later n k = omega arith

in-dicts : (first : ℕ) (dicts : List DictUse) (i : ℕ) (dict : DictUse) (p : Put) → slice_get dicts i ≡ Some dict → Contains (put_dict (first + i) dict) p → Contains (put_dicts first dicts) p
in-dicts first [] i dict p h c = let none : None ≡ Some dict = h in cc
in-dicts first (x ∷ xs) zero dict p h c =
    let same : x ≡ dict = some_same x dict h in
    let here : first + 0 ≡ first = omega arith in
    Contains-append_left (put_dict first x) (put_dicts (first + 1) xs) p (subst (λ (y : DictUse). Contains (put_dict first y) p) (sym same) (subst (λ (n : ℕ). Contains (put_dict n dict) p) here c))
in-dicts first (x ∷ xs) (suc i) dict p h c =
    let here : first + suc i ≡ first + 1 + i = omega arith in
    Contains-append_right (put_dict first x) (put_dicts (first + 1) xs) p (in-dicts (first + 1) xs i dict p h (subst (λ (n : ℕ). Contains (put_dict n dict) p) here c))

-- ---- agreement and spelling

agree-path : (exact : Bool) (xs ys : List Text) → Agree exact xs ys → map folded xs ≡ map folded ys
agree-path true xs ys h = ap (map folded) h
agree-path false xs ys h = h

agree-spelled : (exact : Bool) (xs ys : List Text) → Agree exact xs ys → IsSpelled xs (cond exact (Some ys) None)
agree-spelled true xs ys h = sym h
agree-spelled false xs ys h = tt

agree-back : (exact : Bool) (xs ys : List Text) → map folded xs ≡ map folded ys → IsSpelled xs (cond exact (Some ys) None) → Agree exact xs ys
agree-back true xs ys h k = sym k
agree-back false xs ys h k = h

spelled-same : (exact : Bool) (xs ys : List Text) → IsSpelled xs (cond exact (Some ys) None) → cond exact (Some ys) None ≡ cond exact (Some xs) None
spelled-same true xs ys h = ap Some h
spelled-same false xs ys h = refl

-- what is put in for an entry with which tokens agree
pub agreed-put : (dicts : List DictUse) (i : ℕ) (dict : DictUse) (texts : List Text) → slice_get dicts i ≡ Some dict → 0 < length texts → (agrees : AgreesWith dict texts) →
    Contains (put_dicts 0 dicts) (map folded texts, end_of i dict.exact (entry_texts agrees.entry))
agreed-put dicts i dict texts at some agrees =
    let same = agree-path dict.exact texts (entry_texts agrees.entry) agrees.agree in
    let long : 0 < length (entry_texts agrees.entry) = omega (arith, some, ap length same, length-map texts folded, length-map (entry_texts agrees.entry) folded) in
    let here : i ≡ 0 + i = omega arith in
    let put = put-texts i dict.exact (entry_texts agrees.entry) long in
    let in_dict = flat_map-in (put_entry i dict.exact) dict.entries agrees.entry (map folded (entry_texts agrees.entry), end_of i dict.exact (entry_texts agrees.entry)) agrees.listed put in
    subst (λ (path : List Text). Contains (put_dicts 0 dicts) (path, end_of i dict.exact (entry_texts agrees.entry))) (sym same)
    (in-dicts 0 dicts i dict _ at (subst (λ (n : ℕ). Contains (put_dict n dict) (map folded (entry_texts agrees.entry), end_of i dict.exact (entry_texts agrees.entry))) here in_dict))

-- ---- the ends at the node of a run

module _ (trie : Trie) (dicts : List DictUse) (node : ℕ) (texts : List Text) (r : Reaches trie (put_dicts 0 dicts) node (map folded texts)) where
  abbrev here : List End
  here = get_or trie.ends.items node []

  pub end-put : (end : End) → Contains here end → IsPut 0 dicts (map folded texts) end
  end-put end c = put-cases 0 dicts (map folded texts) end ((r.ends.listed node (map folded texts) r.at end).0 c)

  pub end-agrees : (i : ℕ) (dict : DictUse) → slice_get dicts i ≡ Some dict → 0 < length texts → AgreesWith dict texts → HasEndFor i texts here
  end-agrees i dict at some agrees = record {
    end = end_of i dict.exact (entry_texts agrees.entry);
    listed = (r.ends.listed node (map folded texts) r.at (end_of i dict.exact (entry_texts agrees.entry))).1 (agreed-put dicts i dict texts at some agrees);
    dict_is = refl;
    spelled = agree-spelled dict.exact texts (entry_texts agrees.entry) agrees.agree;
  }

  pub agrees-end : (i : ℕ) (dict : DictUse) → slice_get dicts i ≡ Some dict → 0 < length texts → HasEndFor i texts here → AgreesWith dict texts
  agrees-end i dict at some has =
      let put = end-put has.end has.listed in
      let number : put.number ≡ i = omega (arith, put.dict_is, has.dict_is) in
      let same : put.dict ≡ dict = some_same put.dict dict (sym put.at ∙ ap (slice_get dicts) number ∙ at) in
      let agree = agree-back put.dict.exact texts (entry_texts put.entry) put.path_is (subst (IsSpelled texts) put.spelled_is has.spelled) in
      subst (λ (d : DictUse). AgreesWith d texts) same (record { filled = some; entry = put.entry; listed = put.listed; agree = agree })

  pub one-each : HasOneEach texts here
  one-each i j d lt low same a b =
      let one = get_or here i d in
      let two = get_or here j d in
      let put_one = end-put one (Contains-get_or here i d (omega (arith, lt, low))) in
      let put_two = end-put two (Contains-get_or here j d low) in
      let number : put_one.number ≡ put_two.number = omega (arith, put_one.dict_is, put_two.dict_is, same) in
      let dict : put_one.dict ≡ put_two.dict = some_same put_one.dict put_two.dict (sym put_one.at ∙ ap (slice_get dicts) number ∙ put_two.at) in
      let spelled : one.spelled ≡ two.spelled =
      put_one.spelled_is
      ∙ spelled-same put_one.dict.exact texts (entry_texts put_one.entry) (subst (IsSpelled texts) put_one.spelled_is a)
      ∙ ap (λ (x : DictUse). cond x.exact (Some texts) None) dict
      ∙ sym (spelled-same put_two.dict.exact texts (entry_texts put_two.entry) (subst (IsSpelled texts) put_two.spelled_is b))
      ∙ sym put_two.spelled_is in
      r.ends.once node i j d lt low (ap₂ (λ (n : ℕ) (s : Option (List Text)). let e : End = record { dict = n; spelled = s } in e) same spelled)

  pub ends-within : All (λ end. end.dict < length dicts) here
  ends-within k d lt =
      let put = end-put (get_or here k d) (Contains-get_or here k d lt) in
      omega (arith, put.dict_is, slice_get_within dicts put.number put.dict put.at)
