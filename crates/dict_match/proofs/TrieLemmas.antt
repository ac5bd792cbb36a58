-- The tree of all entries after a number, an edge or an end was put in.
use Rattle.std.proofs.Common.{◌≡◌, ℕ, zero, suc, ◌+◌, ◌<◌, ◌⊎◌, inl, inr, Bool, true, false, ◌&&◌, cond, nat_eq, List, [], ◌∷◌, ◌++◌, length, take, get_or, slice_get, Option, Some, None, option_and_then, refl, sym, ap, ap₂, subst, ◌∙◌, arith}
use Rattle.std.specs.Bool.{Decides}
use Rattle.std.specs.List.{Contains}
use Rattle.std.specs.HashMap.{get, get_by_text, hash_map_len}
use Rattle.std.specs.Map.{update}
use Rattle.std.specs.Str.{bytes_eq}
use Rattle.std.proofs.lemmas.Bool.{and_parts}
use Rattle.std.proofs.lemmas.Bool.Decides.{Decides-eqb}
use Rattle.std.proofs.lemmas.List.{length-append, take_all}
use Rattle.std.proofs.lemmas.Option.{slice_get_within}
use Rattle.std.proofs.lemmas.Slice.Eq.{bytes_eq-Decides}
use Rattle.std.proofs.Math.ListN.{set}
use Rattle.dict_match.specs.declared.trie.End.{End}
use Rattle.dict_match.specs.declared.trie.Trie.{Trie}
use Rattle.dict_match.specs.Marks.{HasMark, mark_of}
use Rattle.dict_match.specs.Tries.{is_same_edge, edge_from, step, IsNumbered, HasEnds, Reaches}
use Rattle.dict_match.proofs.TreeLemmas.{at_end, some_same, AddsStep, fresh, IsTree-added, IsTree-same, HasEnds-added, HasEnds-again, HasEnds-pushed}

-- ---- tests

dec_and : (x y : Bool) (P Q : Type 0) → Decides x P → Decides y Q → Decides (x && y) (P × Q)
dec_and x y P Q p q = (
  λ h. let parts = and_parts x y h in (p.0 parts.0, q.0 parts.1),
  λ both. ap₂ ◌&&◌ (p.1 both.0) (q.1 both.1),
)

is_same_edge-Decides : (a b c d : ℕ) → Decides (is_same_edge (a, b) (c, d)) ((a ≡ c) × (b ≡ d))
is_same_edge-Decides a b c d = dec_and (nat_eq a c) (nat_eq b d) (a ≡ c) (b ≡ d) (Decides-eqb a c) (Decides-eqb b d)

picked : (b : Bool) (P : Type 0) (x w y : Option ℕ) → Decides b P → x ≡ cond b w y → (P × (x ≡ w)) ⊎ ((P → ⊥) × (x ≡ y))
picked true P x w y d e = inl (d.0 refl, e)
picked false P x w y d e = inr (λ p. let yes : false ≡ true = d.1 p in cc, e)

-- ---- a number is given to a text that has none

-- the text has a number that none had, and else nothing changed
pub record AddsWord (old new : Trie) (text : List ℕ) : Type 0 where
  pub none : get_by_text old.words text ≡ None
  pub words : (cs : List ℕ) → get_by_text new.words cs ≡ update bytes_eq (get_by_text old.words) text (Some (hash_map_len old.words)) cs
  pub len : hash_map_len new.words ≡ hash_map_len old.words + 1
  pub edges : new.edges ≡ old.edges
  pub ends : new.ends ≡ old.ends
  pub set_is : HasMark new.marks (mark_of text)
  pub marks : (mark : ℕ) → HasMark old.marks mark → HasMark new.marks mark

module _ (old new : Trie) (text : List ℕ) (adds : AddsWord old new text) (numbered : IsNumbered old) where
  word_cases : (cs : List ℕ) → ((text ≡ cs) × (get_by_text new.words cs ≡ Some (hash_map_len old.words))) ⊎ ((text ≡ cs → ⊥) × (get_by_text new.words cs ≡ get_by_text old.words cs))
  word_cases cs = picked (bytes_eq text cs) (text ≡ cs) (get_by_text new.words cs) (Some (hash_map_len old.words)) (get_by_text old.words cs) (bytes_eq-Decides text cs) (adds.words cs)

  edge_same : (node word : ℕ) → edge_from new node word ≡ edge_from old node word
  edge_same node word = ap (λ es. get is_same_edge es (node, word)) adds.edges

  no_edge : (o : Option ℕ) (node : ℕ) → edge_from old node (hash_map_len old.words) ≡ o → o ≡ None
  no_edge None node h = refl
  no_edge (Some next) node h = absurd (let low = numbered.known node (hash_map_len old.words) next h in omega arith)

  step-word : (node : ℕ) (cs : List ℕ) → step new node cs ≡ step old node cs
  unfolding step
  step-word node cs = elim (word_cases cs) [
    | inl same ↦
        let was : get_by_text old.words cs ≡ None = ap (get_by_text old.words) (sym same.0) ∙ adds.none in
        ap (option_and_then (edge_from new node)) same.1
        ∙ edge_same node (hash_map_len old.words)
        ∙ no_edge (edge_from old node (hash_map_len old.words)) node refl
        ∙ sym (ap (option_and_then (edge_from old node)) was)
    | inr other ↦
        ap (option_and_then (edge_from new node)) other.1 ∙ next_same (get_by_text old.words cs) node
  ] where
    next_same : (o : Option ℕ) (node : ℕ) → option_and_then (edge_from new node) o ≡ option_and_then (edge_from old node) o
    next_same None node = refl
    next_same (Some word) node = edge_same node word

  numbered-word : IsNumbered new
  numbered-word = record {
    below = λ cs word h. elim (word_cases cs) [
      | inl same ↦ let is = some_same word (hash_map_len old.words) (sym h ∙ same.1) in omega (arith, is, adds.len)
      | inr other ↦ let low = numbered.below cs word (sym other.1 ∙ h) in omega (arith, low, adds.len)
    ];
    apart = λ t u word h k. elim (word_cases t) [
      | inl a ↦ elim (word_cases u) [
        | inl b ↦ sym a.0 ∙ b.0
        | inr b ↦
            let is = some_same word (hash_map_len old.words) (sym h ∙ a.1) in
            let low = numbered.below u word (sym b.1 ∙ k) in absurd (omega (arith, is, low))
      ]
      | inr a ↦ elim (word_cases u) [
        | inl b ↦
            let is = some_same word (hash_map_len old.words) (sym k ∙ b.1) in
            let low = numbered.below t word (sym a.1 ∙ h) in absurd (omega (arith, is, low))
        | inr b ↦ numbered.apart t u word (sym a.1 ∙ h) (sym b.1 ∙ k)
      ]
    ];
    known = λ node word next h. let low = numbered.known node word next (sym (edge_same node word) ∙ h) in omega (arith, low, adds.len);
    marked = λ cs word h. elim (word_cases cs) [
      | inl same ↦ subst (λ (t : List ℕ). HasMark new.marks (mark_of t)) same.0 adds.set_is
      | inr other ↦ adds.marks (mark_of cs) (numbered.marked cs word (sym other.1 ∙ h))
    ];
  }

pub Reaches-word : (old new : Trie) (text : List ℕ) (put : List (List (List ℕ) × End)) (node : ℕ) (path : List (List ℕ)) → AddsWord old new text → Reaches old put node path → Reaches new put node path
Reaches-word old new text put node path adds r = record {
  paths = r.paths;
  numbered = numbered-word old new text adds r.numbered;
  tree = IsTree-same (step old) (step new) r.paths (step-word old new text adds r.numbered) r.tree;
  ends = subst (λ es. HasEnds es r.paths put) (ap (λ v. v.items) (sym adds.ends)) r.ends;
  at = r.at;
}

pub word-added : (old new : Trie) (text : List ℕ) → AddsWord old new text → get_by_text new.words text ≡ Some (hash_map_len old.words)
word-added old new text adds = elim (picked (bytes_eq text text) (text ≡ text) (get_by_text new.words text) (Some (hash_map_len old.words)) (get_by_text old.words text) (bytes_eq-Decides text text) (adds.words text)) [
  | inl same ↦ same.1
  | inr other ↦ absurd (other.0 refl)
]

-- ---- an edge leads to a new node

pub record AddsNode (old new : Trie) (node word : ℕ) : Type 0 where
  pub none : edge_from old node word ≡ None
  pub edges : (q : ℕ × ℕ) → get is_same_edge new.edges q ≡ cond (is_same_edge (node, word) q) (Some (length old.ends.items)) (get is_same_edge old.edges q)
  pub words : new.words ≡ old.words
  pub ends : new.ends.items ≡ old.ends.items ++ [] ∷ []
  pub marks : new.marks ≡ old.marks

module _ (old new : Trie) (node word : ℕ) (text : List ℕ) (adds : AddsNode old new node word) (numbered : IsNumbered old) (has : get_by_text old.words text ≡ Some word) where
  edge_cases : (q w : ℕ) → (((node ≡ q) × (word ≡ w)) × (edge_from new q w ≡ Some (length old.ends.items))) ⊎ (((node ≡ q) × (word ≡ w) → ⊥) × (edge_from new q w ≡ edge_from old q w))
  edge_cases q w = picked (is_same_edge (node, word) (q, w)) ((node ≡ q) × (word ≡ w)) (edge_from new q w) (Some (length old.ends.items)) (edge_from old q w) (is_same_edge-Decides node word q w) (adds.edges (q, w))

  word_same : (cs : List ℕ) → get_by_text new.words cs ≡ get_by_text old.words cs
  word_same cs = ap (λ ws. get_by_text ws cs) adds.words

  step_by : (o : Option ℕ) (q : ℕ) (u : List ℕ) → get_by_text old.words u ≡ o →
      ((q ≡ node) × (u ≡ text)) ⊎ (((q ≡ node) × (u ≡ text) → ⊥) × (option_and_then (edge_from new q) o ≡ option_and_then (edge_from old q) o))
  step_by None q u h = inr (λ same. let gone : get_by_text old.words u ≡ Some word = ap (get_by_text old.words) same.1 ∙ has in cc, refl)
  step_by (Some w) q u h = elim (edge_cases q w) [
    | inl same ↦ inl (sym same.0.0, numbered.apart u text word (h ∙ ap Some (sym same.0.1)) has)
    | inr other ↦ inr (
      λ same. let found : Some w ≡ Some word = sym h ∙ ap (get_by_text old.words) same.1 ∙ has in other.0 (sym same.0, sym (some_same w word found)),
      other.1,
    )
  ]

  adds_step : AddsStep (step old) (step new) node text
  unfolding step
  adds_step q u = elim (step_by (get_by_text old.words u) q u refl) [
    | inl same ↦ inl same
    | inr other ↦ inr (other.0, ap (option_and_then (edge_from new q)) (word_same u) ∙ other.1)
  ]

  step-none : step old node text ≡ None
  unfolding step
  step-none = ap (option_and_then (edge_from old node)) has ∙ adds.none

  edge-new : edge_from new node word ≡ Some (length old.ends.items)
  edge-new = elim (edge_cases node word) [ inl same ↦ same.1 | inr other ↦ absurd (other.0 (refl, refl)) ]

  step-new : step new node text ≡ Some (length old.ends.items)
  unfolding step
  step-new = ap (option_and_then (edge_from new node)) (word_same text ∙ has) ∙ edge-new

  numbered-node : IsNumbered new
  numbered-node = record {
    below = λ cs w h. let low = numbered.below cs w (sym (word_same cs) ∙ h) in omega (arith, low, ap (λ ws. hash_map_len ws) adds.words);
    apart = λ t u w h k. numbered.apart t u w (sym (word_same t) ∙ h) (sym (word_same u) ∙ k);
    known = λ q w next h. elim (edge_cases q w) [
      | inl same ↦ let low = numbered.below text word has in omega (arith, low, same.0.1, ap (λ ws. hash_map_len ws) adds.words)
      | inr other ↦ let low = numbered.known q w next (sym other.1 ∙ h) in omega (arith, low, ap (λ ws. hash_map_len ws) adds.words)
    ];
    marked = λ cs w h. subst (λ (ms : List ℕ). HasMark ms (mark_of cs)) (sym adds.marks) (numbered.marked cs w (sym (word_same cs) ∙ h));
  }

pub Reaches-node : (old new : Trie) (put : List (List (List ℕ) × End)) (node word : ℕ) (text : List ℕ) (path : List (List ℕ)) → AddsNode old new node word →
    get_by_text old.words text ≡ Some word → Reaches old put node path → Reaches new put (length old.ends.items) (path ++ text ∷ [])
Reaches-node old new put node word text path adds has r =
    let some : step new node text ≡ Some (length r.paths) = step-new old new node word text adds r.numbered has ∙ ap Some r.ends.size in
    let steps = adds_step old new node word text adds r.numbered has in
    let none = step-none old new node word text adds r.numbered has in
    record {
      paths = r.paths ++ (path ++ text ∷ []) ∷ [];
      numbered = numbered-node old new node word text adds r.numbered has;
      tree = IsTree-added (step old) (step new) r.paths node text path r.tree r.at none some steps;
      ends = subst (λ es. HasEnds es (r.paths ++ (path ++ text ∷ []) ∷ []) put) (sym adds.ends)
          (HasEnds-added old.ends.items r.paths put (path ++ text ∷ []) (fresh (step old) (step new) r.paths node text path r.tree r.at none some steps) r.ends);
      at = ap (slice_get (r.paths ++ (path ++ text ∷ []) ∷ [])) r.ends.size ∙ at_end r.paths (path ++ text ∷ []);
    }

-- an edge that is there
pub Reaches-edge : (trie : Trie) (put : List (List (List ℕ) × End)) (node next : ℕ) (text : List ℕ) (path : List (List ℕ)) →
    step trie node text ≡ Some next → Reaches trie put node path → Reaches trie put next (path ++ text ∷ [])
Reaches-edge trie put node next text path steps r =
    let led = (r.tree.leads node text next).0 steps in
    let same = some_same led.path path (sym led.«from» ∙ r.at) in
    record {
      paths = r.paths;
      numbered = r.numbered;
      tree = r.tree;
      ends = r.ends;
      at = led.to ∙ ap (λ (p : List (List ℕ)). Some (p ++ text ∷ [])) same;
    }

pub step-edge : (trie : Trie) (node word : ℕ) (text : List ℕ) → get_by_text trie.words text ≡ Some word → step trie node text ≡ edge_from trie node word
unfolding step
step-edge trie node word text has = ap (option_and_then (edge_from trie node)) has

-- ---- an end is put to a node

pub root-reached : (trie : Trie) (put : List (List (List ℕ) × End)) (node : ℕ) (path : List (List ℕ)) → Reaches trie put node path → Reaches trie put 0 []
root-reached trie put node path r = record { paths = r.paths; numbered = r.numbered; tree = r.tree; ends = r.ends; at = r.tree.root }

pub node-there : (trie : Trie) (put : List (List (List ℕ) × End)) (node : ℕ) (path : List (List ℕ)) → Reaches trie put node path → node < length trie.ends.items
node-there trie put node path r = omega (arith, slice_get_within r.paths node path r.at, r.ends.size)

pub Reaches-again : (trie : Trie) (put : List (List (List ℕ) × End)) (node : ℕ) (path : List (List ℕ)) (end : End) → Contains (get_or trie.ends.items node []) end →
    Reaches trie put node path → Reaches trie (put ++ (path, end) ∷ []) 0 []
Reaches-again trie put node path end there r = record {
  paths = r.paths;
  numbered = r.numbered;
  tree = r.tree;
  ends = HasEnds-again trie.ends.items r.paths put node path end r.tree.once r.at there r.ends;
  at = r.tree.root;
}

step-same : (old new : Trie) → new.words ≡ old.words → new.edges ≡ old.edges → (node : ℕ) (cs : List ℕ) → step new node cs ≡ step old node cs
unfolding step
step-same old new words edges node cs = ap₂ (λ ws es. option_and_then (λ w. get is_same_edge es (node, w)) (get_by_text ws cs)) words edges

pub Reaches-end : (old new : Trie) (put : List (List (List ℕ) × End)) (node : ℕ) (path : List (List ℕ)) (end : End) → new.words ≡ old.words → new.edges ≡ old.edges → new.marks ≡ old.marks →
    new.ends.items ≡ set old.ends.items node (get_or old.ends.items node [] ++ end ∷ []) → (Contains (get_or old.ends.items node []) end → ⊥) →
    Reaches old put node path → Reaches new (put ++ (path, end) ∷ []) 0 []
Reaches-end old new put node path end words edges marks ends gone r = record {
  paths = r.paths;
  numbered = record {
    below = λ cs w h. let low = r.numbered.below cs w (ap (λ ws. get_by_text ws cs) (sym words) ∙ h) in omega (arith, low, ap (λ ws. hash_map_len ws) words);
    apart = λ t u w h k. r.numbered.apart t u w (ap (λ ws. get_by_text ws t) (sym words) ∙ h) (ap (λ ws. get_by_text ws u) (sym words) ∙ k);
    known = λ q w next h. let low = r.numbered.known q w next (ap (λ es. get is_same_edge es (q, w)) (sym edges) ∙ h) in omega (arith, low, ap (λ ws. hash_map_len ws) words);
    marked = λ cs w h. subst (λ (ms : List ℕ). HasMark ms (mark_of cs)) (sym marks) (r.numbered.marked cs w (ap (λ ws. get_by_text ws cs) (sym words) ∙ h));
  };
  tree = IsTree-same (step old) (step new) r.paths (step-same old new words edges) r.tree;
  ends = subst (λ es. HasEnds es r.paths (put ++ (path, end) ∷ [])) (sym ends)
      (HasEnds-pushed old.ends.items r.paths put node path end r.tree.once r.at (node-there old put node path r) gone r.ends);
  at = r.tree.root;
}

-- ---- a tree of nothing

no_step : (trie : Trie) → ((cs : List ℕ) → get_by_text trie.words cs ≡ None) → (node : ℕ) (cs : List ℕ) → step trie node cs ≡ None
unfolding step
no_step trie none node cs = ap (option_and_then (edge_from trie node)) (none cs)

root_alone : (i : ℕ) (path : List (List ℕ)) → slice_get ([] ∷ []) i ≡ Some path → (i ≡ 0) × ([] ≡ path)
root_alone zero path h = (refl, some_same [] path h)
root_alone (suc i) path h = cc

take_nothing : (k : ℕ) (path : List (List ℕ)) → [] ≡ path → [] ≡ take k path
take_nothing k path h = sym (take_all k [] (omega arith)) ∙ ap (take k) h

abbrev no_ends : List (List End)
no_ends = [] ∷ []

empty_there : (n : ℕ) → get_or no_ends n [] ≡ []
empty_there zero = refl
empty_there (suc n) = refl

none_longer : (n j : ℕ) → j < length (get_or no_ends n []) → ⊥
none_longer n j low = let none = ap length (empty_there n) in omega arith

none_there : (n : ℕ) (e : End) → Contains (get_or no_ends n []) e → ⊥
none_there n e c = none_longer n c.0 c.1

pub Reaches-nothing : (trie : Trie) → ((cs : List ℕ) → get_by_text trie.words cs ≡ None) → ((node word : ℕ) → edge_from trie node word ≡ None) → trie.ends.items ≡ [] ∷ [] →
    Reaches trie [] 0 []
Reaches-nothing trie word_none edge_none ends = record {
  paths = [] ∷ [];
  numbered = record {
    below = λ cs w h. let none = word_none cs in cc;
    apart = λ t u w h k. let none = word_none t in cc;
    known = λ q w next h. let none = edge_none q w in cc;
    marked = λ cs w h. let none = word_none cs in cc;
  };
  tree = record {
    root = refl;
    leads = λ node cs next. (
      λ h. let none = no_step trie word_none node cs in cc,
      λ led. let to = (root_alone next (led.path ++ cs ∷ []) led.to).1 in
          absurd (omega (arith, ap length to, length-append led.path (cs ∷ []))),
    );
    once = λ i j path h k. (root_alone i path h).0 ∙ sym (root_alone j path k).0;
    closed = λ n k path h. (0, ap (λ (x : List (List ℕ)). Some x) (take_nothing k path (root_alone n path h).1));
  };
  ends = subst (λ es. HasEnds es ([] ∷ []) []) (sym ends) (record {
    size = refl;
    listed = λ n path h e. (
      λ c. absurd (none_there n e c),
      λ c. absurd (let lt = c.1 in omega arith),
    );
    once = λ n i j d lt low. absurd (none_longer n j low);
    kept = λ path e c. absurd (let lt = c.1 in omega arith);
  });
  at = refl;
}
