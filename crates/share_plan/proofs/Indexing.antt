-- Nodes that are found by their lists of numbers: what a list finds, one node more, and a dictionary more.
use Rattle.std.proofs.Common.{◌≡◌, ◌≢◌, ◌∙◌, ℕ, ℤ, ◌+◌, ◌<◌, ◌⊎◌, inl, inr, Bool, false, List, [], ◌∷◌, ◌++◌, length, map, get_or, set, slice_get, take, drop, refl, sym, ap, ap₂, subst, arith, Option, Some}
use Rattle.std.specs.List.{AllPairs}
use Rattle.std.proofs.lemmas.Bool.{cases_lt}
use Rattle.std.proofs.lemmas.List.{get_or-map, get_or-set_same, get_or-set_other, length-map, length-set, length-take-le, get_or_append_left, get_or_default, map-append, ext_get_or}
use Rattle.std.proofs.lemmas.List.Quantifiers.{all_pairs_push}
use Rattle.std.proofs.lemmas.Option.{slice_get_within, get_or_from_slice_get, slice_get-get_or}
use Rattle.std.proofs.Math.Seq.{set-append_seam}
use Rattle.algebra.specs.declared.node.Node.{Node}
use Rattle.algebra.specs.declared.node.Node.TheVariants.{Doc, Dict, DictPart}
use Rattle.algebra.specs.declared.shape.Shape.{Shape}
use Rattle.algebra.specs.Growth.{Stands}
use Rattle.algebra.specs.GrowthLaws.{is-at}
use Rattle.algebra.specs.Nodes.{IsNode, IsPlan}
use Rattle.algebra.specs.NodeLaws.{plan-push, split_at}
use Rattle.algebra.specs.Shapes.{shapes_of, HasDictNumberForm}
use Rattle.share_plan.specs.declared.kind.Kind.{Kind}
use Rattle.share_plan.specs.declared.kind.Kind.TheVariants.{Source, Part, Plain}
use Rattle.share_plan.specs.Indexes.{dict_at, found_as, found_by, keys_of, Key, IsInserted, IsIndex}
use Rattle.share_plan.specs.Kinds.{kind_of}
use Rattle.share_plan.specs.Putting.{Keeps}
use Rattle.share_plan.specs.Sharing.{AreDistinct, AreMerged}
use Rattle.share_plan.specs.Words.{node_words}
use Rattle.share_plan.proofs.Finding.{items_of, key_stands, keys_stay, there_in_front, there_set_other, there_set_same}
use Rattle.share_plan.proofs.KindLaws.{is_of_kind, plain-source, plain-part, source-part}
use Rattle.share_plan.proofs.NodeReading.{words-told}
use Rattle.share_plan.proofs.Parts.{is_node, dict_shape}
use Rattle.share_plan.proofs.Widening.{widened-plan, widened-keeps}

abbrev key_in : List Node → Node → List ℤ
key_in nodes node = node_words (found_by nodes node)

key_at : (nodes : List Node) (i : ℕ) (d : Node) (e : List ℤ) → i < length nodes → get_or (keys_of nodes) i e ≡ key_in nodes (get_or nodes i d)
key_at nodes i d e below = get_or-map (λ (node : Node). key_in nodes node) nodes i d e below

length-keys : (nodes : List Node) → length (keys_of nodes) ≡ length nodes
length-keys nodes = length-map nodes (λ (node : Node). key_in nodes node)

-- ---- what the index says of the nodes

module _ (nodes : List Node) (keys : List Key) (index : IsIndex nodes keys) where
  apart_keys : (i j : ℕ) (d : Node) → i < j → j < length nodes → key_in nodes (get_or nodes i d) ≡ key_in nodes (get_or nodes j d) → ⊥
  apart_keys i j d low high e =
      index.distinct i j [] low (omega (arith, high, length-keys nodes)) (key_at nodes i d [] (omega (arith, low, high)) ∙ (e ∙ sym (key_at nodes j d [] high)))

  -- no two are equal, and no two `Dict` nodes have one input and column
  pub index-distinct : AreDistinct nodes
  index-distinct i j d low high e = apart_keys i j d low high (ap (λ (node : Node). key_in nodes node) e)

  pub index-merged : AreMerged nodes
  index-merged i j d low high input column dicts others first second =
      apart_keys i j d low high (ap (λ (node : Node). key_in nodes node) first ∙ sym (ap (λ (node : Node). key_in nodes node) second))

  pub long_keys : length keys ≡ length nodes
  long_keys = sym (length-map keys (λ (key : Key). key.items)) ∙ (ap length index.found ∙ length-keys nodes)

-- ---- what stands where a list of numbers is found

abbrev input_in : Node → ℕ
input_in (Dict input column dicts) = input
input_in (DictPart input number) = input
input_in node = 0

abbrev second_in : Node → ℕ
second_in (Dict input column dicts) = column
second_in (DictPart input number) = number
second_in node = 0

module _ (nodes : List Node) (x : Node) where
  plain_told : (y : Node) → kind_of y ≡ Plain → found_by nodes x ≡ y → x ≡ y
  plain_told y plain is = by (kind_of x) refl
    where
      by : (kind : Kind) → kind_of x ≡ kind → x ≡ y
      by Plain e = sym (ap (λ (k : Kind). found_as nodes k x) e) ∙ is
      by Source e =
          let s = is_of_kind x Source e in
          let found : found_by nodes x ≡ Dict s.0 s.1 [] = ap (λ (node : Node). found_by nodes node) s.3 in
          absurd (plain-source (sym plain ∙ ap (λ (node : Node). kind_of node) (sym is ∙ found)))
      by (Part k p) e =
          let s = is_of_kind x (Part k p) e in
          let found : found_by nodes x ≡ DictPart k (dict_at (slice_get nodes k) p) = ap (λ (node : Node). found_by nodes node) s in
          absurd (plain-part k (dict_at (slice_get nodes k) p) (sym plain ∙ ap (λ (node : Node). kind_of node) (sym is ∙ found)))

  dict_told : (i c : ℕ) → found_by nodes x ≡ Dict i c [] → (dicts : List ℕ) × (x ≡ Dict i c dicts)
  dict_told i c is = by (kind_of x) refl
    where
      by : (kind : Kind) → kind_of x ≡ kind → (dicts : List ℕ) × (x ≡ Dict i c dicts)
      by Plain e = ([], sym (ap (λ (k : Kind). found_as nodes k x) e) ∙ is)
      by Source e =
          let s = is_of_kind x Source e in
          let found : Dict s.0 s.1 [] ≡ Dict i c [] = sym (ap (λ (node : Node). found_by nodes node) s.3) ∙ is in
          (s.2, s.3 ∙ ap₂ (λ (a b : ℕ). Dict a b s.2) (ap input_in found) (ap second_in found))
      by (Part k p) e =
          let s = is_of_kind x (Part k p) e in
          let found : DictPart k (dict_at (slice_get nodes k) p) ≡ Dict i c [] = sym (ap (λ (node : Node). found_by nodes node) s) ∙ is in
          absurd (source-part k (dict_at (slice_get nodes k) p) (sym (ap (λ (node : Node). kind_of node) found)))

  part_told : (m d : ℕ) → found_by nodes x ≡ DictPart m d → (q : ℕ) × (x ≡ DictPart m q) × (dict_at (slice_get nodes m) q ≡ d)
  part_told m d is = by (kind_of x) refl
    where
      by : (kind : Kind) → kind_of x ≡ kind → (q : ℕ) × (x ≡ DictPart m q) × (dict_at (slice_get nodes m) q ≡ d)
      by Plain e =
          let found : x ≡ DictPart m d = sym (ap (λ (k : Kind). found_as nodes k x) e) ∙ is in
          absurd (plain-part m d (sym e ∙ ap (λ (node : Node). kind_of node) found))
      by Source e =
          let s = is_of_kind x Source e in
          let found : Dict s.0 s.1 [] ≡ DictPart m d = sym (ap (λ (node : Node). found_by nodes node) s.3) ∙ is in
          absurd (source-part m d (ap (λ (node : Node). kind_of node) found))
      by (Part k p) e =
          let s = is_of_kind x (Part k p) e in
          let found : DictPart k (dict_at (slice_get nodes k) p) ≡ DictPart m d = sym (ap (λ (node : Node). found_by nodes node) s) ∙ is in (
            p,
            s ∙ ap (λ (a : ℕ). DictPart a p) (ap input_in found),
            ap (λ (a : ℕ). dict_at (slice_get nodes a) p) (sym (ap input_in found)) ∙ ap second_in found,
          )

-- a part's number is listed by its `Dict` node
pub number_listed : (nodes : List Node) (m n i c number : ℕ) (dicts : List ℕ) → IsPlan nodes → slice_get nodes m ≡ Some (Dict i c dicts) → slice_get nodes n ≡ Some (DictPart m number) → number < length dicts
number_listed nodes m n i c number dicts plan is at =
    let valid : IsNode (shapes_of nodes) (DictPart m number) = (is-at nodes n (DictPart m number) plan (slice_get_within nodes n (DictPart m number) at) (is_node nodes n (DictPart m number) at)).valid in
    subst (λ (s : Shape). HasDictNumberForm s.form number) (dict_shape nodes plan m i c dicts is) valid.made.listed

module _ (nodes : List Node) (keys later : List Key) (key : Key) (n : ℕ) (is_new : Bool) (index : IsIndex nodes keys) (put : IsInserted keys later key n is_new) (old : is_new ≡ false) where
  abbrev x : Node
  x = get_or nodes n Doc

  there : n < length nodes
  there =
      omega (arith, slice_get_within later n put.stored.0 put.stored.1, ap length (keys_stay keys later key n is_new put old), long_keys nodes keys index)

  pub x_stands : slice_get nodes n ≡ Some x
  x_stands = slice_get-get_or nodes n Doc there

  x_key : key_in nodes x ≡ key.items
  x_key =
      sym (key_at nodes n Doc [] there)
      ∙ (ap (λ (all : List (List ℤ)). get_or all n []) (sym index.found ∙ ap items_of (sym (keys_stay keys later key n is_new put old)))
      ∙ key_stands keys later key n is_new put)

  pub index-kept : IsIndex nodes later
  index-kept = subst (IsIndex nodes) (sym (keys_stay keys later key n is_new put old)) index

  -- the node itself
  pub plain-at : (y : Node) → kind_of y ≡ Plain → key.items ≡ node_words y → slice_get nodes n ≡ Some y
  plain-at y plain are = x_stands ∙ ap (λ (node : Node). Some node) (plain_told nodes x y plain (words-told (found_by nodes x) y (x_key ∙ are)))

  -- which stands for itself
  pub plain-there : (y : Node) → kind_of y ≡ Plain → key.items ≡ node_words y → Stands nodes nodes n y
  plain-there y plain are = (is-at nodes n y index.plan there (is_node nodes n y (plain-at y plain are))).stands

  -- a `Dict` node of the column
  pub dict-there : (i c : ℕ) → key.items ≡ node_words (Dict i c []) → (dicts : List ℕ) × (slice_get nodes n ≡ Some (Dict i c dicts))
  dict-there i c are =
      let is = dict_told nodes x i c (words-told (found_by nodes x) (Dict i c []) (x_key ∙ are)) in
      (is.0, x_stands ∙ ap (λ (node : Node). Some node) is.1)

  -- a part of the dictionary
  pub part-there : (m i c d : ℕ) (dicts : List ℕ) → key.items ≡ node_words (DictPart m d) → slice_get nodes m ≡ Some (Dict i c dicts)
      → (number : ℕ) × (slice_get nodes n ≡ Some (DictPart m number)) × (slice_get dicts number ≡ Some d)
  part-there m i c d dicts are at =
      let is = part_told nodes x m d (words-told (found_by nodes x) (DictPart m d) (x_key ∙ are)) in
      let part : slice_get nodes n ≡ Some (DictPart m is.0) = x_stands ∙ ap (λ (node : Node). Some node) is.1 in
      let listed : is.0 < length dicts = number_listed nodes m n i c is.0 dicts index.plan at part in
      let same : get_or dicts is.0 0 ≡ d = sym (ap (λ (o : Option Node). dict_at o is.0) at) ∙ is.2 in
      (is.0, part, slice_get-get_or dicts is.0 0 listed ∙ ap (λ (e : ℕ). Some e) same)

-- ---- one node more

module _ (nodes more : List Node) (plan : IsPlan nodes) (same_nodes : (i : ℕ) → i < length nodes → (p : ℕ) (n : ℕ) → slice_get nodes n ≡ Some (DictPart i p) → dict_at (slice_get more i) p ≡ dict_at (slice_get nodes i) p) where
  -- what a node is found by stays, where what its part is found by does
  key_kept : (n : ℕ) (node : Node) → slice_get nodes n ≡ Some node → key_in more node ≡ key_in nodes node
  key_kept n node at = ap (λ (found : Node). node_words found) (by (kind_of node) refl)
    where
      by : (kind : Kind) → kind_of node ≡ kind → found_as more kind node ≡ found_as nodes kind node
      by Plain e = refl
      by Source e = refl
      by (Part i p) e =
          let is : node ≡ DictPart i p = is_of_kind node (Part i p) e in
          let here : slice_get nodes n ≡ Some (DictPart i p) = at ∙ ap (λ (x : Node). Some x) is in
          let at_n = is-at nodes n (DictPart i p) plan (slice_get_within nodes n (DictPart i p) here) (is_node nodes n (DictPart i p) here) in
          let below : i < length nodes = omega (arith, at_n.left_lower, slice_get_within nodes n (DictPart i p) here) in
          ap (λ (d : ℕ). DictPart i d) (same_nodes i below p n here)

module _ (nodes : List Node) (keys : List Key) (key : Key) (index : IsIndex nodes keys) (node : Node) (valid : IsNode (shapes_of nodes) node)
    (apart : (i : ℕ) → i < length keys → get_or (items_of keys) i [] ≡ key.items → ⊥) (are : key.items ≡ key_in (nodes ++ node ∷ []) node) where
  abbrev more : List Node
  more = nodes ++ node ∷ []

  front_same : (i : ℕ) → i < length nodes → (p n : ℕ) → slice_get nodes n ≡ Some (DictPart i p) → dict_at (slice_get more i) p ≡ dict_at (slice_get nodes i) p
  front_same i below p n at = ap (λ (o : Option Node). dict_at o p) (there_in_front Doc nodes (node ∷ []) i below)

  front_keys : map (λ (x : Node). key_in more x) nodes ≡ keys_of nodes
  front_keys =
      ext_get_or [] (map (λ (x : Node). key_in more x) nodes) (keys_of nodes)
      (length-map nodes (λ (x : Node). key_in more x) ∙ sym (length-keys nodes))
      (λ i below.
      let short : i < length nodes = omega (arith, below, length-map nodes (λ (x : Node). key_in more x)) in
      get_or-map (λ (x : Node). key_in more x) nodes i Doc [] short
      ∙ (key_kept nodes more index.plan front_same i (get_or nodes i Doc) (slice_get-get_or nodes i Doc short) ∙ sym (key_at nodes i Doc [] short)))

  keys_with : keys_of more ≡ keys_of nodes ++ key.items ∷ []
  keys_with =
      map-append (λ (x : Node). key_in more x) nodes (node ∷ [])
      ∙ ap₂ (λ (all : List (List ℤ)) (last : List ℤ). all ++ last ∷ []) front_keys (sym are)

  -- the node goes last, and is found by its numbers
  pub index-more : IsIndex more (keys ++ key ∷ [])
  index-more = record {
    plan = plan-push nodes node index.plan valid;
    found = map-append (λ (k : Key). k.items) keys (key ∷ []) ∙ (ap (λ (all : List (List ℤ)). all ++ key.items ∷ []) index.found ∙ sym keys_with);
    distinct = subst (AllPairs (λ (a b : List ℤ). a ≢ b)) (sym keys_with)
        (all_pairs_push (λ (a b : List ℤ). a ≢ b) (keys_of nodes) key.items index.distinct
        (λ i d below e.
        let few : i < length keys = omega (arith, below, length-keys nodes, long_keys nodes keys index) in
        apart i few (ap (λ (all : List (List ℤ)). get_or all i []) index.found ∙ (get_or_default (keys_of nodes) i [] d below ∙ e))));
  }

-- ---- a dictionary more

module _ (nodes : List Node) (keys : List Key) (index : IsIndex nodes keys) (m i c d : ℕ) (dicts : List ℕ) (at : slice_get nodes m ≡ Some (Dict i c dicts)) where
  abbrev before : Node
  before = Dict i c dicts

  abbrev after : Node
  after = Dict i c (dicts ++ d ∷ [])

  abbrev wider : List Node
  wider = set nodes m after

  m_there : m < length nodes
  m_there = slice_get_within nodes m before at

  abbrev front : List Node
  front = take m nodes

  abbrev back : List Node
  back = drop (m + 1) nodes

  whole : nodes ≡ front ++ before ∷ back
  whole = split_at nodes m before m_there (is_node nodes m before at)

  wider_is : wider ≡ front ++ after ∷ back
  wider_is =
      let few : length front ≡ m = length-take-le m nodes (omega (arith, m_there)) in
      ap (λ (all : List Node). set all m after) whole
      ∙ (ap (λ (k : ℕ). set (front ++ before ∷ back) k after) (sym few) ∙ set-append_seam front before back after)

  planned : IsPlan (front ++ before ∷ back)
  planned = subst IsPlan whole index.plan

  wider_plan : IsPlan wider
  wider_plan = subst IsPlan (sym wider_is) (widened-plan front back i c d dicts planned)

  pub wider-keeps : Keeps nodes wider
  wider-keeps =
      subst (λ (old : List Node). Keeps old wider) (sym whole) (subst (λ (new : List Node). Keeps (front ++ before ∷ back) new) (sym wider_is) (widened-keeps front back i c d dicts planned))

  pub wider-at : slice_get wider m ≡ Some after
  wider-at = there_set_same Doc nodes m after m_there

  whether : (k : ℕ) → (k ≡ m) ⊎ (k ≡ m → ⊥)
  whether k = elim (cases_lt k m) [
    | inl h ↦ inr (λ e. omega (arith, h, e))
    | inr h ↦ elim (cases_lt m k) [
      | inl l ↦ inr (λ e. omega (arith, l, e))
      | inr l ↦ inl (omega (arith, h, l))
    ]
  ]

  -- what is listed at a number that was there
  dicts_same : (k : ℕ) → k < length nodes → (p n : ℕ) → slice_get nodes n ≡ Some (DictPart k p) → dict_at (slice_get wider k) p ≡ dict_at (slice_get nodes k) p
  dicts_same k below p n part = elim (whether k) [
    | inl e ↦
        let listed : p < length dicts = number_listed nodes m n i c p dicts index.plan at (subst (λ (a : ℕ). slice_get nodes n ≡ Some (DictPart a p)) e part) in
        ap (λ (a : ℕ). dict_at (slice_get wider a) p) e
        ∙ (ap (λ (o : Option Node). dict_at o p) wider-at
        ∙ (get_or_append_left dicts (d ∷ []) 0 p listed
        ∙ (ap (λ (o : Option Node). dict_at o p) (sym at) ∙ ap (λ (a : ℕ). dict_at (slice_get nodes a) p) (sym e))))
    | inr apart ↦ ap (λ (o : Option Node). dict_at o p) (there_set_other Doc nodes m k after below apart)
  ]

  key_same : (n : ℕ) → n < length nodes → key_in wider (get_or wider n Doc) ≡ key_in nodes (get_or nodes n Doc)
  key_same n below = elim (whether n) [
    | inl e ↦
        ap (λ (a : ℕ). key_in wider (get_or wider a Doc)) e
        ∙ (ap (λ (node : Node). key_in wider node) (get_or-set_same nodes m after Doc m_there)
        ∙ (ap (λ (node : Node). key_in nodes node) (sym (get_or_from_slice_get nodes m before Doc at)) ∙ ap (λ (a : ℕ). key_in nodes (get_or nodes a Doc)) (sym e)))
    | inr apart ↦
        ap (λ (node : Node). key_in wider node) (get_or-set_other nodes m n after Doc apart)
        ∙ key_kept nodes wider index.plan dicts_same n (get_or nodes n Doc) (slice_get-get_or nodes n Doc below)
  ]

  keys_same : keys_of wider ≡ keys_of nodes
  keys_same =
      let long : length wider ≡ length nodes = length-set nodes m after in
      ext_get_or [] (keys_of wider) (keys_of nodes) (length-keys wider ∙ (long ∙ sym (length-keys nodes)))
      (λ n below.
      let few : n < length nodes = omega (arith, below, length-keys wider, long) in
      key_at wider n Doc [] (omega (arith, few, long)) ∙ (key_same n few ∙ sym (key_at nodes n Doc [] few)))

  -- each node is found by what it was found by
  pub index-wider : IsIndex wider keys
  index-wider = record {
    plan = wider_plan;
    found = index.found ∙ sym keys_same;
    distinct = subst (AllPairs (λ (a b : List ℤ). a ≢ b)) (sym keys_same) index.distinct;
  }
