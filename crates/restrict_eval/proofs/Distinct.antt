-- No two nodes of the new plan are equal where no two of the old one are, and no column is searched for dictionaries twice.
use Rattle.std.proofs.Common.{◌≡◌, ◌≢◌, ◌∙◌, ◌⊎◌, inl, inr, ℕ, ◌+◌, ◌<◌, Bool, false, List, [], ◌∷◌, map, length, get_or, refl, sym, ap, ap₂, subst, arith, Option, Some, None, option_map}
use Rattle.std.specs.Prelude.{slice_get}
use Rattle.std.specs.List.{AllPairs}
use Rattle.std.proofs.lemmas.Bool.{cases_lt}
use Rattle.std.proofs.lemmas.Option.{none-some, same_Some, slice_get_within, slice_get-get_or, get_or_from_slice_get}
use Rattle.scalar_ops.specs.Expressions.{Term, column}
use Rattle.algebra.specs.declared.node.Local.{Local}
use Rattle.algebra.specs.declared.node.Local.TheVariants as sought
use Rattle.algebra.specs.declared.node.Node.{Node}
use Rattle.algebra.specs.declared.node.Node.TheVariants.{Doc, Regex, TokenRegex, Dict, DictPart, Blocks, Select, Project, Cross, SpanJoin, Restricted, Union, Minus, Consolidate, Group, OrderLimit}
use Rattle.algebra.specs.Inputs.{left_input, right_input, IsAmong}
use Rattle.algebra.specs.Mapping.{new_number}
use Rattle.algebra.specs.Nodes.{IsPlan}
use Rattle.restrict_eval.specs.Rebuilding.{IsNearJoin, IsStood, IsFor, IsRestrictedFrom}
use Rattle.restrict_eval.specs.Rebuilding as words
use Rattle.restrict_eval.specs.Keeping.{IsUnrestricted, AreUnrestricted, AreApart}
use Rattle.restrict_eval.specs.Restricting.{Reads, Finds, HasFound, ShowsMatch}
use Rattle.restrict_eval.specs.Restricting as lives
use Rattle.restrict_eval.specs.TakenLaws.{carried, carried-left, carried-right, from_project, from_dict, from_restricted}
use Rattle.restrict_eval.proofs.Finding.{apart, one_node, finds_other}
use Rattle.restrict_eval.proofs.Living.{one_number, within}
use Rattle.restrict_eval.proofs.Nearing.{at, runs_column, dict_column}

-- ---- a node is told by its inputs and by what it is carried to

-- the node with these inputs, and not conditional
abbrev input_or : Option ℕ → ℕ
input_or None = 0
input_or (Some i) = i

abbrev filled : Option ℕ → Option ℕ → Node → Node
filled first second Doc = Doc
filled first second (Regex i c p groups) = Regex (input_or first) c p groups
filled first second (TokenRegex i c low high p groups) = TokenRegex (input_or first) c low high p groups
filled first second (Dict i c dicts) = Dict (input_or first) c dicts
filled first second (DictPart i number) = DictPart (input_or first) number
filled first second (Blocks i c low high from upto tokens) = Blocks (input_or first) c low high from upto tokens
filled first second (Select i conds) = Select (input_or first) conds
filled first second (Project i items) = Project (input_or first) items
filled first second (Cross l r conditional) = Cross (input_or first) (input_or second) false
filled first second (SpanJoin l r join lc rc conditional) = SpanJoin (input_or first) (input_or second) join lc rc false
filled first second (Restricted o s join lc part) = Restricted (input_or first) (input_or second) join lc part
filled first second (Union l r) = Union (input_or first) (input_or second)
filled first second (Minus l r) = Minus (input_or first) (input_or second)
filled first second (Consolidate i policy target) = Consolidate (input_or first) policy target
filled first second (Group i keys aggs) = Group (input_or first) keys aggs
filled first second (OrderLimit i keys limit) = OrderLimit (input_or first) keys limit

filled_carried : (to : ℕ → ℕ) (node : Node) → IsUnrestricted node → filled (left_input node) (right_input node) (carried to node) ≡ node
filled_carried to Doc plain = refl
filled_carried to (Regex i c p groups) plain = refl
filled_carried to (TokenRegex i c low high p groups) plain = refl
filled_carried to (Dict i c dicts) plain = refl
filled_carried to (DictPart i number) plain = refl
filled_carried to (Blocks i c low high from upto tokens) plain = refl
filled_carried to (Select i conds) plain = refl
filled_carried to (Project i items) plain = refl
filled_carried to (Cross l r conditional) plain = ap (λ (b : Bool). Cross l r b) (sym plain)
filled_carried to (SpanJoin l r join lc rc conditional) plain = ap (λ (b : Bool). SpanJoin l r join lc rc b) (sym plain)
filled_carried to (Restricted o s join lc part) plain = absurd plain
filled_carried to (Union l r) plain = refl
filled_carried to (Minus l r) plain = refl
filled_carried to (Consolidate i policy target) plain = refl
filled_carried to (Group i keys aggs) plain = refl
filled_carried to (OrderLimit i keys limit) plain = refl

module _ (old : List Node) (outputs : List ℕ) (new : List Node) (to : List ℕ) (plan : IsPlan old) (rebuilt : IsRestrictedFrom old outputs new to) (plain : AreUnrestricted old) where
  abbrev look : ℕ → ℕ
  look i = new_number to i

  abbrev near_node : (j n : ℕ) → IsNearJoin old outputs new to j n → Node
  near_node j n near = Restricted (look near.left) (look near.may.found.source) near.kind near.lc near.may.found.part

  plain_at : (i : ℕ) (x : Node) → slice_get old i ≡ Some x → IsUnrestricted x
  plain_at i x is = subst IsUnrestricted (get_or_from_slice_get old i x x is) (plain i x (slice_get_within old i x is))

  no_restricted : (i : ℕ) (x : Node) → slice_get old i ≡ Some x → (j n : ℕ) (near : IsNearJoin old outputs new to j n) → carried look x ≡ near_node j n near → ⊥
  no_restricted i x is j n near same =
      let from = from_restricted look x (look near.left) (look near.may.found.source) near.kind near.lc near.may.found.part same in
      subst IsUnrestricted from.2 (plain_at i x is)

  -- inputs that are carried to the same are the same
  same_input : (o p : Option ℕ) → IsAmong (length to) o → IsAmong (length to) p → option_map look o ≡ option_map look p → o ≡ p
  same_input None None there_o there_p same = refl
  same_input None (Some k) there_o there_p same = absurd (none-some (look k) same)
  same_input (Some i) None there_o there_p same = absurd (none-some (look i) (sym same))
  same_input (Some i) (Some k) there_o there_p same = ap (λ (m : ℕ). Some m) (one_number old outputs new to rebuilt i k there_o there_p (same_Some (look i) (look k) same))

  lower_among : (k : ℕ) (o : Option ℕ) → k < length to → IsAmong k o → IsAmong (length to) o
  lower_among k None below among = tt
  lower_among k (Some i) below among = omega (arith, below, among)

  left_among : (i : ℕ) (x : Node) → slice_get old i ≡ Some x → IsAmong (length to) (left_input x)
  left_among i x is = lower_among i (left_input x) (within old outputs new to rebuilt i x is) (at old plan i x is).left_lower

  right_among : (i : ℕ) (x : Node) → slice_get old i ≡ Some x → IsAmong (length to) (right_input x)
  right_among i x is = lower_among i (right_input x) (within old outputs new to rebuilt i x is) (at old plan i x is).right_lower

  same_carried : (i k : ℕ) (x y : Node) → slice_get old i ≡ Some x → slice_get old k ≡ Some y → carried look x ≡ carried look y → x ≡ y
  same_carried i k x y is_x is_y same =
      let left : left_input x ≡ left_input y =
      same_input (left_input x) (left_input y) (left_among i x is_x) (left_among k y is_y) (sym (carried-left look x) ∙ (ap left_input same ∙ carried-left look y)) in
      let right : right_input x ≡ right_input y =
      same_input (right_input x) (right_input y) (right_among i x is_x) (right_among k y is_y) (sym (carried-right look x) ∙ (ap right_input same ∙ carried-right look y)) in
      sym (filled_carried look x (plain_at i x is_x))
      ∙ (ap₂ (λ (o p : Option ℕ). filled o p (carried look x)) left right
      ∙ (ap (filled (left_input y) (right_input y)) same ∙ filled_carried look y (plain_at k y is_y)))

  -- ---- where no two nodes of the old plan are equal

  module _ (distinct : AllPairs (λ a b. a ≢ b) old) where
    one_index : (i k : ℕ) (x y : Node) → slice_get old i ≡ Some x → slice_get old k ≡ Some y → x ≡ y → i ≡ k
    one_index i k x y is_x is_y same = elim (cases_lt i k) [
      | inl lower ↦
          absurd (distinct i k x lower (slice_get_within old k y is_y) (get_or_from_slice_get old i x x is_x ∙ (same ∙ sym (get_or_from_slice_get old k y x is_y))))
      | inr least ↦ elim (cases_lt k i) [
        | inl lower ↦
            absurd (distinct k i x lower (slice_get_within old i x is_x) (get_or_from_slice_get old k y x is_y ∙ (sym same ∙ sym (get_or_from_slice_get old i x x is_x))))
        | inr most ↦ omega (arith, least, most)
      ]
    ]

    -- nodes that have the same matches in the document are one
    finds_once : (source : ℕ) → slice_get old source ≡ Some Doc → (part : Local) (t u : ℕ) → Finds old t source part → Finds old u source part → t ≡ u
    finds_once source document (sought.TokenRegex low high pattern) t u finds others =
        let column_same : finds.0 ≡ others.0 = runs_column old plan source t finds.0 low high pattern document finds.1 ∙ sym (runs_column old plan source u others.0 low high pattern document others.1) in
        one_index t u _ _ finds.1 others.1 (ap (λ (c : ℕ). TokenRegex source c low high pattern (0 ∷ [])) column_same)
    finds_once source document (sought.Dict d) t u finds others =
        let column_same : finds.1 ≡ others.1 = dict_column old plan source finds.0 finds.1 d document finds.3 ∙ sym (dict_column old plan source others.0 others.1 d document others.3) in
        let dict_same : finds.0 ≡ others.0 = one_index finds.0 others.0 _ _ finds.3 others.3 (ap (λ (c : ℕ). Dict source c (d ∷ [])) column_same) in
        one_index t u _ _ finds.2 others.2 (ap (λ (n : ℕ). DictPart n 0) dict_same)

    found_once : (t u : ℕ) (found : HasFound old t) (others : HasFound old u) → found.source ≡ others.source → found.part ≡ others.part → t ≡ u
    found_once t u found others source part =
        finds_once found.source found.document found.part t u found.finds
        (subst (λ (s : ℕ). Finds old u s found.part) (sym source) (subst (λ (p : Local). Finds old u others.source p) (sym part) others.finds))

    -- joins that look for the matches of one node are one
    base_once : (i k n m : ℕ) (near : IsNearJoin old outputs new to i n) (other : IsNearJoin old outputs new to k m) → near.may.t ≡ other.may.t → k ≡ i
    base_once i k n m near other same = shown other.may.match
      where
        join : Node
        join = SpanJoin other.left other.right other.kind other.lc other.rc other.conditional

        -- a join is no right input of another
        not_right : k ≡ near.right → ShowsMatch old near.may.t near.right near.rc → k ≡ i
        not_right is (inl whole) = absurd (finds_other old near.may.t k join near.may.found (sym (is ∙ whole.0)) other.is (λ e. omega (arith, e)))
        not_right is (inr part) = absurd (apart join (Project near.may.t (map column part.0)) (one_node old k near.right join _ is other.is part.1) (λ e. omega (arith, e)))

        by : (k ≡ i) ⊎ (k ≡ near.right) → k ≡ i
        by (inl is) = is
        by (inr is) = not_right is near.may.match

        reads_right : other.right ≡ near.right → k ≡ i
        reads_right is = by (near.may.alone k join other.is other.live (inl (inr (ap (λ (r : ℕ). Some r) is))))

        through : (cs : List ℕ) → slice_get old other.right ≡ Some (Project other.may.t (map column cs)) → (other.right ≡ i) ⊎ (other.right ≡ near.right) → k ≡ i
        through cs columns_at (inl is) =
            absurd (apart (Project other.may.t (map column cs)) (SpanJoin near.left near.right near.kind near.lc near.rc near.conditional) (one_node old other.right i _ _ is columns_at near.is) (λ e. omega (arith, e)))
        through cs columns_at (inr is) = reads_right is

        shown : ShowsMatch old other.may.t other.right other.rc → k ≡ i
        shown (inl whole) = by (near.may.alone k join other.is other.live (inr (inr (ap (λ (r : ℕ). Some r) (whole.0 ∙ sym same)))))
        shown (inr part) =
            through part.0 part.1
            (near.may.alone other.right (Project other.may.t (map column part.0)) part.1 (lives.input k other.right join other.is (inr refl) other.live) (inr (inl (ap (λ (t : ℕ). Some t) (sym same)))))

    near_once : (i k n m : ℕ) (near : IsNearJoin old outputs new to i n) (other : IsNearJoin old outputs new to k m) → near_node i n near ≡ near_node k m other → k ≡ i
    near_once i k n m near other same =
        let source_new : look near.may.found.source ≡ look other.may.found.source = cc in
        let part : near.may.found.part ≡ other.may.found.part = cc in
        let source : near.may.found.source ≡ other.may.found.source =
        one_number old outputs new to rebuilt near.may.found.source other.may.found.source (within old outputs new to rebuilt near.may.found.source Doc near.may.found.document) (within old outputs new to rebuilt other.may.found.source Doc other.may.found.document) source_new in
        base_once i k n m near other (found_once near.may.t other.may.t near.may.found other.may.found source part)

    -- what stands for a node, and where the join below it stands
    no_columns : (i : ℕ) (x : Node) → slice_get old i ≡ Some x → (k n : ℕ) (items : List Term) (near : IsNearJoin old outputs new to k n) → look k ≡ n + 1 → carried look x ≡ Project n items → ⊥
    no_columns i x is k n items near above same =
        let from = from_project look x n items same in
        let is_project : slice_get old i ≡ Some (Project from.0 items) = is ∙ ap (λ (y : Node). Some y) from.1 in
        let lower : from.0 < i = (at old plan i (Project from.0 items) is_project).left_lower in
        let there = slice_get-get_or old from.0 Doc (omega (arith, lower, slice_get_within old i x is)) in
        below from.0 (get_or old from.0 Doc) there from.2 (rebuilt.stood from.0 (get_or old from.0 Doc) there)
      where
        below : (o : ℕ) (y : Node) → slice_get old o ≡ Some y → look o ≡ n → IsStood old outputs new to o y → ⊥
        below o y is_y number (words.same left_over stands) = no_restricted o y is_y k n near (one_node new (look o) n _ _ number stands near.at)
        below o y is_y number (words.near other) =
            let one : o ≡ k = near_once k o n (look o) near other (sym (one_node new (look o) n _ _ number other.at near.at)) in
            omega (arith, ap look one, number, above)
        below o y is_y number (words.shown m cs other over stands) = apart (Project m (map column cs)) (near_node k n near) (one_node new (look o) n _ _ number stands near.at) (λ e. omega (arith, e))

    -- two nodes that are equal stand for one node
    stood_once : (i k : ℕ) (x y : Node) → slice_get old i ≡ Some x → slice_get old k ≡ Some y → IsStood old outputs new to i x → IsStood old outputs new to k y → slice_get new (look i) ≡ slice_get new (look k) → i ≡ k
    stood_once i k x y is_x is_y (words.same l a) (words.same m b) same = one_index i k x y is_x is_y (same_carried i k x y is_x is_y (same_Some _ _ (sym a ∙ (same ∙ b))))
    stood_once i k x y is_x is_y (words.same l a) (words.near b) same = absurd (no_restricted i x is_x k (look k) b (same_Some _ _ (sym a ∙ (same ∙ b.at))))
    stood_once i k x y is_x is_y (words.same l a) (words.shown n cs b over c) same = absurd (no_columns i x is_x k n (map column cs) b over (same_Some _ _ (sym a ∙ (same ∙ c))))
    stood_once i k x y is_x is_y (words.near a) (words.same m b) same = absurd (no_restricted k y is_y i (look i) a (same_Some _ _ (sym b ∙ (sym same ∙ a.at))))
    stood_once i k x y is_x is_y (words.near a) (words.near b) same = sym (near_once i k (look i) (look k) a b (same_Some _ _ (sym a.at ∙ (same ∙ b.at))))
    stood_once i k x y is_x is_y (words.near a) (words.shown n cs b over c) same =
        absurd (apart (near_node i (look i) a) (Project n (map column cs)) (same_Some _ _ (sym a.at ∙ (same ∙ c))) (λ e. omega (arith, e)))
    stood_once i k x y is_x is_y (words.shown n cs a over c) (words.same m b) same = absurd (no_columns k y is_y i n (map column cs) a over (same_Some _ _ (sym b ∙ (sym same ∙ c))))
    stood_once i k x y is_x is_y (words.shown n cs a over c) (words.near b) same =
        absurd (apart (Project n (map column cs)) (near_node k (look k) b) (same_Some _ _ (sym c ∙ (same ∙ b.at))) (λ e. omega (arith, e)))
    stood_once i k x y is_x is_y (words.shown n cs a over c) (words.shown m ds b over_b d) same =
        let projects : Project n (map column cs) ≡ Project m (map column ds) = same_Some _ _ (sym c ∙ (same ∙ d)) in
        let numbers : n ≡ m = cc in
        one_number old outputs new to rebuilt i k (within old outputs new to rebuilt i x is_x) (within old outputs new to rebuilt k y is_y) (over ∙ (ap (λ (p : ℕ). p + 1) numbers ∙ sym over_b))

    -- what stands for a node isn't a join below another
    stood_below : (i : ℕ) (x : Node) → slice_get old i ≡ Some x → IsStood old outputs new to i x → (k m : ℕ) (cs : List ℕ) (near : IsNearJoin old outputs new to k m)
        → slice_get new (look k) ≡ Some (Project m (map column cs)) → slice_get new (look i) ≡ slice_get new m → ⊥
    stood_below i x is (words.same left_over stands) k m cs near above same = no_restricted i x is k m near (same_Some _ _ (sym stands ∙ (same ∙ near.at)))
    stood_below i x is (words.near other) k m cs near above same =
        let one : k ≡ i = near_once i k (look i) m other near (same_Some _ _ (sym other.at ∙ (same ∙ near.at))) in
        apart (near_node i (look i) other) (Project m (map column cs)) (one_node new (look i) (look k) _ _ (ap look (sym one)) other.at above) (λ e. omega (arith, e))
    stood_below i x is (words.shown n ds other over stands) k m cs near above same =
        apart (Project n (map column ds)) (near_node k m near) (same_Some _ _ (sym stands ∙ (same ∙ near.at))) (λ e. omega (arith, e))

    equal_once : (m k : ℕ) → IsFor old outputs new to m → IsFor old outputs new to k → slice_get new m ≡ slice_get new k → m ≡ k
    equal_once m k (words.itself i below is) (words.itself o below_o is_o) same =
        let there = slice_get-get_or old i Doc (omega (arith, below, rebuilt.mapped.long)) in
        let there_o = slice_get-get_or old o Doc (omega (arith, below_o, rebuilt.mapped.long)) in
        let one : i ≡ o = stood_once i o (get_or old i Doc) (get_or old o Doc) there there_o (rebuilt.stood i (get_or old i Doc) there) (rebuilt.stood o (get_or old o Doc) there_o)
        (ap (slice_get new) (sym is) ∙ (same ∙ ap (slice_get new) is_o)) in
        is ∙ (ap look one ∙ sym is_o)
    equal_once m k (words.itself i below is) (words.below o cs below_o near over above) same =
        let there = slice_get-get_or old i Doc (omega (arith, below, rebuilt.mapped.long)) in
        absurd (stood_below i (get_or old i Doc) there (rebuilt.stood i (get_or old i Doc) there) o k cs near above (ap (slice_get new) (sym is) ∙ same))
    equal_once m k (words.below i cs below near over above) (words.itself o below_o is_o) same =
        let there = slice_get-get_or old o Doc (omega (arith, below_o, rebuilt.mapped.long)) in
        absurd (stood_below o (get_or old o Doc) there (rebuilt.stood o (get_or old o Doc) there) i m cs near above (ap (slice_get new) (sym is_o) ∙ sym same))
    equal_once m k (words.below i cs below near over above) (words.below o ds below_o other over_o above_o) same =
        let one : o ≡ i = near_once i o m k near other (same_Some _ _ (sym near.at ∙ (same ∙ other.at))) in
        omega (arith, over, over_o, ap look one)

    -- no two nodes of the new plan are equal
    pub all_distinct : AllPairs (λ a b. a ≢ b) new
    all_distinct m k d lower below same =
        let here : m < length new = omega (arith, lower, below) in
        let one : m ≡ k = equal_once m k (rebuilt.from m here) (rebuilt.from k below) (slice_get-get_or new m d here ∙ (ap (λ (x : Node). Some x) same ∙ sym (slice_get-get_or new k d below))) in
        omega (arith, lower, one)

  -- ---- dictionaries

  -- a `Dict` node of the new plan is one of the old plan, with its input renumbered
  record IsOldDict (m input c : ℕ) (dicts : List ℕ) : Type 0 where
    i : ℕ
    o : ℕ
    number : m ≡ look i
    is : slice_get old i ≡ Some (Dict o c dicts)
    input_is : look o ≡ input

  dict_stood : (m input c : ℕ) (dicts : List ℕ) (i : ℕ) (x : Node) → slice_get old i ≡ Some x → m ≡ look i → slice_get new m ≡ Some (Dict input c dicts) → IsStood old outputs new to i x → IsOldDict m input c dicts
  dict_stood m input c dicts i x is number at_new (words.same left_over stands) =
      let from = from_dict look x input c dicts (one_node new (look i) m _ _ (sym number) stands at_new) in
      record { i = i; o = from.0; number = number; is = is ∙ ap (λ (y : Node). Some y) from.1; input_is = from.2 }
  dict_stood m input c dicts i x is number at_new (words.near near) =
      absurd (apart (near_node i (look i) near) (Dict input c dicts) (one_node new (look i) m _ _ (sym number) near.at at_new) (λ e. omega (arith, e)))
  dict_stood m input c dicts i x is number at_new (words.shown n cs near over stands) =
      absurd (apart (Project n (map column cs)) (Dict input c dicts) (one_node new (look i) m _ _ (sym number) stands at_new) (λ e. omega (arith, e)))

  old_dict : (m input c : ℕ) (dicts : List ℕ) → slice_get new m ≡ Some (Dict input c dicts) → IsFor old outputs new to m → IsOldDict m input c dicts
  old_dict m input c dicts at_new (words.itself i below number) =
      let there = slice_get-get_or old i Doc (omega (arith, below, rebuilt.mapped.long)) in
      dict_stood m input c dicts i (get_or old i Doc) there number at_new (rebuilt.stood i (get_or old i Doc) there)
  old_dict m input c dicts at_new (words.below i cs below near over above) =
      absurd (apart (near_node i m near) (Dict input c dicts) (one_node new m m _ _ refl near.at at_new) (λ e. omega (arith, e)))

  -- no two nodes of the new plan search one column of one input for dictionaries
  pub all_merged : AllPairs AreApart old → AllPairs AreApart new
  all_merged merged m k d lower below input c dicts others is_m is_k =
      let here : m < length new = omega (arith, lower, below) in
      let at_m : slice_get new m ≡ Some (Dict input c dicts) = slice_get-get_or new m d here ∙ ap (λ (x : Node). Some x) is_m in
      let at_k : slice_get new k ≡ Some (Dict input c others) = slice_get-get_or new k d below ∙ ap (λ (x : Node). Some x) is_k in
      let first = old_dict m input c dicts at_m (rebuilt.from m here) in
      let second = old_dict k input c others at_k (rebuilt.from k below) in
      let within_first = within old outputs new to rebuilt first.i (Dict first.o c dicts) first.is in
      let within_second = within old outputs new to rebuilt second.i (Dict second.o c others) second.is in
      let first_lower : first.o < first.i = (at old plan first.i (Dict first.o c dicts) first.is).left_lower in
      let second_lower : second.o < second.i = (at old plan second.i (Dict second.o c others) second.is).left_lower in
      let one : second.o ≡ first.o =
      one_number old outputs new to rebuilt second.o first.o (omega (arith, second_lower, within_second)) (omega (arith, first_lower, within_first)) (second.input_is ∙ sym first.input_is) in
      elim (cases_lt first.i second.i) [
        | inl before ↦
            merged first.i second.i d before (slice_get_within old second.i (Dict second.o c others) second.is) first.o c dicts others (get_or_from_slice_get old first.i (Dict first.o c dicts) d first.is)
            (get_or_from_slice_get old second.i (Dict second.o c others) d second.is ∙ ap (λ (o : ℕ). Dict o c others) one)
        | inr least ↦ elim (cases_lt second.i first.i) [
          | inl after ↦ let r = rebuilt.rising second.i first.i after within_first in omega (arith, r, lower, first.number, second.number)
          | inr most ↦
              let same : first.i ≡ second.i = omega (arith, least, most) in
              omega (arith, lower, first.number, second.number, ap look same)
        ]
      ]
