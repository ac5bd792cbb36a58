-- Laws of what is wanted and ready on a document: where what is published holds its values, only needed nodes are wanted, a
-- ready node gives its value, and where a needed node isn't published some wanted one is ready.
use Rattle.std.proofs.Common.{◌≡◌, ◌≢◌, ◌⊎◌, inl, inr, ℕ, zero, suc, ◌<◌, Bool, true, false, List, [], ◌∷◌, length, get_or, refl, sym, ap, subst, ◌∙◌, arith, Option, Some, None, true≢false}
use Rattle.std.specs.Prelude.{IsSome, is_some, All, Contains, slice_get}
use Rattle.std.proofs.lemmas.List.Elements.{All-contains, All-map}
use Rattle.std.proofs.lemmas.List.Sorted.{length_permutation}
use Rattle.std.proofs.lemmas.Option.{none-some, same_Some, slice_get_within, get_or_from_slice_get, slice_get-get_or}
use Rattle.aql_base.specs.Bags.{SameBag}
use Rattle.aql_base.specs.BagLaws.{SameBag-refl}
use Rattle.span_token.specs.Documents.{Doc as Document}
use Rattle.row_values.specs.Rows.{RowList}
use Rattle.aql_typed.specs.Meaning.{Rows}
use Rattle.algebra.specs.declared.node.Node.{Node}
use Rattle.algebra.specs.declared.node.Node.TheVariants.{Doc}
use Rattle.algebra.specs.declared.output.PlanOut.{PlanOut}
use Rattle.algebra.specs.FoldLaws.{length-each}
use Rattle.algebra.specs.Folds.{of_input}
use Rattle.algebra.specs.Growth.{IsAt}
use Rattle.algebra.specs.GrowthLaws.{is-at}
use Rattle.algebra.specs.Inputs.{left_input, right_input, is_conditional, IsAmong}
use Rattle.algebra.specs.ItemLaws.{value-given}
use Rattle.algebra.specs.Items.{output_nodes}
use Rattle.algebra.specs.Needed.{Asks, IsNeeded}
use Rattle.algebra.specs.Needed as needs
use Rattle.algebra.specs.Nodes.{IsPlan}
use Rattle.algebra.specs.Operators.{op}
use Rattle.algebra.specs.Plans.{Parts, AreOutputs}
use Rattle.algebra.specs.Shapes.{shape_by, no_shape, shapes_of}
use Rattle.algebra.specs.Values.{all_values, val}
use Rattle.run_core.specs.Wanted.{rows_of, given, AsksFor, IsWanted, output, input, IsReady}

no_rows : (rows : Rows) → SameBag rows [] → rows ≡ []
no_rows [] bag = refl
no_rows (row ∷ rows) bag = absurd (omega (arith, length_permutation (row ∷ rows) [] bag))

no_row_after : (rows : Rows) → SameBag [] rows → rows ≡ []
no_row_after [] bag = refl
no_row_after (row ∷ rows) bag = absurd (omega (arith, length_permutation [] (row ∷ rows) bag))

cons_nil : {X : Type 0} (x : X) (xs : List X) → x ∷ xs ≡ [] → ⊥
cons_nil x xs e = cc

-- whether an input is published
abbrev IsThere : (ℕ → Option RowList) → Option ℕ → Type 0
IsThere published o = (i : ℕ) → o ≡ Some i → IsSome (published i)

abbrev Lacks : (ℕ → Option RowList) → Option ℕ → Type 0
Lacks published o = (i : ℕ) × (o ≡ Some i) × (published i ≡ None)

there_or_lacks : (published : ℕ → Option RowList) (i : ℕ) (found : Option RowList) → published i ≡ found → IsThere published (Some i) ⊎ Lacks published (Some i)
there_or_lacks published i None is = inr (i, refl, is)
there_or_lacks published i (Some list) is = inl (λ j e. subst (λ (k : ℕ). IsSome (published k)) (same_Some i j e) (rw is refl))

is_there : (published : ℕ → Option RowList) (o : Option ℕ) → IsThere published o ⊎ Lacks published o
is_there published None = inl (λ i e. absurd (none-some i e))
is_there published (Some i) = there_or_lacks published i (published i) refl

-- what is published where something is
list_of : (found : Option RowList) → IsSome found → (list : RowList) × (found ≡ Some list)
list_of None there = absurd (true≢false (sym there))
list_of (Some list) there = (list, refl)

-- a wanted node that isn't published
abbrev pub Gap : Parts → (ℕ → Option RowList) → Type 0
Gap plan published = (n : ℕ) × IsWanted plan published n × (published n ≡ None)

-- and one that is ready
pub record Ready (plan : Parts) (published : ℕ → Option RowList) : Type 0 where
  pub n : ℕ
  pub node : Node
  pub is : slice_get plan.nodes n ≡ Some node
  pub wanted : IsWanted plan published n
  pub unpublished : published n ≡ None
  pub ready : IsReady plan published node

-- each published list of rows is the node's value, as a bag
pub record Agrees (plan : Parts) (doc : Document) (published : ℕ → Option RowList) : Type 0 where
  pub same : (n : ℕ) (list : RowList) → n < length plan.nodes → published n ≡ Some list → SameBag list.rows (val plan.lists doc plan.nodes n)

-- what is wanted is the least set with its rules: any other one with them has it all
pub wanted-least : (plan : Parts) (published : ℕ → Option RowList) (P : ℕ → Type 0)
    → ((n : ℕ) → Contains (output_nodes plan) n → P n) → ((k n : ℕ) (node : Node) → slice_get plan.nodes k ≡ Some node → AsksFor plan published node n → P k → P n)
    → (n : ℕ) → IsWanted plan published n → P n
wanted-least plan published P shown asked _ (output n listed) = shown n listed
wanted-least plan published P shown asked _ (input k n node is asks wanted) = asked k n node is asks (wanted-least plan published P shown asked k wanted)

module _ (plan : Parts) (old new : ℕ → Option RowList) where
  same_given : (o : Option ℕ) → ((i : ℕ) → o ≡ Some i → new i ≡ old i) → given plan new o ≡ given plan old o
  same_given None same = refl
  same_given (Some i) same = ap rows_of (same i refl)

  -- whether a node is ready goes by what is published of its inputs alone
  pub ready-same : (node : Node) → ((i : ℕ) → left_input node ≡ Some i → new i ≡ old i) → ((i : ℕ) → right_input node ≡ Some i → new i ≡ old i)
      → IsReady plan old node → IsReady plan new node
  ready-same node left right ready i (inl e) = subst (λ (o : Option RowList). IsSome o) (sym (left i e)) (ready i (inl e))
  ready-same node left right ready i (inr e) =
      subst (λ (o : Option RowList). IsSome o) (sym (right i e.0)) (ready i (inr (e.0, λ conditional none. e.1 conditional (same_given (left_input node) left ∙ none))))

module _ (plan : Parts) (old new : ℕ → Option RowList) (more : (n : ℕ) (list : RowList) → old n ≡ Some list → new n ≡ Some list) where
  given_more : (o : Option ℕ) → given plan old o ≢ [] → given plan new o ≢ []
  given_more None some none = some none
  given_more (Some i) some none = by_found (old i) refl where
    by_found : (found : Option RowList) → old i ≡ found → ⊥
    by_found None is = some (ap rows_of is)
    by_found (Some list) is = some (ap rows_of is ∙ (sym (ap rows_of (more i list is)) ∙ none))

  asks_more : (node : Node) (i : ℕ) → AsksFor plan old node i → AsksFor plan new node i
  asks_more node i (inl e) = inl e
  asks_more node i (inr e) = inr (e.0, λ conditional. given_more (left_input node) (e.1 conditional))

  -- what is wanted stays wanted when more is published
  pub wanted-grows : (n : ℕ) → IsWanted plan old n → IsWanted plan new n
  wanted-grows _ (output n listed) = output n listed
  wanted-grows _ (input k n node is asks wanted) = input k n node is (asks_more node n asks) (wanted-grows k wanted)

  stays : (i : ℕ) → IsSome (old i) → new i ≡ old i
  stays i there = let found = list_of (old i) there in more i found.0 found.1 ∙ sym found.1

  -- and a ready node stays ready
  pub ready-grows : (node : Node) → IsReady plan old node → IsReady plan new node
  ready-grows node ready i (inl e) = subst (λ (o : Option RowList). IsSome o) (sym (stays i (ready i (inl e)))) (ready i (inl e))
  ready-grows node ready i (inr e) =
      let asks : AsksFor plan old node i = inr (e.0, λ conditional none. e.1 conditional (same_given plan old new (left_input node) (λ j is. stays j (ready j (inl is))) ∙ none)) in
      subst (λ (o : Option RowList). IsSome o) (sym (stays i (ready i asks))) (ready i asks)

module _ (plan : Parts) (planned : IsPlan plan.nodes) (published : ℕ → Option RowList) where
  at : (k : ℕ) (node : Node) → slice_get plan.nodes k ≡ Some node → IsAt plan.nodes k node
  at k node is = is-at plan.nodes k node planned (slice_get_within plan.nodes k node is) (sym (get_or_from_slice_get plan.nodes k node node is))

  left_below : (k i : ℕ) (node : Node) → slice_get plan.nodes k ≡ Some node → left_input node ≡ Some i → i < k
  left_below k i node is e = subst (λ (o : Option ℕ). IsAmong k o) e (at k node is).left_lower

  right_below : (k i : ℕ) (node : Node) → slice_get plan.nodes k ≡ Some node → right_input node ≡ Some i → i < k
  right_below k i node is e = subst (λ (o : Option ℕ). IsAmong k o) e (at k node is).right_lower

  -- what a node asks for stands before it
  pub asked-below : (k i : ℕ) (node : Node) → slice_get plan.nodes k ≡ Some node → AsksFor plan published node i → i < k
  asked-below k i node is (inl e) = left_below k i node is e
  asked-below k i node is (inr e) = right_below k i node is e.0

  -- a wanted node is one of the plan's
  pub wanted-below : AreOutputs plan.nodes plan.outputs → (n : ℕ) → IsWanted plan published n → n < length plan.nodes
  wanted-below valid _ (output n listed) =
      let each : All (λ i. i < length (shapes_of plan.nodes)) (output_nodes plan) = All-map (λ i. i < length (shapes_of plan.nodes)) (λ (out : PlanOut). out.node) plan.outputs (λ i d below. (valid.each i d below).there) in
      omega (arith, All-contains (λ i. i < length (shapes_of plan.nodes)) (output_nodes plan) n each listed, length-each no_shape shape_by plan.nodes)
  wanted-below valid _ (input k n node is asks wanted) = omega (arith, asked-below k n node is asks, slice_get_within plan.nodes k node is)

  -- the wanted node of the lowest number that isn't published is ready
  pub lowest-ready : (n : ℕ) (node : Node) → slice_get plan.nodes n ≡ Some node → IsWanted plan published n
      → ((m : ℕ) → m < n → IsWanted plan published m → IsSome (published m)) → IsReady plan published node
  lowest-ready n node is wanted lower i asks = lower i (asked-below n i node is asks) (input n i node is asks wanted)

module _ (plan : Parts) (doc : Document) (planned : IsPlan plan.nodes) (published : ℕ → Option RowList) (agrees : Agrees plan doc published) where
  -- what all nodes are worth
  abbrev worths : List Rows
  worths = all_values plan.lists doc plan.nodes

  agreed : (k j : ℕ) (list : RowList) → j < k → k < length plan.nodes → published j ≡ Some list → SameBag list.rows (get_or worths j [])
  agreed k j list lower below is = agrees.same j list (omega (arith, lower, below)) is

  -- the left input of a node has a row where a row of it is published
  worth_left : (k : ℕ) (o : Option ℕ) → IsAmong k o → k < length plan.nodes → given plan published o ≢ [] → of_input [] worths o ≢ []
  worth_left k None among below some e = some e
  worth_left k (Some j) among below some e = by_found (published j) refl where
    by_found : (found : Option RowList) → published j ≡ found → ⊥
    by_found None is = some (ap rows_of is)
    by_found (Some list) is = some (ap rows_of is ∙ no_rows list.rows (subst (λ (rows : Rows). SameBag list.rows rows) e (agreed k j list among below is)))

  asks_too : (k i : ℕ) (node : Node) → slice_get plan.nodes k ≡ Some node → AsksFor plan published node i → Asks plan.lists doc plan.nodes node i
  asks_too k i node is (inl e) = inl e
  asks_too k i node is (inr e) = inr (e.0, λ conditional. worth_left k (left_input node) (at plan planned published k node is).left_lower (slice_get_within plan.nodes k node is) (e.1 conditional))

  -- a wanted node is needed
  pub wanted-needed : (n : ℕ) → IsWanted plan published n → IsNeeded plan.lists doc plan.nodes (output_nodes plan) n
  wanted-needed _ (output n listed) = needs.output n listed
  wanted-needed _ (input k n node is asks wanted) = needs.input k n node is (asks_too k n node is asks) (wanted-needed k wanted)

  -- an input that is published is given as it is worth
  given_worth : (k : ℕ) (o : Option ℕ) → IsAmong k o → k < length plan.nodes → IsThere published o → SameBag (given plan published o) (of_input [] worths o)
  given_worth k None among below there = SameBag-refl []
  given_worth k (Some j) among below there =
      let found = list_of (published j) (there j refl) in
      subst (λ (rows : Rows). SameBag rows (get_or worths j [])) (sym (ap rows_of found.1)) (agreed k j found.0 among below found.1)

  -- a ready node gives of what is published what it is worth
  pub ready-value : (k : ℕ) (node : Node) → slice_get plan.nodes k ≡ Some node → IsReady plan published node
      → SameBag (op plan.lists doc node (given plan published (left_input node)) (given plan published (right_input node))) (val plan.lists doc plan.nodes k)
  ready-value k node is ready =
      let below = slice_get_within plan.nodes k node is in
      let here = at plan planned published k node is in
      value-given plan.lists doc plan.nodes k node planned is (given plan published (left_input node)) (given plan published (right_input node)) (record {
        left_is = given_worth k (left_input node) here.left_lower below (λ i e. ready i (inl e));
        right_is = λ asked. given_worth k (right_input node) here.right_lower below (λ i e. ready i (inr (e, asked)));
      })

  -- where a wanted node needs an input, that is wanted too, or there is a gap
  wanted_right : (k i : ℕ) (node : Node) → slice_get plan.nodes k ≡ Some node → IsWanted plan published k → right_input node ≡ Some i → (b : Bool) → is_conditional node ≡ b
      → (is_conditional node ≡ true → of_input [] worths (left_input node) ≢ []) → (o : Option ℕ) → left_input node ≡ o → IsWanted plan published i ⊎ Gap plan published
  wanted_right k i node is wanted right false plain some o left = inl (input k i node is (inr (right, λ c. absurd (true≢false (sym c ∙ plain)))) wanted)
  wanted_right k i node is wanted right true conditional some None left = absurd (some conditional (ap (λ (o : Option ℕ). of_input [] worths o) left))
  wanted_right k i node is wanted right true conditional some (Some j) left = by_found (published j) refl where
    by_found : (found : Option RowList) → published j ≡ found → IsWanted plan published i ⊎ Gap plan published
    by_found None none = inr (j, input k j node is (inl left) wanted, none)
    by_found (Some list) found =
        let lower : j < k = left_below plan planned published k j node is left in
        let same = agreed k j list lower (slice_get_within plan.nodes k node is) found in
        let has_row : given plan published (left_input node) ≢ [] = λ none.
        let empty : list.rows ≡ [] = sym (ap (λ (o : Option ℕ). given plan published o) left ∙ ap rows_of found) ∙ none in
        some conditional (ap (λ (o : Option ℕ). of_input [] worths o) left ∙ no_row_after _ (subst (λ (rows : Rows). SameBag rows (get_or worths j [])) empty same)) in
        inl (input k i node is (inr (right, λ c. has_row)) wanted)

  wanted_input : (k i : ℕ) (node : Node) → slice_get plan.nodes k ≡ Some node → Asks plan.lists doc plan.nodes node i → IsWanted plan published k → IsWanted plan published i ⊎ Gap plan published
  wanted_input k i node is (inl e) wanted = inl (input k i node is (inl e) wanted)
  wanted_input k i node is (inr e) wanted = wanted_right k i node is wanted e.0 (is_conditional node) refl e.1 (left_input node) refl

  next_input : (k i : ℕ) (node : Node) → slice_get plan.nodes k ≡ Some node → Asks plan.lists doc plan.nodes node i → IsWanted plan published k ⊎ Gap plan published → IsWanted plan published i ⊎ Gap plan published
  next_input k i node is asks (inl wanted) = wanted_input k i node is asks wanted
  next_input k i node is asks (inr gap) = inr gap

  -- a needed node is wanted, or some wanted one isn't published
  pub needed-wanted : (n : ℕ) → IsNeeded plan.lists doc plan.nodes (output_nodes plan) n → IsWanted plan published n ⊎ Gap plan published
  needed-wanted _ (needs.output n listed) = inl (output n listed)
  needed-wanted _ (needs.input k n node is asks needed) = next_input k n node is asks (needed-wanted k needed)

  -- so where all that is wanted is published, all that is needed is wanted, and published
  pub all-published : ((n : ℕ) → IsWanted plan published n → IsSome (published n)) → (n : ℕ) → IsNeeded plan.lists doc plan.nodes (output_nodes plan) n → IsSome (published n)
  all-published done n needed = elim (needed-wanted n needed) [
    | inl wanted ↦ done n wanted
    | inr gap ↦ absurd (true≢false (sym (done gap.0 gap.1) ∙ ap is_some gap.2))
  ]

module _ (plan : Parts) (planned : IsPlan plan.nodes) (valid : AreOutputs plan.nodes plan.outputs) (published : ℕ → Option RowList) where
  -- what a node asks for and isn't published
  abbrev Missing : Node → Type 0
  Missing node = (i : ℕ) × AsksFor plan published node i × (published i ≡ None)

  all_asked : (node : Node) → IsThere published (left_input node) → IsThere published (right_input node) → IsReady plan published node
  all_asked node left right i (inl e) = left i e
  all_asked node left right i (inr e) = right i e.0

  left_asked : (node : Node) → IsThere published (left_input node) → given plan published (left_input node) ≡ [] → is_conditional node ≡ true → IsReady plan published node
  left_asked node left none conditional i (inl e) = left i e
  left_asked node left none conditional i (inr e) = absurd (e.1 conditional none)

  missing_right : (node : Node) → IsThere published (left_input node) → Lacks published (right_input node) → (b : Bool) → is_conditional node ≡ b → (rows : Rows) → given plan published (left_input node) ≡ rows
      → IsReady plan published node ⊎ Missing node
  missing_right node left lacks false plain rows are = inr (lacks.0, inr (lacks.1, λ c. absurd (true≢false (sym c ∙ plain))), lacks.2)
  missing_right node left lacks true conditional [] none = inl (left_asked node left none conditional)
  missing_right node left lacks true conditional (row ∷ rows) are = inr (lacks.0, inr (lacks.1, λ c none. cons_nil row rows (sym are ∙ none)), lacks.2)

  by_right : (node : Node) → IsThere published (left_input node) → IsThere published (right_input node) ⊎ Lacks published (right_input node) → IsReady plan published node ⊎ Missing node
  by_right node left (inl right) = inl (all_asked node left right)
  by_right node left (inr lacks) = missing_right node left lacks (is_conditional node) refl (given plan published (left_input node)) refl

  by_left : (node : Node) → IsThere published (left_input node) ⊎ Lacks published (left_input node) → IsReady plan published node ⊎ Missing node
  by_left node (inl left) = by_right node left (is_there published (right_input node))
  by_left node (inr lacks) = inr (lacks.0, inl lacks.1, lacks.2)

  ready_below : (bound n : ℕ) → n < bound → IsWanted plan published n → published n ≡ None → Ready plan published
  ready_below zero n below wanted none = absurd (omega (arith, below))
  ready_below (suc bound) n below wanted none =
      let node = get_or plan.nodes n Doc in
      let is = slice_get-get_or plan.nodes n Doc (wanted-below plan planned published valid n wanted) in
      elim (by_left node (is_there published (left_input node))) [
        | inl ready ↦ record { n = n; node = node; is = is; wanted = wanted; unpublished = none; ready = ready }
        | inr missing ↦ ready_below bound missing.0 (omega (arith, below, asked-below plan planned published n missing.0 node is missing.1)) (input n missing.0 node is missing.1 wanted) missing.2
      ]

  -- where a wanted node isn't published, one that isn't is ready
  pub some-ready : (n : ℕ) → IsWanted plan published n → published n ≡ None → Ready plan published
  some-ready n wanted none = ready_below (suc n) n (omega arith) wanted none
