-- Pages: what is known of the nodes of a plan on one document, and the node that is taken up next.
use Rattle.std.proofs.Common.{◌≡◌, ◌≢◌, ◌⊎◌, inl, inr, ℕ, ◌<◌, Bool, true, false, cond, List, [], ◌∷◌, length, get_or, set, refl, sym, ap, subst, ◌∙◌, arith, Option, Some, None, Result, OnOk, true≢false}
use Rattle.std.specs.Prelude.{◌↔◌, IsTrue, IsSome, IfSome, is_some, map, not, option_map, slice_get, Contains}
use Rattle.std.proofs.lemmas.Bool.{cases_eq, cases_lt}
use Rattle.std.proofs.lemmas.List.{length-map, length-replicate, length-set, get_or-map, get_or-replicate, get_or-set_same, get_or-set_other, get_or_past}
use Rattle.std.proofs.lemmas.List.Elements.{All-weaker}
use Rattle.std.proofs.lemmas.List.Sums.{sum_by-set}
use Rattle.std.proofs.lemmas.Option.{none-some, same_Some, slice_get_cases, slice_get_read}
use Rattle.std.proofs.lemmas.Result.{on_ok_weaker}
use Rattle.aql_base.specs.Bags.{SameBag}
use Rattle.span_token.specs.Documents.{Doc as Document}
use Rattle.row_values.specs.Rows.{RowList}
use Rattle.aql_typed.specs.Meaning.{Rows}
use Rattle.algebra.specs.declared.node.Node.{Node}
use Rattle.algebra.specs.declared.output.PlanOut.{PlanOut}
use Rattle.algebra.specs.Inputs.{left_input, right_input, is_conditional}
use Rattle.algebra.specs.ItemLaws.{is_item_at, at-each}
use Rattle.algebra.specs.Items.{HasInput, item_at, output_nodes}
use Rattle.algebra.specs.Needed.{IsNeeded}
use Rattle.algebra.specs.Nodes.{IsPlan}
use Rattle.algebra.specs.Plans.{Parts, AreOutputs}
use Rattle.algebra.specs.FoldLaws.{length-each}
use Rattle.algebra.specs.Shapes.{shape_by, no_shape}
use Rattle.algebra.specs.Values.{val}
use Rattle.run_core.specs.Wanted.{rows_of, given, AsksFor, IsWanted, output, input, IsReady}
use Rattle.run_core.specs.WantedLaws.{Agrees, wanted-grows, wanted-needed}
use Rattle.run_tables.specs.Items.{ItemRows, IsOfInput, GoesWithout, MayCompute}
use Rattle.worker_pool.specs.Pages.{empty_page, known_at, known_of, rows_on, unknown_count, IsBlank, KnowsMore, IsResultOf, IsPage, AreWaiting, IsReadyOn, IsMissing, IsNext, IsSeen, IsAlwaysWanted}

cons_nil : {X : Type 0} (x : X) (xs : List X) → x ∷ xs ≡ [] → ⊥
cons_nil x xs e = cc

-- rows that are known are a result's
known_rows : (found : Option ItemRows) (list : RowList) → option_map (λ (x : ItemRows). x.rows) found ≡ Some list → (x : ItemRows) × (found ≡ Some x) × (x.rows ≡ list)
known_rows None list e = absurd (none-some list e)
known_rows (Some x) list e = (x, refl, same_Some x.rows list e)

-- the document of a number
pub document_at : (docs : List Document) (d : ℕ) → d < length docs → (doc : Document) × (slice_get docs d ≡ Some doc)
document_at docs d below = elim (slice_get_cases docs d).1 [
  | inl found ↦ (found.0, found.2)
  | inr past ↦ absurd (omega (arith, below, past.0))
]

abbrev nothing : Option ItemRows
nothing = None

-- nothing is known on an empty page
empty_at : (count n : ℕ) → known_at (empty_page count) n ≡ None
empty_at count n = elim (cases_lt n count) [
  | inl below ↦ get_or-replicate count n nothing nothing below
  | inr past ↦ get_or_past (empty_page count) n nothing (omega (arith, length-replicate count nothing, past))
]

empty_blank : (count : ℕ) (known : List (Option ItemRows)) → known ≡ empty_page count → IsBlank known
empty_blank count known is = λ n. ap (λ (page : List (Option ItemRows)). known_at page n) is ∙ empty_at count n

-- and it is a page of each document
empty_is : (plan : Parts) (docs : List Document) (d count : ℕ) (known : List (Option ItemRows)) → d < length docs → count ≡ length plan.nodes → known ≡ empty_page count → IsPage plan docs d known
empty_is plan docs d count known there all is = record {
  sized = ap (λ (page : List (Option ItemRows)). length page) is ∙ (length-replicate count nothing ∙ all);
  there = there;
  each = λ n found e. absurd (none-some found (sym (empty_blank count known is n) ∙ e));
}

-- the same of a page that a call makes
module _ {T E : Type 0} (r : Result T E) (count : ℕ) (known : List (Option ItemRows)) where
  pub begun-page : (plan : Parts) (docs : List Document) (d : ℕ) → d < length docs → count ≡ length plan.nodes → OnOk r (known ≡ empty_page count) → OnOk r (IsPage plan docs d known)
  begun-page plan docs d there all made = on_ok_weaker r (empty_is plan docs d count known there all) made

  pub begun-blank : OnOk r (known ≡ empty_page count) → OnOk r (IsBlank known)
  begun-blank made = on_ok_weaker r (empty_blank count known) made

-- an element of a page in which one element was set, or another one
pub set_known : (known : List (Option ItemRows)) (n m : ℕ) (put : Option ItemRows) → n < length known
    → ((m ≡ n) × (known_at (set known n put) m ≡ put)) ⊎ ((m ≢ n) × (known_at (set known n put) m ≡ known_at known m))
set_known known n m put below = elim (cases_eq m n) [
  | inl e ↦ inl (e, ap (λ (k : ℕ). get_or (set known n put) k None) e ∙ get_or-set_same known n put None below)
  | inr other ↦ inr (other, get_or-set_other known n m put None other)
]

module _ (known : List (Option ItemRows)) (n : ℕ) (found : ItemRows) (below : n < length known) (unseen : known_at known n ≡ None) where
  -- what is known stays known
  pub more-set : (m : ℕ) (list : RowList) → rows_on known m ≡ Some list → rows_on (set known n (Some found)) m ≡ Some list
  more-set m list is = elim (set_known known n m (Some found) below) [
    | inl here ↦ absurd (none-some list (sym (ap (λ (x : Option ItemRows). option_map (λ (y : ItemRows). y.rows) x) (ap (known_at known) here.0 ∙ unseen)) ∙ is))
    | inr there ↦ ap (λ (x : Option ItemRows). option_map (λ (y : ItemRows). y.rows) x) there.1 ∙ is
  ]

  -- one node less is unknown
  pub fewer-set : unknown_count (set known n (Some found)) < unknown_count known
  fewer-set =
      let counts = sum_by-set (λ (x : Option ItemRows). cond (not (is_some x)) 1 0) known n (Some found) None below in
      omega (arith, counts, ap {B = ℕ} (λ (x : Option ItemRows). cond (not (is_some x)) 1 0) unseen)

  -- what waits is still wanted
  pub waiting-set : (plan : Parts) (path : List ℕ) → AreWaiting plan known path → AreWaiting plan (set known n (Some found)) path
  waiting-set plan path waiting =
      All-weaker (IsWanted plan (rows_on known)) (IsWanted plan (rows_on (set known n (Some found)))) (wanted-grows plan (rows_on known) (rows_on (set known n (Some found))) more-set) path waiting

  -- what is known still is
  knows_more : KnowsMore known (set known n (Some found))
  knows_more = λ m there. elim (set_known known n m (Some found) below) [
    | inl here ↦ ap is_some here.1
    | inr other ↦ ap is_some other.1 ∙ there
  ]

module _ (plan : Parts) (docs : List Document) (d : ℕ) where
  pub page-set : (known : List (Option ItemRows)) (n : ℕ) (found : ItemRows) → n < length plan.nodes → IsPage plan docs d known → IsResultOf plan docs d n found → IsPage plan docs d (set known n (Some found))
  page-set known n found below page result = record {
    sized = length-set known n (Some found) ∙ page.sized;
    there = page.there;
    each = λ m x is. elim (set_known known n m (Some found) (omega (arith, below, page.sized))) [
      | inl here ↦ subst (λ (k : ℕ). IsResultOf plan docs d k x) (sym here.0) (subst (IsResultOf plan docs d n) (same_Some found x (sym here.1 ∙ is)) result)
      | inr there ↦ page.each m x (sym there.1 ∙ is)
    ];
  }

  -- what becomes of a page on which a result is put
  module _ (d' : ℕ) (known known' : List (Option ItemRows)) (n : ℕ) (found : ItemRows) (document : d' ≡ d) (put : known' ≡ set known n (Some found))
      (page : IsPage plan docs d known) (next : IsNext plan known n) where
    within : n < length known
    within = omega (arith, next.there, page.sized)

    at_put : (P : List (Option ItemRows) → Type 0) → P (set known n (Some found)) → P known'
    at_put P holds = subst P (sym put) holds

    pub put-page : IsResultOf plan docs d n found → IsPage plan docs d' known'
    put-page result = subst (λ (k : ℕ). IsPage plan docs k known') (sym document) (at_put (IsPage plan docs d) (page-set known n found next.there page result))

    pub put-waiting : (path : List ℕ) → AreWaiting plan known path → AreWaiting plan known' path
    put-waiting path waiting = at_put (λ page. AreWaiting plan page path) (waiting-set known n found within next.unseen plan path waiting)

    pub put-more : KnowsMore known known'
    put-more = at_put (KnowsMore known) (knows_more known n found within next.unseen)

    pub put-fewer : unknown_count known' < unknown_count known
    put-fewer = at_put (λ page. unknown_count page < unknown_count known) (fewer-set known n found within next.unseen)

  -- the result of a node has what the node is worth
  pub result-has : (doc : Document) → slice_get docs d ≡ Some doc → (n : ℕ) (found : ItemRows) → n < length plan.nodes → IsResultOf plan docs d n found → HasInput plan.lists doc plan.nodes (Some n) found.rows
  result-has doc doc_is n found below of_node =
      at-each plan docs (λ other k. HasInput plan.lists other plan.nodes (Some k) found.rows) found.item (item_at plan d n) of_node.item of_node.result.of_item (is_item_at plan docs d n doc doc_is below) of_node.result.has

  module _ (doc : Document) (doc_is : slice_get docs d ≡ Some doc) (known : List (Option ItemRows)) (page : IsPage plan docs d known) where
    -- so what is known are values
    pub agrees : Agrees plan doc (rows_on known)
    agrees = record {
      same = λ n list below is.
          let found = known_rows (known_at known n) list is in
          subst (λ (l : RowList). SameBag l.rows (val plan.lists doc plan.nodes n)) found.2 (result-has doc doc_is n found.0 below (page.each n found.0 found.1)).same;
    }

    -- and a wanted node is needed
    pub next-needed : IsPlan plan.nodes → (n : ℕ) → IsNext plan known n → IsNeeded plan.lists doc plan.nodes (output_nodes plan) n
    next-needed planned n next = wanted-needed plan doc planned (rows_on known) agrees n next.wanted

    -- a known input has the result of its item
    known_item : (i : ℕ) (found : Option ItemRows) → known_at known i ≡ found → IsSome found → option_map (λ (x : ItemRows). x.item) (known_at known i) ≡ Some (item_at plan d i)
    known_item i None is there = absurd (true≢false (sym there))
    known_item i (Some found) is there = ap (option_map (λ (x : ItemRows). x.item)) is ∙ ap (λ (k : ℕ). Some k) (page.each i found is).item

    given_known : (o : Option ℕ) (x : ItemRows) → known_of known o ≡ Some x → given plan (rows_on known) o ≡ x.rows.rows
    given_known None x e = absurd (none-some x e)
    given_known (Some i) x e = ap (λ (found : Option ItemRows). rows_of (option_map (λ (y : ItemRows). y.rows) found)) e

    module _ (node : Node) (ready : IsReady plan (rows_on known) node) where
      -- what isn't known isn't asked for
      not_asked : (i : ℕ) → known_at known i ≡ None → AsksFor plan (rows_on known) node i → ⊥
      not_asked i none asks = true≢false (sym (ready i asks) ∙ ap (λ (found : Option ItemRows). is_some (option_map (λ (y : ItemRows). y.rows) found)) none)

      is_known : (found : Option ItemRows) → IsSome (option_map (λ (y : ItemRows). y.rows) found) → IsSome found
      is_known None e = absurd (true≢false (sym e))
      is_known (Some x) e = refl

      of_left : (o : Option ℕ) → left_input node ≡ o → IsOfInput plan d o (known_of known o)
      of_left None left = refl
      of_left (Some i) left = known_item i (known_at known i) refl (is_known (known_at known i) (ready i (inl left)))

      left_empty : (i : ℕ) → right_input node ≡ Some i → known_at known i ≡ None → (found : Option ItemRows) → known_of known (left_input node) ≡ found → IfSome found (λ x. x.rows.rows ≡ [])
      left_empty i right none None is = tt
      left_empty i right none (Some x) is = by_rows x.rows.rows refl where
        by_rows : (rows : Rows) → x.rows.rows ≡ rows → x.rows.rows ≡ []
        by_rows [] e = e
        by_rows (row ∷ rows) e = absurd (not_asked i none (inr (right, λ c empty. cons_nil row rows (sym e ∙ (sym (given_known (left_input node) x is) ∙ empty)))))

      conditional_here : (i : ℕ) → right_input node ≡ Some i → known_at known i ≡ None → (b : Bool) → is_conditional node ≡ b → is_conditional node ≡ true
      conditional_here i right none true is = is
      conditional_here i right none false is = absurd (not_asked i none (inr (right, λ c. absurd (true≢false (sym c ∙ is)))))

      of_right : (o : Option ℕ) → right_input node ≡ o → IsOfInput plan d o (known_of known o) ⊎ GoesWithout node (known_of known (left_input node)) (known_of known o)
      of_right None right = inl refl
      of_right (Some i) right = by_found (known_at known i) refl where
        by_found : (found : Option ItemRows) → known_at known i ≡ found → IsOfInput plan d (Some i) (known_of known (Some i)) ⊎ GoesWithout node (known_of known (left_input node)) (known_of known (Some i))
        by_found None none = inr (record {
          conditional = conditional_here i right none (is_conditional node) refl;
          left_empty = left_empty i right none (known_of known (left_input node)) refl;
          right_absent = none;
        })
        by_found (Some x) is = inl (known_item i (known_at known i) refl (ap is_some is))

    -- a node that may be taken up may be computed
    pub may-compute : IsPlan plan.nodes → (n : ℕ) → IsNext plan known n → (node : Node) → slice_get plan.nodes n ≡ Some node
        → MayCompute plan docs (item_at plan d n) (known_of known (left_input node)) (known_of known (right_input node))
    may-compute planned n next node is = record {
      of_item = record { d = d; n = n; doc = doc; node = node; is = refl; doc_is = doc_is; node_is = is };
      needed = next-needed planned n next;
      of_left = of_left node (next.ready node is) (left_input node) refl;
      of_right = of_right node (next.ready node is) (right_input node) refl;
    }

    -- the same of results that are handed over
    pub may-compute-of : IsPlan plan.nodes → (n : ℕ) → IsNext plan known n → (node : Node) → slice_get plan.nodes n ≡ Some node → (item : ℕ) (left right : Option ItemRows)
        → item ≡ item_at plan d n → left ≡ known_of known (left_input node) → right ≡ known_of known (right_input node) → MayCompute plan docs item left right
    may-compute-of planned n next node is item left right item_is left_is right_is =
        subst (λ (i : ℕ). MayCompute plan docs i left right) (sym item_is)
        (subst (λ (l : Option ItemRows). MayCompute plan docs (item_at plan d n) l right) (sym left_is)
        (subst (λ (r : Option ItemRows). MayCompute plan docs (item_at plan d n) (known_of known (left_input node)) r) (sym right_is) (may-compute planned n next node is)))

-- the node of a number, in a list that is the plan's
pub node-at : (nodes list : List Node) (n : ℕ) (node : Node) → list ≡ nodes → n < length nodes → node ≡ get_or list n node → slice_get nodes n ≡ Some node
node-at nodes list n node same below is = slice_get_read nodes (length nodes) n node refl below (is ∙ ap (λ (l : List Node). get_or l n node) same)

-- what a node asks for, by what is known of its inputs
module _ (plan : Parts) (known : List (Option ItemRows)) (n : ℕ) (node : Node) (is : slice_get plan.nodes n ≡ Some node) where
  at_node : (P : Node → Type 0) → P node → (other : Node) → slice_get plan.nodes n ≡ Some other → P other
  at_node P holds other at = subst P (same_Some node other (sym is ∙ at)) holds

  seen_rows : (found : Option ItemRows) → IsSome found → IsSome (option_map (λ (y : ItemRows). y.rows) found)
  seen_rows None e = absurd (true≢false (sym e))
  seen_rows (Some x) e = refl

  both_seen : IsSeen known (left_input node) → IsSeen known (right_input node) → IsReady plan (rows_on known) node
  both_seen left right i (inl e) = seen_rows (known_at known i) (left i e)
  both_seen left right i (inr e) = seen_rows (known_at known i) (right i e.0)

  left_seen : IsSeen known (left_input node) → is_conditional node ≡ true → given plan (rows_on known) (left_input node) ≡ [] → IsReady plan (rows_on known) node
  left_seen left conditional none i (inl e) = seen_rows (known_at known i) (left i e)
  left_seen left conditional none i (inr e) = absurd (e.1 conditional none)

  pub ready-both : IsSeen known (left_input node) → IsSeen known (right_input node) → IsReadyOn plan known n
  ready-both left right = at_node (IsReady plan (rows_on known)) (both_seen left right)

  pub ready-left : IsSeen known (left_input node) → is_conditional node ≡ true → given plan (rows_on known) (left_input node) ≡ [] → IsReadyOn plan known n
  ready-left left conditional none = at_node (IsReady plan (rows_on known)) (left_seen left conditional none)

  pub missing-right : (i : ℕ) → right_input node ≡ Some i → i < n → known_at known i ≡ None → (is_conditional node ≡ true → given plan (rows_on known) (left_input node) ≢ []) → IsMissing plan known n i
  missing-right i right lower none some = record { lower = lower; unseen = none; asked = at_node (λ other. AsksFor plan (rows_on known) other i) (inr (right, some)) }

-- what is missing is wanted
pub missing-wanted : (plan : Parts) (known : List (Option ItemRows)) (n i : ℕ) → n < length plan.nodes → IsWanted plan (rows_on known) n → IsMissing plan known n i → IsWanted plan (rows_on known) i
missing-wanted plan known n i below wanted missing = elim (slice_get_cases plan.nodes n).1 [
  | inl found ↦ input n i found.0 found.2 (missing.asked found.0 found.2) wanted
  | inr past ↦ absurd (omega (arith, below, past.0))
]

-- an output's node is one of the outputs' nodes
pub output-listed : (outs : List PlanOut) (i : ℕ) (d : PlanOut) → i < length outs → Contains (map (λ (out : PlanOut). out.node) outs) (get_or outs i d).node
output-listed outs i d below = (
  i,
  omega (arith, below, length-map outs (λ (out : PlanOut). out.node)),
  get_or-map (λ (out : PlanOut). out.node) outs i d _ below,
)

-- where an input has no row, by a test, it is given no row
pub no-row : (rows : Rows) (b : Bool) → (IsTrue b ↔ (rows ≢ [])) → b ≡ false → rows ≡ []
no-row [] b tells fails = refl
no-row (row ∷ rows) b tells fails = absurd (true≢false (sym (tells.1 (cons_nil row rows)) ∙ fails))

-- an output's node is one of the nodes, and wanted whatever is known
module _ (plan : Parts) (outs : List PlanOut) (i : ℕ) (out : PlanOut) (valid : AreOutputs plan.nodes plan.outputs) (same : outs ≡ plan.outputs) (below : i < length plan.outputs) (is : out ≡ get_or outs i out) where
  here_it_is : out ≡ get_or plan.outputs i out
  here_it_is = is ∙ ap (λ (all : List PlanOut). get_or all i out) same

  pub output-there : out.node < length plan.nodes
  output-there =
      let one = valid.each i out below in
      subst (λ (o : PlanOut). o.node < length plan.nodes) (sym here_it_is) (omega (arith, one.there, length-each no_shape shape_by plan.nodes))

  pub output-wanted : IsAlwaysWanted plan out.node
  output-wanted known =
      output out.node (subst (Contains (output_nodes plan)) (ap (λ (o : PlanOut). o.node) (sym here_it_is)) (output-listed plan.outputs i out below))
