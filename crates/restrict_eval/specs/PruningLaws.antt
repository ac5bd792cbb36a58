-- Plans from which nodes are dropped that nobody needs: what holds of their joins stays.
use Rattle.std.proofs.Common.{◌≡◌, ◌∙◌, ◌⊎◌, inl, inr, ℕ, ◌<◌, Bool, true, List, [], ◌∷◌, map, length, refl, sym, ap, subst, Option, Some, None, option_map}
use Rattle.std.specs.Prelude.{slice_get}
use Rattle.std.specs.List.{Contains}
use Rattle.std.proofs.lemmas.Option.{none-some, same_Some, slice_get_within}
use Rattle.scalar_ops.specs.Expressions.{column}
use Rattle.algebra.specs.declared.node.JoinKind.{JoinKind}
use Rattle.algebra.specs.declared.node.Local.{Local}
use Rattle.algebra.specs.declared.node.Local.TheVariants as sought
use Rattle.algebra.specs.declared.node.Node.{Node}
use Rattle.algebra.specs.declared.node.Node.TheVariants.{Doc, TokenRegex, Dict, DictPart, Project, SpanJoin}
use Rattle.algebra.specs.Inputs.{left_input, right_input, with_inputs}
use Rattle.algebra.specs.OperatorLaws.{left-renamed, right-renamed}
use Rattle.restrict_eval.specs.Restricting.{Reads, IsLive, Finds, HasFound, ShowsMatch, IsRestrictable, AreRestricted}
use Rattle.restrict_eval.specs.Restricting as lives
use Rattle.restrict_eval.specs.Rebuilding.{made_conditional}
use Rattle.restrict_eval.specs.TakenLaws.{from_doc, from_runs, from_dict, from_dict_part, from_project, from_join}

-- node i of the old plan has the new number `to i`, if any, and is there with its inputs renumbered; each live node has one, no
-- two nodes have the same, and the new plan has no other node. Outputs show the nodes that they showed
pub record IsThinned (old : List Node) (outputs : List ℕ) (new : List Node) (shown : List ℕ) (to : ℕ → Option ℕ) : Type 0 where
  pub number : ℕ → ℕ
  pub moved : (i n : ℕ) (node : Node) → to i ≡ Some n → slice_get old i ≡ Some node → slice_get new n ≡ Some (with_inputs number node)
  pub inputs : (i n : ℕ) (node : Node) (k : ℕ) → to i ≡ Some n → slice_get old i ≡ Some node → Reads node k → to k ≡ Some (number k)
  pub from : (n : ℕ) → n < length new → (i : ℕ) × (node : Node) × (to i ≡ Some n) × (slice_get old i ≡ Some node)
  pub once : (i k n : ℕ) → to i ≡ Some n → to k ≡ Some n → i ≡ k
  pub live : (i : ℕ) → IsLive old outputs i → (n : ℕ) × (to i ≡ Some n)
  pub listed : (i n : ℕ) → Contains outputs i → to i ≡ Some n → Contains shown n
  pub shows : (n : ℕ) → Contains shown n → (i : ℕ) × Contains outputs i × (to i ≡ Some n)

module _ (number : ℕ → ℕ) (node : Node) where
  reads_on : (k : ℕ) → Reads node k → Reads (with_inputs number node) (number k)
  reads_on k (inl left) = inl (left-renamed number node ∙ ap (option_map number) left)
  reads_on k (inr right) = inr (right-renamed number node ∙ ap (option_map number) right)

  input_back : (m : ℕ) (o : Option ℕ) → ((k : ℕ) → o ≡ Some k → Reads node k) → option_map number o ≡ Some m → (k : ℕ) × Reads node k × (m ≡ number k)
  input_back m None each e = absurd (none-some m e)
  input_back m (Some k) each e = (k, each k refl, sym (same_Some (number k) m e))

  reads_back : (m : ℕ) → Reads (with_inputs number node) m → (k : ℕ) × Reads node k × (m ≡ number k)
  reads_back m (inl left) = input_back m (left_input node) (λ k e. inl e) (sym (left-renamed number node) ∙ left)
  reads_back m (inr right) = input_back m (right_input node) (λ k e. inr e) (sym (right-renamed number node) ∙ right)

module _ (old : List Node) (outputs : List ℕ) (new : List Node) (shown : List ℕ) (to : ℕ → Option ℕ) (thin : IsThinned old outputs new shown to) where
  -- what stands at a new number
  pub record IsMoved (i n : ℕ) : Type 0 where
    pub node : Node
    pub is : slice_get old i ≡ Some node
    pub at : slice_get new n ≡ Some (with_inputs thin.number node)

  moved_at : (i n : ℕ) → to i ≡ Some n → n < length new → IsMoved i n
  moved_at i n e below =
      let from = thin.from n below in
      let same : from.0 ≡ i = thin.once from.0 i n from.2 e in
      let is : slice_get old i ≡ Some from.1 = ap (slice_get old) (sym same) ∙ from.3 in
      record { node = from.1; is = is; at = thin.moved i n from.1 e is }

  same_node : (i n : ℕ) (moved : IsMoved i n) (x : Node) → slice_get new n ≡ Some x → with_inputs thin.number moved.node ≡ x
  same_node i n moved x is = same_Some (with_inputs thin.number moved.node) x (sym moved.at ∙ is)

  -- live nodes stay live, and no others become so
  pub live_on : (i : ℕ) → IsLive old outputs i → (n : ℕ) → to i ≡ Some n → IsLive new shown n
  live_on _ (lives.output i listed) n e = lives.output n (thin.listed i n listed e)
  live_on _ (lives.input k i node is reads live) n e =
      let m = thin.live k live in
      let here : IsLive new shown (thin.number i) =
      lives.input m.0 (thin.number i) (with_inputs thin.number node) (thin.moved k m.0 node m.1 is) (reads_on thin.number node i reads) (live_on k live m.0 m.1) in
      subst (IsLive new shown) (same_Some (thin.number i) n (sym (thin.inputs k m.0 node i m.1 is reads) ∙ e)) here

  live_step : (k n : ℕ) (node : Node) → slice_get new k ≡ Some node → Reads node n → (i : ℕ) × (to i ≡ Some k) × IsLive old outputs i → (i : ℕ) × (to i ≡ Some n) × IsLive old outputs i
  live_step k n node is reads below =
      let moved = moved_at below.0 k below.1 (slice_get_within new k node is) in
      let back = reads_back thin.number moved.node n (subst (λ (x : Node). Reads x n) (sym (same_node below.0 k moved node is)) reads) in
      (back.0, thin.inputs below.0 k moved.node back.0 below.1 moved.is back.1 ∙ ap (λ (m : ℕ). Some m) (sym back.2), lives.input below.0 back.0 moved.node moved.is back.1 below.2)

  pub live_from : (n : ℕ) → IsLive new shown n → (i : ℕ) × (to i ≡ Some n) × IsLive old outputs i
  live_from _ (lives.output n listed) = let from = thin.shows n listed in (from.0, from.2, lives.output from.0 from.1)
  live_from _ (lives.input k n node is reads live) = live_step k n node is reads (live_from k live)

  -- what is found in the document is found in the old plan
  document_from : (i n : ℕ) → to i ≡ Some n → slice_get new n ≡ Some Doc → slice_get old i ≡ Some Doc
  document_from i n e document =
      let moved = moved_at i n e (slice_get_within new n Doc document) in
      moved.is ∙ ap (λ (x : Node). Some x) (from_doc thin.number moved.node (ap made_conditional (same_node i n moved Doc document)))

  -- the old node, and the number of its input
  input_from : (i n o source : ℕ) (y : Node) → to i ≡ Some n → (moved : IsMoved i n) → moved.node ≡ y → left_input y ≡ Some o → thin.number o ≡ source → (slice_get old i ≡ Some y) × (to o ≡ Some source)
  input_from i n o source y e moved same reads number =
      let is : slice_get old i ≡ Some y = moved.is ∙ ap (λ (x : Node). Some x) same in
      (is, thin.inputs i n y o e is (inl reads) ∙ ap (λ (m : ℕ). Some m) number)

  found_from : (i n : ℕ) → to i ≡ Some n → HasFound new n → HasFound old i
  found_from i n e found = by found.part found.finds
    where
      by : (part : Local) → Finds new n found.source part → HasFound old i
      by (sought.TokenRegex low high pattern) finds =
          let there = TokenRegex found.source finds.0 low high pattern (0 ∷ []) in
          let moved = moved_at i n e (slice_get_within new n there finds.1) in
          runs moved (from_runs thin.number moved.node found.source finds.0 low high pattern (0 ∷ []) (ap made_conditional (same_node i n moved there finds.1)))
        where
          runs : (moved : IsMoved i n) → (o : ℕ) × (moved.node ≡ TokenRegex o finds.0 low high pattern (0 ∷ [])) × (thin.number o ≡ found.source) → HasFound old i
          runs moved (o, same, number) =
              let was = input_from i n o found.source (TokenRegex o finds.0 low high pattern (0 ∷ [])) e moved same refl number in
              record { source = o; part = sought.TokenRegex low high pattern; finds = (finds.0, was.0); document = document_from o found.source was.1 found.document }
      by (sought.Dict d) finds =
          let moved = moved_at i n e (slice_get_within new n (DictPart finds.0 0) finds.2) in
          part moved (from_dict_part thin.number moved.node finds.0 0 (ap made_conditional (same_node i n moved (DictPart finds.0 0) finds.2)))
        where
          dict : (m : ℕ) → slice_get old i ≡ Some (DictPart m 0) → to m ≡ Some finds.0 → (moved : IsMoved m finds.0)
              → (o : ℕ) × (moved.node ≡ Dict o finds.1 (d ∷ [])) × (thin.number o ≡ found.source) → HasFound old i
          dict m is stays moved (o, same, number) =
              let was = input_from m finds.0 o found.source (Dict o finds.1 (d ∷ [])) stays moved same refl number in
              record { source = o; part = sought.Dict d; finds = (m, finds.1, is, was.0); document = document_from o found.source was.1 found.document }

          below : (m : ℕ) → slice_get old i ≡ Some (DictPart m 0) → to m ≡ Some finds.0 → HasFound old i
          below m is stays =
              let all = Dict found.source finds.1 (d ∷ []) in
              let moved = moved_at m finds.0 stays (slice_get_within new finds.0 all finds.3) in
              dict m is stays moved (from_dict thin.number moved.node found.source finds.1 (d ∷ []) (ap made_conditional (same_node m finds.0 moved all finds.3)))

          part : (moved : IsMoved i n) → (m : ℕ) × (moved.node ≡ DictPart m 0) × (thin.number m ≡ finds.0) → HasFound old i
          part moved (m, same, number) =
              let was = input_from i n m finds.0 (DictPart m 0) e moved same refl number in
              below m was.0 was.1

  module _ (j left right lc rc : ℕ) (kind : JoinKind) (conditional : Bool) (at_new : slice_get new j ≡ Some (SpanJoin left right kind lc rc conditional)) (may : IsRestrictable new shown j right rc) (i : ℕ) (e : to i ≡ Some j) (r0 : ℕ) (right_to : to r0 ≡ Some right) where
    -- the node whose matches are shown
    pub record IsBase : Type 0 where
      pub t0 : ℕ
      pub base_to : to t0 ≡ Some may.t
      pub match0 : ShowsMatch old t0 r0 rc

    base_of : ShowsMatch new may.t right rc → IsBase
    base_of (inl whole) = record { t0 = r0; base_to = right_to ∙ ap (λ (m : ℕ). Some m) whole.0; match0 = inl (refl, whole.1) }
    base_of (inr part) =
        let there = Project may.t (map column part.0) in
        let moved = moved_at r0 right right_to (slice_get_within new right there part.1) in
        let from = from_project thin.number moved.node may.t (map column part.0) (ap made_conditional (same_node r0 right moved there part.1)) in
        let is : slice_get old r0 ≡ Some (Project from.0 (map column part.0)) = moved.is ∙ ap (λ (x : Node). Some x) from.1 in
        record {
          t0 = from.0;
          base_to = thin.inputs r0 right (Project from.0 (map column part.0)) from.0 right_to is (inl refl) ∙ ap (λ (m : ℕ). Some m) from.2;
          match0 = inr (part.0, is, part.2);
        }

    could : IsBase → IsRestrictable old outputs i r0 rc
    could base = record {
      t = base.t0;
      found = found_from base.t0 may.t base.base_to may.found;
      match = base.match0;
      unshown = (λ listed. may.unshown.0 (thin.listed r0 right listed right_to), λ listed. may.unshown.1 (thin.listed base.t0 may.t listed base.base_to));
      alone = λ k node is live reads. told k (thin.live k live) node is live reads;
    }
      where
        read : (k m : ℕ) (node : Node) → to k ≡ Some m → slice_get old k ≡ Some node → Reads node r0 ⊎ Reads node base.t0 → Reads (with_inputs thin.number node) right ⊎ Reads (with_inputs thin.number node) may.t
        read k m node e_m is (inl reads) =
            inl (subst (λ (n : ℕ). Reads (with_inputs thin.number node) n) (same_Some (thin.number r0) right (sym (thin.inputs k m node r0 e_m is reads) ∙ right_to)) (reads_on thin.number node r0 reads))
        read k m node e_m is (inr reads) =
            inr (subst (λ (n : ℕ). Reads (with_inputs thin.number node) n) (same_Some (thin.number base.t0) may.t (sym (thin.inputs k m node base.t0 e_m is reads) ∙ base.base_to)) (reads_on thin.number node base.t0 reads))

        back : (k m : ℕ) → to k ≡ Some m → (m ≡ j) ⊎ (m ≡ right) → (k ≡ i) ⊎ (k ≡ r0)
        back k m e_m (inl same) = inl (thin.once k i j (e_m ∙ ap (λ (n : ℕ). Some n) same) e)
        back k m e_m (inr same) = inr (thin.once k r0 right (e_m ∙ ap (λ (n : ℕ). Some n) same) right_to)

        told : (k : ℕ) → (m : ℕ) × (to k ≡ Some m) → (node : Node) → slice_get old k ≡ Some node → IsLive old outputs k → Reads node r0 ⊎ Reads node base.t0 → (k ≡ i) ⊎ (k ≡ r0)
        told k m node is live reads =
            back k m.0 m.1 (may.alone m.0 (with_inputs thin.number node) (thin.moved k m.0 node m.1 is) (live_on k live m.0 m.1) (read k m.0 node m.1 is reads))

    pub could_be : IsRestrictable old outputs i r0 rc
    could_be = could (base_of may.match)

  -- so no join is left that could be restricted, where none was
  pub thinned-restricted : AreRestricted old outputs → AreRestricted new shown
  thinned-restricted restricted j left right lc rc kind conditional at_new live may =
      let there = SpanJoin left right kind lc rc conditional in
      let below = live_from j live in
      let moved = moved_at below.0 j below.1 (slice_get_within new j there at_new) in
      let from = from_join thin.number moved.node left right kind lc rc true (ap made_conditional (same_node below.0 j moved there at_new)) in
      let is : slice_get old below.0 ≡ Some (SpanJoin from.0 from.1 kind lc rc from.2) = moved.is ∙ ap (λ (x : Node). Some x) from.3 in
      let right_to : to from.1 ≡ Some right = thin.inputs below.0 j (SpanJoin from.0 from.1 kind lc rc from.2) from.1 below.1 is (inr refl) ∙ ap (λ (m : ℕ). Some m) from.5 in
      restricted below.0 from.0 from.1 lc rc kind from.2 is below.2 (could_be j left right lc rc kind conditional at_new may below.0 below.1 from.1 right_to)
