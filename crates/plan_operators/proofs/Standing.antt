-- Boards on which nodes wait: what a node asks for, and the board with the rows of one node more.
use Rattle.std.proofs.Common.{◌≡◌, ◌∙◌, ◌+◌, ◌*◌, ◌<◌, ◌≤◌, ◌⊎◌, inl, inr, ⊎_elim, ℕ, true, false, List, Option, Some, None, length, refl, sym, ap, subst, arith}
use Rattle.std.specs.Prelude.{slice_get, slice_index_or, IfSome, IsSome, Contains}
use Rattle.std.proofs.lemmas.Bool.{cases_eq, true≢false}
use Rattle.std.proofs.lemmas.Grind.{common_steps}
use Rattle.std.proofs.lemmas.Option.{none-some}
use Rattle.span_token.specs.Documents.{Doc}
use Rattle.row_values.specs.Rows.{RowList}
use Rattle.algebra.specs.declared.node.Node.{Node}
use Rattle.algebra.specs.Inputs.{left_input, right_input, is_conditional, IsAmong}
use Rattle.algebra.specs.Needed as needs
use Rattle.algebra.specs.Plans.{Parts}
use Rattle.plan_operators.specs.Boards.{IsOf}
use Rattle.plan_operators.specs.Filling.{IsAskedBy, IsEmptyInput, IsEvaluated, IsAbsentInput, IsNeededNode, IsPassedOn, IsSourceOf, IsStanding, IsTakenOff, IsThere, shown_by}
use Rattle.plan_operators.specs.Readers.{number_of_readers, number_waiting, reads_by, total, waits, AreCountedFrom}
use Rattle.plan_operators.proofs.Boards.{emptied}
use Rattle.plan_operators.proofs.Reading.{read-there, reads-left, reads-right, some-or-none, wait-from, wait-none, wait-parts, wait-some}
use Rattle.plan_operators.proofs.Scheduling.{counted-empty}
use Rattle.plan_operators.proofs.Totals.{total-one, total-without, total-without-two}

-- at the start no node has rows
pub standing-empty : (doc : Doc) (plan : Parts) (board : List (Option RowList)) (readers : List ℕ) → length board ≡ length plan.nodes → ((n : ℕ) → slice_index_or board n None ≡ None)
    → length readers ≡ length plan.nodes → AreCountedFrom 0 plan.nodes (shown_by plan) readers → IsStanding doc plan board readers
standing-empty doc plan board readers long none readers_long counted = record {
  long = long;
  readers_long = readers_long;
  has = record { each = λ n below. subst (λ (o : Option RowList). IfSome o (IsOf plan.lists doc plan.nodes n)) (sym (none n)) tt };
  needed = λ n there. absurd (true≢false (sym (subst IsSome (none n) there)));
  counted = counted-empty plan.nodes (shown_by plan) readers counted board none;
}

module _ (doc : Doc) (plan : Parts) (board : List (Option RowList)) (readers : List ℕ) (is : IsStanding doc plan board readers) where
  parts : (n : ℕ) → waits board readers n ≡ true → (slice_index_or board n None ≡ None) × (0 < number_of_readers readers n)
  parts n waiting = wait-parts (slice_index_or board n None) (number_of_readers readers n) waiting

  -- a node that waits is there
  pub waiting-there : (n : ℕ) → waits board readers n ≡ true → n < length plan.nodes
  waiting-there n waiting = let below = read-there readers n (parts n waiting).1 in omega (arith, below, is.readers_long)

  -- it is counted as often as it reads a node
  reads_summed : (k i : ℕ) → waits board readers k ≡ true → reads_by plan.nodes k i ≤ total (waits board readers) (λ m. reads_by plan.nodes m i) (length plan.nodes)
  reads_summed k i waiting = total-one (λ m. reads_by plan.nodes m i) (waits board readers) k (length plan.nodes) (waiting-there k waiting) waiting

  pub reads-counted : (k i : ℕ) → waits board readers k ≡ true → reads_by plan.nodes k i ≤ number_of_readers readers i
  reads-counted k i waiting = omega (arith, reads_summed k i waiting, is.counted.read i)

  -- an input that isn't there waits
  absent_waits : (k i : ℕ) → waits board readers k ≡ true → 0 < reads_by plan.nodes k i → slice_index_or board i None ≡ None → waits board readers i ≡ true
  absent_waits k i waiting reads absent = wait-from (slice_index_or board i None) (number_of_readers readers i) absent (let most = reads-counted k i waiting in omega (arith, reads, most))

  -- a node that outputs show is there
  pub shown-there : (n : ℕ) → Contains (shown_by plan) n → n < length plan.nodes
  shown-there n shown =
      let most = is.counted.shown n shown in
      let below : n < length readers = read-there readers n (omega (arith, most)) in
      omega (arith, below, is.readers_long)

  -- a node that outputs show waits where it has no rows
  pub shown-waits : (n : ℕ) → Contains (shown_by plan) n → slice_index_or board n None ≡ None → waits board readers n ≡ true
  shown-waits n shown absent = wait-from (slice_index_or board n None) (number_of_readers readers n) absent (omega (arith, is.counted.shown n shown))

  module _ (n : ℕ) (node : Node) (at : slice_get plan.nodes n ≡ Some node) (waiting : waits board readers n ≡ true) (needed : IsNeededNode doc plan n) where
    -- what it asks for and isn't there
    pub missing-asked : (i : ℕ) → IsAmong n (left_input node) → IsAmong n (right_input node) → IsAbsentInput board node i → IsAskedBy doc plan board readers n i
    missing-asked i left right missing = by missing.asked
      where
        by : (left_input node ≡ Some i) ⊎ ((right_input node ≡ Some i) × (is_conditional node ≡ true → IsThere board (left_input node) × (IsEmptyInput board (left_input node) → ⊥))) → IsAskedBy doc plan board readers n i
        by (inl e) = record {
          lower = subst (IsAmong n) e left;
          waiting = absent_waits n i waiting (reads-left plan.nodes n node at i e) missing.absent;
          needed = needs.input n i node at (inl e) needed;
        }
        by (inr (e, only)) = record {
          lower = subst (IsAmong n) e right;
          waiting = absent_waits n i waiting (reads-right plan.nodes n node at i e) missing.absent;
          needed = needs.input n i node at
              (inr (
                e,
                λ conditional none.
                    (only conditional).1 (emptied plan.lists doc plan.nodes board is.has n (let below = waiting-there n waiting in omega (arith, below, is.long)) (left_input node) left (only conditional).0 none),
              ))
              needed;
        }

    -- the node that passes its rows on to it waits too
    module _ (source : ℕ) (passed : IsPassedOn plan.nodes board readers source n) where
      passed_read : 0 < reads_by plan.nodes n source
      passed_read = reads-left plan.nodes n node at source (passed.passing.from_it node at)

      pub passed-waits : waits board readers source ≡ true
      passed-waits = absent_waits n source waiting passed_read passed.absent

      pub passed-needed : IsNeededNode doc plan source
      passed-needed = needs.input n source node at (inl (passed.passing.from_it node at)) needed

    -- so whichever node has the inputs
    module _ (source : ℕ) (from_source : IsSourceOf plan.nodes board readers n source) where
      pub source-waits : waits board readers source ≡ true
      source-waits = ⊎_elim (λ (e : source ≡ n). ap (waits board readers) e ∙ waiting) (λ (passed : IsPassedOn plan.nodes board readers source n). passed-waits source passed) from_source

      pub source-needed : IsNeededNode doc plan source
      source-needed = ⊎_elim (λ (e : source ≡ n). subst (IsNeededNode doc plan) (sym e) needed) (λ (passed : IsPassedOn plan.nodes board readers source n). passed-needed source passed) from_source

      -- the board with its rows
      module _ (mid new : List (Option RowList)) (mid_readers new_readers : List ℕ) (off : IsTakenOff (reads_by plan.nodes source) board readers mid mid_readers)
          (list : RowList) (is_list : IsOf plan.lists doc plan.nodes n list) (long : length new ≡ length mid) (readers_long : length new_readers ≡ length mid_readers)
          (there : slice_index_or new n None ≡ Some list) (others : (m : ℕ) → (m ≡ n → ⊥) → slice_index_or new m None ≡ slice_index_or mid m None)
          (gone : (source ≡ n → ⊥) → number_of_readers new_readers source ≡ 0)
          (as_read : (m : ℕ) → (m ≡ source → ⊥) ⊎ (source ≡ n) → number_of_readers new_readers m ≡ number_of_readers mid_readers m) where
        -- the number of readers of a node, but of one that passed its rows on
        read_as : (m : ℕ) → ((source ≡ n → ⊥) → m ≡ source → ⊥) → number_of_readers new_readers m ≡ number_of_readers mid_readers m
        read_as m apart =
            ⊎_elim (λ (e : source ≡ n). as_read m (inr e)) (λ (passed : source ≡ n → ⊥). as_read m (inl (apart passed))) (cases_eq source n)

        -- no other node waits than before
        still_waits : (k : ℕ) → waits new new_readers k ≡ true → waits board readers k ≡ true
        still_waits k still =
            let now = wait-parts (slice_index_or new k None) (number_of_readers new_readers k) still in
            let other : k ≡ n → ⊥ = λ e. none-some list (sym now.0 ∙ (ap (λ (m : ℕ). slice_index_or new m None) e ∙ there)) in
            let same : slice_index_or mid k None ≡ None = sym (others k other) ∙ now.0 in
            let number : number_of_readers new_readers k ≡ number_of_readers mid_readers k =
            read_as k (λ passed e. let zero_is : number_of_readers new_readers k ≡ 0 = ap (number_of_readers new_readers) e ∙ gone passed in omega (arith, zero_is, now.1)) in
            let was : slice_index_or board k None ≡ None =
            ⊎_elim (λ (some : IsSome (slice_index_or board k None)). let zero_is = off.unread k same some in absurd (omega (arith, zero_is, number, now.1))) (λ (none : slice_index_or board k None ≡ None). none)
            (some-or-none (slice_index_or board k None)) in
            wait-from (slice_index_or board k None) (number_of_readers readers k) was (let fewer = off.fewer k in omega (arith, fewer, number, now.1))

        filled : waits new new_readers n ≡ false
        filled = wait-some (slice_index_or new n None) (number_of_readers new_readers n) list there

        source_gone : (source ≡ n → ⊥) → waits new new_readers source ≡ false
        source_gone passed = wait-none (slice_index_or new source None) (number_of_readers new_readers source) (gone passed)

        abbrev sum_before : ℕ → ℕ
        sum_before i = total (waits board readers) (λ k. reads_by plan.nodes k i) (length plan.nodes)

        abbrev sum_after : ℕ → ℕ
        sum_after i = total (waits new new_readers) (λ k. reads_by plan.nodes k i) (length plan.nodes)

        n_there : n < length plan.nodes
        n_there = waiting-there n waiting

        -- of those that it reads itself
        counted_own : source ≡ n → (i : ℕ) → sum_after i + number_of_readers readers i ≤ sum_before i + number_of_readers new_readers i
        counted_own e i =
            let less = total-without (λ k. reads_by plan.nodes k i) (waits new new_readers) (waits board readers) n (length plan.nodes) n_there still_waits waiting filled in
            let same : reads_by plan.nodes source i ≡ reads_by plan.nodes n i = ap (λ (k : ℕ). reads_by plan.nodes k i) e in
            omega (arith, less, same, off.fewer i, as_read i (inr e))

        -- and of those that the node reads that passes its rows on, but of that one itself
        counted_passed : (source ≡ n → ⊥) → (i : ℕ) → sum_after i + reads_by plan.nodes n i + reads_by plan.nodes source i ≤ sum_before i
        counted_passed apart i =
            total-without-two (λ k. reads_by plan.nodes k i) (waits new new_readers) (waits board readers) n source (length plan.nodes) n_there (waiting-there source source-waits) apart
            still_waits waiting source-waits filled (source_gone apart)

        -- one that passed its rows on was read by this one alone
        passed_alone : (source ≡ n → ⊥) → (sum_after source ≡ 0) × ((Contains (shown_by plan) source) → ⊥)
        passed_alone apart =
            ⊎_elim (λ (e : source ≡ n). absurd (apart e))
            (λ (passed : IsPassedOn plan.nodes board readers source n).
            let less = counted_passed apart source in
            let one = passed_read source passed in
            (omega (arith, less, one, is.counted.read source, passed.alone), λ shown. omega (arith, less, one, is.counted.shown source shown, passed.alone)))
            from_source

        counted_read : (i : ℕ) → sum_after i ≤ number_of_readers new_readers i
        counted_read i =
            ⊎_elim (λ (e : source ≡ n). omega (arith, counted_own e i, is.counted.read i))
            (λ (apart : source ≡ n → ⊥).
            ⊎_elim (λ (e : i ≡ source). let none : sum_after i ≡ 0 = ap sum_after e ∙ (passed_alone apart).0 in omega (arith, none))
            (λ (other : i ≡ source → ⊥). omega (arith, counted_passed apart i, off.fewer i, as_read i (inl other), is.counted.read i)) (cases_eq i source))
            (cases_eq source n)

        counted_shown : (i : ℕ) → Contains (shown_by plan) i → sum_after i < number_of_readers new_readers i
        counted_shown i shown =
            ⊎_elim (λ (e : source ≡ n). omega (arith, counted_own e i, is.counted.shown i shown))
            (λ (apart : source ≡ n → ⊥).
            ⊎_elim (λ (e : i ≡ source). absurd ((passed_alone apart).1 (subst (Contains (shown_by plan)) e shown)))
            (λ (other : i ≡ source → ⊥). omega (arith, counted_passed apart i, off.fewer i, as_read i (inl other), is.counted.shown i shown)) (cases_eq i source))
            (cases_eq source n)

        abbrev Rightly : ℕ → Option RowList → Type 0
        Rightly m o = IfSome o (IsOf plan.lists doc plan.nodes m)

        has_each : (m : ℕ) → m < length new → Rightly m (slice_index_or new m None)
        has_each m below =
            ⊎_elim (λ (e : m ≡ n). subst (λ (k : ℕ). Rightly k (slice_index_or new k None)) (sym e) (subst (Rightly n) (sym there) is_list))
            (λ (other : m ≡ n → ⊥).
            subst (Rightly m) (sym (others m other))
            (⊎_elim (λ (none : slice_index_or mid m None ≡ None). subst (Rightly m) (sym none) tt)
            (λ (same : slice_index_or mid m None ≡ slice_index_or board m None). subst (Rightly m) (sym same) (is.has.each m (omega (arith, below, long, off.long)))) (off.less m)))
            (cases_eq m n)

        needed_each : (m : ℕ) → IsSome (slice_index_or new m None) → IsNeededNode doc plan m
        needed_each m some =
            ⊎_elim (λ (e : m ≡ n). subst (IsNeededNode doc plan) (sym e) needed)
            (λ (other : m ≡ n → ⊥).
            let still : IsSome (slice_index_or mid m None) = subst IsSome (others m other) some in
            ⊎_elim (λ (none : slice_index_or mid m None ≡ None). absurd (true≢false (sym (subst IsSome none still))))
            (λ (same : slice_index_or mid m None ≡ slice_index_or board m None). is.needed m (subst IsSome same still)) (off.less m))
            (cases_eq m n)

        standing-next : IsStanding doc plan new new_readers
        standing-next = record {
          long = long ∙ (off.long ∙ is.long);
          readers_long = readers_long ∙ (off.readers_long ∙ is.readers_long);
          has = record { each = has_each };
          needed = needed_each;
          counted = record { read = counted_read; shown = counted_shown };
        }

        -- fewer nodes wait
        fewer-wait : number_waiting plan.nodes new new_readers < number_waiting plan.nodes board readers
        fewer-wait =
            let less : number_waiting plan.nodes new new_readers + 1 ≤ number_waiting plan.nodes board readers =
            total-without (λ k. 1) (waits new new_readers) (waits board readers) n (length plan.nodes) n_there still_waits waiting filled in
            omega (arith, less)

        -- what outputs show stays
        shown-kept : (m : ℕ) → Contains (shown_by plan) m → IsSome (slice_index_or board m None) → IsSome (slice_index_or new m None)
        shown-kept m shown some =
            ⊎_elim (λ (e : m ≡ n). subst (λ (k : ℕ). IsSome (slice_index_or new k None)) (sym e) (subst IsSome (sym there) refl))
            (λ (other : m ≡ n → ⊥).
            subst IsSome (sym (others m other))
            (⊎_elim
            (λ (none : slice_index_or mid m None ≡ None).
            let unread = off.unread m none some in
            let summed = reads_summed source m source-waits in
            absurd (omega (arith, unread, summed, off.fewer m, is.counted.shown m shown)))
            (λ (same : slice_index_or mid m None ≡ slice_index_or board m None). subst IsSome (sym same) some) (off.less m)))
            (cases_eq m n)

        has_rows : IsSome (slice_index_or new n None)
        has_rows = subst IsSome (sym there) refl

        pub evaluated-next : IsEvaluated doc plan n board readers new new_readers
        evaluated-next = record { stands = standing-next; there = has_rows; less = still_waits; fewer = fewer-wait; kept = shown-kept }

-- what the node asks for whose inputs a node needs
pub source-asked : (doc : Doc) (plan : Parts) (board : List (Option RowList)) (readers : List ℕ) → IsStanding doc plan board readers → (n : ℕ) → waits board readers n ≡ true → IsNeededNode doc plan n
    → (source : ℕ) → IsSourceOf plan.nodes board readers n source → source ≤ n → (node other : Node) → slice_get plan.nodes source ≡ Some node → slice_get plan.nodes n ≡ Some other
    → IsAmong source (left_input node) → IsAmong source (right_input node) → (i : ℕ) → IsAbsentInput board node i → IsAskedBy doc plan board readers n i
source-asked doc plan board readers is n waiting needed source from_source lower node other at at_n left right i missing =
    let asked : IsAskedBy doc plan board readers source i =
    missing-asked doc plan board readers is source node at (source-waits doc plan board readers is n other at_n waiting needed source from_source)
    (source-needed doc plan board readers is n other at_n waiting needed source from_source) i left right missing in
    let before = asked.lower in
    record { lower = omega (arith, before, lower); waiting = asked.waiting; needed = asked.needed }

-- what is left to do, where one node less waits
pub less-evaluated : (w v l t i : ℕ) → v < w → i < l → v * l + i < w * l + t
less-evaluated w v l t i fewer below = grind (arith, common_steps)
