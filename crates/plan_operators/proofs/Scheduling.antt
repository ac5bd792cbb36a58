-- How the readers of a plan's nodes are counted, from the last one on, and which nodes are read.
use Rattle.std.proofs.Common.{◌≡◌, ◌∙◌, ◌+◌, ◌<◌, ◌≤◌, inl, inr, ⊎_elim, ℕ, true, List, Option, Some, None, length, map, refl, arith, All, ap, subst}
use Rattle.std.specs.Prelude.{slice_get, slice_index_or, nat_le}
use Rattle.std.proofs.lemmas.Bool.{and_from, and_parts, cases_lt, le-leb, leb-true}
use Rattle.std.proofs.lemmas.List.Elements.{All-contains}
use Rattle.std.proofs.lemmas.Option.{slice_get_within}
use Rattle.span_token.specs.Documents.{Doc}
use Rattle.scalar_ops.specs.Tables.{Lists}
use Rattle.row_values.specs.Rows.{RowList}
use Rattle.algebra.specs.declared.node.Node.{Node}
use Rattle.algebra.specs.declared.output.PlanOut.{PlanOut}
use Rattle.algebra.specs.Needed as needs
use Rattle.algebra.specs.Needed.{Asks, IsNeeded}
use Rattle.algebra.specs.Plans.{Parts, AreOutputs}
use Rattle.plan_operators.specs.Readers.{does_wait, number_of_readers, reads_by, total, waits, is_read_from, AreCounted, AreCountedFrom, IsScheduled}
use Rattle.plan_operators.proofs.Boards.{outputs-there}
use Rattle.plan_operators.proofs.Reading.{reads-left, reads-right, wait-from, wait-parts}
use Rattle.plan_operators.proofs.Totals.{total-fewer, total-more, total-none, total-one}

-- a node that is read, by its number
module _ (readers : List ℕ) where
  read-parts : (first n : ℕ) → is_read_from first readers n ≡ true → (first ≤ n) × (0 < number_of_readers readers n)
  read-parts first n e =
      let parts = and_parts (nat_le first n) (does_wait None (number_of_readers readers n)) e in
      (leb-true first n parts.0, (wait-parts None (number_of_readers readers n) parts.1).1)

  read-from : (first n : ℕ) → first ≤ n → 0 < number_of_readers readers n → is_read_from first readers n ≡ true
  read-from first n above read =
      and_from (nat_le first n) (does_wait None (number_of_readers readers n)) (le-leb first n above) (wait-from None (number_of_readers readers n) refl read)

module _ (nodes : List Node) (outs : List ℕ) where
  -- no node stands behind all others
  pub counted-none : (readers : List ℕ) → All (λ (n : ℕ). number_of_readers readers n ≡ 1) outs → AreCountedFrom (length nodes) nodes outs readers
  counted-none readers shown =
      let none : (i : ℕ) → total (is_read_from (length nodes) readers) (λ k. reads_by nodes k i) (length nodes) ≡ 0 = λ i.
      total-none (λ k. reads_by nodes k i) (is_read_from (length nodes) readers) (length nodes)
      (λ k below read. let parts = read-parts readers (length nodes) k read in omega (arith, below, parts.0)) in
      record {
        read = λ i. omega (arith, none i);
        shown = λ i listed. omega (arith, none i, All-contains (λ (n : ℕ). number_of_readers readers n ≡ 1) outs i shown listed);
      }

  module _ (n : ℕ) (old : List ℕ) (was : AreCountedFrom (n + 1) nodes outs old) where
    -- a node that nobody reads
    pub counted-unread : number_of_readers old n ≡ 0 → AreCountedFrom n nodes outs old
    counted-unread none =
        let same : (i : ℕ) → total (is_read_from n old) (λ k. reads_by nodes k i) (length nodes) ≤ total (is_read_from (n + 1) old) (λ k. reads_by nodes k i) (length nodes) = λ i.
        total-fewer (λ k. reads_by nodes k i) (is_read_from n old) (is_read_from (n + 1) old) (length nodes)
        (λ k below read.
        let parts = read-parts old n k read in
        ⊎_elim (λ (later : n < k). read-from old (n + 1) k (omega (arith, later)) parts.1)
        (λ (first : k ≤ n). let is : k ≡ n = omega (arith, first, parts.0) in let number = ap (number_of_readers old) is in absurd (omega (arith, number, none, parts.1))) (cases_lt n k)) in
        record {
          read = λ i. omega (arith, same i, was.read i);
          shown = λ i listed. omega (arith, same i, was.shown i listed);
        }

    -- a node whose inputs are counted
    pub counted-read : (new : List ℕ) → ((k : ℕ) → number_of_readers new k ≡ number_of_readers old k + reads_by nodes n k) → ((k : ℕ) → n ≤ k → reads_by nodes n k ≡ 0) → AreCountedFrom n nodes outs new
    counted-read new more below =
        let grown : (i : ℕ) → total (is_read_from n new) (λ k. reads_by nodes k i) (length nodes) ≤ total (is_read_from (n + 1) old) (λ k. reads_by nodes k i) (length nodes) + reads_by nodes n i = λ i.
        total-more (λ k. reads_by nodes k i) (is_read_from (n + 1) old) (is_read_from n new) n (length nodes)
        (λ k read.
        let parts = read-parts new n k read in
        ⊎_elim
        (λ (later : n < k).
        let none : reads_by nodes n k ≡ 0 = below k parts.0 in
        inl (read-from old (n + 1) k (omega (arith, later)) (let number = more k in omega (arith, none, number, parts.1))))
        (λ (first : k ≤ n). inr (omega (arith, first, parts.0))) (cases_lt n k)) in
        record {
          read = λ i. omega (arith, grown i, more i, was.read i);
          shown = λ i listed. omega (arith, grown i, more i, was.shown i listed);
        }

  module _ (readers : List ℕ) (counted : AreCountedFrom 0 nodes outs readers) where
    -- on a board without rows those nodes wait that are read
    pub counted-empty : (board : List (Option RowList)) → ((n : ℕ) → slice_index_or board n None ≡ None) → AreCounted nodes outs (waits board readers) readers
    counted-empty board none =
        let same : (i : ℕ) → total (waits board readers) (λ k. reads_by nodes k i) (length nodes) ≤ total (is_read_from 0 readers) (λ k. reads_by nodes k i) (length nodes) = λ i.
        total-fewer (λ k. reads_by nodes k i) (waits board readers) (is_read_from 0 readers) (length nodes)
        (λ k below read. read-from readers 0 k (omega arith) (wait-parts (slice_index_or board k None) (number_of_readers readers k) read).1) in
        record {
          read = λ i. omega (arith, same i, counted.read i);
          shown = λ i listed. omega (arith, same i, counted.shown i listed);
        }

    -- what a node asks for that is read is read
    asked-read : (lists : Lists) (doc : Doc) (k i : ℕ) (node : Node) → slice_get nodes k ≡ Some node → Asks lists doc nodes node i → 0 < number_of_readers readers k → 0 < number_of_readers readers i
    asked-read lists doc k i node at asks read =
        let one : 0 < reads_by nodes k i = elim asks [
          | inl left ↦ reads-left nodes k node at i left
          | inr right ↦ reads-right nodes k node at i right.0
        ] in
        let sum : reads_by nodes k i ≤ total (is_read_from 0 readers) (λ m. reads_by nodes m i) (length nodes) =
        total-one (λ m. reads_by nodes m i) (is_read_from 0 readers) k (length nodes) (slice_get_within nodes k node at) (read-from readers 0 k (omega arith) read) in
        omega (arith, one, sum, counted.read i)

    -- so what is needed is read
    pub needed-read : (lists : Lists) (doc : Doc) (n : ℕ) → IsNeeded lists doc nodes outs n → 0 < number_of_readers readers n
    needed-read lists doc _ (needs.output n listed) = omega (arith, counted.shown n listed)
    needed-read lists doc _ (needs.input k n node at asks needed) = asked-read lists doc k n node at asks (needed-read lists doc k needed)

-- the readers that are counted of these nodes and outputs are those of the plan
pub scheduled : (plan : Parts) (nodes : List Node) (outs : List PlanOut) (readers : List ℕ) → nodes ≡ plan.nodes → outs ≡ plan.outputs → AreOutputs plan.nodes plan.outputs → length readers ≡ length nodes
    → AreCountedFrom 0 nodes (map (λ (out : PlanOut). out.node) outs) readers → IsScheduled plan readers
scheduled plan nodes outs readers same_nodes same_outs valid long counted = record {
  long = long ∙ ap (λ (ns : List Node). length ns) same_nodes;
  there = outputs-there plan.nodes plan.outputs valid;
  counted = subst (λ (ns : List Node). AreCountedFrom 0 ns (map (λ (out : PlanOut). out.node) plan.outputs) readers) same_nodes
      (subst (λ (os : List PlanOut). AreCountedFrom 0 nodes (map (λ (out : PlanOut). out.node) os) readers) same_outs counted);
}
