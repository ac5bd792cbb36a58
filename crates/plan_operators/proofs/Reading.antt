-- Which nodes read a node, and which wait.
use Rattle.std.proofs.Common.{◌≡◌, ◌∙◌, ◌+◌, ◌<◌, ◌≤◌, ◌⊎◌, ◌==◌, ℕ, zero, suc, Bool, true, false, cond, List, Option, Some, None, length, refl, sym, ap, arith, ⊎_elim, inl, inr}
use Rattle.std.specs.Prelude.{slice_get, slice_index_or, IsSome}
use Rattle.std.proofs.lemmas.Bool.{cases_lt, eq-eqb, ne_eqb, false≢true}
use Rattle.std.proofs.lemmas.List.{get_or_past}
use Rattle.std.proofs.lemmas.Option.{none-some, same_Some, slice_get-get_or}
use Rattle.row_values.specs.Rows.{RowList}
use Rattle.algebra.specs.declared.node.Node.{Node}
use Rattle.algebra.specs.Inputs.{left_input, right_input, IsAmong}
use Rattle.plan_operators.specs.Readers.{does_wait, number_of_readers, reads, reads_by, reads_through}

-- ---- how often an input is a node

pub through-itself : (o : Option ℕ) (i : ℕ) → o ≡ Some i → reads_through o i ≡ 1
through-itself None i e = absurd (none-some i e)
through-itself (Some k) i e = ap (λ (b : Bool). cond b 1 0) (eq-eqb k i (same_Some k i e))

pub through-other : (o : Option ℕ) (i : ℕ) → (o ≡ Some i → ⊥) → reads_through o i ≡ 0
through-other None i apart = refl
through-other (Some k) i apart = ap (λ (b : Bool). cond b 1 0) (ne_eqb k i (λ e. apart (ap (λ (n : ℕ). Some n) e)))

once : (b : Bool) → cond b 1 0 ≤ 1
once true = omega arith
once false = omega arith

pub through-most : (o : Option ℕ) (i : ℕ) → reads_through o i ≤ 1
through-most None i = omega arith
through-most (Some k) i = once (k == i)

pub through-above : (o : Option ℕ) (n i : ℕ) → IsAmong n o → n ≤ i → reads_through o i ≡ 0
through-above None n i among above = refl
through-above (Some k) n i among above = through-other (Some k) i (λ e. let same = same_Some k i e in omega (arith, among, above, same))

-- ---- how often a node reads another one

-- a node at its number
pub node-at : (nodes : List Node) (n : ℕ) (node : Node) → n < length nodes → node ≡ slice_index_or nodes n node → slice_get nodes n ≡ Some node
node-at nodes n node below is = slice_get-get_or nodes n node below ∙ ap (λ (x : Node). Some x) (sym is)

-- an input that is among fewer nodes
pub among-more : (o : Option ℕ) (n m : ℕ) → IsAmong n o → n ≤ m → IsAmong m o
among-more None n m among fewer = tt
among-more (Some i) n m among fewer = omega (arith, among, fewer)

module _ (nodes : List Node) (k : ℕ) (node : Node) (at : slice_get nodes k ≡ Some node) (i : ℕ) where
  pub reads-both : reads_by nodes k i ≡ reads_through (left_input node) i + reads_through (right_input node) i
  reads-both = ap (λ (o : Option Node). reads o i) at

  pub reads-left : left_input node ≡ Some i → 0 < reads_by nodes k i
  reads-left e = omega (arith, reads-both, through-itself (left_input node) i e)

  pub reads-right : right_input node ≡ Some i → 0 < reads_by nodes k i
  reads-right e = omega (arith, reads-both, through-itself (right_input node) i e)

  pub reads-most : reads_by nodes k i ≤ 2
  reads-most = omega (arith, reads-both, through-most (left_input node) i, through-most (right_input node) i)

  pub reads-above : IsAmong k (left_input node) → IsAmong k (right_input node) → k ≤ i → reads_by nodes k i ≡ 0
  reads-above left right above = omega (arith, reads-both, through-above (left_input node) k i left above, through-above (right_input node) k i right above)

-- ---- which wait

pub wait-parts : (o : Option RowList) (number : ℕ) → does_wait o number ≡ true → (o ≡ None) × (0 < number)
wait-parts None zero e = absurd (false≢true e)
wait-parts None (suc number) e = (refl, omega arith)
wait-parts (Some list) number e = absurd (false≢true e)

pub wait-from : (o : Option RowList) (number : ℕ) → o ≡ None → 0 < number → does_wait o number ≡ true
wait-from None zero e some = absurd (omega (arith, some))
wait-from None (suc number) e some = refl
wait-from (Some list) number e some = absurd (none-some list (sym e))

pub wait-none : (o : Option RowList) (number : ℕ) → number ≡ 0 → does_wait o number ≡ false
wait-none None zero e = refl
wait-none None (suc number) e = absurd (omega (arith, e))
wait-none (Some list) number e = refl

pub wait-some : (o : Option RowList) (number : ℕ) (list : RowList) → o ≡ Some list → does_wait o number ≡ false
wait-some None number list e = absurd (none-some list e)
wait-some (Some other) number list e = refl

pub read-there : (readers : List ℕ) (n : ℕ) → 0 < number_of_readers readers n → n < length readers
read-there readers n read =
    ⊎_elim (λ (below : n < length readers). below)
    (λ (past : length readers ≤ n). let none : number_of_readers readers n ≡ 0 = get_or_past readers n 0 past in absurd (omega (arith, none, read))) (cases_lt n (length readers))

pub some-or-none : (o : Option RowList) → IsSome o ⊎ (o ≡ None)
some-or-none None = inr refl
some-or-none (Some list) = inl refl
