-- How often the nodes of a plan are read, and which of them wait for their rows.
use Rattle.std.specs.Prelude.{ℕ, zero, suc, ◌≡◌, ◌+◌, ◌<◌, ◌≤◌, ◌==◌, ◌&&◌, nat_le, Bool, true, false, cond, List, Option, Some, None, All, Contains, length, map, slice_get, slice_index_or}
use Rattle.row_values.specs.Rows.{RowList}
use Rattle.algebra.specs.declared.node.Node.{Node}
use Rattle.algebra.specs.Inputs.{left_input, right_input}
use Rattle.algebra.specs.Plans.{Parts}

-- how often an input reads node i: once where it is that node, and else not at all
abbrev pub reads_through : Option ℕ → ℕ → ℕ
reads_through None i = 0
reads_through (Some k) i = cond (k == i) 1 0

-- how often a node, where there is one, reads node i by its two inputs
abbrev pub reads : Option Node → ℕ → ℕ
reads None i = 0
reads (Some node) i = reads_through (left_input node) i + reads_through (right_input node) i

-- how often node k of a plan reads node i
abbrev pub reads_by : List Node → ℕ → ℕ → ℕ
reads_by nodes k i = reads (slice_get nodes k) i

-- the sum of what each chosen number below a bound is worth
abbrev pub total : (ℕ → Bool) → (ℕ → ℕ) → ℕ → ℕ
total chosen worth zero = 0
total chosen worth (suc m) = total chosen worth m + cond (chosen m) (worth m) 0

-- the number of readers that is noted of node n; 0 where there is no such node
abbrev pub number_of_readers : List ℕ → ℕ → ℕ
number_of_readers readers n = slice_index_or readers n 0

-- a node waits: its entry on the board has no rows, and its number of readers is greater than 0
abbrev pub does_wait : Option RowList → ℕ → Bool
does_wait (Some list) number = false
does_wait None zero = false
does_wait None (suc number) = true

-- node n waits: it has no rows on the board, and a reader of it is noted
abbrev pub waits : List (Option RowList) → List ℕ → ℕ → Bool
waits board readers n = does_wait (slice_index_or board n None) (number_of_readers readers n)

-- how many nodes of a plan wait
abbrev pub number_waiting : List Node → List (Option RowList) → List ℕ → ℕ
number_waiting nodes board readers = total (waits board readers) (λ k. 1) (length nodes)

-- of each node at least as many readers are noted as the chosen nodes read it, and one more of each of `outs`
pub record AreCounted (nodes : List Node) (outs : List ℕ) (chosen : ℕ → Bool) (readers : List ℕ) : Type 0 where
  pub read : (i : ℕ) → total chosen (λ k. reads_by nodes k i) (length nodes) ≤ number_of_readers readers i
  pub shown : (i : ℕ) → Contains outs i → total chosen (λ k. reads_by nodes k i) (length nodes) < number_of_readers readers i

-- node n has a number from `first` on, and a reader of it is noted
abbrev pub is_read_from : ℕ → List ℕ → ℕ → Bool
is_read_from first readers n = nat_le first n && does_wait None (number_of_readers readers n)

-- of each node at least as many readers are noted as nodes with readers, from `first` on, read it, and one more in `outs`
abbrev pub AreCountedFrom : ℕ → List Node → List ℕ → List ℕ → Type 0
AreCountedFrom first nodes outs readers = AreCounted nodes outs (is_read_from first readers) readers

-- of each node of a plan at least as many readers are noted as nodes with readers read it, and one more for an output
pub record IsScheduled (plan : Parts) (readers : List ℕ) : Type 0 where
  pub long : length readers ≡ length plan.nodes
  pub there : All (λ out. out.node < length plan.nodes) plan.outputs
  pub counted : AreCountedFrom 0 plan.nodes (map (λ out. out.node) plan.outputs) readers
