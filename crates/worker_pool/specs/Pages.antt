-- What is known of the nodes of a plan on one document, and which node is taken up next.
use Rattle.std.specs.Prelude.{ℕ, ◌≡◌, ◌<◌, not, is_some, List, Option, Some, None, All, IsSome, count_by, length, option_map, replicate, slice_get, slice_index_or}
use Rattle.span_token.specs.Documents.{Doc}
use Rattle.row_values.specs.Rows.{RowList}
use Rattle.algebra.specs.declared.node.Node.{Node}
use Rattle.algebra.specs.declared.output.PlanOut.{PlanOut}
use Rattle.algebra.specs.Items.{item_at}
use Rattle.algebra.specs.Plans.{Parts}
use Rattle.run_core.specs.Wanted.{AsksFor, IsWanted, IsReady}
use Rattle.run_tables.specs.Items.{ItemRows, IsResult}

-- a page has for each node its result, where it is known; on this one nothing is known, of so many nodes
abbrev pub empty_page : ℕ → List (Option ItemRows)
empty_page count = replicate count None

-- what is known of a node
abbrev pub known_at : List (Option ItemRows) → ℕ → Option ItemRows
known_at known n = slice_index_or known n None

-- and of an input, where there is one
abbrev pub known_of : List (Option ItemRows) → Option ℕ → Option ItemRows
known_of known None = None
known_of known (Some i) = known_at known i

-- the rows of a node, where they are known
abbrev pub rows_on : List (Option ItemRows) → ℕ → Option RowList
rows_on known n = option_map (λ found. found.rows) (known_at known n)

-- nothing is known
abbrev pub IsBlank : List (Option ItemRows) → Type 0
IsBlank known = (n : ℕ) → known_at known n ≡ None

-- what was known still is
abbrev pub KnowsMore : List (Option ItemRows) → List (Option ItemRows) → Type 0
KnowsMore old new = (n : ℕ) → IsSome (known_at old n) → IsSome (known_at new n)

-- the node of each of these outputs is known
abbrev pub AreKnown : List (Option ItemRows) → List PlanOut → Type 0
AreKnown known outs = All (λ (out : PlanOut). IsSome (known_at known out.node)) outs

-- how many nodes aren't known
abbrev pub unknown_count : List (Option ItemRows) → ℕ
unknown_count known = count_by (λ found. not (is_some found)) known

-- the result is that of node n on document d
pub record IsResultOf (plan : Parts) (docs : List Doc) (d n : ℕ) (found : ItemRows) : Type 0 where
  pub item : found.item ≡ item_at plan d n
  pub result : IsResult plan docs found.item found.rows

-- a page of document d: each known result is that of its node
pub record IsPage (plan : Parts) (docs : List Doc) (d : ℕ) (known : List (Option ItemRows)) : Type 0 where
  pub sized : length known ≡ length plan.nodes
  pub there : d < length docs
  pub each : (n : ℕ) (found : ItemRows) → known_at known n ≡ Some found → IsResultOf plan docs d n found

-- nodes that wait for others are wanted
abbrev pub AreWaiting : Parts → List (Option ItemRows) → List ℕ → Type 0
AreWaiting plan known path = All (IsWanted plan (rows_on known)) path

-- all that node n asks for is known
abbrev pub IsReadyOn : Parts → List (Option ItemRows) → ℕ → Type 0
IsReadyOn plan known n = (node : Node) → slice_get plan.nodes n ≡ Some node → IsReady plan (rows_on known) node

-- node n asks for node i, which isn't known
pub record IsMissing (plan : Parts) (known : List (Option ItemRows)) (n i : ℕ) : Type 0 where
  pub lower : i < n
  pub unseen : known_at known i ≡ None
  pub asked : (node : Node) → slice_get plan.nodes n ≡ Some node → AsksFor plan (rows_on known) node i

-- node n may be taken up: it is wanted and not known, and all that it asks for is known
pub record IsNext (plan : Parts) (known : List (Option ItemRows)) (n : ℕ) : Type 0 where
  pub there : n < length plan.nodes
  pub wanted : IsWanted plan (rows_on known) n
  pub unseen : known_at known n ≡ None
  pub ready : IsReadyOn plan known n

-- the input, where there is one, is known
abbrev pub IsSeen : List (Option ItemRows) → Option ℕ → Type 0
IsSeen known input = (i : ℕ) → input ≡ Some i → IsSome (known_at known i)

-- a node that is wanted whatever is known
abbrev pub IsAlwaysWanted : Parts → ℕ → Type 0
IsAlwaysWanted plan n = (known : List (Option ItemRows)) → IsWanted plan (rows_on known) n
