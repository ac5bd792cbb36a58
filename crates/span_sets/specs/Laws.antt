-- For the crates above: what relations and functions say of each other, and that both go by bags alone.
use Rattle.std.proofs.Common.{◌≡◌, ◌↔◌, ℕ, ℤ, Bool, true, List, ◌++◌, length, map, All, Option}
use Rattle.std.specs.List.{zip}
use Rattle.std.specs.List.Sorted.{IsStable}
use Rattle.aql_base.specs.Bags.{SameBag}
use Rattle.row_values.specs.Datums.{Datum}
use Rattle.row_values.specs.Rows.{RowList, row_cmp}
use Rattle.span_token.specs.Documents.{Doc}
use Rattle.span_token.specs.Extents.{Extent}
use Rattle.span_sets.specs.Blocks.{IsNeighbour, AreBlocks, is_neighbour, blocks_of}
use Rattle.span_sets.specs.Consolidation.{in_row_order, IsConsolidated}
use Rattle.span_sets.specs.KeptRows.{consolidated_by, consolidated}
use Rattle.span_sets.specs.declared.policy.Policy.{Policy}
use Rattle.span_sets.specs.LawProofs.BlockEnds as ends
use Rattle.span_sets.specs.LawProofs.BlockLaws as relations
use Rattle.span_sets.specs.LawProofs.BlockTests as functions
use Rattle.span_sets.specs.LawProofs.ConsolidationLaws as laws

-- the rows that stay by a list of targets are an answer
pub IsConsolidated-consolidated : (policy : Policy) (rows : RowList) (targets : List (Option Extent)) → IsConsolidated policy rows targets (record { width = rows.width; rows = consolidated_by policy rows.rows targets })
IsConsolidated-consolidated = laws.IsConsolidated-consolidated

-- and each answer has them
pub IsConsolidated-only : (policy : Policy) (rows : RowList) (targets : List (Option Extent)) (out : RowList) → IsConsolidated policy rows targets out → out.rows ≡ consolidated_by policy rows.rows targets
IsConsolidated-only = laws.IsConsolidated-only

-- where targets are told by their rows, rows of one bag have the same answers
pub IsConsolidated-SameBag : (policy : Policy) (target : List Datum → Option Extent) (rows rows' out : RowList) → SameBag rows.rows rows'.rows → rows.width ≡ rows'.width → IsConsolidated policy rows (map target rows.rows) out → IsConsolidated policy rows' (map target rows'.rows) out
IsConsolidated-SameBag = laws.IsConsolidated-SameBag

-- and one list
pub consolidated-SameBag : (policy : Policy) (target : List Datum → Option Extent) (rows rows' : List (List Datum)) → SameBag rows rows' → consolidated policy target rows ≡ consolidated policy target rows'
consolidated-SameBag = laws.consolidated-SameBag

-- the rows that stay, with those that don't, are the given rows
pub consolidated-among : (policy : Policy) (rows : List (List Datum)) (targets : List (Option Extent)) → length targets ≡ length rows → (gone : List (List Datum)) × SameBag (consolidated_by policy rows targets ++ gone) rows
consolidated-among = laws.consolidated-among

-- so what holds of each row holds of each that stays
pub All-consolidated : (P : List Datum → Type 0) (policy : Policy) (target : List Datum → Option Extent) (rows : List (List Datum)) → All P rows → All P (consolidated policy target rows)
All-consolidated = laws.All-consolidated

-- equal rows keep their order
pub in_row_order-stable : (rows : List (List Datum)) (targets : List (Option Extent)) → IsStable (λ (p q : List Datum × Option Extent). row_cmp p.0 q.0) (zip rows targets) (in_row_order rows targets)
in_row_order-stable = laws.in_row_order-stable

-- whether a gap is in a range is decided by a test
pub is_neighbour-decides : (doc : Doc) (tokens : Bool) (low high : ℤ) (a b : Extent) → (is_neighbour doc tokens low high a b ≡ true) ↔ IsNeighbour doc tokens low high a b
is_neighbour-decides = functions.is_neighbour-decides

-- rows of one bag have the same blocks
pub AreBlocks-SameBag : (IsNext : Extent → Extent → Type 0) (low high : ℕ) (spans spans' blocks : List Extent) → SameBag spans spans' → AreBlocks IsNext low high spans blocks → AreBlocks IsNext low high spans' blocks
AreBlocks-SameBag = relations.AreBlocks-SameBag

module _ (is_next : Extent → Extent → Bool) (IsNext : Extent → Extent → Type 0) (decides : (a b : Extent) → (is_next a b ≡ true) ↔ IsNext a b) (low high : ℕ) where
  -- the function gives the blocks
  pub AreBlocks-blocks_of : (spans : List Extent) → AreBlocks IsNext low high spans (blocks_of is_next low high spans)
  AreBlocks-blocks_of = functions.AreBlocks-blocks_of is_next IsNext decides low high

  -- and each answer is it
  pub AreBlocks-only : (spans blocks : List Extent) → AreBlocks IsNext low high spans blocks → blocks ≡ blocks_of is_next low high spans
  AreBlocks-only = functions.AreBlocks-only is_next IsNext decides low high

  -- one list for each bag of spans
  pub blocks_of-SameBag : (spans spans' : List Extent) → SameBag spans spans' → blocks_of is_next low high spans ≡ blocks_of is_next low high spans'
  blocks_of-SameBag = functions.blocks_of-SameBag is_next IsNext decides low high

-- each block ends where one of the spans ends; so blocks of spans of a document lie in it
pub ends-blocks_of : (P : ℕ → Type 0) (is_next : Extent → Extent → Bool) (low high : ℕ) (spans : List Extent) → All (λ (e : Extent). P e.end) spans → All (λ (e : Extent). P e.end) (blocks_of is_next low high spans)
ends-blocks_of P is_next low high = ends.ends-blocks_of P is_next low high
