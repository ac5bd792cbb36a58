-- Queries that are made of a list: what they mean, and what fits, by its elements.
use Rattle.std.proofs.Common.{◌≡◌, ◌∙◌, ℕ, suc, ◌+◌, ◌<◌, ◌++◌, List, [], ◌∷◌, map, length, drop, get_or, refl, sym, ap, ap₂, subst, arith, append_assoc}
use Rattle.std.specs.List.{All}
use Rattle.std.proofs.lemmas.List.Elements.{All-nil, All-cons}
use Rattle.std.proofs.Math.Seq.{drop-cons}
use Rattle.std.specs.declared.vec.Vec.{Vec}
use Rattle.std.specs.declared.alloc.Global.{Global}
use Rattle.span_token.specs.Documents.{Doc}
use Rattle.row_values.specs.Datums.{Datum}
use Rattle.row_values.specs.Rows.{RowList, product}
use Rattle.scalar_ops.specs.Tables.{Lists}
use Rattle.aql_typed.specs.declared.tree.TypedQuery.{TypedQuery}
use Rattle.aql_typed.specs.declared.tree.TypedQuery.TheVariants as query
use Rattle.aql_typed.specs.declared.tree.TypedSelect.{TypedSelect}
use Rattle.aql_typed.specs.declared.tree.TypedSource.{TypedSource}
use Rattle.aql_typed.specs.Trees.{as_sources, as_queries}
use Rattle.aql_typed.specs.Views.{select_clauses_of, query_of, source_of}
use Rattle.aql_typed.specs.Nodes.{select_view, union_view}
use Rattle.aql_typed.specs.Fitting.{Fits, SidesFit, SourceFits, AllSourcesFit, width_of, first_width}
use Rattle.aql_typed.specs.Meaning.{meaning_of, all_sides, combinations, source_rows, select_rows}
use Rattle.aql_meaning.specs.RowLists.{rows_in}
use Rattle.aql_meaning.specs.Sources.{products, source_list}

-- ---- what fits

module _ (widths : List ℕ) where
  all_sources_fit : (xs : List TypedSource) → AllSourcesFit widths (as_sources (map source_of xs)) → All (λ s. SourceFits widths (source_of s)) xs
  all_sources_fit [] fit = All-nil (λ s. SourceFits widths (source_of s))
  all_sources_fit (x ∷ xs) fit = All-cons (λ s. SourceFits widths (source_of s)) x xs fit.0 (all_sources_fit xs fit.1)

  pub sources_fit : (s : TypedSelect) → Fits widths (query_of (query.Select s)) → All (λ source. SourceFits widths (source_of source)) s.sources.items
  sources_fit s fits = let all = subst (Fits widths) (select_view s) fits in all_sources_fit s.sources.items all.0

  all_sides_fit : (w : ℕ) (qs : List TypedQuery) → SidesFit widths w (as_queries (map query_of qs)) → All (λ q. Fits widths (query_of q)) qs
  all_sides_fit w [] fit = All-nil (λ q. Fits widths (query_of q))
  all_sides_fit w (q ∷ qs) fit = All-cons (λ q. Fits widths (query_of q)) q qs fit.0 (all_sides_fit w qs fit.2)

  all_sides_wide : (w : ℕ) (qs : List TypedQuery) → SidesFit widths w (as_queries (map query_of qs)) → All (λ q. width_of widths (query_of q) ≡ w) qs
  all_sides_wide w [] fit = All-nil (λ q. width_of widths (query_of q) ≡ w)
  all_sides_wide w (q ∷ qs) fit = All-cons (λ q. width_of widths (query_of q) ≡ w) q qs fit.1 (all_sides_wide w qs fit.2)

  module _ (sides : Vec TypedQuery Global) (fits : Fits widths (query_of (query.Union sides))) where
    in_view : SidesFit widths (first_width widths (as_queries (map query_of sides.items))) (as_queries (map query_of sides.items))
    in_view = subst (Fits widths) (union_view sides) fits

    pub sides_fit : All (λ q. Fits widths (query_of q)) sides.items
    sides_fit = all_sides_fit (first_width widths (as_queries (map query_of sides.items))) sides.items in_view

    pub sides_wide : All (λ q. width_of widths (query_of q) ≡ first_width widths (as_queries (map query_of sides.items))) sides.items
    sides_wide = all_sides_wide (first_width widths (as_queries (map query_of sides.items))) sides.items in_view

  pub union_width : (sides : Vec TypedQuery Global) → width_of widths (query_of (query.Union sides)) ≡ first_width widths (as_queries (map query_of sides.items))
  union_width sides = ap (width_of widths) (union_view sides)

-- ---- what queries mean

module _ (lists : Lists) (doc : Doc) (below : List RowList) where
  combinations_are : (xs : List TypedSource)
      → combinations lists doc (rows_in below) (as_sources (map source_of xs)) ≡ products (map (λ list. list.rows) (map (λ s. source_list lists doc below (source_of s)) xs))
  combinations_are [] = refl
  combinations_are (x ∷ xs) = ap (product (source_rows lists doc (rows_in below) (source_of x))) (combinations_are xs)

  -- a selection, by the list of its sources
  pub selection_means : (s : TypedSelect) → meaning_of lists doc (rows_in below) (query_of (query.Select s))
      ≡ select_rows lists doc (select_clauses_of s.clauses) (products (map (λ list. list.rows) (map (λ source. source_list lists doc below (source_of source)) s.sources.items)))
  selection_means s = ap (meaning_of lists doc (rows_in below)) (select_view s) ∙ ap (select_rows lists doc (select_clauses_of s.clauses)) (combinations_are s.sources.items)

  -- a union, by the list of its sides
  pub union_means : (sides : Vec TypedQuery Global) → meaning_of lists doc (rows_in below) (query_of (query.Union sides)) ≡ all_sides lists doc (rows_in below) (as_queries (map query_of sides.items))
  union_means sides = ap (meaning_of lists doc (rows_in below)) (union_view sides)

  -- one side more
  pub side_more : (rest : List TypedQuery) (i : ℕ) (side : TypedQuery) (rows before after all : List (List Datum)) → i < length rest → side ≡ get_or rest i side
      → rows ≡ meaning_of lists doc (rows_in below) (query_of side) → after ≡ before ++ rows
      → before ++ all_sides lists doc (rows_in below) (as_queries (map query_of (drop i rest))) ≡ all
      → after ++ all_sides lists doc (rows_in below) (as_queries (map query_of (drop (i + 1) rest))) ≡ all
  side_more rest i side rows before after all there at means put so_far =
      let left : List TypedQuery → List (List Datum) = λ qs. all_sides lists doc (rows_in below) (as_queries (map query_of qs)) in
      let one : i + 1 ≡ suc i = omega arith in
      ap₂ (λ (a b : List (List Datum)). a ++ b) put (ap (λ (k : ℕ). left (drop k rest)) one)
      ∙ (append_assoc before rows (left (drop (suc i) rest))
      ∙ (ap (λ (r : List (List Datum)). before ++ (r ++ left (drop (suc i) rest))) means
      ∙ (ap (λ (qs : List TypedQuery). before ++ left qs) (sym (drop-cons rest i side there ∙ ap (λ (q : TypedQuery). q ∷ drop (suc i) rest) (sym at))) ∙ so_far)))
