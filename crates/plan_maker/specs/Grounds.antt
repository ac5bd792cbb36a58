-- What is known of the nodes that stand for queries, and of the conditions that wait for their sources.
use Rattle.std.specs.Prelude.{ℕ, ◌≡◌, ◌<◌, ◌≤◌, List, [], map, length, All, slice_index_or, Option, None, Some}
use denote.Ref.{Bor}
use Rattle.span_token.specs.Documents.{Doc}
use Rattle.scalar_ops.specs.declared.expr.Expr.{Expr}
use Rattle.scalar_ops.specs.Expressions.{Term, ReadsBelow}
use Rattle.scalar_ops.specs.SideLaws.{left_conditions, later_conditions}
use Rattle.scalar_ops.specs.Tables.{Lists}
use Rattle.scalar_ops.specs.Views.{term_of}
use Rattle.aql_typed.specs.declared.tree.Output.{Output}
use Rattle.aql_typed.specs.declared.tree.TypedQuery.{TypedQuery}
use Rattle.aql_typed.specs.declared.tree.TypedSource.{TypedSource}
use Rattle.aql_typed.specs.declared.tree.TypedView.{TypedView}
use Rattle.aql_typed.specs.Fitting.{FitsProjection, FitsExtraction, FitsSelect, projected_terms, TargetReads, SelectReads, searched_column, ExtractReads, first_width, all_widths, Fits, SidesFit, SourceFits, AllSourcesFit}
use Rattle.aql_typed.specs.Meaning.{Rows, document_rows, selected}
use Rattle.aql_typed.specs.Programs.{names_of}
use Rattle.aql_typed.specs.Trees.{Consolidation, Projection, SelectClauses, Extraction, regex, token_regex, dict, blocks, ExtractClauses, Query, Queries, Source, Sources, as_queries, as_sources}
use Rattle.aql_typed.specs.Views.{query_of, source_of}
use Rattle.algebra.specs.declared.node.Node.{Node}
use Rattle.algebra.specs.declared.output.PlanOut.{PlanOut}
use Rattle.algebra.specs.declared.shape.Shape.{Shape}
use Rattle.algebra.specs.Growth.{Has}
use Rattle.algebra.specs.Shapes.{IsOpen}
use Rattle.algebra.specs.WidthLaws.{AreWide}
use Rattle.plan_maker.specs.declared.below.Below.{Below}

-- node n may be read, has so many columns, and on each document these rows, as a bag
pub record Gives (nodes : List Node) (n width : ℕ) (rows : Lists → Doc → Rows) : Type 0 where
  pub shape : Shape
  pub readable : IsOpen shape
  pub wide : shape.width ≡ width
  pub has : Has nodes n shape rows

-- node n may be read by what wants this of its width
pub record CanRead (nodes : List Node) (n : ℕ) (Wants : ℕ → Type 0) : Type 0 where
  pub width : ℕ
  pub rows : Lists → Doc → Rows
  pub gives : Gives nodes n width rows
  pub wanted : Wants width

-- what nodes want of the width of the rows that they read: nothing, or that every column is there that is read by
-- conditions, by a target, by the columns and clauses of a selection, by keys, or by an extraction
abbrev pub Anything : ℕ → Type 0
Anything width = Unit {0}

abbrev pub AllRead : List Term → ℕ → Type 0
AllRead conds width = All (ReadsBelow width) conds

abbrev pub TargetFits : Option Consolidation → ℕ → Type 0
TargetFits consolidate width = TargetReads width consolidate

abbrev pub ColumnsFit : Projection → ℕ → Type 0
ColumnsFit projection width = All (ReadsBelow width) (projected_terms projection) × FitsProjection projection

abbrev pub ClausesFit : SelectClauses → ℕ → Type 0
ClausesFit clauses width = SelectReads width clauses × FitsSelect clauses

abbrev pub KeysFit : List ℕ → ℕ → Type 0
KeysFit keys width = All (λ key. key < width) keys

abbrev pub ExtractFits : ExtractClauses → ℕ → Type 0
ExtractFits clauses width = FitsExtraction clauses clauses.extraction × ExtractReads width clauses

-- what is searched in one row after another: no blocks, and a run of tokens has one token or more
abbrev pub IsSearched : Extraction → Type 0
IsSearched (regex column p groups) = Unit {0}
IsSearched (token_regex column low high p groups) = 1 ≤ low
IsSearched (dict column d) = Unit {0}
IsSearched (blocks column low high from to tokens) = ⊥

abbrev pub MatchesFit : ExtractClauses → ℕ → Type 0
MatchesFit clauses width = IsSearched clauses.extraction × ExtractReads width clauses

abbrev pub SearchFits : Extraction → ℕ → Type 0
SearchFits extraction width = IsSearched extraction × (searched_column extraction < width)

-- the nodes of the document and of the views below, where the views have these widths and mean this
pub record IsBase (nodes : List Node) (below : Below) (widths : List ℕ) (means : Lists → Doc → List Rows) : Type 0 where
  pub document : Gives nodes below.document 1 (λ lists doc. document_rows lists doc)
  pub each : (i : ℕ) → i < length widths → Gives nodes (slice_index_or below.views.items i 0) (slice_index_or widths i 0) (λ lists doc. slice_index_or (means lists doc) i [])
  pub long : length below.views.items ≡ length widths
  pub counted : (lists : Lists) (doc : Doc) → length (means lists doc) ≡ length widths

-- what wants this of the widths of the views below may be lowered
pub record IsWell (nodes : List Node) (below : Below) (Wants : List ℕ → Type 0) : Type 0 where
  pub widths : List ℕ
  pub means : Lists → Doc → List Rows
  pub base : IsBase nodes below widths means
  pub wanted : Wants widths

-- what queries, sources and sides want of the widths of the views below
abbrev pub QueryFits : Query → List ℕ → Type 0
QueryFits query widths = Fits widths query

abbrev pub SourceThere : Source → List ℕ → Type 0
SourceThere source widths = SourceFits widths source

abbrev pub SidesThere : Queries → List ℕ → Type 0
SidesThere sides widths = SidesFit widths (first_width widths sides) sides

-- sides and sources of the code
abbrev pub sides_seen : List TypedQuery → Queries
sides_seen sides = as_queries (map query_of sides)

abbrev pub sources_seen : List TypedSource → Sources
sources_seen sources = as_sources (map source_of sources)

-- conditions that are lent, as terms
abbrev pub terms_lent : List (Bor Expr) → List Term
terms_lent = map (λ cond. term_of cond.now)

-- the sources are there, and the conditions read their columns
pub record JoinFits (sources : Sources) (conds : List Term) (widths : List ℕ) : Type 0 where
  pub there : AllSourcesFit widths sources
  pub reads : All (ReadsBelow (all_widths widths sources)) conds

-- node n has those of the rows on which the conditions hold that read their columns alone; the others are left
pub record Narrows (nodes : List Node) (n width : ℕ) (rows : Lists → Doc → Rows) (conds rest : List Term) : Type 0 where
  pub gives : Gives nodes n width (λ lists doc. selected lists doc (left_conditions width conds) (rows lists doc))
  pub left : rest ≡ later_conditions width conds
  pub wide : (lists : Lists) (doc : Doc) → AreWide width (rows lists doc)

-- the node that shows a view, or the document
abbrev pub node_shown : Below → Option ℕ → ℕ
node_shown below None = below.document
node_shown below (Some n) = slice_index_or below.views.items n 0

abbrev pub output_shown : List TypedView → Below → Output → PlanOut
output_shown views below out = record { names = names_of views out; node = node_shown below out.view }
