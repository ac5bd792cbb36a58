-- Queries that are made of a list: what they want, by its elements, and the sides of a union one after another.
use Rattle.std.proofs.Common.{◌≡◌, ◌∙◌, ℕ, suc, ◌+◌, ◌<◌, List, [], ◌∷◌, ◌++◌, length, map, get_or, drop, refl, sym, ap, subst, arith, append_assoc, option_map}
use Rattle.std.specs.List.{All}
use Rattle.std.proofs.lemmas.List.{append-nil}
use Rattle.std.proofs.lemmas.List.Elements.{filter_agree}
use Rattle.std.proofs.Math.Seq.{drop-cons}
use Rattle.std.specs.declared.vec.Vec.{Vec}
use Rattle.std.specs.declared.alloc.Global.{Global}
use Rattle.span_token.specs.Documents.{Doc}
use Rattle.row_values.specs.Datums.{Datum}
use Rattle.row_values.specs.Rows.{product}
use Rattle.scalar_ops.specs.Expressions.{Term, ReadsBelow}
use Rattle.scalar_ops.specs.Tables.{Lists}
use Rattle.scalar_ops.specs.Values.{holding}
use Rattle.aql_typed.specs.declared.tree.TypedExtract.{TypedExtract}
use Rattle.aql_typed.specs.declared.tree.TypedQuery.{TypedQuery}
use Rattle.aql_typed.specs.declared.tree.TypedQuery.TheVariants as query
use Rattle.aql_typed.specs.declared.tree.TypedSelect.{TypedSelect}
use Rattle.aql_typed.specs.declared.tree.TypedSource.{TypedSource}
use Rattle.aql_typed.specs.Fitting.{Fits, SidesFit, AllSourcesFit, width_of, first_width, source_width, all_widths, projection_width, extract_width}
use Rattle.aql_typed.specs.Meaning.{Rows, meaning_of, all_sides, source_rows, combinations, selected, kept, projected, cut, extract_rows}
use Rattle.aql_typed.specs.Nodes.{select_view, union_view}
use Rattle.aql_typed.specs.Trees.{Query, Queries, no_queries, more_queries, Sources, no_sources, more_sources, Source, select, extract, union, minus}
use Rattle.aql_typed.specs.Views.{select_clauses_of, extract_clauses_of, projection_of, consolidation_of, query_of, source_of}
use Rattle.algebra.specs.declared.node.Node.{Node}
use Rattle.algebra.specs.declared.node.Node.TheVariants.{Union, Minus}
use Rattle.algebra.specs.Growth.{Grows, Stands}
use Rattle.algebra.specs.GrowthLaws.{grows-trans}
use Rattle.algebra.specs.Nodes.{IsNode}
use Rattle.algebra.specs.Shapes.{shapes_of}
use Rattle.plan_maker.specs.declared.below.Below.{Below}
use Rattle.plan_maker.specs.Grounds.{Gives, CanRead, IsBase, IsWell, QueryFits, SourceThere, SidesThere, JoinFits, Anything, AllRead, Narrows, ClausesFit, ExtractFits, sides_seen, sources_seen}
use Rattle.plan_maker.proofs.Bases.{base-grown}
use Rattle.plan_maker.proofs.Combining.{IsJoined, joined-first, joined-next, joined-last}
use Rattle.plan_maker.proofs.Giving.{gives-grown, gives-is, gives-width, valid-union, gives-union, valid-minus, gives-minus}

-- the list of what is left, from element i on
pub sides_left : (sides : List TypedQuery) (i : ℕ) (side : TypedQuery) → i < length sides → side ≡ get_or sides i side
    → sides_seen (drop i sides) ≡ more_queries (query_of side) (sides_seen (drop (i + 1) sides))
sides_left sides i side below is =
    let one : i + 1 ≡ suc i = omega arith in
    ap sides_seen (drop-cons sides i side below)
    ∙ (ap (λ (q : TypedQuery). more_queries (query_of q) (sides_seen (drop (suc i) sides))) (sym is)
    ∙ ap (λ (k : ℕ). more_queries (query_of side) (sides_seen (drop k sides))) (sym one))

pub sources_left : (sources : List TypedSource) (i : ℕ) (source : TypedSource) → i < length sources → source ≡ get_or sources i source
    → sources_seen (drop i sources) ≡ more_sources (source_of source) (sources_seen (drop (i + 1) sources))
sources_left sources i source below is =
    let one : i + 1 ≡ suc i = omega arith in
    ap sources_seen (drop-cons sources i source below)
    ∙ (ap (λ (s : TypedSource). more_sources (source_of s) (sources_seen (drop (suc i) sources))) (sym is)
    ∙ ap (λ (k : ℕ). more_sources (source_of source) (sources_seen (drop k sources))) (sym one))

-- the sides so far are one node
pub record IsUnited (nodes : List Node) (below : Below) (widths : List ℕ) (means : Lists → Doc → List Rows) (sides rest : Queries) (n : ℕ) : Type 0 where
  pub rows : Lists → Doc → Rows
  pub gives : Gives nodes n (first_width widths sides) rows
  pub same : (lists : Lists) (doc : Doc) → rows lists doc ++ all_sides lists doc (means lists doc) rest ≡ all_sides lists doc (means lists doc) sides
  pub fit : SidesFit widths (first_width widths sides) rest
  pub base : IsBase nodes below widths means

-- ---- selections

selected-same : (lists : Lists) (doc : Doc) (xs ys : List Term) (rows : Rows) → ((row : List Datum) → holding lists doc xs row ≡ holding lists doc ys row) → selected lists doc xs rows ≡ selected lists doc ys rows
selected-same lists doc xs ys rows same = filter_agree (holding lists doc xs) (holding lists doc ys) same rows

module _ (nodes : List Node) (below : Below) (typed : TypedQuery) (s : TypedSelect) (is : typed ≡ query.Select s) (sources : List TypedSource) (seen : sources ≡ s.sources.items) (conds : List Term)
    (same : (lists : Lists) (doc : Doc) (row : List Datum) → holding lists doc conds row ≡ holding lists doc s.clauses.conds row)
    (reads : (width : ℕ) → All (ReadsBelow width) s.clauses.conds → All (ReadsBelow width) conds) where
  pub select_is : query_of typed ≡ select (sources_seen sources) (select_clauses_of s.clauses)
  select_is = ap (λ (q : TypedQuery). query_of q) is ∙ (select_view s ∙ ap (λ (ss : List TypedSource). select (sources_seen ss) (select_clauses_of s.clauses)) (sym seen))

  pub select_fits : (widths : List ℕ) → Fits widths (query_of typed) → Fits widths (select (sources_seen sources) (select_clauses_of s.clauses))
  select_fits widths fits = subst (Fits widths) select_is fits

  abbrev pub join_well : IsWell nodes below (QueryFits (query_of typed)) → IsWell nodes below (JoinFits (sources_seen sources) conds)
  join_well well =
      let fits = select_fits well.widths well.wanted in
      record { widths = well.widths; means = well.means; base = well.base; wanted = record { there = fits.0; reads = reads (all_widths well.widths (sources_seen sources)) fits.2.conds } }

  module _ (mid : List Node) (joined : ℕ)
      (given : (well : IsWell nodes below (JoinFits (sources_seen sources) conds)) → Gives mid joined (all_widths well.widths (sources_seen sources)) (λ lists doc. selected lists doc conds (combinations lists doc (well.means lists doc) (sources_seen sources)))) where
    abbrev pub join_can : IsWell nodes below (QueryFits (query_of typed)) → CanRead mid joined (ClausesFit (select_clauses_of s.clauses))
    join_can well =
        let fits = select_fits well.widths well.wanted in
        record {
          width = all_widths well.widths (sources_seen sources);
          rows = λ lists doc. selected lists doc conds (combinations lists doc (well.means lists doc) (sources_seen sources));
          gives = given (join_well well);
          wanted = (fits.2, fits.1);
        }

    pub select_gives : (new : List Node) (n : ℕ)
        → ((can : CanRead mid joined (ClausesFit (select_clauses_of s.clauses))) → Gives new n (projection_width (projection_of s.clauses.projection)) (λ lists doc. cut s.clauses.order.items s.clauses.limit
        (projected lists doc (projection_of s.clauses.projection) (kept lists doc (option_map consolidation_of s.clauses.consolidate) (can.rows lists doc)))))
        → (well : IsWell nodes below (QueryFits (query_of typed))) → Gives new n (width_of well.widths (query_of typed)) (λ lists doc. meaning_of lists doc (well.means lists doc) (query_of typed))
    select_gives new n made well =
        gives-width new n (projection_width (projection_of s.clauses.projection)) (width_of well.widths (query_of typed)) _ (sym (ap (width_of well.widths) select_is))
        (gives-is new n _ _ (λ lists doc. meaning_of lists doc (well.means lists doc) (query_of typed))
        (λ lists doc.
        ap (λ (rows : Rows). cut s.clauses.order.items s.clauses.limit (projected lists doc (projection_of s.clauses.projection) (kept lists doc (option_map consolidation_of s.clauses.consolidate) rows)))
        (selected-same lists doc conds s.clauses.conds (combinations lists doc (well.means lists doc) (sources_seen sources)) (same lists doc))
        ∙ sym (ap (meaning_of lists doc (well.means lists doc)) select_is))
        (made (join_can well)))

-- ---- extractions

module _ (nodes : List Node) (below : Below) (typed : TypedQuery) (e : TypedExtract) (is : typed ≡ query.Extract e) where
  pub extract_is : query_of typed ≡ extract (source_of e.source) (extract_clauses_of e.clauses)
  extract_is = ap (λ (q : TypedQuery). query_of q) is

  abbrev pub source_well : IsWell nodes below (QueryFits (query_of typed)) → IsWell nodes below (SourceThere (source_of e.source))
  source_well well = record { widths = well.widths; means = well.means; base = well.base; wanted = (subst (Fits well.widths) extract_is well.wanted).0 }

  module _ (mid : List Node) (input : ℕ)
      (given : (well : IsWell nodes below (SourceThere (source_of e.source))) → Gives mid input (source_width well.widths (source_of e.source)) (λ lists doc. source_rows lists doc (well.means lists doc) (source_of e.source))) where
    abbrev pub source_can : IsWell nodes below (QueryFits (query_of typed)) → CanRead mid input (ExtractFits (extract_clauses_of e.clauses))
    source_can well =
        let fits : Fits well.widths (extract (source_of e.source) (extract_clauses_of e.clauses)) = subst (Fits well.widths) extract_is well.wanted in
        record {
          width = source_width well.widths (source_of e.source);
          rows = λ lists doc. source_rows lists doc (well.means lists doc) (source_of e.source);
          gives = given (source_well well);
          wanted = (fits.1, fits.2);
        }

    pub extract_gives : (new : List Node) (n : ℕ)
        → ((can : CanRead mid input (ExtractFits (extract_clauses_of e.clauses))) → Gives new n (extract_width (extract_clauses_of e.clauses)) (λ lists doc. extract_rows lists doc (extract_clauses_of e.clauses) (can.rows lists doc)))
        → (well : IsWell nodes below (QueryFits (query_of typed))) → Gives new n (width_of well.widths (query_of typed)) (λ lists doc. meaning_of lists doc (well.means lists doc) (query_of typed))
    extract_gives new n made well =
        gives-width new n (extract_width (extract_clauses_of e.clauses)) (width_of well.widths (query_of typed)) _ (sym (ap (width_of well.widths) extract_is))
        (gives-is new n _ _ (λ lists doc. meaning_of lists doc (well.means lists doc) (query_of typed))
        (λ lists doc. sym (ap (meaning_of lists doc (well.means lists doc)) extract_is)) (made (source_can well)))

-- ---- unions

module _ (nodes : List Node) (below : Below) (typed : TypedQuery) (v : Vec TypedQuery Global) (is : typed ≡ query.Union v) (sides : List TypedQuery) (seen : sides ≡ v.items) where
  pub union_is : query_of typed ≡ union (sides_seen sides)
  union_is = ap (λ (q : TypedQuery). query_of q) is ∙ (union_view v ∙ ap (λ (qs : List TypedQuery). union (sides_seen qs)) (sym seen))

  abbrev pub sides_well : IsWell nodes below (QueryFits (query_of typed)) → IsWell nodes below (SidesThere (sides_seen sides))
  sides_well well = record { widths = well.widths; means = well.means; base = well.base; wanted = subst (Fits well.widths) union_is well.wanted }

  pub union_gives : (new : List Node) (n : ℕ)
      → ((well : IsWell nodes below (SidesThere (sides_seen sides))) → Gives new n (first_width well.widths (sides_seen sides)) (λ lists doc. all_sides lists doc (well.means lists doc) (sides_seen sides)))
      → (well : IsWell nodes below (QueryFits (query_of typed))) → Gives new n (width_of well.widths (query_of typed)) (λ lists doc. meaning_of lists doc (well.means lists doc) (query_of typed))
  union_gives new n made well =
      gives-width new n (first_width well.widths (sides_seen sides)) (width_of well.widths (query_of typed)) _ (sym (ap (width_of well.widths) union_is))
      (gives-is new n _ _ (λ lists doc. meaning_of lists doc (well.means lists doc) (query_of typed))
      (λ lists doc. sym (ap (meaning_of lists doc (well.means lists doc)) union_is)) (made (sides_well well)))

module _ (below : Below) (sides : Queries) where
  -- the first side
  pub united-first : (old nodes : List Node) (first : Query) (rest : Queries) (n : ℕ) → sides ≡ more_queries first rest → Grows old nodes
      → ((well : IsWell old below (QueryFits first)) → Gives nodes n (width_of well.widths first) (λ lists doc. meaning_of lists doc (well.means lists doc) first))
      → (well : IsWell old below (SidesThere sides)) → IsUnited nodes below well.widths well.means sides rest n
  united-first old nodes first rest n are grows given well =
      let fits : SidesFit well.widths (first_width well.widths sides) (more_queries first rest) = subst (SidesFit well.widths (first_width well.widths sides)) are well.wanted in
      record {
        rows = λ lists doc. meaning_of lists doc (well.means lists doc) first;
        gives = gives-width nodes n _ _ _ fits.1 (given (record { widths = well.widths; means = well.means; base = well.base; wanted = fits.0 }));
        same = λ lists doc. ap (all_sides lists doc (well.means lists doc)) (sym are);
        fit = fits.2;
        base = base-grown old nodes below well.widths well.means grows well.base;
      }

  -- one side more
  module _ (old : List Node) (widths : List ℕ) (means : Lists → Doc → List Rows) (left rest : Queries) (side : Query) (m : ℕ) (are : left ≡ more_queries side rest) (so_far : IsUnited old below widths means sides left m) where
    pub side_fits : SidesFit widths (first_width widths sides) (more_queries side rest)
    side_fits = subst (SidesFit widths (first_width widths sides)) are so_far.fit

    abbrev pub side_well : IsWell old below (QueryFits side)
    side_well = record { widths = widths; means = means; base = so_far.base; wanted = side_fits.0 }

    module _ (mid : List Node) (right : ℕ) (grows : Grows old mid) (given : (well : IsWell old below (QueryFits side)) → Gives mid right (width_of well.widths side) (λ lists doc. meaning_of lists doc (well.means lists doc) side)) where
      pub union_valid : IsNode (shapes_of mid) (Union m right)
      union_valid = valid-union mid m right _ _ _ _ (gives-grown old mid m _ _ grows so_far.gives) (given side_well) side_fits.1

      pub united-next : (new : List Node) (n : ℕ) → Stands mid new n (Union m right) → IsUnited new below widths means sides rest n
      united-next new n stands = record {
        rows = λ lists doc. so_far.rows lists doc ++ meaning_of lists doc (means lists doc) side;
        gives = gives-union mid m right _ _ _ _ (gives-grown old mid m _ _ grows so_far.gives) (given side_well) new n stands;
        same = λ lists doc.
            append_assoc (so_far.rows lists doc) (meaning_of lists doc (means lists doc) side) (all_sides lists doc (means lists doc) rest)
            ∙ (ap (λ (qs : Queries). so_far.rows lists doc ++ all_sides lists doc (means lists doc) qs) (sym are) ∙ so_far.same lists doc);
        fit = side_fits.2;
        base = base-grown old new below widths means (grows-trans old mid new grows stands.grows) so_far.base;
      }

  -- no side is left
  pub united-last : (nodes : List Node) (widths : List ℕ) (means : Lists → Doc → List Rows) (rest : Queries) (n : ℕ) → rest ≡ no_queries → IsUnited nodes below widths means sides rest n
      → Gives nodes n (first_width widths sides) (λ lists doc. all_sides lists doc (means lists doc) sides)
  united-last nodes widths means rest n none done =
      gives-is nodes n _ _ _ (λ lists doc. sym (append-nil (done.rows lists doc)) ∙ (ap (λ (qs : Queries). done.rows lists doc ++ all_sides lists doc (means lists doc) qs) (sym none) ∙ done.same lists doc)) done.gives

  -- no side at all
  pub none-united : (old new : List Node) (n : ℕ) → sides ≡ no_queries → Gives new n 0 (λ lists doc. []) → (well : IsWell old below (SidesThere sides))
      → Gives new n (first_width well.widths sides) (λ lists doc. all_sides lists doc (well.means lists doc) sides)
  none-united old new n none given well =
      subst (λ (qs : Queries). Gives new n (first_width well.widths qs) (λ lists doc. all_sides lists doc (well.means lists doc) qs)) (sym none) given

-- ---- differences

module _ (old : List Node) (below : Below) (whole left right : Query) (is : whole ≡ minus left right) where
  abbrev pub left_well : IsWell old below (QueryFits whole) → IsWell old below (QueryFits left)
  left_well well = record { widths = well.widths; means = well.means; base = well.base; wanted = (subst (Fits well.widths) is well.wanted).0 }

  module _ (mid : List Node) (grows : Grows old mid) where
    abbrev pub right_well : IsWell old below (QueryFits whole) → IsWell mid below (QueryFits right)
    right_well well = record {
      widths = well.widths;
      means = well.means;
      base = base-grown old mid below well.widths well.means grows well.base;
      wanted = (subst (Fits well.widths) is well.wanted).1;
    }

    module _ (i : ℕ) (given_left : (well : IsWell old below (QueryFits left)) → Gives mid i (width_of well.widths left) (λ lists doc. meaning_of lists doc (well.means lists doc) left))
        (last : List Node) (grows_right : Grows mid last) (j : ℕ) (given_right : (well : IsWell mid below (QueryFits right)) → Gives last j (width_of well.widths right) (λ lists doc. meaning_of lists doc (well.means lists doc) right)) where
      pub minus_valid : IsWell old below (QueryFits whole) → IsNode (shapes_of last) (Minus i j)
      minus_valid well =
          valid-minus last i j _ _ _ _ (gives-grown mid last i _ _ grows_right (given_left (left_well well))) (given_right (right_well well)) (subst (Fits well.widths) is well.wanted).2

      pub minus_gives : (new : List Node) (n : ℕ) → Stands last new n (Minus i j) → (well : IsWell old below (QueryFits whole))
          → Gives new n (width_of well.widths whole) (λ lists doc. meaning_of lists doc (well.means lists doc) whole)
      minus_gives new n stands well =
          gives-width new n (width_of well.widths left) (width_of well.widths whole) _ (sym (ap (width_of well.widths) is))
          (gives-is new n _ _ (λ lists doc. meaning_of lists doc (well.means lists doc) whole) (λ lists doc. sym (ap (meaning_of lists doc (well.means lists doc)) is))
          (gives-minus last i j _ _ _ _ (gives-grown mid last i _ _ grows_right (given_left (left_well well))) (given_right (right_well well)) new n stands))

-- ---- products

module _ (below : Below) (sources : List TypedSource) (conds : List Term) where
  -- a selection without a source
  pub none-joined : (old mid new : List Node) (row n : ℕ) (seen : List Term) → sources ≡ [] → seen ≡ conds → Gives mid row 0 (λ lists doc. [] ∷ [])
      → ((can : CanRead mid row (AllRead seen)) → Gives new n can.width (λ lists doc. selected lists doc seen (can.rows lists doc)))
      → (well : IsWell old below (JoinFits (sources_seen sources) conds)) → Gives new n (all_widths well.widths (sources_seen sources)) (λ lists doc. selected lists doc conds (combinations lists doc (well.means lists doc) (sources_seen sources)))
  none-joined old mid new row n seen none same given made well =
      let reads : All (ReadsBelow 0) conds = subst (λ (ss : List TypedSource). All (ReadsBelow (all_widths well.widths (sources_seen ss))) conds) none well.wanted.reads in
      subst (λ (ss : List TypedSource). Gives new n (all_widths well.widths (sources_seen ss)) (λ lists doc. selected lists doc conds (combinations lists doc (well.means lists doc) (sources_seen ss)))) (sym none)
      (subst (λ (cs : List Term). Gives new n 0 (λ lists doc. selected lists doc cs ([] ∷ []))) same
      (made (record { width = 0; rows = λ lists doc. [] ∷ []; gives = given; wanted = subst (All (ReadsBelow 0)) (sym same) reads })))

  -- the first source
  module _ (old : List Node) (first : TypedSource) (rest : List TypedSource) (are : sources ≡ first ∷ rest) where
    abbrev pub first_well : IsWell old below (JoinFits (sources_seen sources) conds) → IsWell old below (SourceThere (source_of first))
    first_well well = record {
      widths = well.widths;
      means = well.means;
      base = well.base;
      wanted = (subst (λ (ss : List TypedSource). AllSourcesFit well.widths (sources_seen ss)) are well.wanted.there).0;
    }

    module _ (mid : List Node) (input : ℕ) (grows : Grows old mid)
        (given : (well : IsWell old below (SourceThere (source_of first))) → Gives mid input (source_width well.widths (source_of first)) (λ lists doc. source_rows lists doc (well.means lists doc) (source_of first))) where
      abbrev pub first_can : IsWell old below (JoinFits (sources_seen sources) conds) → CanRead mid input Anything
      first_can well = record {
        width = source_width well.widths (source_of first);
        rows = λ lists doc. source_rows lists doc (well.means lists doc) (source_of first);
        gives = given (first_well well);
        wanted = tt;
      }

      pub first_joined : (new : List Node) (n : ℕ) (last : List Term) → Grows mid new → ((can : CanRead mid input Anything) → Narrows new n can.width can.rows conds last)
          → (well : IsWell old below (JoinFits (sources_seen sources) conds)) → IsJoined new below well.widths well.means (sources_seen sources) (sources_seen rest) conds last n
      first_joined new n last later narrows well =
          subst (λ (ss : List TypedSource). IsJoined new below well.widths well.means (sources_seen ss) (sources_seen rest) conds last n) (sym are)
          (joined-first new below well.widths well.means (base-grown old new below well.widths well.means (grows-trans old mid new grows later) well.base) conds (source_of first) (sources_seen rest) last n
          (subst (λ (ss : List TypedSource). AllSourcesFit well.widths (sources_seen ss)) are well.wanted.there)
          (subst (λ (ss : List TypedSource). All (ReadsBelow (all_widths well.widths (sources_seen ss))) conds) are well.wanted.reads)
          (narrows (first_can well)))

  -- one source more
  module _ (old : List Node) (widths : List ℕ) (means : Lists → Doc → List Rows) (left rest : Sources) (source : Source) (last : List Term) (m : ℕ) (are : left ≡ more_sources source rest)
      (so_far : IsJoined old below widths means (sources_seen sources) left conds last m) where
    abbrev before : IsJoined old below widths means (sources_seen sources) (more_sources source rest) conds last m
    before = subst (λ (ss : Sources). IsJoined old below widths means (sources_seen sources) ss conds last m) are so_far

    abbrev pub next_well : IsWell old below (SourceThere source)
    next_well = record { widths = widths; means = means; base = so_far.base; wanted = before.there.0 }

    module _ (mid : List Node) (right : ℕ) (grows : Grows old mid)
        (given : (well : IsWell old below (SourceThere source)) → Gives mid right (source_width well.widths source) (λ lists doc. source_rows lists doc (well.means lists doc) source)) where
      abbrev pub left_can : CanRead mid m Anything
      left_can = record { width = before.width; rows = before.rows; gives = gives-grown old mid m before.width before.rows grows before.gives; wanted = tt }

      abbrev pub right_can : CanRead mid right Anything
      right_can = record { width = source_width widths source; rows = λ lists doc. source_rows lists doc (means lists doc) source; gives = given next_well; wanted = tt }

      pub next_joined : (new : List Node) (n : ℕ) (later : List Term) → Grows mid new
          → ((a : CanRead mid m Anything) (b : CanRead mid right Anything) → Narrows new n (a.width + b.width) (λ lists doc. product (a.rows lists doc) (b.rows lists doc)) last later)
          → IsJoined new below widths means (sources_seen sources) rest conds later n
      next_joined new n later on narrows =
          joined-next new below widths means (base-grown old new below widths means (grows-trans old mid new grows on) so_far.base) conds old (sources_seen sources) source rest last later m n before (narrows left_can right_can)

  -- no source is left
  module _ (nodes : List Node) (widths : List ℕ) (means : Lists → Doc → List Rows) (left : Sources) (last seen : List Term) (n : ℕ) (none : left ≡ no_sources) (same : seen ≡ last)
      (done : IsJoined nodes below widths means (sources_seen sources) left conds last n) where
    abbrev all : IsJoined nodes below widths means (sources_seen sources) no_sources conds last n
    all = subst (λ (ss : Sources). IsJoined nodes below widths means (sources_seen sources) ss conds last n) none done

    abbrev pub last_can : CanRead nodes n (AllRead seen)
    last_can = record {
      width = all_widths widths (sources_seen sources);
      rows = all.rows;
      gives = gives-width nodes n all.width (all_widths widths (sources_seen sources)) all.rows (omega (arith, all.total)) all.gives;
      wanted = subst (All (ReadsBelow (all_widths widths (sources_seen sources)))) (sym same) all.reads;
    }

    pub last_gives : (new : List Node) (m : ℕ) → ((can : CanRead nodes n (AllRead seen)) → Gives new m can.width (λ lists doc. selected lists doc seen (can.rows lists doc)))
        → Gives new m (all_widths widths (sources_seen sources)) (λ lists doc. selected lists doc conds (combinations lists doc (means lists doc) (sources_seen sources)))
    last_gives new m made =
        gives-is new m _ _ (λ lists doc. selected lists doc conds (combinations lists doc (means lists doc) (sources_seen sources)))
        (λ lists doc. ap (λ (cs : List Term). selected lists doc cs (all.rows lists doc)) same ∙ joined-last nodes below widths means all.base conds (sources_seen sources) last n all lists doc)
        (made last_can)
