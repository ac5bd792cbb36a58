-- What is looked for near the left rows of a join: when it may be put in place of the join, and that it stands for it.
use Rattle.std.proofs.Common.{◌≡◌, ◌∙◌, ℕ, zero, suc, ◌+◌, ◌-◌, ◌<◌, ◌≤◌, Bool, List, [], ◌∷◌, ◌++◌, map, length, append_assoc, get_or, refl, sym, ap, ap₂, subst, arith, Option, Some, None}
use Rattle.std.specs.Prelude.{slice_get}
use Rattle.std.specs.List.{All, range_with_len}
use Rattle.std.specs.Option.{IfSome}
use Rattle.std.proofs.lemmas.List.{length-append, length-map, map-append}
use Rattle.std.proofs.lemmas.List.FromFn.{length-range_with_len}
use Rattle.std.proofs.lemmas.List.Elements.{All-nil, All-cons, All-head, All-tail, All-append}
use Rattle.std.proofs.lemmas.Option.{slice_get_within, get_or_from_slice_get}
use Rattle.aql_base.specs.BagLaws.{SameBag-trans, SameBag-is}
use Rattle.span_token.specs.Documents.{Doc as Document}
use Rattle.span_joins.specs.Joins.{joined_where}
use Rattle.scalar_ops.specs.Expressions.{column, ReadsBelow}
use Rattle.scalar_ops.specs.Tables.{Lists}
use Rattle.aql_typed.specs.Trees.{token_regex, dict, plain}
use Rattle.aql_typed.specs.Meaning.{Rows, projected}
use Rattle.algebra.specs.declared.node.JoinKind.{JoinKind}
use Rattle.algebra.specs.declared.node.Local.{Local}
use Rattle.algebra.specs.declared.node.Local.TheVariants as sought
use Rattle.algebra.specs.declared.node.Node.{Node}
use Rattle.algebra.specs.declared.node.Node.TheVariants.{Doc, TokenRegex, Dict, DictPart, Project, SpanJoin, Restricted}
use Rattle.algebra.specs.declared.shape.Shape.{Shape}
use Rattle.algebra.specs.DictLaws.{dict_part}
use Rattle.algebra.specs.ExtractionLaws.{columns_from}
use Rattle.algebra.specs.Growth.{Grows, Has, Stands, IsAt}
use Rattle.algebra.specs.GrowthLaws.{has-same, has-shape, is-at, val-is, val-kept, shape-kept, stands-added, stands-by}
use Rattle.algebra.specs.KindLaws.{node-restricted, has-restricted, has-project}
use Rattle.algebra.specs.Mapping.{every, new_number, IsMapped}
use Rattle.algebra.specs.Nodes.{IsNode, IsPlan}
use Rattle.algebra.specs.Operators.{does_join, sought_by, with_found, part_of, restricted}
use Rattle.algebra.specs.Shapes.{columns, document_shape, no_shape, shapes_of, IsSought}
use Rattle.algebra.specs.Values.{val, value_after}
use Rattle.algebra.specs.WidthLaws.{AreWide, val-wide}
use Rattle.restrict_eval.specs.declared.nearness.Near.{Near}
use Rattle.restrict_eval.specs.Nears.{ShowsBy, IsNear}
use Rattle.restrict_eval.specs.Putting.{beside, width_at, near_nodes}
use Rattle.restrict_eval.specs.Restricting.{Finds}
use Rattle.restrict_eval.proofs.Showing.{joined-shown}

-- ---- columns

-- the columns of a row of so many, and behind them some of two that follow
below_two : (columns : List ℕ) → All (ReadsBelow 2) (map column columns) → All (λ c. c < 2) columns
below_two [] all = All-nil (λ c. c < 2)
below_two (c ∷ columns) all =
    All-cons (λ c. c < 2) c columns (All-head (λ n. n < 2) c [] (All-head (ReadsBelow 2) (column c) (map column columns) all)) (below_two columns (All-tail (ReadsBelow 2) (column c) (map column columns) all))

one_read : (width n : ℕ) → n < width → ReadsBelow width (column n)
one_read width n below = All-cons (λ k. k < width) n [] below (All-nil (λ k. k < width))

pub first_read : (a n width : ℕ) → a + n ≤ width → All (ReadsBelow width) (columns_from a n)
first_read a zero width enough = All-nil (ReadsBelow width)
first_read a (suc n) width enough =
    All-cons (ReadsBelow width) (column a) (columns_from (a + 1) n) (one_read width a (omega (arith, enough))) (first_read (a + 1) n width (omega (arith, enough)))

behind_read : (width : ℕ) (columns : List ℕ) → All (λ c. c < 2) columns → All (ReadsBelow (width + 2)) (map column (map (λ c. width + c) columns))
behind_read width [] all = All-nil (ReadsBelow (width + 2))
behind_read width (c ∷ columns) all =
    let below : c < 2 = All-head (λ c. c < 2) c columns all in
    All-cons (ReadsBelow (width + 2)) (column (width + c)) (map column (map (λ c. width + c) columns)) (one_read (width + 2) (width + c) (omega (arith, below)))
    (behind_read width columns (All-tail (λ c. c < 2) c columns all))

last : (a n j : ℕ) → a + n ≡ j → range_with_len a (suc n) ≡ range_with_len a n ++ j ∷ []
last a zero j is = let same : a ≡ j = omega (arith, is) in ap (λ (k : ℕ). k ∷ []) same
last a (suc n) j is = ap (λ (rest : List ℕ). a ∷ rest) (last (a + 1) n j (omega (arith, is)))

-- one column more
pub columns_more : (a n j : ℕ) → a + n ≡ j → columns_from a (n + 1) ≡ columns_from a n ++ column j ∷ []
columns_more a n j is =
    let on : n + 1 ≡ suc n = omega arith in
    ap (map column) (ap (range_with_len a) on ∙ last a n j is) ∙ map-append column (range_with_len a n) (j ∷ [])

pub beside_read : (width : ℕ) (columns : List ℕ) → All (λ c. c < 2) columns → All (ReadsBelow (width + 2)) (beside width columns)
beside_read width columns all =
    All-append (ReadsBelow (width + 2)) (columns_from 0 width) (map column (map (λ c. width + c) columns)) (first_read 0 width (width + 2) (omega arith)) (behind_read width columns all)

beside_long : (width : ℕ) (columns : List ℕ) → length (beside width columns) ≡ width + length columns
beside_long width columns =
    omega (arith, length-append (columns_from 0 width) (map column (map (λ c. width + c) columns)), length-map (range_with_len 0 width) column, length-range_with_len 0 width, length-map (map (λ c. width + c) columns) column, length-map columns (λ c. width + c))

-- which rows of a join are shown: all, or those of a left row of so many columns beside these columns of what is found
abbrev rows_shown : Lists → Document → ℕ → Option (List ℕ) → Rows → Rows
rows_shown lists doc width None rows = rows
rows_shown lists doc width (Some cs) rows = projected lists doc (plain (beside width cs)) rows

-- how many columns of what is found are
abbrev width_shown : Option (List ℕ) → ℕ
width_shown None = 2
width_shown (Some cs) = length cs

-- ---- the old plan

module _ (old : List Node) (plan : IsPlan old) where
  pub at : (i : ℕ) (node : Node) → slice_get old i ≡ Some node → IsAt old i node
  at i node is = is-at old i node plan (slice_get_within old i node is) (sym (get_or_from_slice_get old i node node is))

  worth : (lists : Lists) (doc : Document) (i : ℕ) (node : Node) → slice_get old i ≡ Some node → val lists doc old i ≡ value_after lists doc old node
  worth lists doc i node is = val-is lists doc old i node plan (slice_get_within old i node is) (sym (get_or_from_slice_get old i node node is))

  pub document_there : (source : ℕ) → slice_get old source ≡ Some Doc → get_or (shapes_of old) source no_shape ≡ document_shape
  document_there source is = (at source Doc is).stands.has.shaped

  -- what is found, and where it stands: the document has one column
  pub only_column : (source c : ℕ) → slice_get old source ≡ Some Doc → c < (get_or (shapes_of old) source no_shape).width → c ≡ 0
  only_column source c document below = omega (arith, below, ap (λ (s : Shape). s.width) (document_there source document))

  pub runs_column : (source base c low high pattern : ℕ) → slice_get old source ≡ Some Doc → slice_get old base ≡ Some (TokenRegex source c low high pattern (0 ∷ [])) → c ≡ 0
  runs_column source base c low high pattern document is = only_column source c document (at base (TokenRegex source c low high pattern (0 ∷ [])) is).valid.made.1

  pub dict_column : (source n c d : ℕ) → slice_get old source ≡ Some Doc → slice_get old n ≡ Some (Dict source c (d ∷ [])) → c ≡ 0
  dict_column source n c d document is = only_column source c document (at n (Dict source c (d ∷ [])) is).valid.made.1

  pub finds_below : (base source : ℕ) (part : Local) → Finds old base source part → source < base
  finds_below base source (sought.TokenRegex low high pattern) finds = (at base (TokenRegex source finds.0 low high pattern (0 ∷ [])) finds.1).left_lower
  finds_below base source (sought.Dict d) finds =
      let part : finds.0 < base = (at base (DictPart finds.0 0) finds.2).left_lower in
      let all : source < finds.0 = (at finds.0 (Dict source finds.1 (d ∷ [])) finds.3).left_lower in
      omega (arith, part, all)

  finds_rows : (lists : Lists) (doc : Document) (base source : ℕ) (part : Local) → slice_get old source ≡ Some Doc → Finds old base source part
      → val lists doc old base ≡ with_found lists doc (sought_by part) (val lists doc old source)
  finds_rows lists doc base source (sought.TokenRegex low high pattern) document finds =
      worth lists doc base (TokenRegex source finds.0 low high pattern (0 ∷ [])) finds.1
      ∙ ap (λ (c : ℕ). with_found lists doc (token_regex c low high pattern (0 ∷ [])) (val lists doc old source)) (runs_column source base finds.0 low high pattern document finds.1)
  finds_rows lists doc base source (sought.Dict d) document finds =
      worth lists doc base (DictPart finds.0 0) finds.2
      ∙ (ap (part_of 0) (worth lists doc finds.0 (Dict source finds.1 (d ∷ [])) finds.3)
      ∙ (dict_part lists doc source finds.1 (d ∷ []) finds.0 0 d (val lists doc old source) [] [] (omega arith) refl
      ∙ ap (λ (c : ℕ). with_found lists doc (dict c d) (val lists doc old source)) (dict_column source finds.0 finds.1 d document finds.3)))

  finds_wide : (base source : ℕ) (part : Local) → slice_get old source ≡ Some Doc → Finds old base source part → get_or (shapes_of old) base no_shape ≡ columns 2
  finds_wide base source (sought.TokenRegex low high pattern) document finds =
      (at base (TokenRegex source finds.0 low high pattern (0 ∷ [])) finds.1).stands.has.shaped ∙ ap (λ (s : Shape). columns (s.width + 1)) (document_there source document)
  finds_wide base source (sought.Dict d) document finds =
      (at base (DictPart finds.0 0) finds.2).stands.has.shaped
      ∙ (ap (λ (s : Shape). columns (s.width - 1)) (at finds.0 (Dict source finds.1 (d ∷ [])) finds.3).stands.has.shaped
      ∙ ap (λ (s : Shape). columns (s.width + 2 - 1)) (document_there source document))

  finds_sought : (base source : ℕ) (part : Local) → Finds old base source part → IsSought part
  finds_sought base source (sought.TokenRegex low high pattern) finds = (at base (TokenRegex source finds.0 low high pattern (0 ∷ [])) finds.1).valid.made.2
  finds_sought base source (sought.Dict d) finds = tt

  module _ (r rc : ℕ) where
    base_shown : (base source : ℕ) (part : Local) (shown : Option (List ℕ)) → ShowsBy old base r rc shown → base ≤ r
    base_shown base source part None shows = omega (arith, shows.0)
    base_shown base source part (Some cs) shows = let below : base < r = (at r (Project base (map column cs)) shows.0).left_lower in omega (arith, below)

    -- which rows the right input of the join has
    shown_rows : (lists : Lists) (doc : Document) (join : JoinKind) (lc width : ℕ) (left found : Rows) (base : ℕ) (shown : Option (List ℕ)) → AreWide width left → ShowsBy old base r rc shown
        → val lists doc old base ≡ found → joined_where (does_join doc join) left lc (val lists doc old r) rc ≡ rows_shown lists doc width shown (joined_where (does_join doc join) left lc found 1)
    shown_rows lists doc join lc width left found base None wide shows is =
        ap₂ (λ (rows : Rows) (c : ℕ). joined_where (does_join doc join) left lc rows c) (ap (val lists doc old) shows.0 ∙ is) shows.1
    shown_rows lists doc join lc width left found base (Some cs) wide shows is =
        ap (λ (rows : Rows). joined_where (does_join doc join) left lc rows rc)
        (worth lists doc r (Project base (map column cs)) shows.0 ∙ ap (projected lists doc (plain (map column cs))) is)
        ∙ joined-shown lists doc (does_join doc join) lc rc width cs shows.1 left found wide

    shown_wide : (base : ℕ) (shown : Option (List ℕ)) → get_or (shapes_of old) base no_shape ≡ columns 2 → ShowsBy old base r rc shown
        → (get_or (shapes_of old) r no_shape).width ≡ width_shown shown
    shown_wide base None wide shows = ap (λ (i : ℕ). (get_or (shapes_of old) i no_shape).width) shows.0 ∙ ap (λ (s : Shape). s.width) wide
    shown_wide base (Some cs) wide shows = ap (λ (s : Shape). s.width) (at r (Project base (map column cs)) shows.0).stands.has.shaped ∙ length-map cs column

    shown_below : (base : ℕ) (shown : Option (List ℕ)) → get_or (shapes_of old) base no_shape ≡ columns 2 → ShowsBy old base r rc shown → IfSome shown (All (λ c. c < 2))
    shown_below base None wide shows = tt
    shown_below base (Some cs) wide shows =
        below_two cs (subst (λ (s : Shape). All (ReadsBelow s.width) (map column cs)) wide (at r (Project base (map column cs)) shows.0).valid.made.1)

    module _ (near : Near) (is : IsNear old r rc near) where
      pub base_below : near.base ≤ r
      base_below = base_shown near.base near.source near.sought near.columns is.shows

      pub source_below : near.source < r
      source_below = let a : near.source < near.base = finds_below near.base near.source near.sought is.finds in let b = base_below in omega (arith, a, b)

      pub near_rows : (lists : Lists) (doc : Document) (join : JoinKind) (lc width : ℕ) (left : Rows) → AreWide width left
          → joined_where (does_join doc join) left lc (val lists doc old r) rc
          ≡ rows_shown lists doc width near.columns (restricted lists doc join lc near.sought left (val lists doc old near.source))
      near_rows lists doc join lc width left wide =
          shown_rows lists doc join lc width left (with_found lists doc (sought_by near.sought) (val lists doc old near.source)) near.base near.columns wide is.shows
          (finds_rows lists doc near.base near.source near.sought is.document is.finds)

      pub near_wide : (get_or (shapes_of old) r no_shape).width ≡ width_shown near.columns
      near_wide = shown_wide near.base near.columns (finds_wide near.base near.source near.sought is.document is.finds) is.shows

      pub near_below : IfSome near.columns (All (λ c. c < 2))
      near_below = shown_below near.base near.columns (finds_wide near.base near.source near.sought is.document is.finds) is.shows

      pub near_sought : IsSought near.sought
      near_sought = finds_sought near.base near.source near.sought is.finds

-- ---- the new plan

-- the nodes so far, and what stands for them
module _ (old front new : List Node) (to : List ℕ) (node : Node) (rest : List Node) (whole : old ≡ front ++ node ∷ rest) (plan : IsPlan old) (mapped : IsMapped every front new to) where
  grows : Grows front old
  grows = record { added = node ∷ rest; grown = whole }

  pub has_new : (i : ℕ) → i < length front → Has new (new_number to i) (get_or (shapes_of old) i no_shape) (λ lists doc. val lists doc old i)
  has_new i below =
      let in_to : i < length to = omega (arith, below, mapped.long) in
      record {
        there = mapped.there i in_to tt;
        shaped = mapped.shaped i in_to tt ∙ sym (shape-kept front old i grows below);
        same = λ lists doc. SameBag-trans _ _ _ (mapped.same lists doc i in_to tt) (SameBag-is _ _ (sym (val-kept lists doc front old i grows below)));
      }

  module _ (l r lc rc : ℕ) (join : JoinKind) (conditional : Bool) (at_join : IsAt old (length front) (SpanJoin l r join lc rc conditional)) (near : Near) (is : IsNear old r rc near) where
    left_there : l < length front
    left_there = at_join.left_lower

    right_there : r < length front
    right_there = at_join.right_lower

    source_there : near.source < length front
    source_there = let a : near.source < r = source_below old plan r rc near is in let b : r < length front = right_there in omega (arith, a, b)

    abbrev near_node : Node
    near_node = Restricted (new_number to l) (new_number to near.source) join lc near.sought

    abbrev s : Shape
    s = get_or (shapes_of old) l no_shape

    pub near_valid : IsNode (shapes_of new) near_node
    near_valid =
        node-restricted new (new_number to l) (new_number to near.source) s (get_or (shapes_of old) near.source no_shape) (λ lists doc. val lists doc old l) (λ lists doc. val lists doc old near.source)
        (has_new l left_there) (has_new near.source source_there) join lc near.sought at_join.valid.made.0 (document_there old plan near.source is.document) at_join.valid.made.2 (near_sought old plan r rc near is)

    abbrev found_rows : Lists → Document → Rows
    found_rows lists doc = restricted lists doc join lc near.sought (val lists doc old l) (val lists doc old near.source)

    has_near : (later : List Node) → later ≡ new ++ near_node ∷ [] → Has later (length new) (columns (s.width + 2)) found_rows
    has_near later added =
        has-restricted new (new_number to l) (new_number to near.source) s (get_or (shapes_of old) near.source no_shape) (λ lists doc. val lists doc old l) (λ lists doc. val lists doc old near.source)
        (has_new l left_there) (has_new near.source source_there) join lc near.sought later (length new) (stands-added new later (length new) near_node refl added)

    wide_left : (lists : Lists) (doc : Document) → AreWide s.width (val lists doc old l)
    wide_left lists doc = val-wide lists doc old l plan

    width_is : width_at new (new_number to l) ≡ s.width
    width_is = ap (λ (t : Shape). t.width) (has_new l left_there).shaped

    -- what is put has the rows that are shown of it
    has_put : (later : List Node) (n : ℕ) (shown : Option (List ℕ)) → later ≡ new ++ near_nodes new (new_number to l) near_node shown → n + 1 ≡ length later → IfSome shown (All (λ c. c < 2))
        → Has later n (columns (s.width + width_shown shown)) (λ lists doc. rows_shown lists doc s.width shown (found_rows lists doc))
    has_put later n None added last below =
        let n_is : n ≡ length new = omega (arith, last, ap length added, length-append new (near_node ∷ [])) in
        subst (λ (m : ℕ). Has later m (columns (s.width + 2)) found_rows) (sym n_is) (has_near later added)
    has_put later n (Some cs) added last below =
        let mid = new ++ near_node ∷ [] in
        let above = Project (length new) (beside s.width cs) in
        let later_is : later ≡ mid ++ above ∷ [] =
        added ∙ (ap (λ (w : ℕ). new ++ near_node ∷ Project (length new) (beside w cs) ∷ []) width_is ∙ sym (append_assoc new (near_node ∷ []) (above ∷ []))) in
        let n_is : n ≡ length mid = omega (arith, last, ap length later_is, length-append mid (above ∷ [])) in
        let has : Has later (length mid) (columns (length (beside s.width cs))) (λ lists doc. projected lists doc (plain (beside s.width cs)) (found_rows lists doc)) =
        has-project mid (length new) (columns (s.width + 2)) found_rows (has_near mid refl) (beside s.width cs) later (length mid) (stands-added mid later (length mid) above refl later_is) in
        subst (λ (m : ℕ). Has later m (columns (s.width + length cs)) (λ lists doc. projected lists doc (plain (beside s.width cs)) (found_rows lists doc))) (sym n_is)
        (has-shape later (length mid) (columns (length (beside s.width cs))) (columns (s.width + length cs)) _ (ap columns (beside_long s.width cs)) has)

    grows_put : (later : List Node) → later ≡ new ++ near_nodes new (new_number to l) near_node near.columns → Grows new later
    grows_put later added = record { added = near_nodes new (new_number to l) near_node near.columns; grown = added }

    -- it stands for the join
    pub near_stands : (later : List Node) (n : ℕ) → later ≡ new ++ near_nodes new (new_number to l) near_node near.columns → n + 1 ≡ length later
        → Stands new later n (SpanJoin (new_number to l) (new_number to r) join lc rc conditional)
    near_stands later n added last =
        let t = get_or (shapes_of old) r no_shape in
        let has = has_put later n near.columns added last (near_below old plan r rc near is) in
        let rows : Has later n (columns (s.width + width_shown near.columns)) (λ lists doc. joined_where (does_join doc join) (val lists doc old l) lc (val lists doc old r) rc) =
        has-same later n (columns (s.width + width_shown near.columns)) (λ lists doc. rows_shown lists doc s.width near.columns (found_rows lists doc)) _
        (λ lists doc. SameBag-is _ _ (sym (near_rows old plan r rc near is lists doc join lc s.width (val lists doc old l) (wide_left lists doc)))) has in
        stands-by new (SpanJoin (new_number to l) (new_number to r) join lc rc conditional) s t (λ lists doc. val lists doc old l) (λ lists doc. val lists doc old r) (has_new l left_there) (has_new r right_there)
        later n (grows_put later added)
        (has-shape later n (columns (s.width + width_shown near.columns)) (columns (s.width + t.width)) _ (ap (λ (w : ℕ). columns (s.width + w)) (sym (near_wide old plan r rc near is))) rows)
