-- Laws of selections: conditions one after another, below a product or a join, and below a projection of columns.
use Rattle.std.proofs.Common.{◌≡◌, ℕ, zero, suc, ◌+◌, ◌<◌, Bool, true, false, ◌&&◌, List, [], ◌∷◌, ◌++◌, map, length, get_or, refl, sym, ap, ap₂, subst, ◌∙◌, arith}
use Rattle.std.specs.List.{All, filter}
use Rattle.std.proofs.lemmas.List.Elements.{filter_agree, All-head, All-tail, All-weaker, All-filter}
use Rattle.span_token.specs.Documents.{Doc}
use Rattle.span_token.specs.Extents.{Extent}
use Rattle.row_values.specs.Datums.{Datum}
use Rattle.row_values.specs.Rows.{product, value_in, span_in}
use Rattle.span_joins.specs.Joins.{holds, joined_where}
use Rattle.span_joins.specs.JoinLaws.{joined_where-product}
use Rattle.scalar_ops.specs.declared.op.Op.TheVariants.{And}
use Rattle.scalar_ops.specs.Expressions.{Term, column, call, terms, columns_of, ReadsBelow, renamed}
use Rattle.scalar_ops.specs.Operators.{is_true}
use Rattle.scalar_ops.specs.SideLaws.{left_conditions, right_conditions, joint_conditions, holding-push}
use Rattle.scalar_ops.specs.Tables.{Lists}
use Rattle.scalar_ops.specs.Values.{value, holding}
use Rattle.scalar_ops.specs.ValueLaws.{HasUnder, value-renamed, holding-append, holding-and}
use Rattle.aql_typed.specs.Trees.{plain}
use Rattle.aql_typed.specs.Meaning.{Rows, row_of, selected, projected}
use Rattle.algebra.specs.FilterLaws.{filter-filter, filter_comm, filter-map, filter-product}
use Rattle.algebra.specs.WidthLaws.{AreWide}

module _ (lists : Lists) (doc : Doc) where
  -- ---- several conditions

  -- conditions may be applied in turn
  pub selected-append : (cs ds : List Term) (rows : Rows) → selected lists doc (cs ++ ds) rows ≡ selected lists doc ds (selected lists doc cs rows)
  selected-append cs ds rows =
      filter_agree (holding lists doc (cs ++ ds)) (λ row. holding lists doc cs row && holding lists doc ds row) (λ row. holding-append lists doc row cs ds) rows
      ∙ filter-filter (holding lists doc cs) (holding lists doc ds) rows

  and_true : (b : Bool) → (b && true) ≡ b
  and_true true = refl
  and_true false = refl

  -- `And` of conditions, of which there is one or more, is these conditions
  pub selected-and : (c : Term) (cs : List Term) (rows : Rows) → selected lists doc (call And (terms (c ∷ cs)) ∷ []) rows ≡ selected lists doc (c ∷ cs) rows
  selected-and c cs rows =
      filter_agree (holding lists doc (call And (terms (c ∷ cs)) ∷ [])) (holding lists doc (c ∷ cs))
      (λ row. and_true (is_true (value lists doc row (call And (terms (c ∷ cs))))) ∙ holding-and lists doc row c cs) rows

  -- ---- below a product and a join

  pair_means : (width : ℕ) (conds : List Term) (l r : List Datum) → length l ≡ width → holding lists doc conds (l ++ r)
      ≡ (holding lists doc (left_conditions width conds) l && (holding lists doc (right_conditions width conds) r && holding lists doc (joint_conditions width conds) (l ++ r)))
  pair_means width conds l r is =
      subst (λ (w : ℕ). holding lists doc conds (l ++ r)
      ≡ (holding lists doc (left_conditions w conds) l && (holding lists doc (right_conditions w conds) r && holding lists doc (joint_conditions w conds) (l ++ r))))
      is (holding-push lists doc l r conds)

  -- conditions that read one side alone may be applied before a product
  pub selected-product : (width : ℕ) (conds : List Term) (left right : Rows) → AreWide width left
      → selected lists doc conds (product left right)
      ≡ selected lists doc (joint_conditions width conds) (product (selected lists doc (left_conditions width conds) left) (selected lists doc (right_conditions width conds) right))
  selected-product width conds left right wide =
      filter-product width (holding lists doc conds) (holding lists doc (left_conditions width conds)) (holding lists doc (right_conditions width conds)) (holding lists doc (joint_conditions width conds))
      (pair_means width conds) left right wide

  -- and before a join
  pub selected-joined : (test : Extent → Extent → Bool) (lc rc width : ℕ) (conds : List Term) (left right : Rows) → AreWide width left → lc < width
      → selected lists doc conds (joined_where test left lc right rc)
      ≡ selected lists doc (joint_conditions width conds) (joined_where test (selected lists doc (left_conditions width conds) left) lc (selected lists doc (right_conditions width conds) right) rc)
  selected-joined test lc rc width conds left right wide inside =
      let joins : List Datum → Bool = λ row. holds test (span_in lc row) (span_in (width + rc) row) in
      let fewer = selected lists doc (left_conditions width conds) left in
      let others = selected lists doc (right_conditions width conds) right in
      let joint = holding lists doc (joint_conditions width conds) in
      ap (filter (holding lists doc conds)) (joined_where-product test lc rc width inside left right wide)
      ∙ (filter_comm joins (holding lists doc conds) (product left right)
      ∙ (ap (filter joins) (selected-product width conds left right wide)
      ∙ (filter_comm joint joins (product fewer others)
      ∙ ap (filter joint) (sym (joined_where-product test lc rc width inside fewer others
      (All-filter (holding lists doc (left_conditions width conds)) (λ row. length row ≡ width) left wide))))))

  -- ---- below a projection of columns

  -- column n of the projected row
  column_there : (columns : List ℕ) (row : List Datum) (n : ℕ) → n < length columns → value_in row (get_or columns n 0) ≡ value_in (row_of lists doc (map column columns) row) n
  column_there [] row n below = absurd (omega (arith, below))
  column_there (c ∷ columns) row zero below = refl
  column_there (c ∷ columns) row (suc n) below = column_there columns row n (omega (arith, below))

  holding_below : (columns : List ℕ) (row : List Datum) (conds : List Term) → All (ReadsBelow (length columns)) conds
      → holding lists doc conds (row_of lists doc (map column columns) row) ≡ holding lists doc (map (renamed (λ n. get_or columns n 0)) conds) row
  holding_below columns row [] reads = refl
  holding_below columns row (c ∷ conds) reads =
      let name : ℕ → ℕ = λ n. get_or columns n 0 in
      let wide = row_of lists doc (map column columns) row in
      let here : value lists doc row (renamed name c) ≡ value lists doc wide c =
      value-renamed lists doc name wide row c
      (All-weaker (λ n. n < length columns) (HasUnder lists doc name wide row) (λ n below. column_there columns row n below) (columns_of c) (All-head (ReadsBelow (length columns)) c conds reads)) in
      ap₂ ◌&&◌ (ap is_true (sym here)) (holding_below columns row conds (All-tail (ReadsBelow (length columns)) c conds reads))

  -- conditions go below a projection of plain columns, with their columns renamed
  pub selected-columns : (columns : List ℕ) (conds : List Term) (rows : Rows) → All (ReadsBelow (length columns)) conds
      → selected lists doc conds (projected lists doc (plain (map column columns)) rows)
      ≡ projected lists doc (plain (map column columns)) (selected lists doc (map (renamed (λ n. get_or columns n 0)) conds) rows)
  selected-columns columns conds rows reads =
      filter-map (holding lists doc conds) (row_of lists doc (map column columns)) rows
      ∙ ap (map (row_of lists doc (map column columns)))
      (filter_agree (λ row. holding lists doc conds (row_of lists doc (map column columns) row)) (holding lists doc (map (renamed (λ n. get_or columns n 0)) conds))
      (λ row. holding_below columns row conds reads) rows)
