-- A left node that shows columns of other rows: they are shown of what these rows combine to with the right node.
use Rattle.std.proofs.Common.{◌≡◌, ◌∙◌, ℕ, ◌+◌, ◌-◌, ◌<◌, ◌≤◌, inl, inr, List, ◌++◌, map, length, get_or, refl, sym, ap, ap₂, subst, arith}
use Rattle.std.specs.List.{All, range_with_len}
use Rattle.std.proofs.lemmas.Bool.{cases_lt}
use Rattle.std.proofs.lemmas.List.{length-append, length-map, map-append, get_or_append_left, get_or-append_right}
use Rattle.std.proofs.lemmas.List.FromFn.{length-range_with_len, get_or-range_with_len}
use Rattle.std.proofs.lemmas.List.Elements.{All-append, All-map, All-weaker}
use Rattle.aql_base.specs.Bags.{SameBag}
use Rattle.aql_base.specs.BagLaws.{SameBag-refl, SameBag-sym, SameBag-trans, SameBag-is, SameBag-filter}
use Rattle.span_token.specs.Documents.{Doc as Document}
use Rattle.row_values.specs.Rows.{product}
use Rattle.row_values.specs.RowBags.{SameBag-product, width-product}
use Rattle.scalar_ops.specs.Expressions.{Term, column, columns_of, ReadsBelow, renamed}
use Rattle.scalar_ops.specs.ReadingLaws.{columns-renamed}
use Rattle.scalar_ops.specs.Tables.{Lists}
use Rattle.scalar_ops.specs.Values.{holding}
use Rattle.aql_typed.specs.Trees.{plain}
use Rattle.aql_typed.specs.Meaning.{Rows, selected, projected}
use Rattle.algebra.specs.declared.node.Node.{Node}
use Rattle.algebra.specs.declared.node.Node.TheVariants.{Project}
use Rattle.algebra.specs.declared.shape.Shape.{Shape}
use Rattle.algebra.specs.Growth.{Grows, Has, Stands, IsAt}
use Rattle.algebra.specs.GrowthLaws.{grows-trans}
use Rattle.algebra.specs.KindLaws.{node-project, has-project}
use Rattle.algebra.specs.Nodes.{IsNode, IsPlan}
use Rattle.algebra.specs.SelectionLaws.{selected-columns}
use Rattle.algebra.specs.Shapes.{columns, shapes_of}
use Rattle.algebra.specs.Values.{val}
use Rattle.algebra.specs.WidthLaws.{AreWide, val-wide}
use Rattle.push_select.specs.declared.below.Pair.{Pair}
use Rattle.push_select.specs.Conditions.{IsApart}
use Rattle.push_select.specs.Replacing.{all_pairs, cross_of, columns_swapped, joint_width, Combines}
use Rattle.push_select.specs.Pushed.{width_at, ReadsBoth}
use Rattle.push_select.proofs.Going.{name_in, column_below, all_below}
use Rattle.push_select.proofs.Reordering.{apart_renamed, unmapped, inner_width}
use Rattle.push_select.proofs.ShownRows.{range_read, swapped_read, swapped_long, product-shown, product-swapped}

-- what reads both sides does so by numbers that leave each column on its side
both_renamed : (f : ℕ → ℕ) (w v n : ℕ) → ((i : ℕ) → i < w → f i < v) → ((i : ℕ) → w ≤ i → i < n → v ≤ f i) → (t : Term) → ReadsBelow n t → ReadsBoth w t → ReadsBoth v (renamed f t)
both_renamed f w v n low high t reads both = record {
  left = λ from. both.left (λ k d below.
      let i = get_or (columns_of t) k d in
      let there : v ≤ f i = unmapped (λ m. v ≤ m) f (columns_of t) (subst (All (λ m. v ≤ m)) (columns-renamed f t) from) k d below in
      elim (cases_lt i w) [
        | inl inside ↦ absurd (omega (arith, there, low i inside))
        | inr past ↦ past
      ]);
  right = λ under. both.right (λ k d below.
      let i = get_or (columns_of t) k d in
      let there : f i < v = unmapped (λ m. m < v) f (columns_of t) (subst (All (λ m. m < v)) (columns-renamed f t) under) k d below in
      elim (cases_lt i w) [
        | inl inside ↦ inside
        | inr past ↦ absurd (omega (arith, there, high i past (reads k d below)))
      ]);
}

module _ (shown : List ℕ) (w u : ℕ) (below : All (ReadsBelow w) (map column shown)) where
  abbrev further : List ℕ
  further = shown ++ range_with_len w u

  further_long : length further ≡ length shown + u
  further_long = omega (arith, length-append shown (range_with_len w u), length-range_with_len w u)

  further_read : All (ReadsBelow (w + u)) (map column further)
  further_read =
      subst (All (ReadsBelow (w + u))) (sym (map-append column shown (range_with_len w u)))
      (All-append (ReadsBelow (w + u)) (map column shown) (map column (range_with_len w u))
      (All-weaker (ReadsBelow w) (ReadsBelow (w + u)) (λ t reads k d at. omega (arith, reads k d at)) (map column shown) below)
      (range_read w u (w + u) (omega arith)))

  further_low : (i : ℕ) → i < length shown → name_in further i < w
  further_low i inside = subst (λ (n : ℕ). n < w) (sym (get_or_append_left shown (range_with_len w u) 0 i inside)) (column_below w shown below i inside)

  further_high : (i : ℕ) → length shown ≤ i → i < length shown + u → w ≤ name_in further i
  further_high i past there =
      let rest : i - length shown < u = omega (arith, past, there) in
      omega (arith, get_or-append_right shown (range_with_len w u) (length shown) i 0 refl past, get_or-range_with_len w u (i - length shown) 0 rest)

  module _ (cs : List Term) (reads : All (ReadsBelow (length shown + u)) cs) where
    reads_further : All (ReadsBelow (length further)) cs
    reads_further = subst (λ (n : ℕ). All (ReadsBelow n) cs) (sym further_long) reads

    renamed-reads : All (ReadsBelow (w + u)) (map (renamed (name_in further)) cs)
    renamed-reads = all_below (w + u) further further_read cs reads_further

    renamed-joint : All (ReadsBoth (length shown)) cs → All (ReadsBoth w) (map (renamed (name_in further)) cs)
    renamed-joint joint = All-map (ReadsBoth w) (renamed (name_in further)) cs (λ k d at.
        both_renamed (name_in further) (length shown) w (length shown + u) further_low further_high (get_or cs k d) (reads k d at) (joint k d at))

    renamed-apart : All IsApart cs → All IsApart (map (renamed (name_in further)) cs)
    renamed-apart apart = All-map IsApart (renamed (name_in further)) cs (λ k d at. apart_renamed (name_in further) (get_or cs k d) (apart k d at))

-- the left node shows these columns of these rows, which have so many columns
pub record Shows (nodes : List Node) (n : ℕ) (shown : List ℕ) (w : ℕ) (rows : Lists → Document → Rows) : Type 0 where
  pub reads : All (ReadsBelow w) (map column shown)
  pub long : width_at nodes n ≡ length shown
  pub wide : (lists : Lists) (doc : Document) → AreWide w (rows lists doc)
  pub same : (lists : Lists) (doc : Document) → SameBag (projected lists doc (plain (map column shown)) (rows lists doc)) (val lists doc nodes n)

module _ (old : List Node) (pair : Pair) (plan : IsPlan old) (shown : List ℕ) (w : ℕ) (rows : Lists → Document → Rows) (shows : Shows old pair.left shown w rows)
    (cs : List Term) (reads : All (ReadsBelow (joint_width old pair)) cs) (joint : All (ReadsBoth (width_at old pair.left)) cs) (apart : All IsApart cs)
    (all : List ℕ) (pushed : all ≡ shown ++ range_with_len w (width_at old pair.right)) (given : List Term) (named : given ≡ map (renamed (name_in all)) cs) where
  abbrev u : ℕ
  u = width_at old pair.right

  abbrev names : ℕ → ℕ
  names = name_in (shown ++ range_with_len w u)

  reads_here : All (ReadsBelow (length shown + u)) cs
  reads_here = subst (λ (n : ℕ). All (ReadsBelow (n + u)) cs) shows.long reads

  given_is : given ≡ map (renamed names) cs
  given_is = named ∙ ap (λ (list : List ℕ). map (renamed (name_in list)) cs) pushed

  pub shown-reads : All (ReadsBelow (w + u)) given
  shown-reads = subst (All (ReadsBelow (w + u))) (sym given_is) (renamed-reads shown w u shows.reads cs reads_here)

  pub shown-joint : All (ReadsBoth w) given
  shown-joint = subst (All (ReadsBoth w)) (sym given_is) (renamed-joint shown w u shows.reads cs reads_here (subst (λ (n : ℕ). All (ReadsBoth n) cs) shows.long joint))

  pub shown-apart : All IsApart given
  shown-apart = subst (λ (ts : List Term). All IsApart ts) (sym given_is) (renamed-apart shown w u shows.reads cs reads_here apart)

  module _ (mid : List Node) (m : ℕ) (grows : Grows old mid) (has : Has mid m (columns (w + u)) (λ lists doc. selected lists doc given (product (rows lists doc) (val lists doc old pair.right)))) where
    pub shown-valid : IsNode (shapes_of mid) (Project m (map column all))
    shown-valid =
        subst (λ (list : List ℕ). IsNode (shapes_of mid) (Project m (map column list))) (sym pushed)
        (node-project mid m (columns (w + u)) _ has (map column (shown ++ range_with_len w u)) tt (further_read shown w u shows.reads))

    -- the conditions over the rows, by the columns that are shown
    shown_same : (lists : Lists) (doc : Document)
        → SameBag (projected lists doc (plain (map column all)) (selected lists doc given (product (rows lists doc) (val lists doc old pair.right))))
        (selected lists doc cs (product (val lists doc old pair.left) (val lists doc old pair.right)))
    shown_same lists doc =
        let x = rows lists doc in
        let c = val lists doc old pair.right in
        let further : List ℕ = shown ++ range_with_len w u in
        SameBag-trans _ _ _
        (SameBag-is _ _ (ap₂ (λ (list : List ℕ) (ts : List Term). projected lists doc (plain (map column list)) (selected lists doc ts (product x c))) pushed given_is
        ∙ (sym (selected-columns lists doc further cs (product x c) (reads_further shown w u shows.reads cs reads_here))
        ∙ ap (selected lists doc cs) (sym (product-shown lists doc shown w u shows.reads x c (shows.wide lists doc) (val-wide lists doc old pair.right plan))))))
        (SameBag-filter (holding lists doc cs) _ _ (SameBag-product _ _ _ _ (shows.same lists doc) (SameBag-refl c)))

    pub shown-combines : (new : List Node) (n : ℕ) → Stands mid new n (Project m (map column all)) → Combines old new pair n all_pairs cs
    shown-combines new n stands =
        let shape : Has new n (columns (length (map column all))) (λ lists doc. projected lists doc (plain (map column all)) (selected lists doc given (product (rows lists doc) (val lists doc old pair.right)))) =
        has-project mid m (columns (w + u)) _ has (map column all) new n stands in
        record {
          grows = grows-trans old mid new grows stands.grows;
          has = record {
            there = shape.there;
            shaped = shape.shaped ∙ ap columns widths;
            same = λ lists doc. SameBag-trans _ _ _ (shape.same lists doc) (shown_same lists doc);
          };
        }
      where
        widths : length (map column all) ≡ joint_width old pair
        widths = omega (arith, length-map all column, ap length pushed, further_long shown w u shows.reads, shows.long)

-- ---- columns of a product

module _ (old : List Node) (left from : ℕ) (shown : List ℕ) (at : IsAt old left (Project from (map column shown))) where
  pub columns-shows : Shows old left shown (width_at old from) (λ lists doc. val lists doc old from)
  columns-shows = record {
    reads = at.valid.made.1;
    long = ap (λ (s : Shape). s.width) at.stands.has.shaped ∙ length-map shown column;
    wide = λ lists doc. val-wide lists doc old from at.plan;
    same = λ lists doc. SameBag-sym _ _ (at.stands.has.same lists doc);
  }

-- ---- a product whose sides are swapped

module _ (old : List Node) (pair inner : Pair) (at : IsAt old pair.left (cross_of inner)) (both : IsNode (shapes_of old) (cross_of pair)) where
  abbrev first : ℕ
  first = width_at old inner.left

  abbrev second : ℕ
  second = width_at old inner.right

  pub swapped-shows : Shows old pair.left (columns_swapped first second) (second + first) (λ lists doc. product (val lists doc old inner.right) (val lists doc old inner.left))
  swapped-shows = record {
    reads = swapped_read first second;
    long = inner_width old pair inner at both ∙ sym (swapped_long first second);
    wide = λ lists doc. width-product second first _ _ (val-wide lists doc old inner.right at.plan) (val-wide lists doc old inner.left at.plan);
    same = λ lists doc.
        SameBag-trans _ _ _ (product-swapped lists doc first second _ _ (val-wide lists doc old inner.left at.plan) (val-wide lists doc old inner.right at.plan))
        (SameBag-sym _ _ (at.stands.has.same lists doc));
  }

  -- the columns of the third node behind them
  pub swapped-further : (all : List ℕ) → all ≡ columns_swapped first second ++ range_with_len (width_at old pair.left) (width_at old pair.right)
      → all ≡ columns_swapped first second ++ range_with_len (second + first) (width_at old pair.right)
  swapped-further all pushed =
      let sum : width_at old pair.left ≡ second + first = omega (arith, inner_width old pair inner at both) in
      pushed ∙ ap (λ (n : ℕ). columns_swapped first second ++ range_with_len n (width_at old pair.right)) sum

  pub swapped-front : IsNode (shapes_of old) (cross_of (record { left = inner.right; right = inner.left }))
  swapped-front = record { left_below = at.valid.right_below; right_below = at.valid.left_below; made = (at.valid.made.1, at.valid.made.0) }

  pub swapped-behind : IsNode (shapes_of old) (cross_of (record { left = inner.left; right = pair.right }))
  swapped-behind = record { left_below = at.valid.left_below; right_below = both.right_below; made = (at.valid.made.0, both.made.1) }
