-- Selections that go below a projection of plain columns or a union, and projections that go below such a projection.
use Rattle.std.proofs.Common.{◌≡◌, ◌∙◌, ℕ, zero, suc, ◌<◌, List, [], ◌∷◌, map, length, get_or, refl, sym, ap, ap₂, subst, arith}
use Rattle.std.specs.List.{All}
use Rattle.std.proofs.lemmas.List.{length-map}
use Rattle.std.proofs.lemmas.List.Elements.{filter-append, All-head, All-tail, All-weaker, All-map}
use Rattle.aql_base.specs.BagLaws.{SameBag-sym, SameBag-trans, SameBag-is, SameBag-filter, SameBag-map}
use Rattle.span_token.specs.Documents.{Doc as Document}
use Rattle.row_values.specs.Datums.{Datum}
use Rattle.row_values.specs.Rows.{value_in}
use Rattle.scalar_ops.specs.Expressions.{Term, column, columns_of, ReadsBelow, renamed}
use Rattle.scalar_ops.specs.ReadingLaws.{columns-renamed}
use Rattle.scalar_ops.specs.Tables.{Lists}
use Rattle.scalar_ops.specs.Values.{value, holding}
use Rattle.scalar_ops.specs.ValueLaws.{HasUnder, value-renamed}
use Rattle.aql_typed.specs.Trees.{plain}
use Rattle.aql_typed.specs.Meaning.{Rows, row_of, selected, projected}
use Rattle.algebra.specs.declared.node.Node.{Node}
use Rattle.algebra.specs.declared.node.Node.TheVariants.{Select, Project, Union}
use Rattle.algebra.specs.declared.shape.Shape.{Shape}
use Rattle.algebra.specs.Growth.{Has, Stands, IsAt}
use Rattle.algebra.specs.GrowthLaws.{grows-trans, grows-length, shape-kept, val-kept, has-grown, has-same, has-shape}
use Rattle.algebra.specs.KindLaws.{has-project, has-union, node-union}
use Rattle.algebra.specs.Nodes.{IsNode}
use Rattle.algebra.specs.SelectionLaws.{selected-columns}
use Rattle.algebra.specs.Shapes.{IsOpen, columns, no_shape, shapes_of}
use Rattle.algebra.specs.Values.{val}
use Rattle.push_select.specs.Pushed.{width_at, MayStand, ArePushed}
use Rattle.push_select.proofs.Replacing.{node_there, shape_there}

-- the number of column n below a projection of these columns
abbrev pub name_in : List ℕ → ℕ → ℕ
name_in shown n = get_or shown n 0

-- a node of a plan stands where it may
pub may-at : (nodes : List Node) → ArePushed nodes → (n : ℕ) (node : Node) → n < length nodes → node ≡ get_or nodes n node → MayStand nodes node
may-at nodes pushed n node below is = subst (MayStand nodes) (sym is) (pushed n node below)

-- ---- below a projection of plain columns

module _ (w : ℕ) where
  pub column_below : (shown : List ℕ) → All (ReadsBelow w) (map column shown) → (n : ℕ) → n < length shown → name_in shown n < w
  column_below [] all n below = absurd (omega (arith, below))
  column_below (x ∷ shown) all zero below = (All-head (ReadsBelow w) (column x) (map column shown) all) 0 0 (omega arith)
  column_below (x ∷ shown) all (suc n) below = column_below shown (All-tail (ReadsBelow w) (column x) (map column shown) all) n (omega (arith, below))

  -- what reads the columns of the projection reads columns below it
  read_below : (shown : List ℕ) → All (ReadsBelow w) (map column shown) → (t : Term) → ReadsBelow (length shown) t → ReadsBelow w (renamed (name_in shown) t)
  read_below shown all t reads =
      subst (All (λ n. n < w)) (sym (columns-renamed (name_in shown) t))
      (All-map (λ n. n < w) (name_in shown) (columns_of t) (λ k d at. column_below shown all (get_or (columns_of t) k d) (reads k d at)))

  pub all_below : (shown : List ℕ) → All (ReadsBelow w) (map column shown) → (ts : List Term) → All (ReadsBelow (length shown)) ts → All (ReadsBelow w) (map (renamed (name_in shown)) ts)
  all_below shown all ts reads = All-map (ReadsBelow w) (renamed (name_in shown)) ts (λ k d at. read_below shown all (get_or ts k d) (reads k d at))

module _ (lists : Lists) (doc : Document) where
  column_there : (shown : List ℕ) (row : List Datum) (n : ℕ) → n < length shown → value_in row (name_in shown n) ≡ value_in (row_of lists doc (map column shown) row) n
  column_there [] row n below = absurd (omega (arith, below))
  column_there (c ∷ shown) row zero below = refl
  column_there (c ∷ shown) row (suc n) below = column_there shown row n (omega (arith, below))

  value_below : (shown : List ℕ) (row : List Datum) (t : Term) → ReadsBelow (length shown) t → value lists doc row (renamed (name_in shown) t) ≡ value lists doc (row_of lists doc (map column shown) row) t
  value_below shown row t reads =
      value-renamed lists doc (name_in shown) (row_of lists doc (map column shown) row) row t
      (All-weaker (λ n. n < length shown) (HasUnder lists doc (name_in shown) (row_of lists doc (map column shown) row) row) (λ n below. column_there shown row n below) (columns_of t) reads)

  row_below : (shown : List ℕ) (row : List Datum) (items : List Term) → All (ReadsBelow (length shown)) items
      → row_of lists doc items (row_of lists doc (map column shown) row) ≡ row_of lists doc (map (renamed (name_in shown)) items) row
  row_below shown row [] reads = refl
  row_below shown row (t ∷ items) reads =
      ap₂ (λ (v : Datum) (rest : List Datum). v ∷ rest) (sym (value_below shown row t (All-head (ReadsBelow (length shown)) t items reads)))
      (row_below shown row items (All-tail (ReadsBelow (length shown)) t items reads))

  -- a projection of a projection of plain columns is one
  projected-columns : (shown : List ℕ) (items : List Term) (rows : Rows) → All (ReadsBelow (length shown)) items
      → projected lists doc (plain items) (projected lists doc (plain (map column shown)) rows) ≡ projected lists doc (plain (map (renamed (name_in shown)) items)) rows
  projected-columns shown items [] reads = refl
  projected-columns shown items (row ∷ rows) reads =
      ap₂ (λ (r : List Datum) (rest : Rows). r ∷ rest) (row_below shown row items reads) (projected-columns shown items rows reads)

module _ (old : List Node) (input from : ℕ) (shown : List ℕ) (at : IsAt old input (Project from (map column shown))) where
  input_width : width_at old input ≡ length shown
  input_width = ap (λ (s : Shape). s.width) at.stands.has.shaped ∙ length-map shown column

  reads_shown : (ts : List Term) → All (ReadsBelow (width_at old input)) ts → All (ReadsBelow (length shown)) ts
  reads_shown ts reads = subst (λ (n : ℕ). All (ReadsBelow n) ts) input_width reads

  -- ---- selections

  module _ (conds : List Term) (valid : IsNode (shapes_of old) (Select input conds)) where
    abbrev below : List Term
    below = map (renamed (name_in shown)) conds

    pub columns-below : (given : List Term) → given ≡ below → IsNode (shapes_of old) (Select from given)
    columns-below given is = record {
      left_below = at.valid.left_below;
      right_below = tt;
      made = (at.valid.made.0, subst (All (ReadsBelow (width_at old from))) (sym is) (all_below (width_at old from) shown at.valid.made.1 conds (reads_shown conds valid.made.1)));
    }

    module _ (given : List Term) (is : given ≡ below) (mid : List Node) (m : ℕ) (narrower : Stands old mid m (Select from given)) where
      pub columns-above : IsNode (shapes_of mid) (Project m (map column shown))
      columns-above = record {
        left_below = shape_there mid m narrower.has.there;
        right_below = tt;
        made = subst (λ (s : Shape). IsOpen s × All (ReadsBelow s.width) (map column shown)) (sym narrower.has.shaped) (tt, at.valid.made.1);
      }

      narrower_has : Has mid m (columns (width_at old from)) (λ lists doc. selected lists doc below (val lists doc old from))
      narrower_has =
          has-same mid m (columns (width_at old from)) (λ lists doc. selected lists doc given (val lists doc old from)) (λ lists doc. selected lists doc below (val lists doc old from))
          (λ lists doc. SameBag-is _ _ (ap (λ (cs : List Term). selected lists doc cs (val lists doc old from)) is)) narrower.has

      pub columns-stands : (new : List Node) (n : ℕ) → Stands mid new n (Project m (map column shown)) → Stands old new n (Select input conds)
      columns-stands new n stands =
          let has = has-project mid m (columns (width_at old from)) (λ lists doc. selected lists doc below (val lists doc old from)) narrower_has (map column shown) new n stands in
          record {
            grows = grows-trans old mid new narrower.grows stands.grows;
            has = record {
              there = has.there;
              shaped = has.shaped ∙ ap columns (sym (ap (λ (s : Shape). s.width) at.stands.has.shaped));
              same = λ lists doc.
                  SameBag-trans _ _ _ (has.same lists doc)
                  (SameBag-trans _ _ _ (SameBag-is _ _ (sym (selected-columns lists doc shown conds (val lists doc old from) (reads_shown conds valid.made.1))))
                  (SameBag-filter (holding lists doc conds) _ _ (SameBag-sym _ _ (at.stands.has.same lists doc))));
            };
          }

  -- ---- projections

  module _ (items : List Term) (valid : IsNode (shapes_of old) (Project input items)) where
    abbrev items_below : List Term
    items_below = map (renamed (name_in shown)) items

    pub items-below : (given : List Term) → given ≡ items_below → IsNode (shapes_of old) (Project from given)
    items-below given is = record {
      left_below = at.valid.left_below;
      right_below = tt;
      made = (at.valid.made.0, subst (All (ReadsBelow (width_at old from))) (sym is) (all_below (width_at old from) shown at.valid.made.1 items (reads_shown items valid.made.1)));
    }

    pub items-stands : (given : List Term) → given ≡ items_below → (new : List Node) (n : ℕ) → Stands old new n (Project from given) → Stands old new n (Project input items)
    items-stands given is new n stands =
        let same_length : length given ≡ length items = ap length is ∙ length-map items (renamed (name_in shown)) in
        record {
          grows = stands.grows;
          has = record {
            there = stands.has.there;
            shaped = stands.has.shaped ∙ ap columns same_length;
            same = λ lists doc.
                SameBag-trans _ _ _ (stands.has.same lists doc)
                (SameBag-trans _ _ _
                (SameBag-is _ _ (ap (λ (ts : List Term). projected lists doc (plain ts) (val lists doc old from)) is
                ∙ sym (projected-columns lists doc shown items (val lists doc old from) (reads_shown items valid.made.1))))
                (SameBag-map (row_of lists doc items) _ _ (SameBag-sym _ _ (at.stands.has.same lists doc))));
          };
        }

-- ---- below a union

module _ (old : List Node) (input left right : ℕ) (at : IsAt old input (Union left right)) (conds : List Term) (valid : IsNode (shapes_of old) (Select input conds)) where
  side_width : width_at old input ≡ width_at old left
  side_width = ap (λ (s : Shape). s.width) at.stands.has.shaped

  reads_left : All (ReadsBelow (width_at old left)) conds
  reads_left = subst (λ (n : ℕ). All (ReadsBelow n) conds) side_width valid.made.1

  reads_right : All (ReadsBelow (width_at old right)) conds
  reads_right = subst (λ (n : ℕ). All (ReadsBelow n) conds) (sym at.valid.made.2) reads_left

  pub union-left : IsNode (shapes_of old) (Select left conds)
  union-left = record { left_below = at.valid.left_below; right_below = tt; made = (at.valid.made.0, reads_left) }

  module _ (copies : List Term) (copied : copies ≡ conds) (mid : List Node) (l : ℕ) (on_left : Stands old mid l (Select left conds)) where
    right_there : right < length old
    right_there = node_there old right at.valid.right_below

    right_shape : get_or (shapes_of mid) right no_shape ≡ get_or (shapes_of old) right no_shape
    right_shape = shape-kept old mid right on_left.grows right_there

    pub union-right : IsNode (shapes_of mid) (Select right copies)
    union-right = record {
      left_below = shape_there mid right (omega (arith, right_there, grows-length old mid on_left.grows));
      right_below = tt;
      made = subst (λ (s : Shape). IsOpen s × All (ReadsBelow s.width) copies) (sym right_shape) (at.valid.made.1, subst (All (ReadsBelow (width_at old right))) (sym copied) reads_right);
    }

    module _ (later : List Node) (r : ℕ) (on_right : Stands mid later r (Select right copies)) where
      abbrev narrowed : ℕ → Lists → Document → Rows
      narrowed i lists doc = selected lists doc conds (val lists doc old i)

      left_has : Has later l (columns (width_at old left)) (narrowed left)
      left_has = has-grown mid later l (columns (width_at old left)) (narrowed left) on_right.grows on_left.has

      right_has : Has later r (columns (width_at old left)) (narrowed right)
      right_has =
          has-shape later r (columns (width_at mid right)) (columns (width_at old left)) (narrowed right) (ap (λ (s : Shape). columns s.width) right_shape ∙ ap columns at.valid.made.2)
          (has-same later r (columns (width_at mid right)) (λ lists doc. selected lists doc copies (val lists doc mid right)) (narrowed right)
          (λ lists doc. SameBag-is _ _ (ap₂ (λ (cs : List Term) (rows : Rows). selected lists doc cs rows) copied (val-kept lists doc old mid right on_left.grows right_there))) on_right.has)

      pub union-valid : IsNode (shapes_of later) (Union l r)
      union-valid = node-union later l r (columns (width_at old left)) (columns (width_at old left)) (narrowed left) (narrowed right) left_has right_has tt tt refl

      pub union-stands : (new : List Node) (n : ℕ) → Stands later new n (Union l r) → Stands old new n (Select input conds)
      union-stands new n stands =
          let has = has-union later l r (columns (width_at old left)) (columns (width_at old left)) (narrowed left) (narrowed right) left_has right_has new n stands in
          record {
            grows = grows-trans old later new (grows-trans old mid later on_left.grows on_right.grows) stands.grows;
            has = record {
              there = has.there;
              shaped = has.shaped ∙ ap columns (sym side_width);
              same = λ lists doc.
                  SameBag-trans _ _ _ (has.same lists doc)
                  (SameBag-trans _ _ _ (SameBag-is _ _ (sym (filter-append (holding lists doc conds) (val lists doc old left) (val lists doc old right))))
                  (SameBag-filter (holding lists doc conds) _ _ (SameBag-sym _ _ (at.stands.has.same lists doc))));
            };
          }
