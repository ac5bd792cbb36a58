-- Products with their sides turned.
use Rattle.std.proofs.Common.{◌≡◌, ◌∙◌, ◌⊎◌, inl, inr, ◌↔◌, IsTrue, ℕ, zero, suc, ◌+◌, ◌<◌, ◌≤◌, Bool, false, true≢false, List, [], ◌∷◌, ◌++◌, map, length, refl, sym, ap, ap₂, subst, arith, Some, None}
use Rattle.std.specs.Prelude.{slice_get}
use Rattle.std.specs.List.{All, flat_map, range_with_len}
use Rattle.std.proofs.lemmas.Bool.{cases_lt}
use Rattle.std.proofs.lemmas.List.{append-nil, length-append, length-map, map-append}
use Rattle.std.proofs.lemmas.List.FromFn.{length-range_with_len}
use Rattle.std.proofs.lemmas.List.Elements.{All-head, All-tail, All-append}
use Rattle.std.proofs.lemmas.Option.{none-some, same_Some}
use Rattle.aql_base.specs.Bags.{SameBag}
use Rattle.aql_base.specs.BagLaws.{SameBag-sym, SameBag-trans, SameBag-is, SameBag-pairs}
use Rattle.span_token.specs.Documents.{Doc as Document}
use Rattle.row_values.specs.Datums.{Datum}
use Rattle.row_values.specs.Rows.{product}
use Rattle.row_values.specs.RowBags.{product-nil, product-cons}
use Rattle.scalar_ops.specs.Expressions.{Term, column, ReadsBelow}
use Rattle.scalar_ops.specs.Tables.{Lists}
use Rattle.scalar_ops.specs.Values.{value}
use Rattle.aql_typed.specs.Trees.{plain}
use Rattle.aql_typed.specs.Meaning.{Rows, row_of, projected}
use Rattle.algebra.specs.declared.node.Node.{Node}
use Rattle.algebra.specs.declared.node.Local.{Local}
use Rattle.algebra.specs.declared.node.Local.TheVariants as sought
use Rattle.algebra.specs.declared.node.Node.TheVariants.{Doc, TokenRegex, DictPart, Project, Cross}
use Rattle.algebra.specs.ExtractionLaws.{columns_from}
use Rattle.algebra.specs.FoldLaws.{length-each}
use Rattle.algebra.specs.Growth.{Has, Stands}
use Rattle.algebra.specs.GrowthLaws.{grows-trans, has-node, has-same, has-shape, stands-by}
use Rattle.algebra.specs.KindLaws.{has-cross, has-project, node-project}
use Rattle.algebra.specs.NodeLaws.{plan-push}
use Rattle.algebra.specs.Nodes.{IsNode, IsPlan}
use Rattle.algebra.specs.Shapes.{columns, shape_by, no_shape, shapes_of}
use Rattle.algebra.specs.Values.{val}
use Rattle.algebra.specs.WidthLaws.{AreWide, val-wide}
use Rattle.restrict_eval.specs.Nears.{plain_columns}
use Rattle.restrict_eval.specs.Putting.{width_at}
use Rattle.restrict_eval.specs.Restricting.{Finds, HasFound}
use Rattle.restrict_eval.specs.Turning.{HasRuns, HasMatches, AreTurned, turned_back}
use Rattle.restrict_eval.proofs.Fates.{plain_of, plain_are}
use Rattle.restrict_eval.proofs.Growing.{get_front}
use Rattle.restrict_eval.proofs.Nearing.{at, first_read}
use Rattle.restrict_eval.proofs.Showing.{between}

-- ---- rows

module _ (lists : Lists) (doc : Document) where
  one_each : {X Y : Type 0} (f : X → Y) (xs : List X) → map f xs ≡ flat_map (λ x. f x ∷ []) xs
  one_each f [] = refl
  one_each f (x ∷ xs) = ap (λ (ys : List _). f x ∷ ys) (one_each f xs)

  by_pairs : (left right : Rows) → product left right ≡ flat_map (λ l. flat_map (λ r. (l ++ r) ∷ []) right) left
  by_pairs [] right = product-nil right
  by_pairs (l ∷ left) right = product-cons l left right ∙ ap₂ (λ (xs ys : Rows). xs ++ ys) (one_each (λ (r : List Datum). l ++ r) right) (by_pairs left right)

  module _ (w v : ℕ) where
    abbrev back : List Datum → List Datum
    back row = row_of lists doc (turned_back v w) row

    -- the columns behind the first row, then those of the first
    turned_row : (l r : List Datum) → length l ≡ w → length r ≡ v → l ++ r ≡ back (r ++ l)
    turned_row l r is_l is_r =
        let behind : row_of lists doc (columns_from v w) (r ++ l) ≡ l =
        subst (λ (n : ℕ). row_of lists doc (columns_from v n) (r ++ l) ≡ l) is_l
        (subst (λ (row : List Datum). row_of lists doc (columns_from v (length l)) (r ++ row) ≡ l) (append-nil l) (between lists doc r l [] v is_r)) in
        let front : row_of lists doc (columns_from 0 v) (r ++ l) ≡ r = subst (λ (n : ℕ). row_of lists doc (columns_from 0 n) (r ++ l) ≡ r) is_r (between lists doc [] r l 0 refl) in
        sym (map-append (value lists doc (r ++ l)) (columns_from v w) (columns_from 0 v) ∙ ap₂ (λ (xs ys : List Datum). xs ++ ys) behind front)

    turned_left : (left : Rows) (r : List Datum) → AreWide w left → length r ≡ v → flat_map (λ l. (l ++ r) ∷ []) left ≡ map back (map (λ l. r ++ l) left)
    turned_left [] r wide is = refl
    turned_left (l ∷ left) r wide is =
        ap₂ (λ (x : List Datum) (xs : Rows). x ∷ xs) (turned_row l r (All-head (λ row. length row ≡ w) l left wide) is) (turned_left left r (All-tail (λ row. length row ≡ w) l left wide) is)

    turned_all : (left right : Rows) → AreWide w left → AreWide v right → flat_map (λ r. flat_map (λ l. (l ++ r) ∷ []) left) right ≡ map back (product right left)
    turned_all left [] wide wide_r = sym (ap (map back) (product-nil left))
    turned_all left (r ∷ right) wide wide_r =
        ap₂ (λ (xs ys : Rows). xs ++ ys) (turned_left left r wide (All-head (λ row. length row ≡ v) r right wide_r)) (turned_all left right wide (All-tail (λ row. length row ≡ v) r right wide_r))
        ∙ (sym (map-append back (map (λ l. r ++ l) left) (product right left)) ∙ ap (map back) (sym (product-cons r right left)))

    -- a product is the turned one, with its columns in their order
    pub turned-product : (left right : Rows) → AreWide w left → AreWide v right → SameBag (projected lists doc (plain (turned_back v w)) (product right left)) (product left right)
    turned-product left right wide wide_r =
        SameBag-sym _ _ (SameBag-trans _ _ _ (SameBag-is _ _ (by_pairs left right))
        (SameBag-trans _ _ _ (SameBag-pairs (λ (l r : List Datum). (l ++ r) ∷ []) left right) (SameBag-is _ _ (turned_all left right wide wide_r))))

-- ---- nodes

pub node_below : (nodes : List Node) (i : ℕ) → i < length (shapes_of nodes) → i < length nodes
node_below nodes i below = omega (arith, below, length-each no_shape shape_by nodes)

back_read : (w v : ℕ) → All (ReadsBelow (v + w)) (turned_back v w)
back_read w v = All-append (ReadsBelow (v + w)) (columns_from v w) (columns_from 0 v) (first_read v w (v + w) (omega arith)) (first_read 0 v (v + w) (omega arith))

back_long : (w v : ℕ) → length (turned_back v w) ≡ w + v
back_long w v =
    omega (arith, length-append (columns_from v w) (columns_from 0 v), length-map (range_with_len v w) column, length-map (range_with_len 0 v) column, length-range_with_len v w, length-range_with_len 0 v)

module _ (old : List Node) (l r : ℕ) (c : Bool) (plan : IsPlan old) (valid : IsNode (shapes_of old) (Cross l r c)) where
  left_there : l < length old
  left_there = omega (arith, valid.left_below, length-each no_shape shape_by old)

  right_there : r < length old
  right_there = omega (arith, valid.right_below, length-each no_shape shape_by old)

  pub turned_valid : IsNode (shapes_of old) (Cross r l c)
  turned_valid = record { left_below = valid.right_below; right_below = valid.left_below; made = (valid.made.1, valid.made.0) }

  module _ (mid : List Node) (m : ℕ) (stands_mid : Stands old mid m (Cross r l c)) where
    has_turned : Has mid m (columns (width_at old r + width_at old l)) (λ lists doc. product (val lists doc old r) (val lists doc old l))
    has_turned = has-cross old r l _ _ (λ lists doc. val lists doc old r) (λ lists doc. val lists doc old l) (has-node old r right_there) (has-node old l left_there) c mid m stands_mid

    pub back_valid : IsNode (shapes_of mid) (Project m (turned_back (width_at old r) (width_at old l)))
    back_valid = node-project mid m (columns (width_at old r + width_at old l)) _ has_turned (turned_back (width_at old r) (width_at old l)) tt (back_read (width_at old l) (width_at old r))

    pub turned_stands : (new : List Node) (n : ℕ) → Stands mid new n (Project m (turned_back (width_at old r) (width_at old l))) → Stands old new n (Cross l r c)
    turned_stands new n stands =
        let w = width_at old l in
        let v = width_at old r in
        let has = has-project mid m (columns (v + w)) _ has_turned (turned_back v w) new n stands in
        let rows : Has new n (columns (length (turned_back v w))) (λ lists doc. product (val lists doc old l) (val lists doc old r)) =
        has-same new n (columns (length (turned_back v w))) (λ lists doc. projected lists doc (plain (turned_back v w)) (product (val lists doc old r) (val lists doc old l))) _
        (λ lists doc. turned-product lists doc w v (val lists doc old l) (val lists doc old r) (val-wide lists doc old l plan) (val-wide lists doc old r plan)) has in
        stands-by old (Cross l r c) _ _ (λ lists doc. val lists doc old l) (λ lists doc. val lists doc old r) (has-node old l left_there) (has-node old r right_there)
        new n (grows-trans old mid new stands_mid.grows stands.grows)
        (has-shape new n (columns (length (turned_back v w))) (columns (w + v)) _ (ap columns (back_long w v)) rows)

-- ---- which side stands on the left

get_back : {X : Type 0} (xs ys : List X) (m : ℕ) (x : X) → m < length xs → slice_get (xs ++ ys) m ≡ Some x → slice_get xs m ≡ Some x
get_back [] ys m x below e = absurd (omega (arith, below))
get_back (y ∷ xs) ys zero x below e = e
get_back (y ∷ xs) ys (suc m) x below e = get_back xs ys m x (omega (arith, below)) e

get_last : {X : Type 0} (xs : List X) (y : X) (m : ℕ) (x : X) → length xs ≤ m → slice_get (xs ++ y ∷ []) m ≡ Some x → y ≡ x
get_last [] y zero x past e = same_Some y x e
get_last [] y (suc m) x past e = absurd (none-some x e)
get_last (z ∷ xs) y zero x past e = absurd (omega (arith, past))
get_last (z ∷ xs) y (suc m) x past e = get_last xs y m x (omega (arith, past)) e

module _ (old : List Node) (plan : IsPlan old) (added : List Node) where
  runs_back : (t : ℕ) → t < length old → IsPlan (old ++ added) → HasRuns (old ++ added) t → HasRuns old t
  runs_back t below planned runs =
      let lower : runs.source < t = (at (old ++ added) planned t (TokenRegex runs.source runs.column runs.low runs.high runs.pattern (0 ∷ [])) runs.is).left_lower in
      record {
        source = runs.source;
        column = runs.column;
        low = runs.low;
        high = runs.high;
        pattern = runs.pattern;
        is = get_back old added t _ below runs.is;
        document = get_back old added runs.source _ (omega (arith, lower, below)) runs.document;
      }

  matches_back : (n : ℕ) → n < length old → IsPlan (old ++ added) → HasMatches (old ++ added) n → HasMatches old n
  matches_back n below planned has = by has.shows
    where
      by : (n ≡ has.t) ⊎ ((cs : List ℕ) × (slice_get (old ++ added) n ≡ Some (Project has.t (map column cs)))) → HasMatches old n
      by (inl same) = record { t = has.t; runs = runs_back has.t (omega (arith, same, below)) planned has.runs; shows = inl same }
      by (inr (cs, is)) =
          let lower : has.t < n = (at (old ++ added) planned n (Project has.t (map column cs)) is).left_lower in
          record { t = has.t; runs = runs_back has.t (omega (arith, lower, below)) planned has.runs; shows = inr (cs, get_back old added n _ below is) }

  matches_on : (n : ℕ) → HasMatches old n → HasMatches (old ++ added) n
  matches_on n has = record {
    t = has.t;
    runs = record {
      source = has.runs.source;
      column = has.runs.column;
      low = has.runs.low;
      high = has.runs.high;
      pattern = has.runs.pattern;
      is = get_front old added has.t _ has.runs.is;
      document = get_front old added has.runs.source _ has.runs.document;
    };
    shows = by has.shows;
  }
    where
      by : (n ≡ has.t) ⊎ ((cs : List ℕ) × (slice_get old n ≡ Some (Project has.t (map column cs)))) → (n ≡ has.t) ⊎ ((cs : List ℕ) × (slice_get (old ++ added) n ≡ Some (Project has.t (map column cs))))
      by (inl same) = inl same
      by (inr (cs, is)) = inr (cs, get_front old added n _ is)

-- one node more: a product only where it doesn't have them on its left alone
pub turned_more : (old new : List Node) (node : Node) → IsPlan old → IsNode (shapes_of old) node → new ≡ old ++ node ∷ [] → AreTurned old
    → ((l r : ℕ) (c : Bool) → node ≡ Cross l r c → HasMatches old l → HasMatches old r) → AreTurned new
turned_more old new node plan valid is turned may = subst AreTurned (sym is) all
  where
    planned : IsPlan (old ++ node ∷ [])
    planned = plan-push old node plan valid

    all : AreTurned (old ++ node ∷ [])
    all k l r c at_k has = elim (cases_lt k (length old)) [
      | inl inside ↦
          let here = get_back old (node ∷ []) k (Cross l r c) inside at_k in
          let at_cross = at old plan k (Cross l r c) here in
          let lower : l < k = at_cross.left_lower in
          matches_on old plan (node ∷ []) r (turned k l r c here (matches_back old plan (node ∷ []) l (omega (arith, lower, inside)) planned has))
      | inr past ↦
          let same : node ≡ Cross l r c = get_last old node k (Cross l r c) past at_k in
          let below : IsNode (shapes_of old) (Cross l r c) = subst (λ (x : Node). IsNode (shapes_of old) x) same valid in
          let there : l < length old = omega (arith, below.left_below, length-each no_shape shape_by old) in
          matches_on old plan (node ∷ []) r (may l r c same (matches_back old plan (node ∷ []) l there planned has))
    ]

-- a product has its own sides
pub same_sides : (l r m n : ℕ) (c d : Bool) → Cross l r c ≡ Cross m n d → (l ≡ m) × (r ≡ n)
same_sides l r m n c d e = (cc, cc)

pub no_cross : (i l r : ℕ) (items : List Term) (c : Bool) → Project i items ≡ Cross l r c → ⊥
no_cross i l r items c e = cc

project_runs : (j i c low high p : ℕ) (items : List Term) (groups : List ℕ) → Project j items ≡ TokenRegex i c low high p groups → ⊥
project_runs j i c low high p items groups e = cc

-- ---- what a node has

module _ (nodes : List Node) where
  no_runs : (base : ℕ) (node : Node) → slice_get nodes base ≡ Some node → ((i c low high p : ℕ) (groups : List ℕ) → node ≡ TokenRegex i c low high p groups → ⊥) → HasRuns nodes base → ⊥
  no_runs base node is other runs =
      other runs.source runs.column runs.low runs.high runs.pattern (0 ∷ []) (same_Some node (TokenRegex runs.source runs.column runs.low runs.high runs.pattern (0 ∷ [])) (sym is ∙ runs.is))

  -- what is found is the matches of a pattern, or it isn't
  runs_found : (base source low high pattern : ℕ) → Finds nodes base source (sought.TokenRegex low high pattern) → slice_get nodes source ≡ Some Doc → HasRuns nodes base
  runs_found base source low high pattern finds document = record { source = source; column = finds.0; low = low; high = high; pattern = pattern; is = finds.1; document = document }

  pub found_runs : (base : ℕ) → HasRuns nodes base → HasFound nodes base
  found_runs base runs = record { source = runs.source; part = sought.TokenRegex runs.low runs.high runs.pattern; finds = (runs.column, runs.is); document = runs.document }

  entries_found : (base source d : ℕ) → Finds nodes base source (sought.Dict d) → HasRuns nodes base → ⊥
  entries_found base source d finds = no_runs base (DictPart finds.0 0) finds.2 (λ i c low high p groups e. cc)

  pub told_runs : (base source : ℕ) (part : Local) (b : Bool) → Finds nodes base source part → slice_get nodes source ≡ Some Doc
      → ((low high pattern : ℕ) → part ≡ sought.TokenRegex low high pattern → IsTrue b) → ((d : ℕ) → part ≡ sought.Dict d → b ≡ false) → IsTrue b ↔ HasRuns nodes base
  told_runs base source (sought.TokenRegex low high pattern) b finds document told other = (λ t. runs_found base source low high pattern finds document, λ runs. told low high pattern refl)
  told_runs base source (sought.Dict d) b finds document told other = (λ t. absurd (true≢false (sym t ∙ other d refl)), λ runs. absurd (entries_found base source d finds runs))

module _ (nodes : List Node) (n : ℕ) where
  -- of columns of another
  pub columns_have : (input : ℕ) (items : List Term) (cs : List ℕ) (b : Bool) → slice_get nodes n ≡ Some (Project input items) → plain_columns items ≡ Some cs → IsTrue b ↔ HasRuns nodes input → IsTrue b ↔ HasMatches nodes n
  columns_have input items cs b is plain_is test = (
    λ t. record { t = input; runs = test.0 t; shows = inr (cs, is ∙ ap (λ (ts : List Term). Some (Project input ts)) (plain_are items cs plain_is)) },
    λ has. test.1 (back has),
  )
    where
      back : HasMatches nodes n → HasRuns nodes input
      back has = by has.shows
        where
          by : (n ≡ has.t) ⊎ ((ds : List ℕ) × (slice_get nodes n ≡ Some (Project has.t (map column ds)))) → HasRuns nodes input
          by (inl same) = absurd (no_runs nodes n (Project input items) is (λ i c low high p groups e. project_runs input i c low high p items groups e) (subst (HasRuns nodes) (sym same) has.runs))
          by (inr (ds, at_n)) =
              let e : Project input items ≡ Project has.t (map column ds) = same_Some _ _ (sym is ∙ at_n) in
              let input_is : has.t ≡ input = cc in
              subst (HasRuns nodes) input_is has.runs

  -- of columns of which some aren't plain
  pub others_lack : (input : ℕ) (items : List Term) → slice_get nodes n ≡ Some (Project input items) → plain_columns items ≡ None → HasMatches nodes n → ⊥
  others_lack input items is lacks has = by has.shows
    where
      by : (n ≡ has.t) ⊎ ((ds : List ℕ) × (slice_get nodes n ≡ Some (Project has.t (map column ds)))) → ⊥
      by (inl same) = no_runs nodes n (Project input items) is (λ i c low high p groups e. project_runs input i c low high p items groups e) (subst (HasRuns nodes) (sym same) has.runs)
      by (inr (ds, at_n)) =
          let e : Project input items ≡ Project has.t (map column ds) = same_Some _ _ (sym is ∙ at_n) in
          let items_are : items ≡ map column ds = cc in
          none-some ds (sym lacks ∙ (ap plain_columns items_are ∙ plain_of ds))

  -- of any other node
  pub node_has : (node : Node) (b : Bool) → slice_get nodes n ≡ Some node → ((i : ℕ) (items : List Term) → node ≡ Project i items → ⊥) → IsTrue b ↔ HasRuns nodes n → IsTrue b ↔ HasMatches nodes n
  node_has node b is other test = (
    λ t. record { t = n; runs = test.0 t; shows = inl refl },
    λ has. test.1 (back has),
  )
    where
      back : HasMatches nodes n → HasRuns nodes n
      back has = by has.shows
        where
          by : (n ≡ has.t) ⊎ ((ds : List ℕ) × (slice_get nodes n ≡ Some (Project has.t (map column ds)))) → HasRuns nodes n
          by (inl same) = subst (HasRuns nodes) (sym same) has.runs
          by (inr (ds, at_n)) = absurd (other has.t (map column ds) (same_Some node _ (sym is ∙ at_n)))
