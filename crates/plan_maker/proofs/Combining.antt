-- Products of sources, one after another, and conditions that are tried as soon as their columns are there.
use Rattle.std.proofs.Common.{◌≡◌, ◌∙◌, ℕ, ◌+◌, ◌&&◌, ◌<◌, Bool, true, false, cond, not, List, [], ◌∷◌, ◌++◌, length, map, flat_map, refl, sym, ap, ap₂, subst, append_assoc, arith}
use Rattle.std.specs.List.{All, filter}
use Rattle.std.proofs.lemmas.Grind.{flat_map-append}
use Rattle.std.proofs.lemmas.List.{append-nil, map-append}
use Rattle.std.proofs.lemmas.List.Elements.{All-filter, All-nil, All-cons}
use Rattle.span_token.specs.Documents.{Doc}
use Rattle.row_values.specs.Datums.{Datum}
use Rattle.row_values.specs.Rows.{product}
use Rattle.row_values.specs.RowBags.{product-nil, product-cons}
use Rattle.scalar_ops.specs.Expressions.{Term, ReadsBelow, does_read_below}
use Rattle.scalar_ops.specs.ReadingLaws.{does_read_below-is}
use Rattle.scalar_ops.specs.SideLaws.{left_conditions, later_conditions, holding-parted, holding-left}
use Rattle.scalar_ops.specs.Tables.{Lists}
use Rattle.scalar_ops.specs.Values.{holding}
use Rattle.aql_typed.specs.Fitting.{source_width, all_widths, SourceFits, AllSourcesFit}
use Rattle.aql_typed.specs.Meaning.{Rows, selected, source_rows, combinations}
use Rattle.aql_typed.specs.Trees.{Source, Sources, no_sources, more_sources}
use Rattle.algebra.specs.declared.node.Node.{Node}
use Rattle.algebra.specs.FilterLaws.{filter-product}
use Rattle.algebra.specs.WidthLaws.{AreWide}
use Rattle.push_select.specs.ProductLaws.{product-assoc}
use Rattle.plan_maker.specs.declared.below.Below.{Below}
use Rattle.plan_maker.specs.Grounds.{Gives, Narrows, IsBase}
use Rattle.plan_maker.proofs.Giving.{gives-is, gives-width}

pub no_item : {X : Type 0} (xs : List X) → length xs ≡ 0 → xs ≡ []
no_item [] is = refl
no_item (x ∷ xs) is = absurd (omega (arith, is))

-- ---- products

-- the empty row behind each row
pub product-ends : (rows : Rows) → product rows ([] ∷ []) ≡ rows
product-ends [] = product-nil ([] ∷ [])
product-ends (l ∷ rows) = product-cons l rows ([] ∷ []) ∙ ap₂ (λ (a : List Datum) (b : Rows). a ∷ b) (append-nil l) (product-ends rows)

-- ---- conditions

pub filter-all : {X : Type 0} (p : X → Bool) → ((x : X) → p x ≡ true) → (xs : List X) → filter p xs ≡ xs
filter-all p passes [] = refl
filter-all p passes (x ∷ xs) = ap (λ (b : Bool). cond b (x ∷ filter p xs) (filter p xs)) (passes x) ∙ ap (λ rest. x ∷ rest) (filter-all p passes xs)

-- what passes a test, and reads below a width by it
pub early-read : (width : ℕ) (cs : List Term) → All (ReadsBelow width) (left_conditions width cs)
early-read width [] = All-nil (ReadsBelow width)
early-read width (c ∷ cs) = by (does_read_below width c) refl (early-read width cs)
  where
    by : (b : Bool) → does_read_below width c ≡ b → All (ReadsBelow width) (left_conditions width cs) → All (ReadsBelow width) (left_conditions width (c ∷ cs))
    by true e rest = rw e (All-cons (ReadsBelow width) c (left_conditions width cs) ((does_read_below-is width c).0 e) rest)
    by false e rest = rw e rest

-- the terms of what passes a test of terms
pub terms_sieved : {X Y : Type 0} (f : X → Y) (p : Y → Bool) (xs : List X) → map f (filter (λ x. p (f x)) xs) ≡ filter p (map f xs)
terms_sieved f p [] = refl
terms_sieved {X} {Y} f p (x ∷ xs) = by (p (f x)) (filter (λ x. p (f x)) xs) ∙ ap (λ (rest : List Y). cond (p (f x)) (f x ∷ rest) rest) (terms_sieved f p xs)
  where
    by : (b : Bool) (ys : List X) → map f (cond b (x ∷ ys) ys) ≡ cond b (f x ∷ map f ys) (map f ys)
    by true ys = refl
    by false ys = refl

module _ (lists : Lists) (doc : Doc) where
  pub selected-none : (rows : Rows) → selected lists doc [] rows ≡ rows
  selected-none rows = filter-all (holding lists doc []) (λ row. refl) rows

  pair_parts : (width : ℕ) (conds : List Term) (l r : List Datum) → length l ≡ width → holding lists doc conds (l ++ r)
      ≡ (holding lists doc (left_conditions width conds) l && (true && holding lists doc (later_conditions width conds) (l ++ r)))
  pair_parts width conds l r is =
      holding-parted lists doc (does_read_below width) conds (l ++ r)
      ∙ ap (λ (b : Bool). b && holding lists doc (later_conditions width conds) (l ++ r))
      (subst (λ (k : ℕ). holding lists doc (left_conditions k conds) (l ++ r) ≡ holding lists doc (left_conditions k conds) l) is (holding-left lists doc l r conds))

  -- what reads the left side alone may be tried before a product
  pub selected-early : (width : ℕ) (conds : List Term) (left right : Rows) → AreWide width left
      → selected lists doc conds (product left right) ≡ selected lists doc (later_conditions width conds) (product (selected lists doc (left_conditions width conds) left) right)
  selected-early width conds left right wide =
      filter-product width (holding lists doc conds) (holding lists doc (left_conditions width conds)) (λ row. true) (holding lists doc (later_conditions width conds)) (pair_parts width conds) left right wide
      ∙ ap (λ (rows : Rows). selected lists doc (later_conditions width conds) (product (selected lists doc (left_conditions width conds) left) rows)) (filter-all (λ row. true) (λ row. refl) right)

-- ---- sources, one after another

-- the sources so far are joined at a node, and the conditions that are left hold where all hold
pub record IsJoined (nodes : List Node) (below : Below) (widths : List ℕ) (means : Lists → Doc → List Rows) (sources rest : Sources) (conds last : List Term) (n : ℕ) : Type 0 where
  pub width : ℕ
  pub rows : Lists → Doc → Rows
  pub gives : Gives nodes n width rows
  pub total : width + all_widths widths rest ≡ all_widths widths sources
  pub reads : All (ReadsBelow (all_widths widths sources)) last
  pub same : (lists : Lists) (doc : Doc) → selected lists doc last (product (rows lists doc) (combinations lists doc (means lists doc) rest)) ≡ selected lists doc conds (combinations lists doc (means lists doc) sources)
  pub there : AllSourcesFit widths rest
  pub base : IsBase nodes below widths means

module _ (nodes : List Node) (below : Below) (widths : List ℕ) (means : Lists → Doc → List Rows) (base : IsBase nodes below widths means) (conds : List Term) where
  -- the first source
  pub joined-first : (source : Source) (rest : Sources) (last : List Term) (n : ℕ) → AllSourcesFit widths (more_sources source rest) → All (ReadsBelow (all_widths widths (more_sources source rest))) conds
      → Narrows nodes n (source_width widths source) (λ lists doc. source_rows lists doc (means lists doc) source) conds last
      → IsJoined nodes below widths means (more_sources source rest) rest conds last n
  joined-first source rest last n there reads narrows = record {
    width = source_width widths source;
    rows = λ lists doc. selected lists doc (left_conditions (source_width widths source) conds) (source_rows lists doc (means lists doc) source);
    gives = narrows.gives;
    total = refl;
    reads = subst (All (ReadsBelow (all_widths widths (more_sources source rest)))) (sym narrows.left)
        (All-filter (λ c. not (does_read_below (source_width widths source) c)) (ReadsBelow (all_widths widths (more_sources source rest))) conds reads);
    same = λ lists doc.
        ap (λ (cs : List Term). selected lists doc cs (product (selected lists doc (left_conditions (source_width widths source) conds) (source_rows lists doc (means lists doc) source)) (combinations lists doc (means lists doc) rest))) narrows.left
        ∙ sym (selected-early lists doc (source_width widths source) conds (source_rows lists doc (means lists doc) source) (combinations lists doc (means lists doc) rest) (narrows.wide lists doc));
    there = there.1;
    base = base;
  }

  -- one source more
  pub joined-next : (old : List Node) (sources : Sources) (source : Source) (rest : Sources) (last later : List Term) (m n : ℕ) (before : IsJoined old below widths means sources (more_sources source rest) conds last m)
      → Narrows nodes n (before.width + source_width widths source) (λ lists doc. product (before.rows lists doc) (source_rows lists doc (means lists doc) source)) last later
      → IsJoined nodes below widths means sources rest conds later n
  joined-next old sources source rest last later m n before narrows =
      let w = before.width + source_width widths source in
      let both : Lists → Doc → Rows = λ lists doc. product (before.rows lists doc) (source_rows lists doc (means lists doc) source) in
      record {
        width = w;
        rows = λ lists doc. selected lists doc (left_conditions w last) (both lists doc);
        gives = narrows.gives;
        total = omega (arith, before.total);
        reads = subst (All (ReadsBelow (all_widths widths sources))) (sym narrows.left) (All-filter (λ c. not (does_read_below w c)) (ReadsBelow (all_widths widths sources)) last before.reads);
        same = λ lists doc.
            ap (λ (cs : List Term). selected lists doc cs (product (selected lists doc (left_conditions w last) (both lists doc)) (combinations lists doc (means lists doc) rest))) narrows.left
            ∙ (sym (selected-early lists doc w last (both lists doc) (combinations lists doc (means lists doc) rest) (narrows.wide lists doc))
            ∙ (ap (selected lists doc last) (product-assoc (before.rows lists doc) (source_rows lists doc (means lists doc) source) (combinations lists doc (means lists doc) rest))
            ∙ before.same lists doc));
        there = before.there.1;
        base = base;
      }

  -- no source is left
  pub joined-last : (all : Sources) (last : List Term) (n : ℕ) (done : IsJoined nodes below widths means all no_sources conds last n)
      → (lists : Lists) (doc : Doc) → selected lists doc last (done.rows lists doc) ≡ selected lists doc conds (combinations lists doc (means lists doc) all)
  joined-last all last n done lists doc = ap (selected lists doc last) (sym (product-ends (done.rows lists doc))) ∙ done.same lists doc
