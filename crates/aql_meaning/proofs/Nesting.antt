-- Conditions that are tried early: what they leave, and where they stand.
use Rattle.std.proofs.Common.{◌≡◌, ◌∙◌, ℕ, ◌+◌, ◌&&◌, Bool, true, false, cond, ◌++◌, ◌<◌, List, [], ◌∷◌, map, length, take, get_or, Bor, refl, sym, ap, ap₂, subst, arith}
use Rattle.std.specs.List.{All, filter, sum_by}
use Rattle.std.proofs.lemmas.List.{append-nil, map-append, length-append, length-map, get_or-map, take_more}
use Rattle.std.proofs.lemmas.List.Folds.{list_all_at}
use Rattle.std.proofs.lemmas.Simd.{map-map}
use Rattle.std.proofs.lemmas.List.Sums.{sum_by-cons, sum_by-append}
use Rattle.std.proofs.lemmas.List.Elements.{All-nil, All-cons, All-head, All-tail}
use Rattle.span_token.specs.Documents.{Doc}
use Rattle.row_values.specs.Datums.{Datum}
use Rattle.row_values.specs.Rows.{RowList, RowsLieIn, product}
use Rattle.scalar_ops.specs.declared.expr.Expr.{Expr}
use Rattle.scalar_ops.specs.Views.{term_of}
use Rattle.scalar_ops.specs.Expressions.{Term, ReadsBelow, does_read_below}
use Rattle.scalar_ops.specs.Operators.{is_true}
use Rattle.scalar_ops.specs.Tables.{Lists}
use Rattle.scalar_ops.specs.Values.{value, holding}
use Rattle.scalar_ops.specs.ValueLaws.{value-left, holding-append}
use Rattle.scalar_ops.specs.ReadingLaws.{does_read_below-is}
use Rattle.scalar_ops.specs.SideLaws.{left_conditions, later_conditions, holding-parted}
use Rattle.aql_typed.specs.Meaning.{selected}
use Rattle.aql_meaning.specs.declared.nest.Level.{Level}
use Rattle.aql_meaning.specs.Sources.{products}
use Rattle.aql_meaning.specs.Nests.{HoldAlike, terms_lent, all_conds, AreEarly, IsNest}

nothing : {X Y : Type 0} (p : X → Bool) (f : Y → X) (ys : List Y) → ((y : Y) → p (f y) ≡ false) → filter p (map f ys) ≡ []
nothing p f [] never = refl
nothing p f (y ∷ ys) never = rw (never y) (nothing p f ys never)

alike : {X Y : Type 0} (p q : X → Bool) (f : Y → X) (ys : List Y) → ((y : Y) → p (f y) ≡ q (f y)) → filter p (map f ys) ≡ filter q (map f ys)
alike {X} {Y} p q f [] same = refl
alike {X} {Y} p q f (y ∷ ys) same =
    ap₂ (λ (b : Bool) (rest : List X). cond b (f y ∷ rest) rest) (same y) (alike p q f ys same)

module _ (lists : Lists) (doc : Doc) where
  -- what reads the first columns alone holds of a row where it holds of these
  holding_early : (cs : List Term) (lead row : List Datum) → All (ReadsBelow (length lead)) cs → holding lists doc cs (lead ++ row) ≡ holding lists doc cs lead
  holding_early [] lead row reads = refl
  holding_early (c ∷ cs) lead row reads =
      ap₂ ◌&&◌ (ap is_true (value-left lists doc lead row c (All-head (ReadsBelow (length lead)) c cs reads)))
      (holding_early cs lead row (All-tail (ReadsBelow (length lead)) c cs reads))

  holding_both : (cs ds : List Term) (lead row : List Datum) (holds : Bool) → All (ReadsBelow (length lead)) cs → holding lists doc cs lead ≡ holds
      → holding lists doc (cs ++ ds) (lead ++ row) ≡ (holds && holding lists doc ds (lead ++ row))
  holding_both cs ds lead row holds reads is =
      holding-append lists doc (lead ++ row) cs ds ∙ ap (λ (b : Bool). b && holding lists doc ds (lead ++ row)) (holding_early cs lead row reads ∙ is)

  -- where one of them fails, no combination is left
  pub none_left : (cs ds : List Term) (lead : List Datum) (rows : List (List Datum)) → All (ReadsBelow (length lead)) cs → holding lists doc cs lead ≡ false
      → selected lists doc (cs ++ ds) (map (λ r. lead ++ r) rows) ≡ []
  none_left cs ds lead rows reads fails = nothing (holding lists doc (cs ++ ds)) (λ r. lead ++ r) rows (λ r. holding_both cs ds lead r false reads fails)

  -- where they hold, they needn't be tried again
  pub others_left : (cs ds : List Term) (lead : List Datum) (rows : List (List Datum)) → All (ReadsBelow (length lead)) cs → holding lists doc cs lead ≡ true
      → selected lists doc (cs ++ ds) (map (λ r. lead ++ r) rows) ≡ selected lists doc ds (map (λ r. lead ++ r) rows)
  others_left cs ds lead rows reads hold =
      alike (holding lists doc (cs ++ ds)) (holding lists doc ds) (λ r. lead ++ r) rows (λ r. holding_both cs ds lead r true reads hold)

-- ---- one level more

abbrev level_width : Level → ℕ
level_width level = level.source.now.width

early_more : (width : ℕ) (levels : List Level) (level : Level) → AreEarly width levels → All (ReadsBelow (width + sum_by level_width levels)) (terms_lent level.conds.items) → AreEarly width (levels ++ level ∷ [])
early_more width [] level early reads = (subst (λ (w : ℕ). All (ReadsBelow w) (terms_lent level.conds.items)) (omega arith) reads, tt)
early_more width (l ∷ levels) level early reads = (
  early.0,
  early_more (width + level_width l) levels level early.1
      (subst (λ (w : ℕ). All (ReadsBelow w) (terms_lent level.conds.items)) (omega (arith, sum_by-cons level_width l levels)) reads),
)

conds_more : (levels : List Level) (level : Level) (last : List Term) → all_conds (levels ++ level ∷ []) last ≡ all_conds levels (terms_lent level.conds.items ++ last)
conds_more [] level last = refl
conds_more (l ∷ levels) level last = ap (λ (rest : List Term). terms_lent l.conds.items ++ rest) (conds_more levels level last)

same_behind : (lists : Lists) (doc : Doc) (row : List Datum) (levels : List Level) (xs ys : List Term) → holding lists doc xs row ≡ holding lists doc ys row
    → holding lists doc (all_conds levels xs) row ≡ holding lists doc (all_conds levels ys) row
same_behind lists doc row [] xs ys same = same
same_behind lists doc row (l ∷ levels) xs ys same =
    let first = terms_lent l.conds.items in
    holding-append lists doc row first (all_conds levels xs)
    ∙ (ap (λ (b : Bool). holding lists doc first row && b) (same_behind lists doc row levels xs ys same) ∙ sym (holding-append lists doc row first (all_conds levels ys)))

-- what passes a test, and reads below a width by it
reads_below : (width : ℕ) (cs : List Term) → All (ReadsBelow width) (left_conditions width cs)
reads_below width [] = All-nil (ReadsBelow width)
reads_below width (c ∷ cs) = by (does_read_below width c) refl (reads_below width cs)
  where
    by : (b : Bool) → does_read_below width c ≡ b → All (ReadsBelow width) (left_conditions width cs) → All (ReadsBelow width) (left_conditions width (c ∷ cs))
    by true e rest = rw e (All-cons (ReadsBelow width) c (left_conditions width cs) ((does_read_below-is width c).0 e) rest)
    by false e rest = rw e rest

widths_of : (levels : List Level) → sum_by level_width levels ≡ sum_by (λ (list : RowList). list.width) (map (λ (level : Level). level.source.now) levels)
widths_of [] = refl
widths_of (l ∷ levels) = sum_by-cons level_width l levels ∙ (ap (λ (n : ℕ). level_width l + n) (widths_of levels)
    ∙ sym (sum_by-cons (λ (list : RowList). list.width) l.source.now (map (λ (level : Level). level.source.now) levels)))

module _ (sources : List RowList) (conds : List Term) (levels : List Level) (last later : List Term) (width wider : ℕ) (level : Level) where
  pub level_more : IsNest sources conds levels last width → terms_lent level.conds.items ≡ left_conditions width last → later ≡ later_conditions width last
      → wider ≡ width + level.source.now.width → IsNest (sources ++ level.source.now ∷ []) conds (levels ++ level ∷ []) later wider
  level_more nest now rest is =
      let from_zero : sum_by level_width levels ≡ 0 + sum_by level_width levels = omega arith in
      let single : 0 + level.source.now.width ≡ level.source.now.width = omega arith in
      record {
        early = early_more 0 levels level nest.early (subst (All (ReadsBelow (0 + sum_by level_width levels))) (sym now)
            (subst (λ (w : ℕ). All (ReadsBelow w) (left_conditions width last)) (nest.wide ∙ (sym (ap (sum_by (λ (list : RowList). list.width)) nest.sources_are) ∙ (sym (widths_of levels) ∙ from_zero))) (reads_below width last)));
        sources_are = map-append (λ (level : Level). level.source.now) levels (level ∷ []) ∙ ap (λ (before : List RowList). before ++ level.source.now ∷ []) nest.sources_are;
        wide = is ∙ (ap (λ (n : ℕ). n + level.source.now.width) nest.wide
            ∙ (ap (λ (n : ℕ). sum_by (λ (list : RowList). list.width) sources + n) (sym single) ∙ sym (sum_by-append (λ (list : RowList). list.width) sources (level.source.now ∷ []))));
        same = λ lists doc row.
            ap (λ (cs : List Term). holding lists doc cs row) (conds_more levels level later)
            ∙ (same_behind lists doc row levels (terms_lent level.conds.items ++ later) last
            (ap₂ (λ (a b : List Term). holding lists doc (a ++ b) row) now rest
            ∙ (holding-append lists doc row (left_conditions width last) (later_conditions width last) ∙ sym (holding-parted lists doc (does_read_below width) last row)))
            ∙ nest.same lists doc row);
      }

-- ---- what a level leaves

module _ (lists : Lists) (doc : Doc) (levels rest : List Level) (first : Level) (last : List Term) (lead : List Datum) (start : List (List Datum)) (are : levels ≡ first ∷ rest)
    (early : AreEarly (length lead) levels) where
  -- the combinations behind `lead` on which all conditions hold
  abbrev those : List (List Datum)
  those = selected lists doc (all_conds levels last) (map (λ r. lead ++ r) (products (map (λ level. level.source.now.rows) levels)))

  first_early : All (ReadsBelow (length lead)) (terms_lent first.conds.items)
  first_early = (subst (AreEarly (length lead)) are early).0

  those_of : those ≡ selected lists doc (terms_lent first.conds.items ++ all_conds rest last) (map (λ r. lead ++ r) (product first.source.now.rows (products (map (λ level. level.source.now.rows) rest))))
  those_of = ap (λ (levels : List Level). selected lists doc (all_conds levels last) (map (λ r. lead ++ r) (products (map (λ level. level.source.now.rows) levels)))) are

  pub where_it_fails : (found : Bool) → found ≡ holding lists doc (terms_lent first.conds.items) lead → found ≡ false → start ≡ start ++ those
  where_it_fails found is fails =
      sym (append-nil start)
      ∙ ap (λ (rows : List (List Datum)). start ++ rows)
      (sym (those_of ∙ none_left lists doc (terms_lent first.conds.items) (all_conds rest last) lead (product first.source.now.rows (products (map (λ level. level.source.now.rows) rest))) first_early (sym is ∙ fails)))

  pub where_it_holds : (found : Bool) (after : List (List Datum)) → found ≡ holding lists doc (terms_lent first.conds.items) lead → found ≡ true
      → after ≡ start ++ selected lists doc (all_conds rest last) (map (λ r. lead ++ r) (product first.source.now.rows (products (map (λ level. level.source.now.rows) rest))))
      → after ≡ start ++ those
  where_it_holds found after is holds put =
      put
      ∙ ap (λ (rows : List (List Datum)). start ++ rows)
      (sym (those_of ∙ others_left lists doc (terms_lent first.conds.items) (all_conds rest last) lead (product first.source.now.rows (products (map (λ level. level.source.now.rows) rest))) first_early (sym is ∙ holds)))

-- the levels inside the first are early behind a row of its source
pub rest_early : (levels rest : List Level) (first : Level) (lead : List Datum) → levels ≡ first ∷ rest → AreEarly (length lead) levels → (row longer : List Datum) → longer ≡ lead ++ row
    → length row ≡ first.source.now.width → AreEarly (length longer) rest
rest_early levels rest first lead are early row longer is wide =
    subst (λ (width : ℕ). AreEarly width rest) (sym (ap length is ∙ (length-append lead row ∙ ap (λ (n : ℕ). length lead + n) wide))) (subst (AreEarly (length lead)) are early).1

-- ---- a nest of no level, and with one more

pub no_level : (exprs : List Expr) (parts : List (Bor Expr)) (levels : List Level) → HoldAlike (terms_lent parts) (map term_of exprs) → levels ≡ []
    → IsNest [] (map term_of exprs) levels (terms_lent parts) 0
no_level exprs parts levels alike none =
    subst (λ (ls : List Level). IsNest [] (map term_of exprs) ls (terms_lent parts) 0) (sym none)
    (record { early = tt; sources_are = refl; wide = refl; same = alike })

module _ {X : Type 0} (f : X → RowList) where
  pub level_put : (sources : List X) (i : ℕ) (source : X) (conds : List Term) (levels after : List Level) (last later : List Term) (width wider : ℕ) (level : Level) → i < length sources
      → source ≡ get_or sources i source → IsNest (map f (take i sources)) conds levels last width → after ≡ levels ++ level ∷ [] → level.source.now ≡ f source
      → terms_lent level.conds.items ≡ left_conditions width last → later ≡ later_conditions width last → wider ≡ width + level.source.now.width
      → IsNest (map f (take (i + 1) sources)) conds after later wider
  level_put sources i source conds levels after last later width wider level below at nest put same now rest is =
      subst (λ (ls : List Level). IsNest (map f (take (i + 1) sources)) conds ls later wider) (sym put)
      (subst (λ (lists : List RowList). IsNest lists conds (levels ++ level ∷ []) later wider)
      (ap (λ (list : RowList). map f (take i sources) ++ list ∷ []) same
      ∙ (sym (map-append f (take i sources) (source ∷ [])) ∙ ap (map f) (sym (take_more sources i source below ∙ ap (λ (s : X). take i sources ++ s ∷ []) (sym at)))))
      (level_more (map f (take i sources)) conds levels last later width wider level nest now rest is))

-- the terms of what passes a test of terms
pub terms_sieved : {X Y : Type 0} (f : X → Y) (p : Y → Bool) (xs : List X) → map f (filter (λ x. p (f x)) xs) ≡ filter p (map f xs)
terms_sieved f p [] = refl
terms_sieved {X} {Y} f p (x ∷ xs) = by (p (f x)) (filter (λ x. p (f x)) xs) ∙ ap (λ (rest : List Y). cond (p (f x)) (f x ∷ rest) rest) (terms_sieved f p xs)
  where
    by : (b : Bool) (ys : List X) → map f (cond b (x ∷ ys) ys) ≡ cond b (f x ∷ map f ys) (map f ys)
    by true ys = refl
    by false ys = refl

-- ---- what a whole nest means

all_inside : (P : RowList → Type 0) (levels : List Level) → All P (map (λ (level : Level). level.source.now) levels) → All (λ level. P level.source.now) levels
all_inside P [] all = All-nil (λ level. P level.source.now)
all_inside P (l ∷ levels) all =
    All-cons (λ level. P level.source.now) l levels (All-head P l.source.now (map (λ (level : Level). level.source.now) levels) all)
    (all_inside P levels (All-tail P l.source.now (map (λ (level : Level). level.source.now) levels) all))

module _ (sources : List RowList) (conds : List Term) (levels : List Level) (last : List Term) (width : ℕ) (nest : IsNest sources conds levels last width) where
  pub levels_lie : (doc : Doc) → All (λ list. RowsLieIn doc list.rows) sources → All (λ level. RowsLieIn doc level.source.now.rows) levels
  levels_lie doc lie = all_inside (λ list. RowsLieIn doc list.rows) levels (subst (All (λ list. RowsLieIn doc list.rows)) (sym nest.sources_are) lie)

  pub levels_wide : sum_by (λ level. level.source.now.width) levels ≡ width
  levels_wide = widths_of levels ∙ (ap (sum_by (λ (list : RowList). list.width)) nest.sources_are ∙ sym nest.wide)

  pub nest_selects : (lists : Lists) (doc : Doc) → selected lists doc (all_conds levels last) (products (map (λ level. level.source.now.rows) levels)) ≡ selected lists doc conds (products (map (λ list. list.rows) sources))
  nest_selects lists doc =
      (λ i. filter (λ row. nest.same lists doc row i) (products (map (λ level. level.source.now.rows) levels)))
      ∙ ap (λ (rows : List (List (List Datum))). selected lists doc conds (products rows))
      (sym (map-map (λ (list : RowList). list.rows) (λ (level : Level). level.source.now) levels) ∙ ap (map (λ (list : RowList). list.rows)) nest.sources_are)

-- where one of some conditions fails, not all hold
pub one_fails : (lists : Lists) (doc : Doc) (row : List Datum) (conds : List (Bor Expr)) (i : ℕ) (cond : Bor Expr) → i < length conds → cond ≡ get_or conds i cond
    → holding lists doc (term_of cond.now ∷ []) row ≡ false → false ≡ holding lists doc (terms_lent conds) row
one_fails lists doc row conds i cond below at fails =
    let term = λ (c : Bor Expr). term_of c.now in
    let there : get_or (map term conds) i (term_of cond.now) ≡ term_of cond.now = get_or-map term conds i cond (term_of cond.now) below ∙ ap term (sym at) in
    sym (list_all_at (λ t. is_true (value lists doc row t)) (map term conds) i (term_of cond.now) (omega (arith, below, length-map conds term))
    (ap (λ t. is_true (value lists doc row t)) there ∙ (sym (and_true (is_true (value lists doc row (term_of cond.now)))) ∙ fails)))
  where
    and_true : (b : Bool) → (b && true) ≡ b
    and_true true = refl
    and_true false = refl
