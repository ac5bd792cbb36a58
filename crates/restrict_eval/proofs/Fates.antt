-- What can be looked for near the left rows of a join, and which joins are left.
use Rattle.std.proofs.Common.{◌≡◌, ◌∙◌, ◌⊎◌, inl, inr, ℕ, suc, ◌+◌, ◌<◌, Bool, List, [], ◌∷◌, ◌++◌, map, length, get_or, take, drop, arith, refl, sym, ap, subst, Option, Some, None, option_map}
use Rattle.std.specs.Prelude.{slice_get}
use Rattle.std.specs.List.{Contains}
use Rattle.std.specs.Option.{IfSome, IfNone}
use Rattle.std.proofs.Math.Seq.{take-suc}
use Rattle.std.proofs.lemmas.Bool.{cases_lt}
use Rattle.std.proofs.lemmas.List.{get_or_append_left, get_or_default, get_or_at, map-append, take-append-drop, drop_more}
use Rattle.std.proofs.lemmas.Option.{none-some, same_Some}
use Rattle.scalar_ops.specs.declared.expr.Expr.{Expr}
use Rattle.scalar_ops.specs.declared.expr.Expr.TheVariants as expr
use Rattle.scalar_ops.specs.Expressions.{Term, column, number, string, call}
use Rattle.scalar_ops.specs.Views.{term_of}
use Rattle.algebra.specs.declared.node.JoinKind.{JoinKind}
use Rattle.algebra.specs.declared.node.Local.{Local}
use Rattle.algebra.specs.declared.node.Local.TheVariants as sought
use Rattle.algebra.specs.declared.node.Node.{Node}
use Rattle.algebra.specs.declared.node.Node.TheVariants.{Doc, TokenRegex, Dict, DictPart, Project, SpanJoin}
use Rattle.restrict_eval.specs.declared.nearness.Near.{Near}
use Rattle.restrict_eval.specs.Nears.{plain_columns, ShowsBy, IsNear, IsRestriction, IsFate}
use Rattle.restrict_eval.specs.Readers.{IsOnly}
use Rattle.restrict_eval.specs.Restricting.{Reads, IsLive, Finds, HasFound, ShowsMatch, IsRestrictable}
use Rattle.restrict_eval.proofs.Finding.{finds_other}

-- ---- plain columns

pub plain_of : (cs : List ℕ) → plain_columns (map column cs) ≡ Some cs
plain_of [] = refl
plain_of (c ∷ cs) = ap (option_map (λ (ns : List ℕ). c ∷ ns)) (plain_of cs)

column_first : (n : ℕ) (items : List Term) (o : Option (List ℕ)) (cs : List ℕ) → ((ds : List ℕ) → o ≡ Some ds → items ≡ map column ds) → option_map (λ (ns : List ℕ). n ∷ ns) o ≡ Some cs → column n ∷ items ≡ map column cs
column_first n items None cs each e = absurd (none-some cs e)
column_first n items (Some ds) cs each e = ap (λ (ts : List Term). column n ∷ ts) (each ds refl) ∙ ap (map column) (same_Some (n ∷ ds) cs e)

pub plain_are : (items : List Term) (cs : List ℕ) → plain_columns items ≡ Some cs → items ≡ map column cs
plain_are [] cs e = ap (map column) (same_Some [] cs e)
plain_are (column n ∷ items) cs e = column_first n items (plain_columns items) cs (λ ds is. plain_are items ds is) e
plain_are (number n ∷ items) cs e = absurd (none-some cs e)
plain_are (string t ∷ items) cs e = absurd (none-some cs e)
plain_are (call o args ∷ items) cs e = absurd (none-some cs e)

plain_push : (ts : List Term) (cs : List ℕ) (n : ℕ) → plain_columns ts ≡ Some cs → plain_columns (ts ++ column n ∷ []) ≡ Some (cs ++ n ∷ [])
plain_push ts cs n e =
    ap (λ (us : List Term). plain_columns (us ++ column n ∷ [])) (plain_are ts cs e)
    ∙ (ap plain_columns (sym (map-append column cs (n ∷ []))) ∙ plain_of (cs ++ n ∷ []))

abbrev pub IsNoColumn : Expr → Type 0
IsNoColumn e = (n : ℕ) → e ≡ expr.Column n → ⊥

stop_here : (e : Expr) (more : List Term) → IsNoColumn e → plain_columns (term_of e ∷ more) ≡ None
stop_here (expr.Column n) more other = absurd (other n refl)
stop_here (expr.Int n) more other = refl
stop_here (expr.Str t) more other = refl
stop_here (expr.Call' o shape args) more other = refl

stop_behind : (cs : List ℕ) (e : Expr) (more : List Term) → IsNoColumn e → plain_columns (map column cs ++ term_of e ∷ more) ≡ None
stop_behind [] e more other = stop_here e more other
stop_behind (c ∷ cs) e more other = ap (option_map (λ (ns : List ℕ). c ∷ ns)) (stop_behind cs e more other)

-- the columns so far, one more, and no column
next_item : (items : List Expr) (i : ℕ) (e : Expr) → i < length items → e ≡ get_or items i e → take (i + 1) items ≡ take i items ++ e ∷ []
next_item items i e below is =
    let next : i + 1 ≡ suc i = omega arith in
    ap (λ (n : ℕ). take n items) next ∙ (take-suc items i e below ∙ ap (λ (x : Expr). take i items ++ x ∷ []) (sym is))

pub plain_more : (items : List Expr) (i : ℕ) (e : Expr) (n : ℕ) (cs ds : List ℕ) → i < length items → e ≡ get_or items i e → e ≡ expr.Column n → ds ≡ cs ++ n ∷ []
    → plain_columns (map term_of (take i items)) ≡ Some cs → plain_columns (map term_of (take (i + 1) items)) ≡ Some ds
plain_more items i e n cs ds below is column_is more so_far =
    ap (λ (es : List Expr). plain_columns (map term_of es)) (next_item items i e below is)
    ∙ (ap plain_columns (map-append term_of (take i items) (e ∷ []) ∙ ap (λ (x : Expr). map term_of (take i items) ++ term_of x ∷ []) column_is)
    ∙ (plain_push (map term_of (take i items)) cs n so_far ∙ ap (λ (es : List ℕ). Some es) (sym more)))

pub plain_stopped : (items : List Expr) (i : ℕ) (e : Expr) (cs : List ℕ) → i < length items → e ≡ get_or items i e → IsNoColumn e → plain_columns (map term_of (take i items)) ≡ Some cs
    → plain_columns (map term_of items) ≡ None
plain_stopped items i e cs below is other so_far =
    let rest = drop (i + 1) items in
    let whole : items ≡ take i items ++ e ∷ rest = sym (take-append-drop i items) ∙ ap (λ (es : List Expr). take i items ++ es) (drop_more items i e below ∙ ap (λ (x : Expr). x ∷ rest) (sym is)) in
    ap (λ (es : List Expr). plain_columns (map term_of es)) whole
    ∙ (ap plain_columns (map-append term_of (take i items) (e ∷ rest) ∙ ap (λ (ts : List Term). ts ++ term_of e ∷ map term_of rest) (plain_are (map term_of (take i items)) cs so_far))
    ∙ stop_behind cs e (map term_of rest) other)

-- a list of one
pub only_dict : (dicts : List ℕ) → length dicts ≡ 1 → dicts ≡ get_or dicts 0 0 ∷ []
only_dict [] e = absurd (omega (arith, e))
only_dict (d ∷ []) e = refl
only_dict (d ∷ x ∷ dicts) e = absurd (omega (arith, e))

-- what holds of an option
pub none_then : {A B : Type 0} (o : Option Near) → (A → B) → IfNone o A → IfNone o B
none_then None f a = f a
none_then (Some near) f a = tt

module _ (nodes : List Node) where
  -- ---- what isn't found

  -- in place of a node that isn't columns of another
  pub none_other : (right rc : ℕ) (node : Node) → slice_get nodes right ≡ Some node → ((i : ℕ) (items : List Term) → node ≡ Project i items → ⊥) → (rc ≡ 1 → HasFound nodes right → ⊥)
      → (t : ℕ) → HasFound nodes t → ShowsMatch nodes t right rc → ⊥
  none_other right rc node is other none t found (inl whole) = none whole.1 (subst (HasFound nodes) (sym whole.0) found)
  none_other right rc node is other none t found (inr part) = other t (map column part.0) (same_Some node (Project t (map column part.0)) (sym is ∙ part.1))

  -- in place of columns of another
  pub none_columns : (right rc input : ℕ) (items : List Term) → slice_get nodes right ≡ Some (Project input items)
      → ((cs : List ℕ) → plain_columns items ≡ Some cs → slice_get cs rc ≡ Some 1 → HasFound nodes input → ⊥)
      → (t : ℕ) → HasFound nodes t → ShowsMatch nodes t right rc → ⊥
  none_columns right rc input items is none t found (inl whole) = finds_other nodes t right (Project input items) found (sym whole.0) is (λ e. omega (arith, e))
  none_columns right rc input items is none t found (inr part) =
      let same : Project input items ≡ Project t (map column part.0) = same_Some (Project input items) (Project t (map column part.0)) (sym is ∙ part.1) in
      let input_is : t ≡ input = cc in
      let items_are : items ≡ map column part.0 = cc in
      none part.0 (ap plain_columns items_are ∙ plain_of part.0) part.2 (subst (HasFound nodes) input_is found)

  -- in place of a node that has nothing that is found
  pub no_found : (base : ℕ) (node : Node) → slice_get nodes base ≡ Some node → ((i c low high p : ℕ) (groups : List ℕ) → node ≡ TokenRegex i c low high p groups → ⊥)
      → ((i number : ℕ) → node ≡ DictPart i number → ⊥) → HasFound nodes base → ⊥
  no_found base node is no_runs no_part found = by found.part found.finds
    where
      by : (part : Local) → Finds nodes base found.source part → ⊥
      by (sought.TokenRegex low high pattern) finds =
          no_runs found.source finds.0 low high pattern (0 ∷ []) (same_Some node (TokenRegex found.source finds.0 low high pattern (0 ∷ [])) (sym is ∙ finds.1))
      by (sought.Dict d) finds = no_part finds.0 0 (same_Some node (DictPart finds.0 0) (sym is ∙ finds.2))

  -- others than the whole match in the document
  pub other_runs : (base i c low high p : ℕ) (groups : List ℕ) → slice_get nodes base ≡ Some (TokenRegex i c low high p groups) → (groups ≡ 0 ∷ [] → slice_get nodes i ≡ Some Doc → ⊥) → HasFound nodes base → ⊥
  other_runs base i c low high p groups is other found = by found.part found.finds
    where
      by : (part : Local) → Finds nodes base found.source part → ⊥
      by (sought.TokenRegex l h pattern) finds =
          let same : TokenRegex i c low high p groups ≡ TokenRegex found.source finds.0 l h pattern (0 ∷ []) = same_Some _ _ (sym is ∙ finds.1) in
          let groups_are : groups ≡ 0 ∷ [] = cc in
          let source_is : found.source ≡ i = cc in
          other groups_are (subst (λ (n : ℕ). slice_get nodes n ≡ Some Doc) source_is found.document)
      by (sought.Dict d) finds =
          let same : TokenRegex i c low high p groups ≡ DictPart finds.0 0 = same_Some _ _ (sym is ∙ finds.2) in
          cc

  -- others than the only dictionary in the document
  pub other_part : (base input part_number : ℕ) (node : Node) → slice_get nodes base ≡ Some (DictPart input part_number) → slice_get nodes input ≡ Some node
      → ((source c d : ℕ) → node ≡ Dict source c (d ∷ []) → part_number ≡ 0 → slice_get nodes source ≡ Some Doc → ⊥) → HasFound nodes base → ⊥
  other_part base input part_number node is is_node other found = by found.part found.finds
    where
      by : (part : Local) → Finds nodes base found.source part → ⊥
      by (sought.TokenRegex low high pattern) finds =
          let same : DictPart input part_number ≡ TokenRegex found.source finds.0 low high pattern (0 ∷ []) = same_Some _ _ (sym is ∙ finds.1) in
          cc
      by (sought.Dict d) finds =
          let same : DictPart input part_number ≡ DictPart finds.0 0 = same_Some _ _ (sym is ∙ finds.2) in
          let input_is : input ≡ finds.0 = cc in
          let number_is : part_number ≡ 0 = cc in
          other found.source finds.1 d (same_Some node (Dict found.source finds.1 (d ∷ [])) (sym is_node ∙ (ap (slice_get nodes) input_is ∙ finds.3))) number_is found.document

  -- ---- what is found

  pub near_by : (right rc base : ℕ) (shown : Option (List ℕ)) (near : Near) → near.base ≡ base → near.columns ≡ shown → Finds nodes base near.source near.sought → slice_get nodes near.source ≡ Some Doc
      → ShowsBy nodes base right rc shown → IsNear nodes right rc near
  near_by right rc base shown near base_is shown_is finds document shows = record {
    finds = subst (λ (b : ℕ). Finds nodes b near.source near.sought) (sym base_is) finds;
    document = document;
    shows = subst (λ (b : ℕ). ShowsBy nodes b right rc near.columns) (sym base_is) (subst (λ (o : Option (List ℕ)). ShowsBy nodes base right rc o) (sym shown_is) shows);
  }

  pub some_near : (right rc base : ℕ) (shown : Option (List ℕ)) (o : Option Near) → IfSome o (λ near. (near.base ≡ base) × (near.columns ≡ shown))
      → IfSome o (λ near. Finds nodes base near.source near.sought × (slice_get nodes near.source ≡ Some Doc)) → ShowsBy nodes base right rc shown → IfSome o (λ near. IsNear nodes right rc near)
  some_near right rc base shown None is finds shows = tt
  some_near right rc base shown (Some near) is finds shows = near_by right rc base shown near is.0 is.1 finds.0 finds.1 shows

  -- there is one node of which it can be
  once_by : (right rc base : ℕ) (shown : Option (List ℕ)) → HasFound nodes base → ShowsBy nodes base right rc shown → (t : ℕ) → HasFound nodes t → ShowsMatch nodes t right rc → t ≡ base
  once_by right rc base None here shows t found (inl whole) = sym whole.0 ∙ shows.0
  once_by right rc base None here shows t found (inr part) = absurd (finds_other nodes base right (Project t (map column part.0)) here (sym shows.0) part.1 (λ e. omega (arith, e)))
  once_by right rc base (Some cs) here shows t found (inl whole) = absurd (finds_other nodes t right (Project base (map column cs)) found (sym whole.0) shows.0 (λ e. omega (arith, e)))
  once_by right rc base (Some cs) here shows t found (inr part) =
      let same : Project base (map column cs) ≡ Project t (map column part.0) = same_Some _ _ (sym shows.0 ∙ part.1) in
      let is : t ≡ base = cc in is

  abbrev pub near_found : (right rc : ℕ) (near : Near) → IsNear nodes right rc near → HasFound nodes near.base
  near_found right rc near is = record { source = near.source; part = near.sought; finds = is.finds; document = is.document }

  pub base_once : (right rc : ℕ) (near : Near) → IsNear nodes right rc near → (t : ℕ) → HasFound nodes t → ShowsMatch nodes t right rc → t ≡ near.base
  base_once right rc near is t found match = once_by right rc near.base near.columns (near_found right rc near is) is.shows t found match

  abbrev pub shown_match : (base right rc : ℕ) (shown : Option (List ℕ)) → ShowsBy nodes base right rc shown → ShowsMatch nodes base right rc
  shown_match base right rc None shows = inl shows
  shown_match base right rc (Some cs) shows = inr (cs, shows.0, shows.1)

  -- ---- restrictions

  module _ (outputs : List ℕ) (j right rc : ℕ) where
    -- nobody else needs what can be found
    pub only_both : (near : Near) → IsNear nodes right rc near → IsRestrictable nodes outputs j right rc → IsOnly nodes outputs right j right × IsOnly nodes outputs near.base j right
    only_both near is may =
        let same : may.t ≡ near.base = base_once right rc near is may.t may.found may.match in (
          record { unshown = may.unshown.0; alone = λ k node at live reads. may.alone k node at live (inl reads) },
          record {
            unshown = λ listed. may.unshown.1 (subst (λ (n : ℕ). Contains outputs n) (sym same) listed);
            alone = λ k node at live reads. may.alone k node at live (inr (subst (λ (n : ℕ). Reads node n) (sym same) reads));
          },
        )

    pub restriction_of : (left lc : ℕ) (kind : JoinKind) (conditional : Bool) (near : Near) → slice_get nodes j ≡ Some (SpanJoin left right kind lc rc conditional) → IsNear nodes right rc near
        → IsLive nodes outputs j → IsOnly nodes outputs right j right → IsOnly nodes outputs near.base j right → IsRestriction nodes outputs j near
    restriction_of left lc kind conditional near is is_near live on_right on_base = record {
      left = left;
      right = right;
      kind = kind;
      lc = lc;
      rc = rc;
      conditional = conditional;
      is = is;
      is_near = is_near;
      live = live;
      unshown = (on_right.unshown, on_base.unshown);
      alone = λ k node at live_k reads. reader k node at live_k reads;
    }
      where
        reader : (k : ℕ) (node : Node) → slice_get nodes k ≡ Some node → IsLive nodes outputs k → Reads node right ⊎ Reads node near.base → (k ≡ j) ⊎ (k ≡ right)
        reader k node at live_k (inl reads) = on_right.alone k node at live_k reads
        reader k node at live_k (inr reads) = on_base.alone k node at live_k reads

  -- a node that isn't a join is left
  pub left_other : (outputs : List ℕ) (j : ℕ) (node : Node) → slice_get nodes j ≡ Some node
      → ((l r lc rc : ℕ) (kind : JoinKind) (conditional : Bool) → node ≡ SpanJoin l r kind lc rc conditional → ⊥) → IsFate nodes outputs j None
  left_other outputs j node is other left right lc rc kind conditional at live may = other left right lc rc kind conditional (same_Some node (SpanJoin left right kind lc rc conditional) (sym is ∙ at))

  -- and a join is, where none of this can be
  pub left_join : (outputs : List ℕ) (j l r lc rc : ℕ) (kind : JoinKind) (conditional : Bool) → slice_get nodes j ≡ Some (SpanJoin l r kind lc rc conditional)
      → (IsLive nodes outputs j → IsRestrictable nodes outputs j r rc → ⊥) → IsFate nodes outputs j None
  left_join outputs j l r lc rc kind conditional is never left right lc' rc' kind' conditional' at live may =
      let same : SpanJoin l r kind lc rc conditional ≡ SpanJoin left right kind' lc' rc' conditional' = same_Some _ _ (sym is ∙ at) in
      let right_is : right ≡ r = cc in
      let column_is : rc' ≡ rc = cc in
      never live (subst (λ (c : ℕ). IsRestrictable nodes outputs j r c) column_is (subst (λ (i : ℕ). IsRestrictable nodes outputs j i rc') right_is may))

  -- a join of which it can be may look near its left rows
  abbrev pub restrictable : (outputs : List ℕ) (j : ℕ) (near : Near) (is : IsRestriction nodes outputs j near) → IsRestrictable nodes outputs j is.right is.rc
  restrictable outputs j near is = record {
    t = near.base;
    found = near_found is.right is.rc near is.is_near;
    match = shown_match near.base is.right is.rc near.columns is.is_near.shows;
    unshown = is.unshown;
    alone = is.alone;
  }

-- one fate more
pub fates_more : (nodes : List Node) (outputs : List ℕ) (found later : List (Option Near)) (near : Option Near) (j : ℕ) → length found ≡ j → later ≡ found ++ near ∷ []
    → ((i : ℕ) → i < j → IsFate nodes outputs i (get_or found i None)) → IsFate nodes outputs j near → (i : ℕ) → i < j + 1 → IsFate nodes outputs i (get_or later i None)
fates_more nodes outputs found later near j long more each is i below = elim (cases_lt i j) [
  | inl before ↦
      subst (λ (o : Option Near). IsFate nodes outputs i o) (sym (ap (λ (os : List (Option Near)). get_or os i None) more ∙ get_or_append_left found (near ∷ []) None i (omega (arith, before, long)))) (each i before)
  | inr past ↦
      let same : i ≡ j = omega (arith, past, below) in
      subst (λ (k : ℕ). IsFate nodes outputs k (get_or later k None)) (sym same)
      (subst (λ (o : Option Near). IsFate nodes outputs j o) (sym (ap (λ (os : List (Option Near)). get_or os j None) more ∙ get_or_at found near [] None j long)) is)
]

-- the fate at an index
pub fate_read : (found : List (Option Near)) (n j : ℕ) (x : Option Near) → n ≡ j → j < length found → x ≡ get_or found n x → x ≡ get_or found j None
fate_read found n j x same below is = is ∙ (get_or_default found n x None (omega (arith, same, below)) ∙ ap (λ (k : ℕ). get_or found k None) same)
