-- No join of the new plan is left whose right input could be looked for near its left rows: it could have been in the old one.
use Rattle.std.proofs.Common.{◌≡◌, ◌∙◌, ◌⊎◌, inl, inr, ℕ, ◌<◌, Bool, List, [], ◌∷◌, map, length, get_or, refl, sym, ap, subst, arith, Option, Some}
use Rattle.std.specs.Prelude.{slice_get}
use Rattle.std.specs.List.{Contains}
use Rattle.std.proofs.lemmas.Option.{none-some, same_Some, slice_get_within, slice_get-get_or}
use Rattle.scalar_ops.specs.Expressions.{column}
use Rattle.algebra.specs.declared.node.JoinKind.{JoinKind}
use Rattle.algebra.specs.declared.node.Local.{Local}
use Rattle.algebra.specs.declared.node.Local.TheVariants as sought
use Rattle.algebra.specs.declared.node.Node.{Node}
use Rattle.algebra.specs.declared.node.Node.TheVariants.{Doc, TokenRegex, Dict, DictPart, Project, SpanJoin, Restricted}
use Rattle.algebra.specs.Growth.{IsAt}
use Rattle.algebra.specs.Inputs.{IsAmong}
use Rattle.algebra.specs.Mapping.{new_number}
use Rattle.algebra.specs.Nodes.{IsPlan}
use Rattle.restrict_eval.specs.Rebuilding.{IsNearJoin, IsLeft, IsStood, IsFor, IsRestrictedFrom}
use Rattle.restrict_eval.specs.Rebuilding as words
use Rattle.restrict_eval.specs.Restricting.{Reads, IsLive, Finds, HasFound, ShowsMatch, IsRestrictable, AreRestricted}
use Rattle.restrict_eval.specs.Restricting as lives
use Rattle.restrict_eval.specs.TakenLaws.{carried, from_doc, from_runs, from_dict, from_dict_part, from_project, from_join, reads_carried}
use Rattle.restrict_eval.proofs.Finding.{tag, apart, one_node, IsDictOn, finds_other}
use Rattle.restrict_eval.proofs.Living.{mapped_contains, one_number, within, IsAbsorbed, live_over, live_under}
use Rattle.restrict_eval.proofs.Nearing.{at}

pub lower_read : (nodes : List Node) (k i : ℕ) (node : Node) → IsAt nodes k node → Reads node i → i < k
lower_read nodes k i node at (inl left) = subst (λ (o : Option ℕ). IsAmong k o) left at.left_lower
lower_read nodes k i node at (inr right) = subst (λ (o : Option ℕ). IsAmong k o) right at.right_lower

pub live_below : (nodes : List Node) (outputs : List ℕ) → IsPlan nodes → ((i : ℕ) → Contains outputs i → i < length nodes) → (i : ℕ) → IsLive nodes outputs i → i < length nodes
live_below nodes outputs plan there _ (lives.output i listed) = there i listed
live_below nodes outputs plan there _ (lives.input k i node is reads live) =
    let lower : i < k = lower_read nodes k i node (at nodes plan k node is) reads in omega (arith, lower, slice_get_within nodes k node is)

module _ (old : List Node) (outputs : List ℕ) (new : List Node) (to : List ℕ) (plan : IsPlan old) (rebuilt : IsRestrictedFrom old outputs new to) (valid : (i : ℕ) → IsLive old outputs i → i < length old) where
  abbrev look : ℕ → ℕ
  look i = new_number to i

  abbrev shown_now : List ℕ
  shown_now = map look outputs

  abbrev near_node : (j n : ℕ) → IsNearJoin old outputs new to j n → Node
  near_node j n near = Restricted (look near.left) (look near.may.found.source) near.kind near.lc near.may.found.part

  -- ---- what a node of the old plan is, by what stands for it

  document_back : (i : ℕ) (x : Node) → slice_get new (look i) ≡ Some Doc → IsStood old outputs new to i x → x ≡ Doc
  document_back i x document (words.same left stands) = from_doc look x (one_node new (look i) (look i) (carried look x) Doc refl stands document)
  document_back i x document (words.near near) = absurd (apart (near_node i (look i) near) Doc (one_node new (look i) (look i) _ Doc refl near.at document) (λ e. omega (arith, e)))
  document_back i x document (words.shown n cs near above stands) =
      absurd (apart (Project n (map column cs)) Doc (one_node new (look i) (look i) _ Doc refl stands document) (λ e. omega (arith, e)))

  document_at : (i source : ℕ) → i < length old → look i ≡ source → slice_get new source ≡ Some Doc → slice_get old i ≡ Some Doc
  document_at i source below same document =
      let there = slice_get-get_or old i Doc below in
      there ∙ ap (λ (y : Node). Some y) (document_back i (get_or old i Doc) (ap (slice_get new) same ∙ document) (rebuilt.stood i (get_or old i Doc) there))

  -- the node is carried to this one, which is no restricted join and no columns
  stood_back : (i t : ℕ) (x y : Node) → look i ≡ t → slice_get new t ≡ Some y → (tag y ≡ 4 → ⊥) → (tag y ≡ 2 → ⊥) → IsStood old outputs new to i x → carried look x ≡ y
  stood_back i t x y same at_new no_near no_columns (words.same left stands) = one_node new (look i) t (carried look x) y same stands at_new
  stood_back i t x y same at_new no_near no_columns (words.near near) = absurd (no_near (sym (ap tag (one_node new (look i) t (near_node i (look i) near) y same near.at at_new))))
  stood_back i t x y same at_new no_near no_columns (words.shown n cs near above stands) =
      absurd (no_columns (sym (ap tag (one_node new (look i) t (Project n (map column cs)) y same stands at_new))))

  -- a node of the old plan that is carried to this one
  record IsCarried (i : ℕ) (y : Node) : Type 0 where
    x : Node
    is : slice_get old i ≡ Some x
    carries : carried look x ≡ y

  carried_back : (i t : ℕ) (y : Node) → i < length old → look i ≡ t → slice_get new t ≡ Some y → (tag y ≡ 4 → ⊥) → (tag y ≡ 2 → ⊥) → IsCarried i y
  carried_back i t y below same at_new no_near no_columns =
      let there = slice_get-get_or old i Doc below in
      record { x = get_or old i Doc; is = there; carries = stood_back i t (get_or old i Doc) y same at_new no_near no_columns (rebuilt.stood i (get_or old i Doc) there) }

  runs_carried : (i source c low high pattern : ℕ) → IsCarried i (TokenRegex source c low high pattern (0 ∷ [])) → (o : ℕ) × (slice_get old i ≡ Some (TokenRegex o c low high pattern (0 ∷ []))) × (look o ≡ source)
  runs_carried i source c low high pattern back =
      let from = from_runs look back.x source c low high pattern (0 ∷ []) back.carries in
      (from.0, back.is ∙ ap (λ (y : Node). Some y) from.1, from.2)

  part_carried : (i n : ℕ) → IsCarried i (DictPart n 0) → (o : ℕ) × (slice_get old i ≡ Some (DictPart o 0)) × (look o ≡ n)
  part_carried i n back =
      let from = from_dict_part look back.x n 0 back.carries in
      (from.0, back.is ∙ ap (λ (y : Node). Some y) from.1, from.2)

  dict_carried : (i source c d : ℕ) → IsCarried i (Dict source c (d ∷ [])) → (o : ℕ) × (slice_get old i ≡ Some (Dict o c (d ∷ []))) × (look o ≡ source)
  dict_carried i source c d back =
      let from = from_dict look back.x source c (d ∷ []) back.carries in
      (from.0, back.is ∙ ap (λ (y : Node). Some y) from.1, from.2)

  found_back : (i t : ℕ) → i < length old → look i ≡ t → HasFound new t → HasFound old i
  found_back i t below same found = by found.part found.finds
    where
      by : (part : Local) → Finds new t found.source part → HasFound old i
      by (sought.TokenRegex low high pattern) finds = runs
          (runs_carried i found.source finds.0 low high pattern (carried_back i t (TokenRegex found.source finds.0 low high pattern (0 ∷ [])) below same finds.1 (λ e. omega (arith, e)) (λ e. omega (arith, e))))
        where
          runs : (o : ℕ) × (slice_get old i ≡ Some (TokenRegex o finds.0 low high pattern (0 ∷ []))) × (look o ≡ found.source) → HasFound old i
          runs (o, is, number) =
              let lower : o < i = (at old plan i (TokenRegex o finds.0 low high pattern (0 ∷ [])) is).left_lower in
              record { source = o; part = sought.TokenRegex low high pattern; finds = (finds.0, is); document = document_at o found.source (omega (arith, lower, below)) number found.document }
      by (sought.Dict d) finds = part (part_carried i finds.0 (carried_back i t (DictPart finds.0 0) below same finds.2 (λ e. omega (arith, e)) (λ e. omega (arith, e))))
        where
          dict : (n : ℕ) → slice_get old i ≡ Some (DictPart n 0) → n < length old → (o : ℕ) × (slice_get old n ≡ Some (Dict o finds.1 (d ∷ []))) × (look o ≡ found.source) → HasFound old i
          dict n is there (o, is_dict, number) =
              let lower : o < n = (at old plan n (Dict o finds.1 (d ∷ [])) is_dict).left_lower in
              record { source = o; part = sought.Dict d; finds = (n, finds.1, is, is_dict); document = document_at o found.source (omega (arith, lower, there)) number found.document }

          part : (n : ℕ) × (slice_get old i ≡ Some (DictPart n 0)) × (look n ≡ finds.0) → HasFound old i
          part (n, is, number) =
              let lower : n < i = (at old plan i (DictPart n 0) is).left_lower in
              let there : n < length old = omega (arith, lower, below) in
              dict n is there (dict_carried n found.source finds.1 d (carried_back n finds.0 (Dict found.source finds.1 (d ∷ [])) there number finds.3 (λ e. omega (arith, e)) (λ e. omega (arith, e))))

  -- ---- a join of the new plan that could be restricted

  module _ (j left right lc rc : ℕ) (kind : JoinKind) (conditional : Bool) (at_new : slice_get new j ≡ Some (SpanJoin left right kind lc rc conditional)) (live_new : IsLive new shown_now j) (may : IsRestrictable new shown_now j right rc) where
    abbrev join_new : Node
    join_new = SpanJoin left right kind lc rc conditional

    no_near : (k n : ℕ) (near : IsNearJoin old outputs new to k n) → n ≡ j → ⊥
    no_near k n near same = apart (near_node k n near) join_new (one_node new n j _ _ same near.at at_new) (λ e. omega (arith, e))

    -- the join that it stands for
    record IsOfJoin : Type 0 where
      i : ℕ
      l0 : ℕ
      r0 : ℕ
      b : Bool
      is : slice_get old i ≡ Some (SpanJoin l0 r0 kind lc rc b)
      number : look i ≡ j
      right_is : look r0 ≡ right
      left_over : IsLive old outputs i → IsRestrictable old outputs i r0 rc → ⊥

    of_stood : (i : ℕ) (x : Node) → slice_get old i ≡ Some x → look i ≡ j → IsStood old outputs new to i x → IsOfJoin
    of_stood i x is number (words.same left_over stands) =
        let from = from_join look x left right kind lc rc conditional (one_node new (look i) j (carried look x) join_new number stands at_new) in
        record {
          i = i;
          l0 = from.0;
          r0 = from.1;
          b = from.2;
          is = is ∙ ap (λ (y : Node). Some y) from.3;
          number = number;
          right_is = from.5;
          left_over = λ live can. left_over from.0 from.1 lc rc kind from.2 from.3 live can;
        }
    of_stood i x is number (words.near near) = absurd (no_near i (look i) near number)
    of_stood i x is number (words.shown n cs near above stands) =
        absurd (apart (Project n (map column cs)) join_new (one_node new (look i) j _ _ number stands at_new) (λ e. omega (arith, e)))

    of_number : IsFor old outputs new to j → IsOfJoin
    of_number (words.itself i below same) =
        let there = slice_get-get_or old i Doc (omega (arith, below, rebuilt.mapped.long)) in
        of_stood i (get_or old i Doc) there (sym same) (rebuilt.stood i (get_or old i Doc) there)
    of_number (words.below i cs below near above stands) = absurd (no_near i j near refl)

    of_join : IsOfJoin
    of_join = of_number (rebuilt.from j (slice_get_within new j join_new at_new))

    module _ (of : IsOfJoin) where
      join_old : Node
      join_old = SpanJoin of.l0 of.r0 kind lc rc of.b

      join_within : of.i < length to
      join_within = within old outputs new to rebuilt of.i (SpanJoin of.l0 of.r0 kind lc rc of.b) of.is

      right_lower : of.r0 < of.i
      right_lower = (at old plan of.i (SpanJoin of.l0 of.r0 kind lc rc of.b) of.is).right_lower

      right_below : of.r0 < length old
      right_below = let lower = right_lower in omega (arith, lower, slice_get_within old of.i (SpanJoin of.l0 of.r0 kind lc rc of.b) of.is)

      live_by : ((i : ℕ) × (j ≡ look i) × IsLive old outputs i) ⊎ ((i : ℕ) × IsNearJoin old outputs new to i j) → IsLive old outputs of.i
      live_by (inl (i, same, live)) =
          let below : i < length to = omega (arith, valid i live, rebuilt.mapped.long) in
          subst (IsLive old outputs) (one_number old outputs new to rebuilt i of.i below join_within (sym same ∙ sym of.number)) live
      live_by (inr (i, near)) = absurd (no_near i j near refl)

      live : IsLive old outputs of.i
      live = live_by (live_under old outputs new to rebuilt valid j live_new)

      -- what it could look for
      record IsOfBase : Type 0 where
        t0 : ℕ
        found0 : HasFound old t0
        match0 : ShowsMatch old t0 of.r0 rc
        t_is : look t0 ≡ may.t

      of_shown : (x : Node) → slice_get old of.r0 ≡ Some x → (cs : List ℕ) → slice_get new right ≡ Some (Project may.t (map column cs)) → slice_get cs rc ≡ Some 1 → IsStood old outputs new to of.r0 x → IsOfBase
      of_shown x is cs stands_new match_at (words.same left_over stands) =
          let from = from_project look x may.t (map column cs) (one_node new (look of.r0) right (carried look x) (Project may.t (map column cs)) of.right_is stands stands_new) in
          let is_project : slice_get old of.r0 ≡ Some (Project from.0 (map column cs)) = is ∙ ap (λ (y : Node). Some y) from.1 in
          let lower : from.0 < of.r0 = (at old plan of.r0 (Project from.0 (map column cs)) is_project).left_lower in
          let below : from.0 < length old = (let r = right_below in omega (arith, lower, r)) in
          record { t0 = from.0; found0 = found_back from.0 may.t below from.2 may.found; match0 = inr (cs, is_project, match_at); t_is = from.2 }
      of_shown x is cs stands_new match_at (words.near near) =
          absurd (apart (near_node of.r0 (look of.r0) near) (Project may.t (map column cs)) (one_node new (look of.r0) right _ _ of.right_is near.at stands_new) (λ e. omega (arith, e)))
      of_shown x is cs stands_new match_at (words.shown n ds near above stands) =
          let same : Project n (map column ds) ≡ Project may.t (map column cs) = one_node new (look of.r0) right _ _ of.right_is stands stands_new in
          let base : n ≡ may.t = cc in
          absurd (finds_other new may.t n (near_node of.r0 n near) may.found (sym base) near.at (λ e. omega (arith, e)))

      of_match : ShowsMatch new may.t right rc → IsOfBase
      of_match (inl whole) =
          let same : look of.r0 ≡ may.t = of.right_is ∙ whole.0 in
          record { t0 = of.r0; found0 = found_back of.r0 may.t right_below same may.found; match0 = inl (refl, whole.1); t_is = same }
      of_match (inr part) =
          let there = slice_get-get_or old of.r0 Doc right_below in
          of_shown (get_or old of.r0 Doc) there part.0 part.1 part.2 (rebuilt.stood of.r0 (get_or old of.r0 Doc) there)

      of_base : IsOfBase
      of_base = of_match may.match

      module _ (base : IsOfBase) where
        -- who reads what it could look for
        abbrev IsSoughtNode : ℕ → Type 0
        IsSoughtNode i = (i ≡ of.r0) ⊎ (i ≡ base.t0)

        record IsOwner (i : ℕ) : Type 0 where
          o : ℕ
          node : Node
          is : slice_get old o ≡ Some node
          alive : IsLive old outputs o
          reads : Reads node i
          which : (o ≡ of.i) ⊎ ((o ≡ of.r0) × (tag node ≡ 2))

        join_reads : (i : ℕ) → i ≡ of.r0 → IsOwner i
        join_reads i same = record { o = of.i; node = SpanJoin of.l0 of.r0 kind lc rc of.b; is = of.is; alive = live; reads = inr (ap (λ (m : ℕ). Some m) (sym same)); which = inl refl }

        base_reads : (i : ℕ) → i ≡ base.t0 → ShowsMatch old base.t0 of.r0 rc → IsOwner i
        base_reads i same (inl whole) = join_reads i (same ∙ sym whole.0)
        base_reads i same (inr part) = record {
          o = of.r0;
          node = Project base.t0 (map column part.0);
          is = part.1;
          alive = lives.input of.i of.r0 (SpanJoin of.l0 of.r0 kind lc rc of.b) of.is (inr refl) live;
          reads = inl (ap (λ (m : ℕ). Some m) (sym same));
          which = inr (refl, refl);
        }

        owner_of : (i : ℕ) → IsSoughtNode i → IsOwner i
        owner_of i (inl same) = join_reads i same
        owner_of i (inr same) = base_reads i same base.match0

        -- it isn't the document
        no_document : (i : ℕ) → IsSoughtNode i → ShowsMatch old base.t0 of.r0 rc → slice_get old i ≡ Some Doc → ⊥
        no_document i (inr same) match document = finds_other old base.t0 i Doc base.found0 (sym same) document (λ e. omega (arith, e))
        no_document i (inl same) (inl whole) document = finds_other old base.t0 i Doc base.found0 (sym (same ∙ whole.0)) document (λ e. omega (arith, e))
        no_document i (inl same) (inr part) document =
            apart Doc (Project base.t0 (map column part.0)) (one_node old i of.r0 _ _ same document part.1) (λ e. omega (arith, e))

        -- nor a `Dict` node
        no_dict : (i source c : ℕ) (dicts : List ℕ) → IsSoughtNode i → ShowsMatch old base.t0 of.r0 rc → slice_get old i ≡ Some (Dict source c dicts) → ⊥
        no_dict i source c dicts (inr same) match dict = finds_other old base.t0 i (Dict source c dicts) base.found0 (sym same) dict (λ e. omega (arith, e))
        no_dict i source c dicts (inl same) (inl whole) dict = finds_other old base.t0 i (Dict source c dicts) base.found0 (sym (same ∙ whole.0)) dict (λ e. omega (arith, e))
        no_dict i source c dicts (inl same) (inr part) dict =
            apart (Dict source c dicts) (Project base.t0 (map column part.0)) (one_node old i of.r0 _ _ same dict part.1) (λ e. omega (arith, e))

        -- the join itself isn't one that was restricted
        not_near : (j2 n : ℕ) (near : IsNearJoin old outputs new to j2 n) → j2 ≡ of.i → ⊥
        not_near j2 n near same =
            let joins : SpanJoin near.left near.right near.kind near.lc near.rc near.conditional ≡ SpanJoin of.l0 of.r0 kind lc rc of.b = one_node old j2 of.i _ _ same near.is of.is in
            let right_same : near.right ≡ of.r0 = cc in
            let column_same : near.rc ≡ rc = cc in
            of.left_over live
            (subst (λ (c : ℕ). IsRestrictable old outputs of.i of.r0 c) column_same
            (subst (λ (r : ℕ). IsRestrictable old outputs of.i r near.rc) right_same (subst (λ (i : ℕ). IsRestrictable old outputs i near.right near.rc) same near.may)))

        -- so who reads what another join looked for is what it reads
        owned : (i : ℕ) (owner : IsOwner i) (j2 n : ℕ) (near : IsNearJoin old outputs new to j2 n) → (i ≡ near.right) ⊎ (i ≡ near.may.t) → owner.o ≡ near.right
        owned i owner j2 n near sought_by = by (near.may.alone owner.o owner.node owner.is owner.alive (reads sought_by)) owner.which
          where
            reads : (i ≡ near.right) ⊎ (i ≡ near.may.t) → Reads owner.node near.right ⊎ Reads owner.node near.may.t
            reads (inl same) = inl (subst (λ (m : ℕ). Reads owner.node m) same owner.reads)
            reads (inr same) = inr (subst (λ (m : ℕ). Reads owner.node m) same owner.reads)

            by : (owner.o ≡ j2) ⊎ (owner.o ≡ near.right) → (owner.o ≡ of.i) ⊎ ((owner.o ≡ of.r0) × (tag owner.node ≡ 2)) → owner.o ≡ near.right
            by (inr same) which = same
            by (inl same) (inl is_join) = absurd (not_near j2 n near (sym same ∙ is_join))
            by (inl same) (inr is_columns) =
                let joins : owner.node ≡ SpanJoin near.left near.right near.kind near.lc near.rc near.conditional = one_node old owner.o j2 _ _ same owner.is near.is in
                absurd (omega (arith, ap tag joins, is_columns.1))

        abbrev IsOneOf : ℕ → Type 0
        IsOneOf k = (k ≡ of.i) ⊎ (k ≡ of.r0)

        -- what a node of the new plan that reads it stands for
        numbered : (k : ℕ) → k < length to → (look k ≡ j) ⊎ (look k ≡ right) → IsOneOf k
        numbered k below (inl same) = inl (one_number old outputs new to rebuilt k of.i below join_within (same ∙ sym of.number))
        numbered k below (inr same) =
            inr (one_number old outputs new to rebuilt k of.r0 below (let r = right_below in omega (arith, r, rebuilt.mapped.long)) (same ∙ sym of.right_is))

        read_new : (node : Node) (i : ℕ) → IsSoughtNode i → Reads node (look i) → Reads node right ⊎ Reads node may.t
        read_new node i (inl same) reads = inl (subst (λ (m : ℕ). Reads node m) (ap look same ∙ of.right_is) reads)
        read_new node i (inr same) reads = inr (subst (λ (m : ℕ). Reads node m) (ap look same ∙ base.t_is) reads)

        no_right : (n : ℕ) (k : ℕ) (near : IsNearJoin old outputs new to k n) → n ≡ right → ShowsMatch new may.t right rc → ⊥
        no_right n k near same (inl whole) = finds_other new may.t n (near_node k n near) may.found (sym (same ∙ whole.0)) near.at (λ e. omega (arith, e))
        no_right n k near same (inr part) = apart (near_node k n near) (Project may.t (map column part.0)) (one_node new n right _ _ same near.at part.1) (λ e. omega (arith, e))

        near_reader : (k i n : ℕ) (node : Node) → slice_get old k ≡ Some node → IsSoughtNode i → Reads node i → (near : IsNearJoin old outputs new to k n) → IsLive new shown_now n → IsOneOf k
        near_reader k i n node is sought_node reads near alive =
            read (subst (λ (x : Node). Reads x i) (one_node old k k node (SpanJoin near.left near.right near.kind near.lc near.rc near.conditional) refl is near.is) reads)
          where
            on_left : (n ≡ j) ⊎ (n ≡ right) → IsOneOf k
            on_left (inl same) = absurd (no_near k n near same)
            on_left (inr same) = absurd (no_right n k near same may.match)

            read : Reads (SpanJoin near.left near.right near.kind near.lc near.rc near.conditional) i → IsOneOf k
            read (inl e) =
                on_left (may.alone n (near_node k n near) near.at alive
                (read_new (near_node k n near) i sought_node (inl (ap (λ (m : ℕ). Some (look m)) (same_Some near.left i e)))))
            read (inr e) =
                let owner = owner_of i sought_node in
                let same : i ≡ near.right = sym (same_Some near.right i e) in
                let reads_it : owner.o ≡ near.right = owned i owner k n near (inl same) in
                let lower : i < owner.o = lower_read old owner.o i owner.node (at old plan owner.o owner.node owner.is) owner.reads in
                absurd (omega (arith, same, reads_it, lower))

        stood_reader : (k i : ℕ) (node : Node) → slice_get old k ≡ Some node → IsSoughtNode i → Reads node i → IsLive new shown_now (look k) → IsStood old outputs new to k node → IsOneOf k
        stood_reader k i node is sought_node reads alive (words.same left_over stands) =
            numbered k (within old outputs new to rebuilt k node is) (may.alone (look k) (carried look node) stands alive (read_new (carried look node) i sought_node (reads_carried look node i reads)))
        stood_reader k i node is sought_node reads alive (words.near near) = near_reader k i (look k) node is sought_node reads near alive
        stood_reader k i node is sought_node reads alive (words.shown n cs near above stands) =
            near_reader k i n node is sought_node reads near (lives.input (look k) n (Project n (map column cs)) stands (inl refl) alive)

        -- nodes that another join looked for
        dict_reader : (k i : ℕ) (node : Node) → slice_get old k ≡ Some node → IsSoughtNode i → Reads node i → (source : ℕ) → slice_get old source ≡ Some Doc → IsDictOn old source k → IsOneOf k
        dict_reader k i node is sought_node reads source document dict =
            read (subst (λ (x : Node). Reads x i) (one_node old k k node (Dict source dict.0 (dict.1 ∷ [])) refl is dict.2) reads)
          where
            read : Reads (Dict source dict.0 (dict.1 ∷ [])) i → IsOneOf k
            read (inl e) = absurd (no_document i sought_node base.match0 (ap (slice_get old) (sym (same_Some source i e)) ∙ document))
            read (inr e) = absurd (none-some i e)

        found_reader : (k i : ℕ) (node : Node) → slice_get old k ≡ Some node → IsSoughtNode i → Reads node i → (t : ℕ) (found : HasFound old t) → k ≡ t → IsOneOf k
        found_reader k i node is sought_node reads t found same = by found.part found.finds
          where
            by : (part : Local) → Finds old t found.source part → IsOneOf k
            by (sought.TokenRegex low high pattern) finds =
                read (subst (λ (x : Node). Reads x i) (one_node old k t node (TokenRegex found.source finds.0 low high pattern (0 ∷ [])) same is finds.1) reads)
              where
                read : Reads (TokenRegex found.source finds.0 low high pattern (0 ∷ [])) i → IsOneOf k
                read (inl e) = absurd (no_document i sought_node base.match0 (ap (slice_get old) (sym (same_Some found.source i e)) ∙ found.document))
                read (inr e) = absurd (none-some i e)
            by (sought.Dict d) finds = read (subst (λ (x : Node). Reads x i) (one_node old k t node (DictPart finds.0 0) same is finds.2) reads)
              where
                read : Reads (DictPart finds.0 0) i → IsOneOf k
                read (inl e) = absurd (no_dict i found.source finds.1 (d ∷ []) sought_node base.match0 (ap (slice_get old) (sym (same_Some finds.0 i e)) ∙ finds.3))
                read (inr e) = absurd (none-some i e)

        owner_here : (k i : ℕ) (owner : IsOwner i) → owner.o ≡ k → IsOneOf k
        owner_here k i owner same = by owner.which
          where
            by : (owner.o ≡ of.i) ⊎ ((owner.o ≡ of.r0) × (tag owner.node ≡ 2)) → IsOneOf k
            by (inl is_join) = inl (sym same ∙ is_join)
            by (inr is_columns) = inr (sym same ∙ is_columns.0)

        absorbed_reader : (k i : ℕ) (node : Node) → slice_get old k ≡ Some node → IsSoughtNode i → Reads node i → (j2 n : ℕ) (near : IsNearJoin old outputs new to j2 n)
            → (k ≡ near.right) ⊎ ((k ≡ near.may.t) ⊎ IsDictOn old near.may.found.source k) → IsOneOf k
        absorbed_reader k i node is sought_node reads j2 n near (inr (inr dict)) = dict_reader k i node is sought_node reads near.may.found.source near.may.found.document dict
        absorbed_reader k i node is sought_node reads j2 n near (inr (inl same)) = found_reader k i node is sought_node reads near.may.t near.may.found same
        absorbed_reader k i node is sought_node reads j2 n near (inl same) = shown near.may.match
          where
            shown : ShowsMatch old near.may.t near.right near.rc → IsOneOf k
            shown (inl whole) = found_reader k i node is sought_node reads near.may.t near.may.found (same ∙ whole.0)
            shown (inr part) = read (subst (λ (x : Node). Reads x i) (one_node old k near.right node (Project near.may.t (map column part.0)) same is part.1) reads)
              where
                read : Reads (Project near.may.t (map column part.0)) i → IsOneOf k
                read (inl e) =
                    let owner = owner_of i sought_node in
                    owner_here k i owner (owned i owner j2 n near (inr (sym (same_Some near.may.t i e))) ∙ sym same)
                read (inr e) = absurd (none-some i e)

        reader : (k i : ℕ) (node : Node) → slice_get old k ≡ Some node → IsLive old outputs k → IsSoughtNode i → Reads node i → IsOneOf k
        reader k i node is alive sought_node reads = by (live_over old outputs new to rebuilt k alive)
          where
            by : IsLive new shown_now (look k) ⊎ IsAbsorbed old outputs new to rebuilt k → IsOneOf k
            by (inl alive_new) = stood_reader k i node is sought_node reads alive_new (rebuilt.stood k node is)
            by (inr absorbed) = absorbed_reader k i node is sought_node reads absorbed.j absorbed.n absorbed.near absorbed.is

        reader_of : (k : ℕ) (node : Node) → slice_get old k ≡ Some node → IsLive old outputs k → Reads node of.r0 ⊎ Reads node base.t0 → IsOneOf k
        reader_of k node is alive (inl reads) = reader k of.r0 node is alive (inl refl) reads
        reader_of k node is alive (inr reads) = reader k base.t0 node is alive (inr refl) reads

        -- so it could have been restricted in the old plan
        could : IsRestrictable old outputs of.i of.r0 rc
        could = record {
          t = base.t0;
          found = base.found0;
          match = base.match0;
          unshown = (
            λ listed. may.unshown.0 (subst (λ (m : ℕ). Contains shown_now m) of.right_is (mapped_contains look outputs of.r0 listed)),
            λ listed. may.unshown.1 (subst (λ (m : ℕ). Contains shown_now m) base.t_is (mapped_contains look outputs base.t0 listed)),
          );
          alone = reader_of;
        }

        never : ⊥
        never = of.left_over live could

    none : ⊥
    none = never of_join (of_base of_join)

  -- no join is left that could be restricted
  pub all_restricted : AreRestricted new shown_now
  all_restricted j left right lc rc kind conditional at_new live_new may = none j left right lc rc kind conditional at_new live_new may
