-- Nodes that nobody reads may go: joins stay conditional, and none becomes one whose right input can be looked for.
use Rattle.std.proofs.Common.{◌≡◌, ◌∙◌, ◌⊎◌, inl, inr, ℕ, Bool, List, [], ◌∷◌, map, get_or, slice_get, refl, sym, ap, subst, Option, Some, None, option_map}
use Rattle.std.specs.List.{Contains}
use Rattle.std.specs.Option.{IfSome}
use Rattle.std.proofs.lemmas.Option.{none-some, same_Some, slice_get_within, slice_get-get_or, get_or_from_slice_get}
use Rattle.scalar_ops.specs.Expressions.{Term, column}
use Rattle.algebra.specs.declared.node.JoinKind.{JoinKind}
use Rattle.algebra.specs.declared.node.Local.{Local}
use Rattle.algebra.specs.declared.node.Local.TheVariants as sought
use Rattle.algebra.specs.declared.node.Node.{Node}
use Rattle.algebra.specs.declared.node.Node.TheVariants.{Doc, TokenRegex, Dict, DictPart, Project, Cross, SpanJoin}
use Rattle.algebra.specs.Inputs.{left_input, right_input, with_inputs}
use Rattle.algebra.specs.OperatorLaws.{left-renamed, right-renamed}
use Rattle.restrict_eval.specs.Restricting.{IsConditional, AreConditional, Reads, IsLive, Finds, HasFound, ShowsMatch, IsRestrictable, AreRestricted}
use Rattle.restrict_eval.specs.Restricting as lives
use Rattle.share_plan.specs.Pruning.{IsDropped}
use Rattle.share_plan.specs.Renumbering.{IsMoved}

-- ---- what became a node of a kind

record WasJoin (number : ℕ → ℕ) (before : Node) (left right : ℕ) (kind : JoinKind) (lc rc : ℕ) (conditional : Bool) : Type 0 where
  pub l : ℕ
  pub r : ℕ
  pub is : before ≡ SpanJoin l r kind lc rc conditional
  pub left_number : number l ≡ left
  pub right_number : number r ≡ right

abbrev is_join : Node → Type 0
is_join (SpanJoin l r kind lc rc conditional) = Unit {0}
is_join node = ⊥

join_before : (number : ℕ → ℕ) (before : Node) (left right : ℕ) (kind : JoinKind) (lc rc : ℕ) (conditional : Bool) → SpanJoin left right kind lc rc conditional ≡ with_inputs number before
    → WasJoin number before left right kind lc rc conditional
join_before number (SpanJoin l r k a b c) left right kind lc rc conditional e = record { l = l; r = r; is = cc; left_number = cc; right_number = cc }
join_before number node left right kind lc rc conditional e = absurd (subst is_join e tt)

record WasRuns (number : ℕ → ℕ) (before : Node) (source col low high pattern : ℕ) : Type 0 where
  pub s : ℕ
  pub is : before ≡ TokenRegex s col low high pattern (0 ∷ [])
  pub source_number : number s ≡ source

abbrev is_runs : Node → Type 0
is_runs (TokenRegex s c low high p groups) = Unit {0}
is_runs node = ⊥

runs_before : (number : ℕ → ℕ) (before : Node) (source col low high pattern : ℕ) → TokenRegex source col low high pattern (0 ∷ []) ≡ with_inputs number before
    → WasRuns number before source col low high pattern
runs_before number (TokenRegex s c l h p groups) source col low high pattern e = record { s = s; is = cc; source_number = cc }
runs_before number node source col low high pattern e = absurd (subst is_runs e tt)

record WasPart (number : ℕ → ℕ) (before : Node) (input part : ℕ) : Type 0 where
  pub i : ℕ
  pub is : before ≡ DictPart i part
  pub input_number : number i ≡ input

abbrev is_part : Node → Type 0
is_part (DictPart i part) = Unit {0}
is_part node = ⊥

part_before : (number : ℕ → ℕ) (before : Node) (input part : ℕ) → DictPart input part ≡ with_inputs number before → WasPart number before input part
part_before number (DictPart i p) input part e = record { i = i; is = cc; input_number = cc }
part_before number node input part e = absurd (subst is_part e tt)

record WasDict (number : ℕ → ℕ) (before : Node) (source col : ℕ) (dicts : List ℕ) : Type 0 where
  pub s : ℕ
  pub is : before ≡ Dict s col dicts
  pub source_number : number s ≡ source

abbrev is_dict : Node → Type 0
is_dict (Dict s c dicts) = Unit {0}
is_dict node = ⊥

dict_before : (number : ℕ → ℕ) (before : Node) (source col : ℕ) (dicts : List ℕ) → Dict source col dicts ≡ with_inputs number before → WasDict number before source col dicts
dict_before number (Dict s c ds) source col dicts e = record { s = s; is = cc; source_number = cc }
dict_before number node source col dicts e = absurd (subst is_dict e tt)

record WasShown (number : ℕ → ℕ) (before : Node) (input : ℕ) (items : List Term) : Type 0 where
  pub i : ℕ
  pub is : before ≡ Project i items
  pub input_number : number i ≡ input

abbrev is_shown : Node → Type 0
is_shown (Project i items) = Unit {0}
is_shown node = ⊥

shown_before : (number : ℕ → ℕ) (before : Node) (input : ℕ) (items : List Term) → Project input items ≡ with_inputs number before → WasShown number before input items
shown_before number (Project i ts) input items e = record { i = i; is = cc; input_number = cc }
shown_before number node input items e = absurd (subst is_shown e tt)

abbrev is_document : Node → Type 0
is_document Doc = Unit {0}
is_document node = ⊥

document_before : (number : ℕ → ℕ) (before : Node) → Doc ≡ with_inputs number before → before ≡ Doc
document_before number Doc e = refl
document_before number node e = absurd (subst is_document e tt)

conditional_moved : (number : ℕ → ℕ) (node : Node) → IsConditional node → IsConditional (with_inputs number node)
conditional_moved number (Cross l r conditional) is = is
conditional_moved number (SpanJoin l r kind lc rc conditional) is = is
conditional_moved number node is = tt

module _ (old : List Node) (shown : List ℕ) (new : List Node) (shown_now : List ℕ) (dropped : IsDropped old shown new shown_now) where
  abbrev Stays : ℕ → ℕ → Type 0
  Stays i n = dropped.to i ≡ Some n

  -- what a node was
  record Was (n : ℕ) (after : Node) : Type 0 where
    pub i : ℕ
    pub stays : Stays i n
    pub before : Node
    pub at : slice_get old i ≡ Some before
    pub moved : IsMoved dropped.to before after

  was : (n : ℕ) (after : Node) → slice_get new n ≡ Some after → Was n after
  was n after at =
      let f = dropped.from n (slice_get_within new n after at) in
      let before = get_or old f.0 Doc in
      let at_before : slice_get old f.0 ≡ Some before = slice_get-get_or old f.0 Doc f.1 in
      let m = dropped.moved f.0 n before f.2 at_before in
      record {
        i = f.0;
        stays = f.2;
        before = before;
        at = at_before;
        moved = subst (IsMoved dropped.to before) (same_Some m.0 after (sym m.1 ∙ at)) m.2;
      }

  -- node i has one number
  one_number : (i m n : ℕ) → Stays i m → Stays i n → m ≡ n
  one_number i m n a b = same_Some m n (sym a ∙ b)

  -- an input stays under the number by which it is read
  left_stays : (before after : Node) (moved : IsMoved dropped.to before after) (i : ℕ) → left_input before ≡ Some i → Stays i (moved.number i)
  left_stays before after moved i e = subst (λ (o : Option ℕ). IfSome o (λ k. dropped.to k ≡ Some (moved.number k))) e moved.left

  right_stays : (before after : Node) (moved : IsMoved dropped.to before after) (i : ℕ) → right_input before ≡ Some i → Stays i (moved.number i)
  right_stays before after moved i e = subst (λ (o : Option ℕ). IfSome o (λ k. dropped.to k ≡ Some (moved.number k))) e moved.right

  pub conditional-again : AreConditional old → AreConditional new
  conditional-again all n d below =
      let f = dropped.from n below in
      let before = get_or old f.0 Doc in
      let m = dropped.moved f.0 n before f.2 (slice_get-get_or old f.0 Doc f.1) in
      subst IsConditional (sym (get_or_from_slice_get new n m.0 d m.1))
      (subst IsConditional (sym m.2.same) (conditional_moved m.2.number before (all f.0 Doc f.1)))

  -- ---- what nodes read

  reads_on : (before after : Node) → IsMoved dropped.to before after → (i n : ℕ) → Stays i n → Reads before i → Reads after n
  reads_on before after moved i n stays (inl e) =
      inl (ap left_input moved.same ∙ (left-renamed moved.number before ∙ (ap (option_map moved.number) e ∙ (sym (left_stays before after moved i e) ∙ stays))))
  reads_on before after moved i n stays (inr e) =
      inr (ap right_input moved.same ∙ (right-renamed moved.number before ∙ (ap (option_map moved.number) e ∙ (sym (right_stays before after moved i e) ∙ stays))))

  from_input : (number : ℕ → ℕ) (n : ℕ) (o : Option ℕ) → IfSome o (λ k. dropped.to k ≡ Some (number k)) → option_map number o ≡ Some n → (i : ℕ) × (o ≡ Some i) × Stays i n
  from_input number n None stays e = absurd (none-some n e)
  from_input number n (Some i) stays e = (i, refl, stays ∙ e)

  reads_before : (before after : Node) → IsMoved dropped.to before after → (n : ℕ) → Reads after n → (i : ℕ) × Reads before i × Stays i n
  reads_before before after moved n (inl e) =
      let f = from_input moved.number n (left_input before) moved.left (sym (left-renamed moved.number before) ∙ (ap left_input (sym moved.same) ∙ e)) in
      (f.0, inl f.1, f.2)
  reads_before before after moved n (inr e) =
      let f = from_input moved.number n (right_input before) moved.right (sym (right-renamed moved.number before) ∙ (ap right_input (sym moved.same) ∙ e)) in
      (f.0, inr f.1, f.2)

  -- ---- what is live

  live_before : (n : ℕ) → IsLive new shown_now n → (i : ℕ) → Stays i n → IsLive old shown i
  live_before n (lives.output m c) i stays =
      let f = dropped.shown_from n c in
      lives.output i (subst (Contains shown) (dropped.apart f.0 i n f.1 stays) f.2)
  live_before n (lives.input k m node at reads live) i stays =
      let w = was k node at in
      let r = reads_before w.before node w.moved n reads in
      lives.input w.i i w.before w.at (subst (Reads w.before) (dropped.apart r.0 i n r.2 stays) r.1) (live_before k live w.i w.stays)

  -- a live node stays, and is live
  record LivesOn (i : ℕ) : Type 0 where
    pub n : ℕ
    pub stays : Stays i n
    pub live : IsLive new shown_now n

  input_lives : (k i : ℕ) (node : Node) → slice_get old k ≡ Some node → Reads node i → LivesOn k → LivesOn i
  input_lives k i node at reads on =
      let m = dropped.moved k on.n node on.stays at in
      by reads m.0 m.1 m.2
    where
      by : Reads node i → (after : Node) → slice_get new on.n ≡ Some after → IsMoved dropped.to node after → LivesOn i
      by (inl e) after there moved =
          let stays = left_stays node after moved i e in
          record { n = moved.number i; stays = stays; live = lives.input on.n (moved.number i) after there (reads_on node after moved i (moved.number i) stays (inl e)) on.live }
      by (inr e) after there moved =
          let stays = right_stays node after moved i e in
          record { n = moved.number i; stays = stays; live = lives.input on.n (moved.number i) after there (reads_on node after moved i (moved.number i) stays (inr e)) on.live }

  lives_on : (i : ℕ) → IsLive old shown i → LivesOn i
  lives_on i (lives.output k c) =
      let s = dropped.shows i c in
      record { n = s.0; stays = s.1; live = lives.output s.0 s.2 }
  lives_on i (lives.input k m node at reads live) = input_lives k i node at reads (lives_on k live)

  -- ---- what can be looked for

  record HadFound (n : ℕ) : Type 0 where
    pub i : ℕ
    pub stays : Stays i n
    pub found : HasFound old i

  document_was : (s n : ℕ) → Stays s n → slice_get new n ≡ Some Doc → slice_get old s ≡ Some Doc
  document_was s n stays document =
      let d = was n Doc document in
      let at : slice_get old d.i ≡ Some Doc = d.at ∙ ap (λ (x : Node). Some x) (document_before d.moved.number d.before d.moved.same) in
      subst (λ (k : ℕ). slice_get old k ≡ Some Doc) (dropped.apart d.i s n d.stays stays) at

  had_found : (n : ℕ) → HasFound new n → HadFound n
  had_found n found = by found.part found.finds
    where
      by : (part : Local) → Finds new n found.source part → HadFound n
      by (sought.TokenRegex low high pattern) finds =
          let w = was n (TokenRegex found.source finds.0 low high pattern (0 ∷ [])) finds.1 in
          let b = runs_before w.moved.number w.before found.source finds.0 low high pattern w.moved.same in
          let at : slice_get old w.i ≡ Some (TokenRegex b.s finds.0 low high pattern (0 ∷ [])) = w.at ∙ ap (λ (x : Node). Some x) b.is in
          let source_stays : Stays b.s found.source = left_stays w.before _ w.moved b.s (ap left_input b.is) ∙ ap (λ (k : ℕ). Some k) b.source_number in
          record {
            i = w.i;
            stays = w.stays;
            found = record { source = b.s; part = sought.TokenRegex low high pattern; finds = (finds.0, at); document = document_was b.s found.source source_stays found.document };
          }
      by (sought.Dict d) finds =
          let w = was n (DictPart finds.0 0) finds.2 in
          let b = part_before w.moved.number w.before finds.0 0 w.moved.same in
          let at : slice_get old w.i ≡ Some (DictPart b.i 0) = w.at ∙ ap (λ (x : Node). Some x) b.is in
          let dict_stays : Stays b.i finds.0 = left_stays w.before _ w.moved b.i (ap left_input b.is) ∙ ap (λ (k : ℕ). Some k) b.input_number in
          let v = was finds.0 (Dict found.source finds.1 (d ∷ [])) finds.3 in
          let a = dict_before v.moved.number v.before found.source finds.1 (d ∷ []) v.moved.same in
          let at_dict : slice_get old v.i ≡ Some (Dict a.s finds.1 (d ∷ [])) = v.at ∙ ap (λ (x : Node). Some x) a.is in
          let source_stays : Stays a.s found.source = left_stays v.before _ v.moved a.s (ap left_input a.is) ∙ ap (λ (k : ℕ). Some k) a.source_number in
          let here : slice_get old b.i ≡ Some (Dict a.s finds.1 (d ∷ [])) = ap (slice_get old) (dropped.apart b.i v.i finds.0 dict_stays v.stays) ∙ at_dict in
          record {
            i = w.i;
            stays = w.stays;
            found = record { source = a.s; part = sought.Dict d; finds = (b.i, finds.1, at, here); document = document_was a.s found.source source_stays found.document };
          }

  shows_before : (t r rc i j : ℕ) → Stays i t → Stays j r → ShowsMatch new t r rc → ShowsMatch old i j rc
  shows_before t r rc i j t_stays r_stays (inl same) = inl (dropped.apart j i t (r_stays ∙ ap (λ (k : ℕ). Some k) same.0) t_stays, same.1)
  shows_before t r rc i j t_stays r_stays (inr shows) =
      let w = was r (Project t (map column shows.0)) shows.1 in
      let b = shown_before w.moved.number w.before t (map column shows.0) w.moved.same in
      let input_stays : Stays b.i t = left_stays w.before _ w.moved b.i (ap left_input b.is) ∙ ap (λ (k : ℕ). Some k) b.input_number in
      let is : w.before ≡ Project i (map column shows.0) = b.is ∙ ap (λ (k : ℕ). Project k (map column shows.0)) (dropped.apart b.i i t input_stays t_stays) in
      inr (shows.0, ap (slice_get old) (dropped.apart j w.i r r_stays w.stays) ∙ (w.at ∙ ap (λ (x : Node). Some x) is), shows.2)

  unshown_before : (n i : ℕ) → Stays i n → (Contains shown_now n → ⊥) → Contains shown i → ⊥
  unshown_before n i stays not c =
      let s = dropped.shows i c in
      not (subst (Contains shown_now) (one_number i s.0 n s.1 stays) s.2)

  module _ (j r rc i k : ℕ) (j_stays : Stays i j) (r_stays : Stays k r) (may : IsRestrictable new shown_now j r rc) where
    had : HadFound may.t
    had = had_found may.t may.found

    alone_before : (m : ℕ) (node : Node) → slice_get old m ≡ Some node → IsLive old shown m → Reads node k ⊎ Reads node had.i → (m ≡ i) ⊎ (m ≡ k)
    alone_before m node at live reads =
        let on = lives_on m live in
        let x = dropped.moved m on.n node on.stays at in
        by on.n on.stays (may.alone on.n x.0 x.1 on.live (both x.0 x.2 reads))
      where
        both : (after : Node) → IsMoved dropped.to node after → Reads node k ⊎ Reads node had.i → Reads after r ⊎ Reads after may.t
        both after moved (inl e) = inl (reads_on node after moved k r r_stays e)
        both after moved (inr e) = inr (reads_on node after moved had.i may.t had.stays e)

        by : (n : ℕ) → Stays m n → (n ≡ j) ⊎ (n ≡ r) → (m ≡ i) ⊎ (m ≡ k)
        by n stays (inl e) = inl (dropped.apart m i j (stays ∙ ap (λ (a : ℕ). Some a) e) j_stays)
        by n stays (inr e) = inr (dropped.apart m k r (stays ∙ ap (λ (a : ℕ). Some a) e) r_stays)

    restrictable_before : IsRestrictable old shown i k rc
    restrictable_before = record {
      t = had.i;
      found = had.found;
      match = shows_before may.t r rc had.i k had.stays r_stays may.match;
      unshown = (unshown_before r k r_stays may.unshown.0, unshown_before may.t had.i had.stays may.unshown.1);
      alone = alone_before;
    }

  pub restricted-again : AreRestricted old shown → AreRestricted new shown_now
  restricted-again none j left right lc rc kind conditional at live may =
      let w = was j (SpanJoin left right kind lc rc conditional) at in
      let b = join_before w.moved.number w.before left right kind lc rc conditional w.moved.same in
      let right_is : Stays b.r right = right_stays w.before _ w.moved b.r (ap right_input b.is) ∙ ap (λ (k : ℕ). Some k) b.right_number in
      none w.i b.l b.r lc rc kind conditional (w.at ∙ ap (λ (x : Node). Some x) b.is) (live_before j live w.i w.stays)
      (restrictable_before j right rc w.i b.r w.stays right_is may)
