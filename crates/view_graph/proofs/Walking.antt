-- Steps of the walk: what is met, what is done, and a circle.
use Rattle.std.proofs.Common.{◌≡◌, ◌∙◌, ◌+◌, ◌-◌, ◌<◌, ◌≤◌, ◌⊎◌, inl, inr, ⊎_elim, ℕ, max, Bool, true, false, cond, List, [], ◌∷◌, ◌++◌, map, drop, length, get_or, set, Contains, count_by, replicate, refl, ap, sym, subst, arith}
use Rattle.std.proofs.lemmas.List.{get_or_append_left, get_or_push, get_or_past, get_or_default, get_or-set_same, get_or-set_other, get_or-drop, get_or-replicate, length-replicate, length-set, length_push, length-map, length-drop}
use Rattle.std.proofs.lemmas.List.Sums.{sum_by-set}
use Rattle.std.proofs.lemmas.List.Elements.{Contains-get_or}
use Rattle.std.proofs.lemmas.Bool.{cases_eq, cases_lt, cases_order}
use Rattle.view_graph.specs.declared.search.Mark.{Mark}
use Rattle.view_graph.specs.declared.search.Mark.TheVariants.{Unseen, Open, Ranked}
use Rattle.view_graph.specs.declared.search.Frame.{Frame}
use Rattle.view_graph.specs.Names.{AllDiffer}
use Rattle.view_graph.specs.Graphs.{HasRank, IsChainBelow, IsClosed}
use Rattle.view_graph.specs.Search.{used_in, Edge, mark_at, is_unseen, unseen, is_ranked, done, StaysSeen, begun, frame_at, IsScanned, AreRanked, IsOnWay, IsSearch, GoesOn, IsCircle, IsDone}
use Rattle.view_graph.proofs.Splits.{get_or-map_within}

-- one mark that is set: the counts
module _ (marks : List Mark) (view : ℕ) (m : Mark) (within : view < length marks) where
  count-set : (test : Mark → Bool) (old new : Bool) → test (mark_at marks view) ≡ old → test m ≡ new
      → count_by test (set marks view m) + cond old 1 0 ≡ count_by test marks + cond new 1 0
  count-set test old new was is =
      ap (λ (b : Bool). count_by test (set marks view m) + cond b 1 0) (sym was)
      ∙ sum_by-set (λ x. cond (test x) 1 0) marks view m Unseen within
      ∙ ap (λ (b : Bool). count_by test marks + cond b 1 0) is

  mark_there : mark_at (set marks view m) view ≡ m
  mark_there = get_or-set_same marks view m Unseen within

  mark_elsewhere : (other : ℕ) → (other ≡ view → ⊥) → mark_at (set marks view m) other ≡ mark_at marks other
  mark_elsewhere other differs = get_or-set_other marks view other m Unseen differs

open_ranked : (depth rank : ℕ) → Open depth ≡ Ranked rank → ⊥
open_ranked depth rank e = cc

unseen_open : (depth : ℕ) → Unseen ≡ Open depth → ⊥
unseen_open depth e = cc

unseen_ranked : (rank : ℕ) → Unseen ≡ Ranked rank → ⊥
unseen_ranked rank e = cc

same_depth : (a b : ℕ) → Open a ≡ Open b → a ≡ b
same_depth a b e = cc

same_rank : (a b : ℕ) → Ranked a ≡ Ranked b → a ≡ b
same_rank a b e = cc

module _ (stack : List Frame) (f : Frame) where
  frame_before : (depth : ℕ) → depth < length stack → frame_at (stack ++ f ∷ []) depth ≡ frame_at stack depth
  frame_before depth below = get_or_append_left stack (f ∷ []) (begun 0) depth below

  frame_last : (depth : ℕ) → depth ≡ length stack → frame_at (stack ++ f ∷ []) depth ≡ f
  frame_last depth at = get_or_push stack f (begun 0) depth (sym at)

module _ (uses : List (List ℕ)) where
  -- a rank from those of all that are used
  pub HasRank-scanned : (frame : Frame) → IsScanned uses frame → frame.next ≡ length (used_in uses frame.view) → HasRank (Edge uses) frame.view frame.rank
  HasRank-scanned frame scanned all = record {
    chain = (chain_for scanned.reached).0;
    below = (chain_for scanned.reached).1;
    length_is = (chain_for scanned.reached).2;
    longest = λ other below. longest other below;
  }
    where
      chain_for : (frame.rank ≡ 0) ⊎ ((k : ℕ) × (rank : ℕ) × (k < frame.next) × HasRank (Edge uses) (get_or (used_in uses frame.view) k 0) rank × (frame.rank ≡ rank + 1))
          → (chain : List ℕ) × IsChainBelow (Edge uses) frame.view chain × (length chain ≡ frame.rank)
      chain_for (inl none) = ([], tt, sym none)
      chain_for (inr h) = (
        get_or (used_in uses frame.view) h.0 0 ∷ h.3.chain,
        (Contains-get_or (used_in uses frame.view) h.0 0 (omega (arith, h.2, all)), h.3.below),
        omega (arith, h.3.length_is, h.4),
      )

      longest : (other : List ℕ) → IsChainBelow (Edge uses) frame.view other → length other ≤ frame.rank
      longest [] below = omega arith
      longest (view ∷ views) below =
          let k = below.0.0 in
          let ranked = scanned.below k (omega (arith, below.0.1, all)) in
          let at : get_or (used_in uses frame.view) k 0 ≡ view = get_or_default (used_in uses frame.view) k 0 view below.0.1 ∙ below.0.2 in
          let short : length views ≤ ranked.0 = ranked.1.longest views (subst (λ (v : ℕ). IsChainBelow (Edge uses) v views) (sym at) below.1) in
          omega (arith, short, ranked.2)

  -- one more of the views that are used
  pub scanned_more : (frame next : Frame) (rank : ℕ) → IsScanned uses frame → frame.next < length (used_in uses frame.view) → HasRank (Edge uses) (get_or (used_in uses frame.view) frame.next 0) rank
      → next.view ≡ frame.view → next.next ≡ frame.next + 1 → next.rank ≡ max frame.rank (rank + 1) → IsScanned uses next
  scanned_more frame next rank scanned below ranked view_is next_is rank_is = record {
    within = subst (λ (p : ℕ). next.next ≤ length (used_in uses p)) (sym view_is) (omega (arith, next_is));
    below = λ k before. by k (cases_order k frame.next) before;
    reached = reached (cases_lt frame.rank (rank + 1)) scanned.reached;
  }
    where
      there : (k r : ℕ) → HasRank (Edge uses) (get_or (used_in uses frame.view) k 0) r → HasRank (Edge uses) (get_or (used_in uses next.view) k 0) r
      there k r h = subst (λ (p : ℕ). HasRank (Edge uses) (get_or (used_in uses p) k 0) r) (sym view_is) h

      by : (k : ℕ) → (k ≡ frame.next) ⊎ ((k < frame.next) ⊎ (frame.next < k)) → k < next.next → (r : ℕ) × HasRank (Edge uses) (get_or (used_in uses next.view) k 0) r × (r < next.rank)
      by k (inl same) before = (rank, there k rank (subst (λ (i : ℕ). HasRank (Edge uses) (get_or (used_in uses frame.view) i 0) rank) (sym same) ranked), omega (arith, rank_is))
      by k (inr (inl less)) before = let h = scanned.below k less in (h.0, there k h.0 h.1, omega (arith, rank_is, h.2))
      by k (inr (inr past)) before = absurd (omega (arith, next_is))

      reached : (frame.rank < rank + 1) ⊎ (rank + 1 ≤ frame.rank)
          → (frame.rank ≡ 0) ⊎ ((k : ℕ) × (r : ℕ) × (k < frame.next) × HasRank (Edge uses) (get_or (used_in uses frame.view) k 0) r × (frame.rank ≡ r + 1))
          → (next.rank ≡ 0) ⊎ ((k : ℕ) × (r : ℕ) × (k < next.next) × HasRank (Edge uses) (get_or (used_in uses next.view) k 0) r × (next.rank ≡ r + 1))
      reached (inl less) old = inr (frame.next, rank, omega (arith, next_is), there frame.next rank ranked, omega (arith, rank_is))
      reached (inr more) (inl none) = absurd (omega arith)
      reached (inr more) (inr h) = inr (h.0, h.1, omega (arith, next_is, h.2), there h.0 h.1 h.3, omega (arith, rank_is, h.4))

  module _ (marks : List Mark) (stack : List Frame) (search : IsSearch uses marks stack) where
    -- a view that wasn't met is put on the way
    pub entered : (view : ℕ) → view < length uses → mark_at marks view ≡ Unseen → (0 < length stack → Edge uses (frame_at stack (length stack - 1)).view view)
        → IsSearch uses (set marks view (Open (length stack))) (stack ++ begun view ∷ [])
    entered view within fresh linked = record {
      marked = length-set marks view (Open (length stack)) ∙ search.marked;
      ranked = λ other rank is. ranked other rank (cases_eq other view) is;
      frames = λ depth below. frames depth (cases_order depth (length stack)) below;
      open_ = λ other depth is. opened other depth (cases_eq other view) is;
      path = λ depth below. path depth (cases_order (depth + 1) (length stack)) below;
    }
      where
        inside : view < length marks
        inside = omega (arith, search.marked)

        new : List Mark
        new = set marks view (Open (length stack))

        same_done : done (set marks view (Open (length stack))) ≡ done marks
        same_done = let e = count-set marks view (Open (length stack)) inside is_ranked false false (ap is_ranked fresh) refl in omega (arith, e)

        ranked : (other rank : ℕ) → (other ≡ view) ⊎ (other ≡ view → ⊥) → mark_at (set marks view (Open (length stack))) other ≡ Ranked rank → HasRank (Edge uses) other rank × (rank < done (set marks view (Open (length stack))))
        ranked other rank (inl same) is = absurd (open_ranked (length stack) rank (sym (ap (mark_at (set marks view (Open (length stack)))) same ∙ mark_there marks view (Open (length stack)) inside) ∙ is))
        ranked other rank (inr differs) is =
            let h = search.ranked other rank (sym (mark_elsewhere marks view (Open (length stack)) inside other differs) ∙ is) in (h.0, omega (arith, same_done, h.1))

        kept : (depth : ℕ) (f : Frame) → IsOnWay uses marks depth f → IsOnWay uses (set marks view (Open (length stack))) depth f
        kept depth f on = record {
          within = on.within;
          scanned = on.scanned;
          low = omega (arith, same_done, on.low);
          marked = mark_elsewhere marks view (Open (length stack)) inside f.view (λ same. unseen_open depth (sym fresh ∙ (ap (mark_at marks) (sym same) ∙ on.marked))) ∙ on.marked;
        }

        first : IsOnWay uses (set marks view (Open (length stack))) (length stack) (begun view)
        first = record {
          within = within;
          scanned = record { within = omega arith; below = λ k none. absurd (omega arith); reached = inl refl };
          low = omega arith;
          marked = mark_there marks view (Open (length stack)) inside;
        }

        frames : (depth : ℕ) → (depth ≡ length stack) ⊎ ((depth < length stack) ⊎ (length stack < depth)) → depth < length (stack ++ begun view ∷ []) → IsOnWay uses (set marks view (Open (length stack))) depth (frame_at (stack ++ begun view ∷ []) depth)
        frames depth (inl at) below =
            subst (λ (f : Frame). IsOnWay uses (set marks view (Open (length stack))) depth f) (sym (frame_last stack (begun view) depth at))
            (subst (λ (d : ℕ). IsOnWay uses (set marks view (Open (length stack))) d (begun view)) (sym at) first)
        frames depth (inr (inl less)) below =
            subst (λ (f : Frame). IsOnWay uses (set marks view (Open (length stack))) depth f) (sym (frame_before stack (begun view) depth less)) (kept depth (frame_at stack depth) (search.frames depth less))
        frames depth (inr (inr past)) below = absurd (omega (arith, length_push stack (begun view)))

        opened : (other depth : ℕ) → (other ≡ view) ⊎ (other ≡ view → ⊥) → mark_at (set marks view (Open (length stack))) other ≡ Open depth
            → (depth < length (stack ++ begun view ∷ [])) × ((frame_at (stack ++ begun view ∷ []) depth).view ≡ other)
        opened other depth (inl same) is =
            let at : length stack ≡ depth = same_depth (length stack) depth (sym (ap (mark_at (set marks view (Open (length stack)))) same ∙ mark_there marks view (Open (length stack)) inside) ∙ is) in
            (omega (arith, at, length_push stack (begun view)), ap (λ (f : Frame). f.view) (frame_last stack (begun view) depth (sym at)) ∙ sym same)
        opened other depth (inr differs) is =
            let h = search.open_ other depth (sym (mark_elsewhere marks view (Open (length stack)) inside other differs) ∙ is) in
            (omega (arith, h.0, length_push stack (begun view)), ap (λ (f : Frame). f.view) (frame_before stack (begun view) depth h.0) ∙ h.1)

        path : (depth : ℕ) → (depth + 1 ≡ length stack) ⊎ ((depth + 1 < length stack) ⊎ (length stack < depth + 1)) → depth + 1 < length (stack ++ begun view ∷ [])
            → Edge uses (frame_at (stack ++ begun view ∷ []) depth).view (frame_at (stack ++ begun view ∷ []) (depth + 1)).view
        path depth (inl at) below =
            let from : frame_at stack (length stack - 1) ≡ frame_at (stack ++ begun view ∷ []) depth = ap (frame_at stack) (omega (arith, at)) ∙ sym (frame_before stack (begun view) depth (omega (arith, at))) in
            let to : view ≡ (frame_at (stack ++ begun view ∷ []) (depth + 1)).view = sym (ap (λ (f : Frame). f.view) (frame_last stack (begun view) (depth + 1) at)) in
            subst (λ (f : Frame). Edge uses f.view (frame_at (stack ++ begun view ∷ []) (depth + 1)).view) from
            (subst (λ (p : ℕ). Edge uses (frame_at stack (length stack - 1)).view p) to (linked (omega (arith, at))))
        path depth (inr (inl less)) below =
            let from : frame_at stack depth ≡ frame_at (stack ++ begun view ∷ []) depth = sym (frame_before stack (begun view) depth (omega (arith, less))) in
            let to : frame_at stack (depth + 1) ≡ frame_at (stack ++ begun view ∷ []) (depth + 1) = sym (frame_before stack (begun view) (depth + 1) less) in
            subst (λ (f : Frame). Edge uses f.view (frame_at (stack ++ begun view ∷ []) (depth + 1)).view) from
            (subst (λ (f : Frame). Edge uses (frame_at stack depth).view f.view) to (search.path depth less))
        path depth (inr (inr past)) below = absurd (omega (arith, length_push stack (begun view)))

    -- a view that was met has another mark than one that is met now
    pub unseen-entered : (view : ℕ) → view < length uses → mark_at marks view ≡ Unseen → unseen (set marks view (Open (length stack))) + 1 ≡ unseen marks
    unseen-entered view within fresh = let e = count-set marks view (Open (length stack)) (omega (arith, search.marked)) is_unseen true false (ap is_unseen fresh) refl in omega (arith, e)

  pub stays_seen : (marks : List Mark) (view : ℕ) (m : Mark) → view < length marks → (m ≡ Unseen → ⊥) → StaysSeen marks (set marks view m)
  stays_seen marks view m within seen = λ other is. by other (cases_eq other view) is
    where
      by : (other : ℕ) → (other ≡ view) ⊎ (other ≡ view → ⊥) → mark_at (set marks view m) other ≡ Unseen → mark_at marks other ≡ Unseen
      by other (inl same) is = absurd (seen (sym (ap (mark_at (set marks view m)) same ∙ mark_there marks view m within) ∙ is))
      by other (inr differs) is = sym (mark_elsewhere marks view m within other differs) ∙ is

  module _ (marks : List Mark) (stack : List Frame) (f : Frame) (search : IsSearch uses marks (stack ++ f ∷ [])) where
    last_on_way : IsOnWay uses marks (length stack) f
    last_on_way = subst (λ (g : Frame). IsOnWay uses marks (length stack) g) (frame_last stack f (length stack) refl) (search.frames (length stack) (omega (arith, length_push stack f)))

    pub last_within : f.view < length uses
    last_within = last_on_way.within

    pub last_scanned : IsScanned uses f
    last_scanned = last_on_way.scanned

    pub last_low : f.rank ≤ done marks
    last_low = last_on_way.low

    -- the last view of the way went on over those that it uses
    pub replaced : (g : Frame) → g.view ≡ f.view → IsScanned uses g → g.rank ≤ done marks → IsSearch uses marks (stack ++ g ∷ [])
    replaced g view_is scanned low = record {
      marked = search.marked;
      ranked = search.ranked;
      frames = λ depth below. frames depth (cases_order depth (length stack)) below;
      open_ = λ other depth is. let h = search.open_ other depth is in (omega (arith, h.0, length_push stack f, length_push stack g), same_view depth (cases_order depth (length stack)) ∙ h.1);
      path = λ depth below.
          subst (λ (p : ℕ). Edge uses p (frame_at (stack ++ g ∷ []) (depth + 1)).view) (sym (same_view depth (cases_order depth (length stack))))
          (subst (λ (p : ℕ). Edge uses (frame_at (stack ++ f ∷ []) depth).view p) (sym (same_view (depth + 1) (cases_order (depth + 1) (length stack))))
          (search.path depth (omega (arith, length_push stack f, length_push stack g))));
    }
      where
        same_view : (depth : ℕ) → (depth ≡ length stack) ⊎ ((depth < length stack) ⊎ (length stack < depth)) → (frame_at (stack ++ g ∷ []) depth).view ≡ (frame_at (stack ++ f ∷ []) depth).view
        same_view depth (inl at) = ap (λ (h : Frame). h.view) (frame_last stack g depth at) ∙ view_is ∙ sym (ap (λ (h : Frame). h.view) (frame_last stack f depth at))
        same_view depth (inr (inl less)) = ap (λ (h : Frame). h.view) (frame_before stack g depth less ∙ sym (frame_before stack f depth less))
        same_view depth (inr (inr past)) =
            ap (λ (h : Frame). h.view) (get_or_past (stack ++ g ∷ []) depth (begun 0) (omega (arith, length_push stack g)) ∙ sym (get_or_past (stack ++ f ∷ []) depth (begun 0) (omega (arith, length_push stack f))))

        frames : (depth : ℕ) → (depth ≡ length stack) ⊎ ((depth < length stack) ⊎ (length stack < depth)) → depth < length (stack ++ g ∷ []) → IsOnWay uses marks depth (frame_at (stack ++ g ∷ []) depth)
        frames depth (inl at) below = subst (λ (h : Frame). IsOnWay uses marks depth h) (sym (frame_last stack g depth at)) (record {
          within = subst (λ (p : ℕ). p < length uses) (sym view_is) last_on_way.within;
          scanned = scanned;
          low = low;
          marked = ap (mark_at marks) view_is ∙ (last_on_way.marked ∙ ap (λ (d : ℕ). Open d) (sym at));
        })
        frames depth (inr (inl less)) below =
            subst (λ (h : Frame). IsOnWay uses marks depth h) (frame_before stack f depth less ∙ sym (frame_before stack g depth less)) (search.frames depth (omega (arith, length_push stack f)))
        frames depth (inr (inr past)) below = absurd (omega (arith, length_push stack g))

    unseen-ranked : unseen (set marks f.view (Ranked f.rank)) ≡ unseen marks
    unseen-ranked = let e = count-set marks f.view (Ranked f.rank) (omega (arith, search.marked, last_within)) is_unseen false false (ap is_unseen last_on_way.marked) refl in omega (arith, e)

    -- the last view of the way is done
    pub ranked_off : f.next ≡ length (used_in uses f.view) → IsSearch uses (set marks f.view (Ranked f.rank)) stack
    ranked_off all = record {
      marked = length-set marks f.view (Ranked f.rank) ∙ search.marked;
      ranked = λ other rank is. ranked other rank (cases_eq other f.view) is;
      frames = λ depth below. frames depth below;
      open_ = λ other depth is. opened other depth (cases_eq other f.view) is;
      path = λ depth below.
          subst (λ (g : Frame). Edge uses g.view (frame_at stack (depth + 1)).view) (frame_before stack f depth (omega (arith, below)))
          (subst (λ (g : Frame). Edge uses (frame_at (stack ++ f ∷ []) depth).view g.view) (frame_before stack f (depth + 1) below) (search.path depth (omega (arith, below, length_push stack f))));
    }
      where
        inside : f.view < length marks
        inside = omega (arith, search.marked, last_within)

        one_more : done (set marks f.view (Ranked f.rank)) ≡ done marks + 1
        one_more = let e = count-set marks f.view (Ranked f.rank) inside is_ranked false true (ap is_ranked last_on_way.marked) refl in omega (arith, e)

        ranked : (other rank : ℕ) → (other ≡ f.view) ⊎ (other ≡ f.view → ⊥) → mark_at (set marks f.view (Ranked f.rank)) other ≡ Ranked rank → HasRank (Edge uses) other rank × (rank < done (set marks f.view (Ranked f.rank)))
        ranked other rank (inl same) is =
            let rank_is : f.rank ≡ rank = same_rank f.rank rank (sym (ap (mark_at (set marks f.view (Ranked f.rank))) same ∙ mark_there marks f.view (Ranked f.rank) inside) ∙ is) in
            (subst (λ (p : ℕ). HasRank (Edge uses) p rank) (sym same) (subst (λ (r : ℕ). HasRank (Edge uses) f.view r) rank_is (HasRank-scanned f last_scanned all)), omega (arith, rank_is, one_more, last_low))
        ranked other rank (inr differs) is =
            let h = search.ranked other rank (sym (mark_elsewhere marks f.view (Ranked f.rank) inside other differs) ∙ is) in (h.0, omega (arith, one_more, h.1))

        frames : (depth : ℕ) → depth < length stack → IsOnWay uses (set marks f.view (Ranked f.rank)) depth (frame_at stack depth)
        frames depth below =
            let on : IsOnWay uses marks depth (frame_at stack depth) = subst (λ (g : Frame). IsOnWay uses marks depth g) (frame_before stack f depth below) (search.frames depth (omega (arith, below, length_push stack f))) in
            record {
              within = on.within;
              scanned = on.scanned;
              low = omega (arith, one_more, on.low);
              marked = mark_elsewhere marks f.view (Ranked f.rank) inside (frame_at stack depth).view
                  (λ same. let d : depth ≡ length stack = same_depth depth (length stack) (sym on.marked ∙ (ap (mark_at marks) same ∙ last_on_way.marked)) in omega (arith, d, below)) ∙ on.marked;
            }

        opened : (other depth : ℕ) → (other ≡ f.view) ⊎ (other ≡ f.view → ⊥) → mark_at (set marks f.view (Ranked f.rank)) other ≡ Open depth → (depth < length stack) × ((frame_at stack depth).view ≡ other)
        opened other depth (inl same) is = absurd (open_ranked depth f.rank (sym is ∙ (ap (mark_at (set marks f.view (Ranked f.rank))) same ∙ mark_there marks f.view (Ranked f.rank) inside)))
        opened other depth (inr differs) is =
            let h = search.open_ other depth (sym (mark_elsewhere marks f.view (Ranked f.rank) inside other differs) ∙ is) in at h.0 h.1 (cases_order depth (length stack))
          where
            at : depth < length (stack ++ f ∷ []) → (frame_at (stack ++ f ∷ []) depth).view ≡ other → (depth ≡ length stack) ⊎ ((depth < length stack) ⊎ (length stack < depth)) → (depth < length stack) × ((frame_at stack depth).view ≡ other)
            at below is (inl same) = absurd (differs (sym (sym (ap (λ (g : Frame). g.view) (frame_last stack f depth same)) ∙ is)))
            at below is (inr (inl less)) = (less, ap (λ (g : Frame). g.view) (sym (frame_before stack f depth less)) ∙ is)
            at below is (inr (inr past)) = absurd (omega (arith, length_push stack f, below))

    -- a step on which the last view of the way is done
    pub goes_on_ranked : f.next ≡ length (used_in uses f.view) → GoesOn uses marks (set marks f.view (Ranked f.rank)) stack stack
    goes_on_ranked all = record {
      search = ranked_off all;
      seen = stays_seen marks f.view (Ranked f.rank) (omega (arith, search.marked, last_within)) (λ e. unseen_ranked f.rank (sym e));
      nearer = omega (arith, unseen-ranked);
    }

    -- a step on which a view is put on the way
    pub goes_on_entered : (view : ℕ) → view < length uses → mark_at marks view ≡ Unseen → Edge uses f.view view → (after : List Mark) (way : List Frame)
        → after ≡ set marks view (Open (length (stack ++ f ∷ []))) → way ≡ (stack ++ f ∷ []) ++ begun view ∷ [] → GoesOn uses marks after stack way
    goes_on_entered view within fresh edge after way marks_is way_is =
        let new = entered marks (stack ++ f ∷ []) search view within fresh (λ some. subst (λ (p : ℕ). Edge uses p view)
        (ap (λ (g : Frame). g.view) (sym (frame_last stack f (length (stack ++ f ∷ []) - 1) (omega (arith, length_push stack f))))) edge) in
        let fewer = unseen-entered marks (stack ++ f ∷ []) search view within fresh in
        subst (λ (ms : List Mark). GoesOn uses marks ms stack way) (sym marks_is) (subst (λ (w : List Frame). GoesOn uses marks (set marks view (Open (length (stack ++ f ∷ [])))) stack w) (sym way_is) (record {
          search = new;
          seen = stays_seen marks view (Open (length (stack ++ f ∷ []))) (omega (arith, search.marked)) (λ e. unseen_open (length (stack ++ f ∷ [])) (sym e));
          nearer = omega (arith, fewer, length_push stack f, length_push (stack ++ f ∷ []) (begun view));
        }))

    -- a step on which the way is found to be a circle
    pub circle_found : (view depth : ℕ) → mark_at marks view ≡ Open depth → Edge uses f.view view → IsCircle uses marks (stack ++ f ∷ []) depth
    circle_found view depth is edge =
        let h = search.open_ view depth is in
        record {
          search = search;
          within = h.0;
          closing = subst (λ (p : ℕ). Edge uses p (frame_at (stack ++ f ∷ []) depth).view) (ap (λ (g : Frame). g.view) (sym (frame_last stack f (length (stack ++ f ∷ []) - 1) (omega (arith, length_push stack f)))))
              (subst (λ (p : ℕ). Edge uses f.view p) (sym h.1) edge);
        }

  module _ (marks : List Mark) (stack : List Frame) (depth : ℕ) (circle : IsCircle uses marks stack depth) where
    length_circle : length (map (λ f. f.view) (drop depth stack)) ≡ length stack - depth
    length_circle = length-map (drop depth stack) (λ f. f.view) ∙ length-drop depth stack

    at_circle : (k d : ℕ) → depth + k < length stack → get_or (map (λ f. f.view) (drop depth stack)) k d ≡ (frame_at stack (depth + k)).view
    at_circle k d below =
        get_or-map_within (λ (f : Frame). f.view) (drop depth stack) k (begun 0) d (omega (arith, length-drop depth stack))
        ∙ ap (λ (f : Frame). f.view) (get_or-drop depth stack k (begun 0))

    pub circle_closed : IsClosed (Edge uses) (map (λ f. f.view) (drop depth stack))
    circle_closed = record {
      some = omega (arith, length_circle, circle.within);
      each_uses_next = λ k d below.
          subst (λ (p : ℕ). Edge uses p (get_or (map (λ f. f.view) (drop depth stack)) (k + 1) d)) (sym (at_circle k d (omega (arith, length_circle))))
          (subst (λ (p : ℕ). Edge uses (frame_at stack (depth + k)).view p) (sym (at_circle (k + 1) d (omega (arith, length_circle))))
          (subst (λ (n : ℕ). Edge uses (frame_at stack (depth + k)).view (frame_at stack n).view) (omega arith) (circle.search.path (depth + k) (omega (arith, length_circle)))));
      last_uses_first =
          subst (λ (p : ℕ). Edge uses p (get_or (map (λ f. f.view) (drop depth stack)) 0 0)) (sym (at_circle (length (map (λ f. f.view) (drop depth stack)) - 1) 0 (omega (arith, length_circle, circle.within))))
          (subst (λ (p : ℕ). Edge uses (frame_at stack (depth + (length (map (λ f. f.view) (drop depth stack)) - 1))).view p) (sym (at_circle 0 0 (omega (arith, circle.within))))
          (subst (λ (n : ℕ). Edge uses (frame_at stack (depth + (length (map (λ f. f.view) (drop depth stack)) - 1))).view (frame_at stack n).view) (omega arith)
          (subst (λ (n : ℕ). Edge uses (frame_at stack n).view (frame_at stack depth).view) (omega (arith, length_circle, circle.within)) circle.closing)));
    }

    pub circle_distinct : AllDiffer (map (λ f. f.view) (drop depth stack))
    circle_distinct = λ i j d before within same.
        let mark_i = (circle.search.frames (depth + i) (omega (arith, length_circle))).marked in
        let mark_j = (circle.search.frames (depth + j) (omega (arith, length_circle))).marked in
        let one_view : (frame_at stack (depth + i)).view ≡ (frame_at stack (depth + j)).view =
        sym (at_circle i d (omega (arith, length_circle))) ∙ same ∙ at_circle j d (omega (arith, length_circle)) in
        let depths : depth + i ≡ depth + j = same_depth (depth + i) (depth + j) (sym mark_i ∙ (ap (mark_at marks) one_view ∙ mark_j)) in
        omega (arith, depths, before)

  pub used_is : (view : ℕ) (element used : List ℕ) → used ≡ element → element ≡ get_or uses view element → view < length uses → used ≡ used_in uses view
  used_is view element used same at within = same ∙ (at ∙ get_or_default uses view element [] within)

  -- what a view uses
  pub edge_at : (view : ℕ) (used : List ℕ) → used ≡ used_in uses view → (k : ℕ) → k < length used → Edge uses view (get_or used k 0)
  edge_at view used same k below = subst (λ (u : List ℕ). Contains u (get_or used k 0)) same (Contains-get_or used k 0 below)

  -- a view with a rank is passed
  pub scan_more : (marks : List Mark) → AreRanked uses marks → (frame next : Frame) (rank : ℕ) (used : List ℕ) → used ≡ used_in uses frame.view → frame.next < length used
      → mark_at marks (get_or used frame.next 0) ≡ Ranked rank → IsScanned uses frame → frame.rank ≤ done marks
      → next.view ≡ frame.view → next.next ≡ frame.next + 1 → next.rank ≡ max frame.rank (rank + 1) → IsScanned uses next × (next.rank ≤ done marks)
  scan_more marks ranked frame next rank used same below marked scanned low view_is next_is rank_is =
      let h = ranked (get_or used frame.next 0) rank marked in (
        scanned_more frame next rank scanned (subst (λ (u : List ℕ). frame.next < length u) same below) (subst (λ (u : List ℕ). HasRank (Edge uses) (get_or u frame.next 0) rank) same h.0) view_is next_is rank_is,
        omega (arith, h.1, rank_is, low),
      )

  -- the walk begins at a view
  pub started : (marks : List Mark) → IsSearch uses marks [] → (view : ℕ) → view < length uses → mark_at marks view ≡ Unseen → (items : List Frame) → items ≡ [] → (after : List Mark) (way : List Frame)
      → after ≡ set marks view (Open (length items)) → way ≡ items ++ begun view ∷ [] → IsSearch uses after way × StaysSeen marks after × (¬ (mark_at after view ≡ Unseen))
  started marks search view within fresh items none after way marks_is way_is =
      let begins = entered marks [] search view within fresh (λ some. absurd (omega (arith, some))) in
      let inside : view < length marks = omega (arith, search.marked) in
      let after_is : after ≡ set marks view (Open 0) = marks_is ∙ ap (λ (stack : List Frame). set marks view (Open (length stack))) none in
      let way_at : way ≡ begun view ∷ [] = way_is ∙ ap (λ (stack : List Frame). stack ++ begun view ∷ []) none in (
        subst (λ (ms : List Mark). IsSearch uses ms way) (sym after_is) (subst (λ (w : List Frame). IsSearch uses (set marks view (Open 0)) w) (sym way_at) begins),
        subst (λ (ms : List Mark). StaysSeen marks ms) (sym after_is) (stays_seen marks view (Open 0) inside (λ e. unseen_open 0 (sym e))),
        λ is. unseen_open 0 (sym is ∙ (ap (λ (ms : List Mark). mark_at ms view) after_is ∙ mark_there marks view (Open 0) inside)),
      )

  -- a mark that is neither on the way nor ranked
  pub unseen_from : (m : Mark) → ((depth : ℕ) → m ≡ Open depth → ⊥) → ((rank : ℕ) → m ≡ Ranked rank → ⊥) → m ≡ Unseen
  unseen_from Unseen no_open no_rank = refl
  unseen_from (Open depth) no_open no_rank = absurd (no_open depth refl)
  unseen_from (Ranked rank) no_open no_rank = absurd (no_rank rank refl)

  -- before the walk
  pub unwalked : (marks : List Mark) → marks ≡ replicate (length uses) Unseen → IsSearch uses marks []
  unwalked marks is = record {
    marked = ap length is ∙ length-replicate (length uses) Unseen;
    ranked = λ view rank h. absurd (unseen_ranked rank (sym (at view) ∙ h));
    frames = λ depth below. absurd (omega (arith, below));
    open_ = λ view depth h. absurd (unseen_open depth (sym (at view) ∙ h));
    path = λ depth below. absurd (omega (arith, below));
  }
    where
      at : (view : ℕ) → mark_at marks view ≡ Unseen
      at view = ap (λ (ms : List Mark). mark_at ms view) is ∙ ⊎_elim (λ below. get_or-replicate (length uses) view Unseen Unseen below) (λ past. get_or_past (replicate (length uses) Unseen) view Unseen (omega (arith, past, length-replicate (length uses) Unseen))) (cases_lt view (length uses))

  -- after the walk
  pub walked : (marks : List Mark) → IsSearch uses marks [] → ((view : ℕ) → view < length uses → mark_at marks view ≡ Unseen → ⊥) → IsDone uses marks
  walked marks search seen = record {
    marked = search.marked;
    ranked = λ view below. by view below (mark_at marks view) refl;
  }
    where
      by : (view : ℕ) → view < length uses → (m : Mark) → mark_at marks view ≡ m → (rank : ℕ) × (mark_at marks view ≡ Ranked rank) × HasRank (Edge uses) view rank
      by view below Unseen is = absurd (seen view below is)
      by view below (Open depth) is = let none : depth < 0 = (search.open_ view depth is).0 in absurd (omega (arith, none))
      by view below (Ranked rank) is = (rank, is, (search.ranked view rank is).0)
