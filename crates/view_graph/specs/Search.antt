-- The walk that finds ranks: its marks, and the way from its first view to its last.
use Rattle.std.specs.Prelude.{◌≡◌, ℕ, ◌+◌, ◌-◌, ◌*◌, ◌<◌, ◌≤◌, ◌⊎◌, Bool, true, false, List, [], length, slice_index, slice_index_or, Contains, count_by}
use Rattle.view_graph.specs.declared.search.Mark.{Mark}
use Rattle.view_graph.specs.declared.search.Mark.TheVariants.{Unseen, Open, Ranked}
use Rattle.view_graph.specs.declared.search.Frame.{Frame}
use Rattle.view_graph.specs.Graphs.{HasRank}

-- the views that a view uses; a view is told by its index, from 0
abbrev pub used_in : List (List ℕ) → ℕ → List ℕ
used_in uses view = slice_index_or uses view []

abbrev pub Edge : List (List ℕ) → ℕ → ℕ → Type 0
Edge uses user used = Contains (used_in uses user) used

-- each view that is used has a list of its own
abbrev pub IsGraph : List (List ℕ) → Type 0
IsGraph uses = (user used : ℕ) → Edge uses user used → used < length uses

abbrev pub mark_at : List Mark → ℕ → Mark
mark_at marks view = slice_index_or marks view Unseen

abbrev pub is_unseen : Mark → Bool
is_unseen Unseen = true
is_unseen (Open depth) = false
is_unseen (Ranked rank) = false

-- how many views weren't met
abbrev pub unseen : List Mark → ℕ
unseen marks = count_by is_unseen marks

abbrev pub is_ranked : Mark → Bool
is_ranked Unseen = false
is_ranked (Open depth) = false
is_ranked (Ranked rank) = true

-- how many views have ranks
abbrev pub done : List Mark → ℕ
done marks = count_by is_ranked marks

-- no view that was met is unseen again
abbrev pub StaysSeen : List Mark → List Mark → Type 0
StaysSeen old new = (view : ℕ) → mark_at new view ≡ Unseen → mark_at old view ≡ Unseen

-- a view that was just met
abbrev pub begun : ℕ → Frame
begun view = record { view = view; next = 0; rank = 0 }

abbrev pub frame_at : List Frame → ℕ → Frame
frame_at stack depth = slice_index_or stack depth (begun 0)

-- the views before `next` among those used have ranks below `rank`, and one has the rank just below it
pub record IsScanned (uses : List (List ℕ)) (frame : Frame) : Type 0 where
  pub within : frame.next ≤ length (used_in uses frame.view)
  pub below : (k : ℕ) → k < frame.next → (rank : ℕ) × HasRank (Edge uses) (slice_index (used_in uses frame.view) k) rank × (rank < frame.rank)
  pub reached : (frame.rank ≡ 0) ⊎ ((k : ℕ) × (rank : ℕ) × (k < frame.next) × HasRank (Edge uses) (slice_index (used_in uses frame.view) k) rank × (frame.rank ≡ rank + 1))

-- marked ranks are right, and below the number of those that are done
abbrev pub AreRanked : List (List ℕ) → List Mark → Type 0
AreRanked uses marks = (view rank : ℕ) → mark_at marks view ≡ Ranked rank → HasRank (Edge uses) view rank × (rank < done marks)

-- a view on the way, at its depth
pub record IsOnWay (uses : List (List ℕ)) (marks : List Mark) (depth : ℕ) (frame : Frame) : Type 0 where
  pub within : frame.view < length uses
  pub scanned : IsScanned uses frame
  pub low : frame.rank ≤ done marks
  pub marked : mark_at marks frame.view ≡ Open depth

-- the walk under way: each view on the way uses the next, and all that are done have their ranks
pub record IsSearch (uses : List (List ℕ)) (marks : List Mark) (stack : List Frame) : Type 0 where
  pub marked : length marks ≡ length uses
  pub ranked : AreRanked uses marks
  pub frames : (depth : ℕ) → depth < length stack → IsOnWay uses marks depth (frame_at stack depth)
  pub open_ : (view depth : ℕ) → mark_at marks view ≡ Open depth → (depth < length stack) × ((frame_at stack depth).view ≡ view)
  pub path : (depth : ℕ) → depth + 1 < length stack → Edge uses (frame_at stack depth).view (frame_at stack (depth + 1)).view

-- a step of the walk: the walk goes on, nearer to its end
pub record GoesOn (uses : List (List ℕ)) (old new : List Mark) (before after : List Frame) : Type 0 where
  pub search : IsSearch uses new after
  pub seen : StaysSeen old new
  pub nearer : 2 * unseen new + length after ≤ 2 * unseen old + length before

-- from this depth on, the views on the way are in a circle
pub record IsCircle (uses : List (List ℕ)) (marks : List Mark) (stack : List Frame) (depth : ℕ) : Type 0 where
  pub search : IsSearch uses marks stack
  pub within : depth < length stack
  pub closing : Edge uses (frame_at stack (length stack - 1)).view (frame_at stack depth).view

-- all views met have ranks
pub record IsDone (uses : List (List ℕ)) (marks : List Mark) : Type 0 where
  pub marked : length marks ≡ length uses
  pub ranked : (view : ℕ) → view < length uses → (rank : ℕ) × (mark_at marks view ≡ Ranked rank) × HasRank (Edge uses) view rank
