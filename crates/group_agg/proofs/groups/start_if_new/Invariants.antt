use Rattle.std.proofs.Common.{ℕ, ◌≡◌, ◌<◌, ◌≤◌, ◌++◌, [], ◌∷◌, get_or, vec_len}
use Rattle.group_agg.specs.Groups.{key_of}
use Rattle.group_agg.specs.Tallies.{start}
use Rattle.group_agg.specs.declared.agg.Agg.TheVariants.{Count}
use Rattle.group_agg.proofs.groups.start_if_new.Given as goal

abbrev pub invariant-loop-j : goal.invariant-loop-j
invariant-loop-j l = record {
  len : vec_len l.columns ≡ vec_len l.initial.columns;
  started : (k : ℕ) → k < l.j → get_or l.columns.items k [] ≡ get_or l.initial.columns.items k [] ++ start (get_or l.aggs k Count) (key_of l.keys l.row) ∷ [];
  left : (k : ℕ) → l.j ≤ k → get_or l.columns.items k [] ≡ get_or l.initial.columns.items k [];
}
