-- The longest run of bytes that pass is what `prefix_len` counts.
use Rattle.std.proofs.Common.{◌≡◌, ℕ, suc, ◌+◌, ◌<◌, Bool, true, false, cond, List, [], ◌∷◌, ◌++◌, length, take, drop, refl, arith, one-add}
use Rattle.std.specs.List.{prefix_len, AllPass}
use Rattle.std.proofs.lemmas.Bool.{not-true}
use Rattle.std.proofs.lemmas.List.{get_or-take, length-take, length-take-le}
use Rattle.std.proofs.lemmas.List.Sums.{prefix_len_passes, prefix_len-le-length}
use Rattle.aql_lexer.specs.Tokens.{StopsAt, IsLongestRun}

module _ (passes : ℕ → Bool) where
  pub run_passes : (z : List ℕ) → AllPass passes (take (prefix_len passes z) z)
  run_passes z k d l =
      let within : k < prefix_len passes z = omega (arith, length-take (prefix_len passes z) z) in
      rw get_or-take (prefix_len_passes passes z k d within)

  pub length-run : (z : List ℕ) → length (take (prefix_len passes z) z) ≡ prefix_len passes z
  length-run z = length-take-le _ z (prefix_len-le-length passes z)

  stop_here : (b : ℕ) (bs : List ℕ) (n : ℕ) (c : Bool) → passes b ≡ c → StopsAt passes (drop n bs) → StopsAt passes (drop (cond c (1 + n) 0) (b ∷ bs))
  stop_here b bs n true e h = rw one-add h
  stop_here b bs n false e h = rw e

  run_stops : (z : List ℕ) → StopsAt passes (drop (prefix_len passes z) z)
  run_stops [] = tt
  run_stops (b ∷ bs) = stop_here b bs (prefix_len passes bs) (passes b) refl (run_stops bs)

  pub longest_run : (z : List ℕ) → IsLongestRun passes (take (prefix_len passes z) z) (drop (prefix_len passes z) z)
  longest_run z = record { passing = run_passes z; longest = run_stops z }

  stopped : (after : List ℕ) → StopsAt passes after → prefix_len passes after ≡ 0
  stopped [] h = refl
  stopped (b ∷ bs) h = rw (not-true _ h)

  pub prefix_len-longest : (run after : List ℕ) → IsLongestRun passes run after → prefix_len passes (run ++ after) ≡ length run
  prefix_len-longest [] after h = stopped after h.longest
  prefix_len-longest (b ∷ bs) after h =
      let rest = prefix_len-longest bs after (record { passing = λ k d l. h.passing (suc k) d (omega arith); longest = h.longest }) in
      let front : passes b ≡ true = h.passing 0 0 (omega arith) in
      rw (front, rest, one-add)
