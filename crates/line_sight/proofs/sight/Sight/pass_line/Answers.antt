use Rattle.std.proofs.Common.{arith, ◌≡◌, ◌+◌, ◌-◌, ◌≤◌, List, ℕ, length, drop, slice_range, ap, sym, subst}
use Rattle.std.proofs.lemmas.List.{length-take}
use Rattle.line_sight.specs.Seen.{Sees, Sighted}
use Rattle.line_sight.proofs.Looking.{range-behind, sees-behind}
use Rattle.line_sight.proofs.sight.Sight.pass_line.Goals as goal

pub returns-clause-place : goal.returns-clause-place
returns-clause-place c =
    let s = c.self.inside in
    let n = c.args.n + 1 in
    let size : length (slice_range s.room.items s.from s.to) ≡ length c.args.self.now.bytes = ap (λ (v : Sighted). length v.bytes) c.self.view_is in
    let fits : s.from + n ≤ s.to = omega (arith, c.requires.within, c.self.invariant.0, size, length-take (s.to - s.from) (drop s.from s.room.items)) in
    let begins : s.from + c.args.n + 1 ≡ s.from + n = omega arith in
    let stands : s.at + c.args.n + 1 ≡ s.at + n = omega arith in
    rw (begins, stands)
    (subst (λ (v : Sighted). record { at = s.at + n; bytes = slice_range s.room.items (s.from + n) s.to } ≡ record { at = v.at + n; bytes = drop n v.bytes }) c.self.view_is
    (ap (λ (b : List ℕ). let v : Sighted = record { at = s.at + n; bytes = b } in v) (sym (range-behind s.room.items s.from s.to n fits))))

pub returns-clause-sees : goal.returns-clause-sees
returns-clause-sees c = λ shown sees.
    subst (Sees shown) (sym (returns-clause-place c)) (sees-behind shown c.args.self.now.at (c.args.n + 1) c.args.self.now.bytes (omega (arith, c.requires.within)) sees)
