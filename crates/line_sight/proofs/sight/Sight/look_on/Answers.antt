use Rattle.std.proofs.Common.{arith, ◌≡◌, ◌∙◌, ◌+◌, ◌-◌, List, ℕ, IfSome, length, take, drop, take_all, ap, sym, subst, slice_range}
use Rattle.line_sight.specs.Seen.{Sees, Sighted}
use Rattle.line_sight.proofs.Looking.{kept-range, kept-first, sees-more}
use Rattle.line_sight.proofs.sight.Sight.look_on.Goals as goal

pub returns-then-n-eq0-clause-sees : goal.returns-then-n-eq0-clause-sees
returns-then-n-eq0-clause-sees g c =
    let s = c.self.inside in
    let same = ap (λ (b : List ℕ). let v : Sighted = record { at = s.at; bytes = b } in v) (kept-range c.look_behind-n.new.room.items s.room.items s.from s.to c.self.invariant.0 c.look_behind-n.ensures.kept)
    ∙ c.self.view_is ∙ c.in_ok-make_room.ensures in
    subst (Sees c.args.seen.now) (sym same) c.requires.sees

pub returns-then-n-eq0-clause-kept : goal.returns-then-n-eq0-clause-kept
returns-then-n-eq0-clause-kept g c =
    let s = c.self.inside in
    let whole : slice_range c.look_behind-n.new.room.items s.from s.to ≡ c.args.self.now.bytes =
    kept-range c.look_behind-n.new.room.items s.room.items s.from s.to c.self.invariant.0 c.look_behind-n.ensures.kept
    ∙ ap (λ (v : Sighted). v.bytes) (c.self.view_is ∙ c.in_ok-make_room.ensures) in
    ap (take (length c.args.self.now.bytes)) whole ∙ take_all (length c.args.self.now.bytes) c.args.self.now.bytes (omega arith)

pub returns-clause-sees : goal.returns-clause-sees
returns-clause-sees g c =
    let s = c.self.inside in
    let n = c.look_behind-n.result in
    let new = c.look_behind-n.new.room.items in
    let place : c.in-Some.place ≡ s.at + (s.to - s.from) = c.in-Some.ensures.1 in
    let sees = subst (Sees c.args.seen.now) (sym (c.self.view_is ∙ c.in_ok-make_room.ensures)) c.requires.sees in
    sees-more s.room.items new s.from s.to n c.self.invariant.0 (omega (arith, c.self.invariant.1, s.room.ok.0)) (omega (arith, c.look_behind-n.ensures.bound, c.look_behind-n.new.room.ok.0)) c.look_behind-n.ensures.kept
    c.args.seen.now s.at sees (omega (arith, place, c.look_behind-n.ensures.within, c.if-n-eq0.false))
    (λ k few fits. subst (λ (i : ℕ). take k (drop i c.args.seen.now.ready) ≡ take k (drop s.to new)) place (c.look_behind-n.ensures.front k few (omega (arith, place, fits))))
    (subst (λ (k : ℕ). IfSome c.args.seen.now.all (λ whole. take n (drop k whole) ≡ take n (drop s.to new))) place c.look_behind-n.ensures.bytes)

pub returns-clause-kept : goal.returns-clause-kept
returns-clause-kept g c =
    let s = c.self.inside in
    let n = c.look_behind-n.result in
    let new = c.look_behind-n.new.room.items in
    subst (λ (v : Sighted). take (length v.bytes) (slice_range new s.from (s.to + n)) ≡ v.bytes) (c.self.view_is ∙ c.in_ok-make_room.ensures)
    (kept-first s.room.items new s.from s.to n c.self.invariant.0 (omega (arith, c.self.invariant.1, s.room.ok.0)) (omega (arith, c.look_behind-n.ensures.bound, c.look_behind-n.new.room.ok.0)) c.look_behind-n.ensures.kept)
