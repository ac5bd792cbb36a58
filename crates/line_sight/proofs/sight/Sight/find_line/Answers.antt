use Rattle.std.proofs.Common.{arith, ◌≡◌, ◌∙◌, ◌+◌, ◌-◌, ◌≤◌, List, ℕ, length, take, drop, ap, sym, subst, slice_range}
use Rattle.std.proofs.lemmas.List.{length-drop, length-take-le}
use Rattle.corpus_json.specs.Lines.{FirstLfAt, HasNoLf}
use Rattle.line_sight.specs.Seen.{Sighted}
use Rattle.line_sight.proofs.Looking.{first-behind, none-behind, range-behind}
use Rattle.line_sight.proofs.sight.Sight.find_line.Goals as goal

pub returns-in-Some-clause-found : goal.returns-in-Some-clause-found
returns-in-Some-clause-found g c =
    let s = c.self.inside in
    let k = c.looks.searched in
    let n = c.in-Some.n in
    let bytes = slice_range s.room.items s.from s.to in
    let whole : bytes ≡ c.looks.self.bytes = ap (λ (v : Sighted). v.bytes) c.self.view_is in
    let size : length bytes ≡ s.to - s.from = length-take-le (s.to - s.from) (drop s.from s.room.items) (omega (arith, c.self.invariant.0, c.self.invariant.1, s.room.ok.0, length-drop s.from s.room.items)) in
    let within : k ≤ length bytes = subst (λ (b : List ℕ). k ≤ length b) (sym whole) c.looks.invariant.within in
    let none : HasNoLf (take k bytes) = subst (λ (b : List ℕ). HasNoLf (take k b)) (sym whole) c.looks.invariant.none in
    let past = range-behind s.room.items s.from s.to k (omega (arith, within, size, c.self.invariant.0)) in
    let lf : FirstLfAt (slice_range s.room.items (s.from + k) s.to) n = subst (λ (b : List ℕ). FirstLfAt (slice_range b (s.from + k) s.to) n) c.deref.ensures.value c.in-Some.ensures in
    subst (λ (b : List ℕ). FirstLfAt b (k + n)) whole
    (first-behind bytes k n within none (subst (λ (b : List ℕ). FirstLfAt b n) (sym past) lf))

pub looks-preserved : goal.looks-preserved
looks-preserved g c =
    let s = c.self.inside in
    let k = c.looks.searched in
    let bytes = slice_range s.room.items s.from s.to in
    let whole : bytes ≡ c.looks.self.bytes = ap (λ (v : Sighted). v.bytes) c.self.view_is in
    let size : length bytes ≡ s.to - s.from = length-take-le (s.to - s.from) (drop s.from s.room.items) (omega (arith, c.self.invariant.0, c.self.invariant.1, s.room.ok.0, length-drop s.from s.room.items)) in
    let within : k ≤ length bytes = subst (λ (b : List ℕ). k ≤ length b) (sym whole) c.looks.invariant.within in
    let none : HasNoLf (take k bytes) = subst (λ (b : List ℕ). HasNoLf (take k b)) (sym whole) c.looks.invariant.none in
    let past = range-behind s.room.items s.from s.to k (omega (arith, within, size, c.self.invariant.0)) in
    let lf : HasNoLf (slice_range s.room.items (s.from + k) s.to) = subst (λ (b : List ℕ). HasNoLf (slice_range b (s.from + k) s.to)) c.deref.ensures.value c.in_default.ensures in
    let all : HasNoLf bytes = none-behind bytes k none (subst HasNoLf (sym past) lf) in
    let held : s.to - s.from ≡ length c.looks.self.bytes = sym size ∙ ap length whole in
    let first : take (s.to - s.from) c.look_on.new.self.bytes ≡ c.looks.self.bytes = ap (λ (i : ℕ). take i c.look_on.new.self.bytes) held ∙ c.in_ok-look_on.ensures.kept in
    record {
      at = c.in_ok-look_on.ensures.at ∙ c.looks.invariant.at;
      sees = c.in_ok-look_on.ensures.sees;
      within = let more = c.in_ok-look_on.ensures.more c.if-not-branch.false in omega (arith, held, more);
      none = subst HasNoLf (whole ∙ sym first) all;
    }
