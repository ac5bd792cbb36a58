use Rattle.std.proofs.Common.{◌≡◌, sym, ℕ, List, Bool, true, false, true≢false, not, if◌then◌else◌}
use Rattle.std.specs.Str.{bytes_eq}
use Rattle.view_graph.specs.Indexes.{AddsText, has}
use Rattle.clause_types.proofs.label.add_name.Goals as goal

adds : (old new : List ℕ → Bool) (name : List ℕ) (was fresh : Bool) → old name ≡ was → fresh ≡ not was
    → ((q : List ℕ) → new q ≡ (if bytes_eq name q then true else old q)) → AddsText old new name fresh
adds old new name true true is says updates = absurd (true≢false says)
adds old new name true false is says updates = is
adds old new name false true is says updates = (is, updates)
adds old new name false false is says updates = absurd (true≢false (sym says))

pub returns : goal.returns
returns c =
    adds (has c.args.names.now) (has c.insert.new.self) c.args.name.now (has c.args.names.now c.args.name.now) c.in_ok-insert.field-0
    (λ i. has c.args.names.now c.args.name.now) c.in_ok-insert.ensures.added
    (λ q. c.in_ok-insert.ensures.updates.0 (record { ref_ptr = (0, 0); now = q }))
