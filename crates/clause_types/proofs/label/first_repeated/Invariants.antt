use Rattle.std.proofs.Common.{◌≡◌, ℕ, List, [], map, take, drop}
use Rattle.view_graph.specs.Indexes.{has}
use Rattle.clause_types.specs.Faults.{has_name, repeated}
use Rattle.clause_types.specs.Views.{label_of}
use Rattle.clause_types.proofs.label.first_repeated.Given as goal

abbrev pub invariant-loop-name : goal.invariant-loop-name
invariant-loop-name l =
    (repeated (map label_of (take l.name-index l.names)) (map label_of (drop l.name-index l.names)) ≡ repeated [] (map label_of l.names))
    × ((q : List ℕ) → has l.seen q ≡ has_name q (map label_of (take l.name-index l.names)))
