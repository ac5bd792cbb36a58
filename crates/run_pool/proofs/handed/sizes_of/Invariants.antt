use Rattle.std.proofs.Common.{◌≡◌, length, map, take}
use Rattle.corpus_json.specs.Outputs.{rows_of}
use Rattle.run_pool.proofs.handed.sizes_of.Given as goal

abbrev pub invariant-loop-list : goal.invariant-loop-list
invariant-loop-list l = l.sizes.items ≡ map (λ list. length (rows_of list)) (take l.list-index l.lists)
