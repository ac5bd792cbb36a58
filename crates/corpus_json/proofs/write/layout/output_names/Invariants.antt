use Rattle.std.proofs.Common.{◌≡◌, map, take}
use Rattle.corpus_json.proofs.write.layout.output_names.Given as goal

abbrev pub invariant-outputs : goal.invariant-outputs
invariant-outputs l = map (λ name. name.now) l.names.items ≡ map (λ output. output.name) (take l.output-index l.outputs)
