use Rattle.std.proofs.Common.{◌≡◌, ◌*◌, length, map, take}
use Rattle.corpus_json.specs.Inputs.{doc_of}
use Rattle.window_lines.proofs.documents.joined.Given as goal

abbrev pub invariant-loop-part : goal.invariant-loop-part
invariant-loop-part l = l.docs.items ≡ map doc_of (take (length l.yielded * l.size) l.inputs)
