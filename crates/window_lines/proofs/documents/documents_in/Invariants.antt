use Rattle.std.proofs.Common.{◌≡◌, map, take}
use Rattle.corpus_json.specs.Inputs.{doc_of}
use Rattle.window_lines.proofs.documents.documents_in.Given as goal

abbrev pub invariant-loop-input : goal.invariant-loop-input
invariant-loop-input l = l.docs.items ≡ map doc_of (take l.input-index l.inputs)
