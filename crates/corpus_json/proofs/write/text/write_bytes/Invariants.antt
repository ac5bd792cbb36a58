use Rattle.std.proofs.Common.{◌≡◌, ◌++◌, drop}
use Rattle.json.specs.Print.{escape}
use Rattle.corpus_json.proofs.write.text.write_bytes.Given as goal

abbrev pub invariant-bytes : goal.invariant-bytes
invariant-bytes l = l.out.items ++ escape (drop l.byte-index l.bytes) ≡ l.fn.out.items ++ escape l.bytes
