use Rattle.std.proofs.Common.{◌≡◌, map, take}
use Rattle.corpus_json.proofs.write.member.column_names.Given as goal

abbrev pub invariant-columns : goal.invariant-columns
invariant-columns l = map (λ name. name.now) l.names.items ≡ take l.column l.output.columns
