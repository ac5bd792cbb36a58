use Rattle.std.proofs.Common.{map, take}
use Rattle.regex_hir.specs.Meaning.{meaning, cat_all, alt_all}
use Rattle.aql_regex_extract.specs.ByteSets.{Widens}
use Rattle.aql_regex_extract.specs.Bytes.{IsMadeOf}
use Rattle.aql_regex_extract.proofs.marks.+mark_bytes.Given as goal

abbrev pub invariant-mark_bytes_of_each-loop-i : goal.invariant-mark_bytes_of_each-loop-i
invariant-mark_bytes_of_each-loop-i l =
    IsMadeOf l.set (cat_all (map meaning (take l.i l.subs))) × IsMadeOf l.set (alt_all (map meaning (take l.i l.subs)))
    × Widens l.initial.set l.set
