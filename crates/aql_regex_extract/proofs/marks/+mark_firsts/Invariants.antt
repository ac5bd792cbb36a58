use Rattle.std.proofs.Common.{true, map, take}
use Rattle.regex_hir.specs.Meaning.{meaning, cat_all, alt_all}
use Rattle.aql_regex_extract.specs.ByteSets.{Widens}
use Rattle.aql_regex_extract.specs.Bytes.{BeginsIn}
use Rattle.aql_regex_extract.proofs.marks.+mark_firsts.Given as goal

abbrev pub invariant-mark_firsts_of_all-loop-i : goal.invariant-mark_firsts_of_all-loop-i
invariant-mark_firsts_of_all-loop-i l = BeginsIn l.set true (cat_all (map meaning (take l.i l.subs))) × Widens l.initial.set l.set

abbrev pub invariant-mark_firsts_of_any-loop-i : goal.invariant-mark_firsts_of_any-loop-i
invariant-mark_firsts_of_any-loop-i l =
    BeginsIn l.set l.may_be_empty (alt_all (map meaning (take l.i l.subs))) × Widens l.initial.set l.set
