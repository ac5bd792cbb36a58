use Rattle.std.proofs.Common.{◌≡◌, ◌++◌, false, map, drop}
use Rattle.corpus_json.specs.Outputs.{rows_of}
use Rattle.corpus_json.specs.Sections.{section_of}
use Rattle.corpus_json.specs.Writing.{views_text}
use Rattle.corpus_json.proofs.write.views.write_views.Given as goal

abbrev pub invariant-members : goal.invariant-members
invariant-members l =
    l.out.items ++ views_text l.later l.document (map rows_of l.rows) (map section_of (drop l.member-index l.members))
    ≡ l.initial.out.items ++ views_text false l.document (map rows_of l.rows) (map section_of l.members)
