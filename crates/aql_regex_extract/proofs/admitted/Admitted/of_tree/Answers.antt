use Rattle.std.proofs.Common.{refl}
use Rattle.aql_regex_extract.proofs.AdmittedLemmas.{AdmitsWhole-of_sets}
use Rattle.aql_regex_extract.proofs.admitted.Admitted.of_tree.Goals as goal

pub returns : goal.returns
returns c =
    AdmitsWhole-of_sets _ _ c.mark_firsts.new.set c.mark_bytes.new.set c.mark_firsts.result
    (c.if-not-is_anchored_start.ensures.anchored refl) (c.if-not-is_anchored_end.ensures.anchored refl)
    c.mark_firsts.ensures.marks c.mark_bytes.ensures.marks c.new.ensures
