use Rattle.std.proofs.Common.{ℕ, List, ap, subst}
use Rattle.aql_regex_extract.specs.Bytes.{AdmitsMatches}
use Rattle.aql_regex_extract.specs.Patterns.{whole_form}
use Rattle.aql_regex_extract.proofs.Trees.{Finds-matcher}
use Rattle.aql_regex_extract.proofs.whole.WholeSearcher.new.Goals as goal

pub invariant_of-result : goal.invariant_of-result
invariant_of-result c = record {
  finds = Finds-matcher _ c.pattern.inside.whole _ _ c.in_ok-matcher.ensures.pattern c.pattern.invariant.whole (ap whole_form c.pattern.view_is);
  admits = subst (λ (text : List ℕ). AdmitsMatches text c.pattern.inside.admitted) (ap whole_form c.pattern.view_is) c.pattern.invariant.admits;
}
