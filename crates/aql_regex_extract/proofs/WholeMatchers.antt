-- What a matcher of a whole-text form keeps while it is used.
use Rattle.std.proofs.Common.{ℕ, List, sym, ◌∙◌, subst}
use denote.Ref.{Bor}
use Rattle.regex.specs.Patterns.{Re}
use Rattle.aql_regex_extract.specs.Bytes.{AdmitsMatches}
use Rattle.aql_regex_extract.specs.Patterns.{whole_form}
use Rattle.aql_regex_extract.specs.Views.{Finds, FindsWhole, IsSameWhole}
use Rattle.aql_regex_extract.specs.declared.admitted.Admitted.{Admitted}
use Rattle.aql_regex_extract.specs.declared.whole_matcher.WholeMatcher.{WholeMatcher}

pub IsSameWhole-trans : (a b c : WholeMatcher) → IsSameWhole a b → IsSameWhole b c → IsSameWhole a c
IsSameWhole-trans a b c p q = record { pattern = q.pattern ∙ p.pattern; admitted = q.admitted ∙ p.admitted }

pub FindsWhole-same : (old new : WholeMatcher) (pattern : List ℕ) → IsSameWhole old new → FindsWhole old pattern → FindsWhole new pattern
FindsWhole-same old new pattern same h = record {
  finds = subst (λ (re : Re). Finds re (whole_form pattern)) (sym same.pattern) h.finds;
  admits = subst (λ (a : Bor Admitted). AdmitsMatches (whole_form pattern) a.now) (sym same.admitted) h.admits;
}
