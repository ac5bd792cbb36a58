use Rattle.std.proofs.Common.{All, subst, sym, ◌∙◌, arith, take_all, rules}
use Rattle.std.proofs.lemmas.List.Elements.{All-more}
use Rattle.aql_regex_extract.specs.ByteSets.{Has}
use Rattle.aql_regex_extract.proofs.byte_set.ByteSet.has_each.Goals as goal

pub loop-byte-preserved : goal.loop-byte-preserved
loop-byte-preserved c =
    All-more (Has c.args.self.now) c.args.bytes.now c.loop-byte.byte-index 0 (omega arith) c.loop-byte.invariant
    (sym c.has.ensures ∙ c.if-not-has.false)

pub returns : goal.returns
returns c = (
  λ _. subst (All (Has c.args.self.now)) (take_all c.loop-byte.byte-index c.args.bytes.now (omega arith)) c.loop-byte.invariant,
  λ _. search rules,
)
