use Rattle.std.proofs.Common.{All, subst, arith, take_all}
use Rattle.std.proofs.lemmas.List.Elements.{All-more, All-weaker}
use Rattle.aql_regex_extract.specs.ByteSets.{Has}
use Rattle.aql_regex_extract.proofs.BytesLemmas.{IsMadeOf-literal}
use Rattle.aql_regex_extract.proofs.marks.mark_literal.Goals as goal

pub loop-byte-preserved : goal.loop-byte-preserved
loop-byte-preserved c =
    let i = c.loop-byte.byte-index in
    let set = c.add_range.new.self in (
      All-more (Has set) c.args.bytes.now i 0 (omega arith)
          (All-weaker (Has c.loop-byte.set) (Has set) c.add_range.ensures.keeps _ c.loop-byte.invariant.0)
          (c.add_range.ensures.marks _ (omega (arith, c.from.ensures)) (omega (arith, c.from-in-loop-byte.ensures))),
      λ b has. c.add_range.ensures.keeps b (c.loop-byte.invariant.1 b has),
    )

pub returns-clause-marks : goal.returns-clause-marks
returns-clause-marks c =
    IsMadeOf-literal c.loop-byte.set c.args.bytes.now
    (subst (All (Has c.loop-byte.set)) (take_all c.loop-byte.byte-index c.args.bytes.now (omega arith)) c.loop-byte.invariant.0)
