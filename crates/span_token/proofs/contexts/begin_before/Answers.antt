use Rattle.std.proofs.Common.{◌-◌, arith}
use Rattle.span_token.specs.Extents.{extent_of}
use Rattle.span_token.specs.Documents.{characters}
use Rattle.span_token.specs.Contexts.{how_many}
use Rattle.std.proofs.lemmas.Int.{to_z-of_z}
use Rattle.span_token.proofs.ContextLemmas.{left_none, left_some, left_before}
use Rattle.span_token.proofs.contexts.begin_before.Goals as goal

pub returns-then-taken-eq0-clause-begin : goal.returns-then-taken-eq0-clause-begin
returns-then-taken-eq0-clause-begin c =
    let fits = c.ranges.n in
    let taken = simp to_z-of_z at c.at_most-taken.ensures in
    left_none (characters c.args.doc.now) c.args.place (how_many c.args.n) c.ended_by-before.result c.at_most-taken.result c.ended_by-before.ensures taken c.if-taken-eq0.true

pub returns-clause-begin : goal.returns-clause-begin
returns-clause-begin c =
    let fits = c.ranges.n in
    let taken = simp to_z-of_z at c.at_most-taken.ensures in
    left_some (characters c.args.doc.now) c.args.place (how_many c.args.n) c.ended_by-before.result c.at_most-taken.result (extent_of c.token.result) c.ended_by-before.ensures taken c.if-taken-eq0.false c.token.ensures.token

pub returns-clause-before : goal.returns-clause-before
returns-clause-before c =
    let fits = c.ranges.n in
    let taken = simp to_z-of_z at c.at_most-taken.ensures in
    let before = left_before (characters c.args.doc.now) c.args.place (c.ended_by-before.result - c.at_most-taken.result) c.ended_by-before.result (extent_of c.token.result) c.ended_by-before.ensures (omega (arith, taken, c.if-taken-eq0.false)) c.token.ensures.token in
    omega (arith, before, c.token.ensures.not_empty)
