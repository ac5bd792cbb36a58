use Rattle.std.proofs.Common.{◌≡◌, ◌+◌, ◌-◌, ◌∙◌, ap, length, min, arith}
use Rattle.span_token.specs.Extents.{extent_of}
use Rattle.span_token.specs.Documents.{characters}
use Rattle.span_token.specs.Contexts.{how_many}
use Rattle.span_token.specs.Tokens.{tokens_of}
use Rattle.std.proofs.lemmas.Int.{to_z-of_z}
use Rattle.span_token.proofs.ContextLemmas.{right_none, right_some, right_after}
use Rattle.span_token.proofs.contexts.end_after.Goals as goal

pub returns-then-taken-eq0-clause-end : goal.returns-then-taken-eq0-clause-end
returns-then-taken-eq0-clause-end c =
    let fits = c.ranges.n in
    let most = simp to_z-of_z at c.at_most-taken.ensures in
    let taken : c.at_most-taken.result ≡ min (length (tokens_of (characters c.args.doc.now)) - c.begun_before-passed.result) (how_many c.args.n) =
    most ∙ ap (λ m. min (m - c.begun_before-passed.result) (how_many c.args.n)) c.token_count.ensures.count in
    right_none (characters c.args.doc.now) c.args.place (how_many c.args.n) c.begun_before-passed.result c.at_most-taken.result c.begun_before-passed.ensures taken c.if-taken-eq0.true

pub returns-clause-end : goal.returns-clause-end
returns-clause-end c =
    let fits = c.ranges.n in
    let most = simp to_z-of_z at c.at_most-taken.ensures in
    let taken : c.at_most-taken.result ≡ min (length (tokens_of (characters c.args.doc.now)) - c.begun_before-passed.result) (how_many c.args.n) =
    most ∙ ap (λ m. min (m - c.begun_before-passed.result) (how_many c.args.n)) c.token_count.ensures.count in
    right_some (characters c.args.doc.now) c.args.place (how_many c.args.n) c.begun_before-passed.result c.at_most-taken.result (extent_of c.token.result) c.begun_before-passed.ensures taken c.if-taken-eq0.false c.token.ensures.token

pub returns-clause-after : goal.returns-clause-after
returns-clause-after c =
    let after = right_after (characters c.args.doc.now) c.args.place (c.begun_before-passed.result + c.at_most-taken.result - 1) c.begun_before-passed.result (extent_of c.token.result) c.begun_before-passed.ensures (omega (arith, c.if-taken-eq0.false)) c.token.ensures.token in
    omega (arith, after, c.token.ensures.not_empty)
