use Rattle.std.proofs.Common.{ap, sym, ◌∙◌, rules}
use Rattle.span_token.specs.Extents.{extent_of}
use Rattle.span_joins.specs.Answers.{answer_of}
use Rattle.span_joins.specs.declared.rule.Rule.{Rule}
use Rattle.span_joins.proofs.AnswerLaws.{tokens_answered}
use Rattle.span_joins.proofs.rule.answered.Goals as goal

pub returns-then-in_order-2 : goal.returns-then-in_order-2
returns-then-in_order-2 c =
    tokens_answered c.in-Tokens.doc c.in-Tokens.min c.in-Tokens.max c.in-Tokens.field-3 (extent_of c.args.first) (extent_of c.args.other) (extent_of c.between-gap.result) c.tokens_between.result c.by_gap-then-in_order-2.result
    c.if-in_order-2.true c.between-gap.ensures c.tokens_between.ensures (search rules)
    ∙ ap (λ (rule : Rule). answer_of rule (extent_of c.args.first) (extent_of c.args.other)) (sym c.in-Tokens.is)
