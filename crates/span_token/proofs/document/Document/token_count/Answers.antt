use Rattle.span_token.specs.Documents.{characters}
use Rattle.span_token.specs.TokenLaws.{tokens_of_are}
use Rattle.span_token.proofs.document.Document.token_count.Goals as goal

pub returns-clause-meaning : goal.returns-clause-meaning
returns-clause-meaning c = tokens_of_are (characters c.args.self.now)
