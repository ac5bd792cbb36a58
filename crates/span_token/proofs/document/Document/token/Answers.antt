use Rattle.std.proofs.Common.{◌∙◌, slice_get, ap, arith, chars}
use Rattle.span_token.specs.Extents.{extent_of}
use Rattle.span_token.specs.Documents.{Doc, characters, len_of}
use Rattle.span_token.specs.Tokens.{tokens_of}
use Rattle.span_token.specs.TokenLaws.{token_not_empty, token_in_text}
use Rattle.span_token.proofs.TokenCounts.{listed_token, listed_apart}
use Rattle.span_token.proofs.document.Document.token.Goals as goal

pub returns-clause-not_empty : goal.returns-clause-not_empty
returns-clause-not_empty c =
    let cs = chars c.self.inside.text.now in
    token_not_empty cs (extent_of c.get.result) (listed_token cs c.args.i (extent_of c.get.result) c.get.ensures)

pub returns-clause-in_document : goal.returns-clause-in_document
returns-clause-in_document c =
    let cs = chars c.self.inside.text.now in
    omega (arith, ap len_of c.self.view_is, token_in_text cs (extent_of c.get.result) (listed_token cs c.args.i (extent_of c.get.result) c.get.ensures))

pub returns-clause-apart : goal.returns-clause-apart
returns-clause-apart c =
    λ j u h f.
    let same = ap (λ (d : Doc). slice_get (tokens_of (characters d)) j) c.self.view_is in
    listed_apart (chars c.self.inside.text.now) c.args.i j (extent_of c.get.result) u h c.get.ensures (same ∙ f)
