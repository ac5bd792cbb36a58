use Rattle.std.proofs.Common.{arith, subst}
use Rattle.span_token.specs.Documents.{LiesIn}
use Rattle.span_token.specs.Extents.{extent_of}
use Rattle.span_token.specs.SourceTokens.{SomeTokens}
use Rattle.span_token.proofs.SourceLemmas.{seen-length, seen-get, seen-order}
use Rattle.span_token.proofs.source_tokens.SourceTokens.get.Goals as goal

pub overflow_cast-i : goal.overflow_cast-i
overflow_cast-i c =
    omega (arith, c.requires, c.self.invariant.fits, seen-length c.self.inside c.args.self.now c.self.view_is c.self.invariant)

pub overflow_add-self-inside : goal.overflow_add-self-inside
overflow_add-self-inside c =
    omega (arith, c.requires, c.self.invariant.fits, c.self.invariant.ordered, seen-length c.self.inside c.args.self.now c.self.view_is c.self.invariant)

pub token-requires : goal.token-requires
token-requires c =
    omega (arith, c.requires, c.self.invariant.in_list, c.self.invariant.ordered, seen-length c.self.inside c.args.self.now c.self.view_is c.self.invariant)

pub returns-clause-token : goal.returns-clause-token
returns-clause-token c = seen-get c.self.inside c.args.self.now c.args.i (extent_of c.token.result) c.self.view_is c.self.invariant c.requires.there c.token.ensures.token

pub returns-clause-order : goal.returns-clause-order
returns-clause-order c = seen-order c.self.inside c.args.self.now c.self.view_is c.self.invariant

pub returns-clause-in_document : goal.returns-clause-in_document
returns-clause-in_document c = subst (λ (t : SomeTokens). LiesIn (extent_of c.token.result) t.doc) c.self.view_is c.token.ensures.in_document
