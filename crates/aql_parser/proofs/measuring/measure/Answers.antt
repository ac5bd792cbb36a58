use Rattle.std.proofs.Common.{◌≡◌, ◌∙◌, ◌-◌, ap, sym, length, take, drop}
use Rattle.std.proofs.lemmas.List.{take_rest, drop-map}
use Rattle.aql_lexer.specs.Kinds.{kind_of, kinds_of}
use Rattle.aql_parser.proofs.RunRules.{measures_run}
use Rattle.aql_parser.proofs.measuring.measure.Goals as goal

pub loop-rest-preserved : goal.loop-rest-preserved
loop-rest-preserved c =
    let rest = c.loop-rest.rest.now in
    let len = c.first_run-run.result.len in
    let left : kinds_of (take (length rest - len) (drop len rest)) ≡ drop len (kinds_of rest) = ap kinds_of (take_rest rest len) ∙ sym (drop-map (λ tok. kind_of tok.kind) len rest) in
    rw (left, c.max-nesting.ensures)
    (measures_run (kinds_of c.args.toks.now) (kinds_of rest) c.loop-rest.statements c.loop-rest.nesting len c.first_run-run.result.nesting c.loop-rest.invariant c.first_run-run.ensures.run c.first_run-run.ensures.nesting)
