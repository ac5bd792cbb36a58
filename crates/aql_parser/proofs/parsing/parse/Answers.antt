use Rattle.std.proofs.Common.{◌≡◌, ◌∙◌, ◌+◌, ◌-◌, [], ◌∷◌, ◌++◌, length, map, take, drop, ap, arith}
use Rattle.std.proofs.lemmas.List.{take_rest, length-map, map-append}
use Rattle.aql_lexer.specs.Kinds.{token_of}
use Rattle.aql_syntax.specs.Views.{statement_of}
use Rattle.aql_lexer.specs.Kinds.{kinds_of}
use Rattle.aql_syntax.specs.ShapeLaws.{formed}
use Rattle.aql_syntax.specs.PlaceLaws.{spelled}
use Rattle.aql_parser.specs.Nesting.{nesting_limit}
use Rattle.aql_parser.proofs.ProgramRules.{decided, few_parsed, run_nested, fault_is, next_parsed, all_parsed, only_these, only_memory}
use Rattle.aql_parser.proofs.Standing.{printable}
use Rattle.aql_parser.proofs.parsing.parse.Goals as goal

pub parse_statement-requires-clause-nested : goal.parse_statement-requires-clause-nested
parse_statement-requires-clause-nested c =
    run_nested nesting_limit c.args.toks.now c.loop-rest.rest.now (map statement_of c.loop-rest.trees.items) c.first_run-len.result.len
    c.requires.nested c.loop-rest.invariant c.first_run-len.ensures.run

pub overflow_cast-len : goal.overflow_cast-len
overflow_cast-len c =
    let few = few_parsed (map token_of c.args.toks.now) (map token_of c.loop-rest.rest.now) (map statement_of c.loop-rest.trees.items) c.loop-rest.invariant in
    omega (arith, few, c.requires.few, c.in-len1-up.len_at_least, c.len-in-Err.ensures, c.loop-rest.trees.ok, length-map c.args.toks.now token_of, length-map c.loop-rest.rest.now token_of, length-map c.loop-rest.trees.items statement_of)

pub overflow_add-len : goal.overflow_add-len
overflow_add-len c =
    let few = few_parsed (map token_of c.args.toks.now) (map token_of c.loop-rest.rest.now) (map statement_of c.loop-rest.trees.items) c.loop-rest.invariant in
    omega (arith, few, c.requires.few, c.in-len1-up.len_at_least, c.len-in-Err.ensures, c.loop-rest.trees.ok, length-map c.args.toks.now token_of, length-map c.loop-rest.rest.now token_of, length-map c.loop-rest.trees.items statement_of)

pub returns-in-Err-clause-only : goal.returns-in-Err-clause-only
returns-in-Err-clause-only c = λ others h.
    let ss = map statement_of c.loop-rest.trees.items in
    let count : c.len.result ≡ length ss = omega (arith, c.len.ensures, c.loop-rest.trees.ok, length-map c.loop-rest.trees.items statement_of) in
    let number : c.len-in-Err.result + 1 ≡ length ss + 1 = omega (arith, c.len-in-Err.ensures, c.loop-rest.trees.ok, length-map c.loop-rest.trees.items statement_of) in
    let fault = fault_is c.args.toks.now c.loop-rest.rest.now c.first-item.result ss _ (length c.args.toks.now - length c.loop-rest.rest.now) _ c.first_run-len.result.len c.in-Err.refused c.named.result
    c.loop-rest.invariant c.in-len1-up.len_at_least c.first-item.is c.first_run-len.ensures.run c.in-Err.ensures count number c.named.ensures in
    only_memory c.args.toks.now others c.named.result fault h

pub returns-in-Err-clause-fault : goal.returns-in-Err-clause-fault
returns-in-Err-clause-fault c =
    let ss = map statement_of c.loop-rest.trees.items in
    let count : c.len.result ≡ length ss = omega (arith, c.len.ensures, c.loop-rest.trees.ok, length-map c.loop-rest.trees.items statement_of) in
    let number : c.len-in-Err.result + 1 ≡ length ss + 1 = omega (arith, c.len-in-Err.ensures, c.loop-rest.trees.ok, length-map c.loop-rest.trees.items statement_of) in
    fault_is c.args.toks.now c.loop-rest.rest.now c.first-item.result ss _ (length c.args.toks.now - length c.loop-rest.rest.now) _ c.first_run-len.result.len c.in-Err.refused c.named.result
    c.loop-rest.invariant c.in-len1-up.len_at_least c.first-item.is c.first_run-len.ensures.run c.in-Err.ensures count number c.named.ensures

pub returns-in-Err-clause-decided : goal.returns-in-Err-clause-decided
returns-in-Err-clause-decided c = decided (map token_of c.args.toks.now)

pub returns-in_err-push-clause-decided : goal.returns-in_err-push-clause-decided
returns-in_err-push-clause-decided c = decided (map token_of c.args.toks.now)

pub loop-rest-preserved : goal.loop-rest-preserved
loop-rest-preserved c =
    let rest = c.loop-rest.rest.now in
    let ss = map statement_of c.loop-rest.trees.items in
    let len = c.first_run-len.result.len in
    let count : c.len.result ≡ length ss = omega (arith, c.len.ensures, c.loop-rest.trees.ok, length-map c.loop-rest.trees.items statement_of) in
    let items : map statement_of c.push.new.self.items ≡ ss ++ statement_of c.in-Ok.tree ∷ [] = ap (map statement_of) c.in_ok-push.ensures.items ∙ map-append statement_of c.loop-rest.trees.items (c.in-Ok.tree ∷ []) in
    let left : map token_of (take (length rest - len) (drop len rest)) ≡ map token_of (drop len rest) = ap (map token_of) (take_rest rest len) in
    rw (left, items)
    (next_parsed c.args.toks.now rest ss c.in-Ok.tree _ _ len c.loop-rest.invariant c.first_run-len.ensures.run c.in-Ok.ensures count (omega arith))

pub returns-clause-trees : goal.returns-clause-trees
returns-clause-trees c =
    (all_parsed c.args.toks.now c.loop-rest.rest.now (map statement_of c.loop-rest.trees.items) c.loop-rest.invariant c.in_default.len_below).tokens

pub returns-clause-placed : goal.returns-clause-placed
returns-clause-placed c =
    (all_parsed c.args.toks.now c.loop-rest.rest.now (map statement_of c.loop-rest.trees.items) c.loop-rest.invariant c.in_default.len_below).placed

pub returns-clause-spelled : goal.returns-clause-spelled
returns-clause-spelled c =
    let all = all_parsed c.args.toks.now c.loop-rest.rest.now (map statement_of c.loop-rest.trees.items) c.loop-rest.invariant c.in_default.len_below in
    spelled (kinds_of c.args.toks.now) (map statement_of c.loop-rest.trees.items) all.tokens all.placed

pub returns-clause-only : goal.returns-clause-only
returns-clause-only c = λ others h.
    only_these c.args.toks.now (map statement_of c.loop-rest.trees.items) others
    (all_parsed c.args.toks.now c.loop-rest.rest.now (map statement_of c.loop-rest.trees.items) c.loop-rest.invariant c.in_default.len_below) h

pub returns-clause-decided : goal.returns-clause-decided
returns-clause-decided c = decided (map token_of c.args.toks.now)

pub returns-clause-formed : goal.returns-clause-formed
returns-clause-formed c =
    formed (kinds_of c.args.toks.now) (map statement_of c.loop-rest.trees.items)
    (all_parsed c.args.toks.now c.loop-rest.rest.now (map statement_of c.loop-rest.trees.items) c.loop-rest.invariant c.in_default.len_below).tokens

pub returns-clause-printable : goal.returns-clause-printable
returns-clause-printable c = λ text h.
    printable text c.args.toks.now c.loop-rest.trees.items h
    (all_parsed c.args.toks.now c.loop-rest.rest.now (map statement_of c.loop-rest.trees.items) c.loop-rest.invariant c.in_default.len_below).tokens
