use Rattle.std.proofs.Common.{◌≡◌, ◌<◌, ◌-◌, ◌==◌, ◌++◌, Some, length, map, take, drop, count_by, option_map, arith}
use Rattle.std.proofs.lemmas.Grind.{common_steps}
use Rattle.std.proofs.lemmas.List.{length-map, length-take}
use Rattle.std.proofs.lemmas.List.Sums.{count_by-le-length}
use Rattle.aql_lexer.specs.Kinds.{kind_of, token_of}
use Rattle.aql_lexer.specs.Reading.{kind_in, tokens_at}
use Rattle.aql_lexer.specs.Tokens.{is_line_feed}
use Rattle.aql_lexer.specs.Scanning.{stands, part_of}
use Rattle.aql_lexer.proofs.Progress.{rest_within, line_fits, read_more, few, is_fault}
use Rattle.aql_lexer.proofs.Readings.{decided}
use Rattle.aql_lexer.proofs.lexer.lex.Goals as goal

pub overflow_sub-at : goal.overflow_sub-at
overflow_sub-at c = rest_within _ _ _ _ c.loop-rest.invariant.1

pub returns-in_default-clause-fault : goal.returns-in_default-clause-fault
returns-in_default-clause-fault c =
    let some : 0 < length c.loop-rest.rest.now = grind (arith, common_steps) in
    is_fault _ _ _ _ some c.loop-rest.invariant.1 (grind (arith, common_steps))

pub overflow_cast-line : goal.overflow_cast-line
overflow_cast-line c =
    let some : 0 < length c.loop-rest.rest.now = grind (arith, common_steps) in
    let fits = line_fits _ _ _ _ c.loop-rest.invariant.1 in
    omega (arith, fits, c.requires)

pub overflow_add-line : goal.overflow_add-line
overflow_add-line c =
    let part : c.range-part.result.now ≡ take c.in-Some.len c.loop-rest.rest.now = grind (arith, common_steps) in
    let feeds : c.line_feeds-line.result ≡ count_by is_line_feed (take c.in-Some.len c.loop-rest.rest.now) = rw (← part) c.line_feeds-line.ensures in
    let fits = line_fits _ _ _ _ c.loop-rest.invariant.1 in
    omega (arith, fits, feeds, c.requires, length-take c.in-Some.len c.loop-rest.rest.now, count_by-le-length is_line_feed (take c.in-Some.len c.loop-rest.rest.now))

pub loop-rest-preserved : goal.loop-rest-preserved
loop-rest-preserved c =
    let text = c.args.text.now in
    let rest = c.loop-rest.rest.now in
    let f = c.in-Some.form in
    let n = c.in-Some.len in
    let part : c.range-part.result.now ≡ take n rest = grind (arith, common_steps) in
    let after : c.range_from-rest.result.now ≡ drop n rest = grind (arith, common_steps) in
    let feeds : c.line_feeds-line.result ≡ count_by is_line_feed (take n rest) = rw (← part) c.line_feeds-line.ensures in
    let found : stands (length text - length rest == 0) rest ≡ Some (f, n) = grind (arith, common_steps) in
    let kind : option_map kind_of c.in_ok-kind.kind ≡ kind_in (part_of f (take n rest)) = rw part at c.in_ok-kind.ensures in
    let tokens : map token_of c.add.new.toks.items ≡ map token_of c.loop-rest.toks.items ++ tokens_at (length text - length rest) c.loop-rest.line (kind_in (part_of f (take n rest))) = rw kind at c.in_ok-add.ensures in
    (c.range_from-rest.utf8, rw (after, feeds, tokens) (read_more text rest c.loop-rest.line (map token_of c.loop-rest.toks.items) f n c.loop-rest.invariant.1 found))

pub returns-clause-few : goal.returns-clause-few
returns-clause-few c =
    let short = few _ _ _ _ c.loop-rest.invariant.1 in
    omega (arith, short, length-map c.loop-rest.toks.items token_of, c.loop-rest.toks.ok)

pub returns-in_default-clause-decided : goal.returns-in_default-clause-decided
returns-in_default-clause-decided c = decided c.args.text.now

pub returns-in_err-kind-clause-decided : goal.returns-in_err-kind-clause-decided
returns-in_err-kind-clause-decided c = decided c.args.text.now

pub returns-in_err-add-clause-decided : goal.returns-in_err-add-clause-decided
returns-in_err-add-clause-decided c = decided c.args.text.now

pub returns-clause-decided : goal.returns-clause-decided
returns-clause-decided c = decided c.args.text.now
