use Rattle.std.proofs.Common.{◌≡◌, ◌<◌, ◌+◌, take, drop, false, Err, arith}
use Rattle.std.specs.Str.Parse.{signed_digits_value}
use Rattle.aql_lexer.specs.Scanning.{fits_i64}
use Rattle.std.specs.Char.{is_ascii_digit}
use Rattle.std.specs.List.{prefix_len}
use Rattle.std.proofs.lemmas.Grind.{common_steps}
use Rattle.aql_lexer.proofs.Numbers.{numeral_taken, parsed}
use Rattle.aql_lexer.proofs.scan.number.Goals as goal

pub returns-in-Err-clause-value : goal.returns-in-Err-clause-value
returns-in-Err-clause-value c =
    let text = c.args.text.now in
    let len = c.args.sign + prefix_len is_ascii_digit (drop c.args.sign text) in
    let some : 0 < prefix_len is_ascii_digit (drop c.args.sign text) = grind (arith, common_steps) in
    let taken : c.range.result.now ≡ take len text = grind (arith, common_steps) in
    let h : fits_i64 (signed_digits_value 10 (take len text)) ≡ false = parsed (take len text) (Err c.in-Err.field-0) (numeral_taken c.args.sign text c.requires.signed some) (rw taken at c.in-Err.ensures.value.0) in
    rw h
