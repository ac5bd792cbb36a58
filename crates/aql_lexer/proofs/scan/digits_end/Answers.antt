use Rattle.std.proofs.Common.{◌≡◌, ◌<◌, ◌≤◌, ◌+◌, drop, length, arith}
use Rattle.std.specs.Char.{is_ascii_digit}
use Rattle.std.specs.List.{prefix_len}
use Rattle.std.proofs.lemmas.Grind.{common_steps}
use Rattle.aql_lexer.proofs.Numbers.{run_end, digit_is_ascii}
use Rattle.aql_lexer.proofs.scan.digits_end.Goals as goal

pub returns-clause-boundary : goal.returns-clause-boundary
returns-clause-boundary c =
    let text = c.args.text.now in
    let is : c.run_len.result ≡ prefix_len is_ascii_digit (drop c.args.sign text) = grind (arith, common_steps) in
    let some : 0 < prefix_len is_ascii_digit (drop c.args.sign text) = grind (arith, common_steps) in
    let fits : c.args.sign + prefix_len is_ascii_digit (drop c.args.sign text) ≤ length text = grind (arith, common_steps) in
    rw is (run_end is_ascii_digit digit_is_ascii text c.args.sign c.utf8.text some fits)
