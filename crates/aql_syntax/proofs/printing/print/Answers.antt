use Rattle.std.proofs.Common.{◌≡◌, ◌∙◌, ◌++◌, ap, List, map}
use Rattle.aql_lexer.specs.Kinds.{Kind, kind_of}
use Rattle.aql_syntax.specs.Views.{statement_of}
use Rattle.aql_syntax.specs.Printed.{printed_statement}
use Rattle.aql_syntax.proofs.PrintLaws.{is_printed}
use Rattle.aql_syntax.proofs.printing.print.Goals as goal

pub returns : goal.returns
returns c =
    let written : map kind_of c.into_tokens.result.items ≡ printed_statement (statement_of c.args.s.now) =
    c.into_tokens.ensures ∙ (c.in_ok-statement.ensures
    ∙ ap (λ (before : List Kind). before ++ printed_statement (statement_of c.args.s.now)) c.new-out.ensures) in
    record { printed = rw written (is_printed (statement_of c.args.s.now) c.requires.printable) }
