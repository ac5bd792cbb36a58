use Rattle.std.proofs.Common.{◌≡◌, ◌++◌, drop, string_bytes}
use Rattle.aqlx_top.specs.Statuses.{after_commas}
use Rattle.aqlx_top.proofs.status_line.push_after_commas.Given as goal

abbrev pub invariant-loop-name : goal.invariant-loop-name
invariant-loop-name l =
    string_bytes l.text ++ after_commas (drop l.name-index l.names) ≡ string_bytes l.fn.text ++ after_commas l.names
