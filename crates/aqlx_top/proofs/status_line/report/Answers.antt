use Rattle.aqlx_top.proofs.StatusLines.{has_line}
use Rattle.aqlx_top.proofs.status_line.report.Goals as goal

pub write_line-requires : goal.write_line-requires
write_line-requires g c = record { has_line = has_line c.args.status c.in_default.not-Done c.in_default.not-WriteFault }
