-- Statuses that have a line.
use Rattle.std.proofs.Common.{◌≢◌, ℕ, List, [], refl, codes}
use Rattle.aqlx_top.specs.declared.status.Status.{Status}
use Rattle.aqlx_top.specs.declared.status.Status.TheVariants.{Done, Program, Usage, Corpus, ReadFault, WriteFault}
use Rattle.aqlx_top.specs.Statuses.{message_of, error_line, program_text, corpus_text}

line_is_some : (text : List ℕ) → error_line text ≢ []
line_is_some text e = cc

-- every status but two has a line
pub has_line : (status : Status) → status ≢ Done → status ≢ WriteFault → message_of status ≢ []
has_line Done not_done not_written = λ e. not_done refl
has_line (Program fault) not_done not_written = line_is_some (program_text fault)
has_line Usage not_done not_written = line_is_some (codes "usage: aqlx MODE PROGRAM [--workers N]")
has_line (Corpus fault) not_done not_written = line_is_some (corpus_text fault)
has_line ReadFault not_done not_written = line_is_some (codes "read fault")
has_line WriteFault not_done not_written = λ e. not_written refl
