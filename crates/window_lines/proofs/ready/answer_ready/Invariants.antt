use Rattle.line_sight.specs.Seen.{seen_by}
use Rattle.window_lines.specs.Lines.{line_by}
use Rattle.window_lines.proofs.ready.answer_ready.Given as goal

abbrev pub ghosts-answer_turn : goal.ghosts-answer_turn
ghosts-answer_turn g a = record { piece = line_by a.schedule.now; shown = a.seen }
