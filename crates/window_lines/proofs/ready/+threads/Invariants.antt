-- Each call answers in one thread less.
use Rattle.std.proofs.Common.{◌+◌, ◌*◌}
use Rattle.window_lines.proofs.ready.+threads.Given as goal

abbrev pub decreases-answer_by : goal.decreases-answer_by
decreases-answer_by g l = 4 * l.threads

abbrev pub decreases-answer_beside : goal.decreases-answer_beside
decreases-answer_beside g l = 4 * l.threads + 2

abbrev pub decreases-answer_beside-others : goal.decreases-answer_beside-others
decreases-answer_beside-others g l = 4 * l.threads + 1
