use Rattle.window_lines.proofs.answers.push_answer.Goals as goal

pub returns-clause-pushed : goal.returns-clause-pushed
returns-clause-pushed g c = (c.in_ok-rows.rows, c.in_ok-push.ensures.items, c.in_ok-rows.ensures.rows)
