use Rattle.line_parts.specs.SinkLaws.{front_of_whole}
use Rattle.aqlx_top.proofs.put.put_all_and_flush.Goals as goal

pub returns-in-Ok-clause-bytes : goal.returns-in-Ok-clause-bytes
returns-in-Ok-clause-bytes g c = rw c.flush.ensures.bytes (front_of_whole _ _ c.flush.result _ c.in-Ok.ensures.bytes)
