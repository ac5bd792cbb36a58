use Rattle.std.proofs.lemmas.Result.{err_from_is_err_and}
use Rattle.line_parts.specs.Pending.{texts_of}
use Rattle.line_parts.specs.SinkLaws.{front_more, front_wider}
use Rattle.line_parts.proofs.send.put_all.Goals as goal

pub returns-in_err-put_texts-clause-bytes : goal.returns-in_err-put_texts-clause-bytes
returns-in_err-put_texts-clause-bytes g c =
    let p = err_from_is_err_and c.from_residual.result c.from_residual.ensures.1 in
    let front = c.in_err-put_texts.ensures.bytes in
    rw (p.1, ← c.texts-texts.ensures) (front_wider _ _ (texts_of c.texts-texts.result.whole.now) c.texts-texts.result.last.now front.0 front.1)

pub returns-clause-bytes : goal.returns-clause-bytes
returns-clause-bytes g c =
    rw (← c.texts-texts.ensures) (front_more _ _ _ c.put.result (texts_of c.texts-texts.result.whole.now) c.texts-texts.result.last.now c.in_ok-put_texts.ensures.bytes c.put.ensures.bytes)
