use Rattle.regex_hir.proofs.MeaningLemmas.{meaning-Empty, meaning-Bytes, meaning-Chars, meaning-Look, meaning-Repetition}
use Rattle.aql_regex_extract.proofs.BytesLemmas.{IsMadeOf-wider, IsMadeOf-empty, IsMadeOf-look, IsMadeOf-none, IsMadeOf-byte_in, IsMadeOf-char_in, IsMadeOf-repeat, IsMadeOf-next, IsMadeOf-branch}
use Rattle.aql_regex_extract.proofs.marks.+mark_bytes.Goals as goal

pub mark_bytes-returns-in-Empty-clause-marks : goal.mark_bytes-returns-in-Empty-clause-marks
mark_bytes-returns-in-Empty-clause-marks t c = rw (c.in-Empty.is, meaning-Empty) (IsMadeOf-empty _)

pub mark_bytes-returns-in-Look-clause-marks : goal.mark_bytes-returns-in-Look-clause-marks
mark_bytes-returns-in-Look-clause-marks t c = rw (c.in-Look.is, meaning-Look) (IsMadeOf-look _ _)

pub mark_bytes-returns-in-Bytes-clause-marks : goal.mark_bytes-returns-in-Bytes-clause-marks
mark_bytes-returns-in-Bytes-clause-marks t c = rw (c.in-Bytes.is, meaning-Bytes) (IsMadeOf-byte_in _ _ c.add_class.ensures.marks)

pub mark_bytes-returns-in-Chars-clause-marks : goal.mark_bytes-returns-in-Chars-clause-marks
mark_bytes-returns-in-Chars-clause-marks t c =
    rw (c.in-Chars.is, meaning-Chars) (IsMadeOf-char_in _ _ c.add_chars.ensures.ascii c.add_chars.ensures.high)

pub mark_bytes-returns-in-Repetition-clause-marks : goal.mark_bytes-returns-in-Repetition-clause-marks
mark_bytes-returns-in-Repetition-clause-marks t c =
    rw (c.in-Repetition.is, meaning-Repetition) (IsMadeOf-repeat _ _ _ _ _ (rw (← c.deref-in-Repetition.ensures) c.mark_bytes.ensures.marks))

pub mark_bytes_of_each-loop-i-init : goal.mark_bytes_of_each-loop-i-init
mark_bytes_of_each-loop-i-init t c = (IsMadeOf-empty _, IsMadeOf-none _, λ b h. h)

pub mark_bytes_of_each-loop-i-preserved : goal.mark_bytes_of_each-loop-i-preserved
mark_bytes_of_each-loop-i-preserved t c =
    let step = c.mark_bytes.ensures in
    let subs = c.args.subs.now in
    let i = c.loop-i.i in (
      IsMadeOf-next _ subs i _ c.loop-i-test.true c.index-subs-i.is (IsMadeOf-wider _ _ _ step.keeps c.loop-i.invariant.0) step.marks,
      IsMadeOf-branch _ subs i _ c.loop-i-test.true c.index-subs-i.is (IsMadeOf-wider _ _ _ step.keeps c.loop-i.invariant.1) step.marks,
      λ b has. step.keeps b (c.loop-i.invariant.2 b has),
    )
