use Rattle.std.proofs.Common.{Bool, true, false}
use Rattle.std.proofs.lemmas.Bool.{eq-eqb}
use Rattle.regex_hir.proofs.MeaningLemmas.{meaning-Empty, meaning-Look, meaning-Bytes, meaning-Chars, meaning-Repetition}
use Rattle.aql_regex_extract.proofs.BytesLemmas.{BeginsIn-wider, BeginsIn-upto, BeginsIn-open, BeginsIn-empty, BeginsIn-look, BeginsIn-none, BeginsIn-byte_in, BeginsIn-char_in, BeginsIn-repeat, BeginsIn-next, BeginsIn-whole, BeginsIn-branch}
use Rattle.aql_regex_extract.proofs.marks.+mark_firsts.Goals.{mark_firsts_of_any-then-mark_firsts, mark_firsts_of_any-else-mark_firsts}
use Rattle.aql_regex_extract.proofs.marks.+mark_firsts.Goals as goal

pub mark_firsts-returns-in-Empty-clause-marks : goal.mark_firsts-returns-in-Empty-clause-marks
mark_firsts-returns-in-Empty-clause-marks t c = rw (c.in-Empty.is, meaning-Empty) (BeginsIn-empty _)

pub mark_firsts-returns-in-Look-clause-marks : goal.mark_firsts-returns-in-Look-clause-marks
mark_firsts-returns-in-Look-clause-marks t c = rw (c.in-Look.is, meaning-Look) (BeginsIn-look _ _)

pub mark_firsts-returns-in-Bytes-clause-marks : goal.mark_firsts-returns-in-Bytes-clause-marks
mark_firsts-returns-in-Bytes-clause-marks t c = rw (c.in-Bytes.is, meaning-Bytes) (BeginsIn-byte_in _ _ c.add_class.ensures.marks)

pub mark_firsts-returns-in-Chars-clause-marks : goal.mark_firsts-returns-in-Chars-clause-marks
mark_firsts-returns-in-Chars-clause-marks t c =
    rw (c.in-Chars.is, meaning-Chars) (BeginsIn-char_in _ _ c.add_chars.ensures.ascii c.add_chars.ensures.high)

pub mark_firsts-returns-then-mark_firsts-clause-marks : goal.mark_firsts-returns-then-mark_firsts-clause-marks
mark_firsts-returns-then-mark_firsts-clause-marks t c =
    rw (c.in-Repetition.is, meaning-Repetition) (BeginsIn-repeat _ _ _ _ _ _ (λ _. c.if-mark_firsts.true)
    (rw (← c.deref-in-Repetition.ensures) c.mark_firsts.ensures.marks))

pub mark_firsts-returns-else-mark_firsts-clause-marks : goal.mark_firsts-returns-else-mark_firsts-clause-marks
mark_firsts-returns-else-mark_firsts-clause-marks t c =
    rw (c.in-Repetition.is, meaning-Repetition) (BeginsIn-repeat _ _ _ _ _ _ (eq-eqb _ 0)
    (BeginsIn-upto _ _ _ (rw (← c.deref-in-Repetition.ensures) c.if-mark_firsts.ensures.marks)))

pub mark_firsts_of_all-loop-i-init : goal.mark_firsts_of_all-loop-i-init
mark_firsts_of_all-loop-i-init t c = (BeginsIn-empty _, λ b h. h)

pub mark_firsts_of_all-returns-then-not-mark_firsts-clause-marks : goal.mark_firsts_of_all-returns-then-not-mark_firsts-clause-marks
mark_firsts_of_all-returns-then-not-mark_firsts-clause-marks t c =
    BeginsIn-whole _ _ c.args.subs.now
    (BeginsIn-next _ false c.args.subs.now c.loop-i.i _ c.loop-i-test.true c.index-subs-i.is
    (BeginsIn-wider _ _ _ _ c.mark_firsts.ensures.keeps c.loop-i.invariant.0) c.if-not-mark_firsts.ensures.marks)

pub mark_firsts_of_all-loop-i-preserved : goal.mark_firsts_of_all-loop-i-preserved
mark_firsts_of_all-loop-i-preserved t c = (
  BeginsIn-next _ true c.args.subs.now c.loop-i.i _ c.loop-i-test.true c.index-subs-i.is
      (BeginsIn-wider _ _ _ _ c.mark_firsts.ensures.keeps c.loop-i.invariant.0) c.if-not-mark_firsts.ensures.marks,
  λ b has. c.mark_firsts.ensures.keeps b (c.loop-i.invariant.1 b has),
)

pub mark_firsts_of_any-loop-i-init : goal.mark_firsts_of_any-loop-i-init
mark_firsts_of_any-loop-i-init t c = (BeginsIn-none _ _, λ b h. h)

pub mark_firsts_of_any-loop-i-preserved : goal.mark_firsts_of_any-loop-i-preserved
mark_firsts_of_any-loop-i-preserved t c =
    let old = BeginsIn-wider _ _ _ _ c.mark_firsts.ensures.keeps c.loop-i.invariant.0 in
    let branch = λ (o : Bool). BeginsIn-branch c.mark_firsts.new.set o c.args.subs.now c.loop-i.i _ c.loop-i-test.true c.index-subs-i.is in (
      elim c.if-mark_firsts.branch [
        | mark_firsts_of_any-then-mark_firsts w ↦ rw w.may_be_empty-is (branch true (BeginsIn-open _ _ _ old) (BeginsIn-open _ _ _ c.mark_firsts.ensures.marks))
        | mark_firsts_of_any-else-mark_firsts w ↦ rw w.may_be_empty-is (branch _ old (BeginsIn-upto _ _ _ (rw (← w.if-mark_firsts.false) c.mark_firsts.ensures.marks)))
      ],
      λ b has. c.mark_firsts.ensures.keeps b (c.loop-i.invariant.1 b has),
    )
