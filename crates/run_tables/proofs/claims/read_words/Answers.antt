use Rattle.std.proofs.Common.{◌<◌, length, arith, rules, ◌∙◌, length-set}
use Rattle.std.proofs.lemmas.Grind.{common_steps}
use Rattle.std.proofs.lemmas.List.{ext_get_or}
use Rattle.std.specs.Mem.Slots.{slots_counts}
use Rattle.run_tables.proofs.Words.{reads_more}
use Rattle.run_tables.proofs.claims.read_words.Goals as goal

pub loop-i-preserved : goal.loop-i-preserved
loop-i-preserved c =
    let kept = c.loop-i.invariant in
    let within : c.loop-i.i < length c.loop-i.words.items = first_of (search rules, omega (arith, kept.0, c.requires.len, c.loop-i-test.true), grind (arith, common_steps)) in
    (length-set _ _ _ ∙ kept.0, reads_more _ _ _ _ within c.word.ensures kept.1)

pub returns : goal.returns
returns c =
    let kept = c.loop-i.invariant in
    let counts = slots_counts c.args.closed.now.words in
    ext_get_or 0 _ _ (kept.0 ∙ counts.0) (λ k lt. kept.1 k (first_of (omega (arith, kept.0, c.requires.len, c.loop-i-test.false, lt), grind (arith, common_steps))))
