use Rattle.std.proofs.Common.{◌<◌, List, [], ◌∷◌, ◌++◌, length, take, refl, sym, ap, ap₂, ◌∙◌, append-nil, append_assoc, arith}
use Rattle.std.proofs.lemmas.List.{get_or_default, length_push}
use Rattle.span_token.specs.Extents.{extent_of}
use Rattle.row_values.specs.Datums.{Datum}
use Rattle.row_values.specs.Rows.{RowList}
use Rattle.span_joins.specs.declared.rule.Answer.TheVariants.{Before, Neither}
use Rattle.span_joins.specs.Sweeps.{Entry, entries_of, entry_at, no_entry, pairs_with, row_of, answer_at}
use Rattle.span_joins.proofs.SweepLaws.{pairs_none, AreBefore-next, pairs_beyond, pairs_same, pairs_more, pairs_room, pairs_within, never_neither_at}
use Rattle.span_joins.proofs.StepLaws.{at_most_one, one_for_a_pair}
use Rattle.span_joins.proofs.sweep.push_pairs.Goals as goal
use Rattle.span_joins.proofs.sweep.push_pairs.Goals.{in-Before, in-Pair+in_ok-push_pair-in-Pair, in-Neither}

pub loop-j-init : goal.loop-j-init
loop-j-init g c =
    let nothing = pairs_none c.args.rule (extent_of c.args.first) c.args.row.now (entries_of c.args.others) c.args.from in
    record {
      before = λ rise known. known;
      pairs = λ rise known. sym (append-nil c.args.out.now.rows) ∙ ap (λ (rows : List (List Datum)). c.args.out.now.rows ++ rows) (sym (nothing known));
      still = λ never. refl;
      from = omega arith;
      reached = omega arith;
      in_list = c.requires.in_list;
      width = refl;
      spent = λ _. omega arith;
      counted = omega arith;
      grows = omega arith;
    }

pub returns-in_err-push_pair-in-Pair-clause-bound : goal.returns-in_err-push_pair-in-Pair-clause-bound
returns-in_err-push_pair-in-Pair-clause-bound g c exact =
    let others = entries_of c.args.others in
    let j = c.loop-j.j in
    let below = c.loop-j-test.true in
    let other = entry_at c.args.others j in
    let inside : j < length others = omega (arith, below, c.len-j-end.ensures) in
    let room = pairs_room c.args.rule (extent_of c.args.first) c.args.row.now others j other inside (get_or_default others j no_entry other inside) (c.in-Pair.ensures.answer ∙ ap (answer_at c.args.rule (extent_of c.args.first)) c.span.ensures.span) in
    omega (arith, room, c.loop-j.invariant.spent exact, c.loop-j.invariant.in_list, at_most_one c.span.result _ _ c.test_at.ensures.tested c.test_at.ensures.none)

pub returns-in-Beyond-clause-pairs : goal.returns-in-Beyond-clause-pairs
returns-in-Beyond-clause-pairs g c rise known =
    let others = entries_of c.args.others in
    let j = c.loop-j.j in
    let other = entry_at c.args.others j in
    let inside : j < length others = omega (arith, c.loop-j-test.true, c.len-j-end.ensures) in
    c.loop-j.invariant.pairs rise known
    ∙ ap (λ (rows : List (List Datum)). c.args.out.now.rows ++ rows)
    (pairs_beyond c.args.rule (extent_of c.args.first) c.args.row.now others j other inside (get_or_default others j no_entry other inside) rise (c.in-Beyond.ensures.answer ∙ ap (answer_at c.args.rule (extent_of c.args.first)) c.span.ensures.span))

pub returns-in-Beyond-clause-spent : goal.returns-in-Beyond-clause-spent
returns-in-Beyond-clause-spent g c exact =
    omega (arith, c.loop-j.invariant.spent exact, pairs_within c.args.rule (extent_of c.args.first) c.args.row.now (entries_of c.args.others) c.loop-j.j, at_most_one c.span.result _ _ c.test_at.ensures.tested c.test_at.ensures.none)

pub returns-in-Beyond-clause-bound : goal.returns-in-Beyond-clause-bound
returns-in-Beyond-clause-bound g c exact =
    omega (arith, c.loop-j.invariant.spent exact, pairs_within c.args.rule (extent_of c.args.first) c.args.row.now (entries_of c.args.others) c.loop-j.j, c.loop-j.invariant.in_list, at_most_one c.span.result _ _ c.test_at.ensures.tested c.test_at.ensures.none)

pub loop-j-preserved : goal.loop-j-preserved
loop-j-preserved g c =
    let rule = c.args.rule in
    let a = extent_of c.args.first in
    let first = c.args.row.now in
    let others = entries_of c.args.others in
    let old = c.args.out.now.rows in
    let j = c.loop-j.j in
    let other : Entry = entry_at c.args.others j in
    let below : j < length others = omega (arith, c.loop-j-test.true, c.len-j-end.ensures) in
    let is = get_or_default others j no_entry other below in
    let so_far = c.loop-j.invariant in
    elim c.match-test_at.branch [
      | in-Before w ↦
          let answer = w.in-Before.ensures.answer ∙ ap (answer_at rule a) c.span.ensures.span in
          let same = pairs_same rule a first others j other below is Before refl answer in
          record {
            before = λ rise known. rw w.next-is (AreBefore-next rule a first others j other below is rise answer);
            pairs = λ rise known. ap (λ (r : RowList). r.rows) w.out-is ∙ so_far.pairs rise known ∙ ap (λ (rows : List (List Datum)). old ++ rows) (sym same);
            still = λ never. absurd (never j so_far.from below (sym answer));
            from = omega (arith, so_far.from);
            reached = omega (arith, w.next-is);
            in_list = omega (arith, w.next-is, below);
            width = ap (λ (r : RowList). r.width) w.out-is ∙ so_far.width;
            spent = λ exact. omega (arith, so_far.spent exact, so_far.reached, at_most_one c.span.result _ _ c.test_at.ensures.tested c.test_at.ensures.none, ap length same, w.next-is);
            counted = omega (arith, so_far.counted, c.test_at.ensures.grows, ap (λ (r : RowList). length r.rows) w.out-is);
            grows = omega (arith, c.test_at.ensures.grows, so_far.grows);
          }
      | in-Pair+in_ok-push_pair-in-Pair w ↦
          let answer = w.in-Pair.ensures.answer ∙ ap (answer_at rule a) c.span.ensures.span in
          let more = pairs_more rule a first others j other below is answer in
          let pushed = w.in_ok-push_pair-in-Pair.ensures.ok in
          let one = length_push (pairs_with rule a first (take j others)) (row_of rule first other.values) in
          let rows = ap (λ (r : RowList). r.rows) w.out-is ∙ ap (λ (r : RowList). r.rows) pushed in
          record {
            before = λ rise known. rw w.next-is (so_far.before rise known);
            pairs = λ rise known. rows
                ∙ ap₂ (λ (rows : List (List Datum)) (row : List Datum). rows ++ row ∷ []) (so_far.pairs rise known) (ap (row_of rule first) w.row.ensures)
                ∙ append_assoc old (pairs_with rule a first (take j others)) (row_of rule first other.values ∷ [])
                ∙ ap (λ (rows : List (List Datum)). old ++ rows) (sym more);
            still = λ never. w.next-is ∙ so_far.still never;
            from = omega (arith, so_far.from);
            reached = omega (arith, w.next-is, so_far.reached);
            in_list = omega (arith, w.next-is, so_far.in_list);
            width = ap (λ (r : RowList). r.width) w.out-is ∙ ap (λ (r : RowList). r.width) pushed ∙ so_far.width;
            spent = λ exact. omega (arith, so_far.spent exact, at_most_one c.span.result _ _ c.test_at.ensures.tested c.test_at.ensures.none, ap length more, w.next-is, one);
            counted = omega (arith, so_far.counted, one_for_a_pair rule a c.span.result _ _ c.test_at.ensures.tested w.in-Pair.ensures.answer, ap length rows, length_push c.loop-j.out.rows (row_of rule first w.row.result.now));
            grows = omega (arith, c.test_at.ensures.grows, so_far.grows);
          }
      | in-Neither w ↦
          let answer = w.in-Neither.ensures.answer ∙ ap (answer_at rule a) c.span.ensures.span in
          let same = pairs_same rule a first others j other below is Neither refl answer in
          record {
            before = λ rise known. rw w.next-is (so_far.before rise known);
            pairs = λ rise known. ap (λ (r : RowList). r.rows) w.out-is ∙ so_far.pairs rise known ∙ ap (λ (rows : List (List Datum)). old ++ rows) (sym same);
            still = λ never. w.next-is ∙ so_far.still never;
            from = omega (arith, so_far.from);
            reached = omega (arith, w.next-is, so_far.reached);
            in_list = omega (arith, w.next-is, so_far.in_list);
            width = ap (λ (r : RowList). r.width) w.out-is ∙ so_far.width;
            spent = λ exact. absurd (never_neither_at rule a other.span exact (sym answer));
            counted = omega (arith, so_far.counted, c.test_at.ensures.grows, ap (λ (r : RowList). length r.rows) w.out-is);
            grows = omega (arith, c.test_at.ensures.grows, so_far.grows);
          }
    ]
