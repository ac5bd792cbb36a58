use Rattle.std.proofs.Common.{◌≡◌, ℕ, List, length, map, All, ap, ap₂, sym, true, subst, ◌∙◌, arith}
use Rattle.std.proofs.lemmas.List.{length-map}
use Rattle.std.proofs.lemmas.List.Sorted.{length_permutation}
use Rattle.aql_base.specs.Bags.{SameBag}
use Rattle.aql_base.specs.BagLaws.{SameBag-trans}
use Rattle.row_values.specs.Datums.{Datum}
use Rattle.row_values.specs.Rows.{RowList, span_in}
use Rattle.span_joins.specs.declared.rule.By.{By}
use Rattle.span_joins.specs.declared.way.Way.{Way}
use Rattle.span_joins.specs.declared.way.Way.TheVariants.{Swept, Met}
use Rattle.span_joins.specs.declared.rule.Rule.TheVariants.{Gap, Tokens, Contains, OverlapsFromLeft, OverlapsFromRight}
use Rattle.span_joins.specs.Joins.{DoRise}
use Rattle.span_joins.specs.Answers.{number_of, order_by, other_order_by, is_back, is_bounded, test_by}
use Rattle.span_joins.specs.Sweeps.{entry, pairs_of, joined_by, AreInOrder, MayMeetAny}
use Rattle.span_joins.proofs.OrderLaws.{in_order-rows}
use Rattle.span_joins.proofs.PairLaws.{joined_by-entries, have_width-rows, may_meet-rows}
use Rattle.span_joins.proofs.joins.join_by.Goals as goal

pub put-requires-clause-widths : goal.put-requires-clause-widths
put-requires-clause-widths g c =
    have_width-rows c.new-out.result.width c.width.result c.width-2.result c.args.fc c.args.oc c.as_slice.result.now c.as_slice-2.result.now (ap (λ (list : RowList). list.width) c.new-out.ensures ∙ c.in-Some.ensures.1)
    (subst (λ (rows : List (List Datum)). All (λ row. length row ≡ c.width.result) rows) (sym c.as_slice.ensures) (subst (λ (n : ℕ). All (λ row. length row ≡ n) c.args.firsts.now.rows) (sym c.width.ensures.width) c.width.ensures.each_row))
    (subst (λ (rows : List (List Datum)). All (λ row. length row ≡ c.width-2.result) rows) (sym c.as_slice-2.ensures) (subst (λ (n : ℕ). All (λ row. length row ≡ n) c.args.others.now.rows) (sym c.width-2.ensures.width) c.width-2.ensures.each_row))

pub put-requires-clause-firsts_within : goal.put-requires-clause-firsts_within
put-requires-clause-firsts_within g c =
    may_meet-rows c.args.way c.args.fc c.as_slice.result.now (subst (λ (rows : List (List Datum)). All (λ row. MayMeetAny c.args.way (span_in c.args.fc row)) rows) (sym c.as_slice.ensures) c.requires.firsts_within)

pub put-requires-clause-others_within : goal.put-requires-clause-others_within
put-requires-clause-others_within g c =
    may_meet-rows c.args.way c.args.oc c.as_slice-2.result.now (subst (λ (rows : List (List Datum)). All (λ row. MayMeetAny c.args.way (span_in c.args.oc row)) rows) (sym c.as_slice-2.ensures) c.requires.others_within)

-- the pairs of the rows where they stand are the join
pairs_are : (way : Way) (fc oc : ℕ) (firsts others fs os : List (List Datum)) → fs ≡ firsts → os ≡ others → SameBag (pairs_of (test_by way) (is_back way) (map (entry fc) fs) (map (entry oc) os)) (joined_by way firsts fc others oc)
pairs_are way fc oc firsts others fs os p q = subst (SameBag (pairs_of (test_by way) (is_back way) (map (entry fc) fs) (map (entry oc) os))) (ap₂ (λ (xs ys : List (List Datum)). joined_by way xs fc ys oc) p q) (joined_by-entries way fc oc fs os)

-- and they are in order where those of the arguments are
are_in_order : (by : By) (column : ℕ) (rows ls : List (List Datum)) → ls ≡ rows → DoRise (number_of by) column rows → AreInOrder by (map (entry column) ls)
are_in_order by column rows ls p h = in_order-rows by column ls (subst (λ (xs : List (List Datum)). DoRise (number_of by) column xs) (sym p) h)

-- the right rows of a bounded way are taken by their begins
bounded_rise : (way : Way) (column : ℕ) (rows : List (List Datum)) → is_bounded way ≡ true → DoRise (λ e. e.begin) column rows → DoRise (number_of (other_order_by way)) column rows
bounded_rise (Swept (Gap low high front)) column rows e h = h
bounded_rise (Swept (Tokens doc low high front)) column rows e h = h
bounded_rise (Swept (Contains front)) column rows e h = absurd cc
bounded_rise (Swept OverlapsFromLeft) column rows e h = absurd cc
bounded_rise (Swept OverlapsFromRight) column rows e h = absurd cc
bounded_rise Met column rows e h = absurd cc

pub returns-in_err-put-clause-bound : goal.returns-in_err-put-clause-bound
returns-in_err-put-clause-bound g c bounded up rise =
    omega (
      arith,
      c.in_err-put.ensures.bound bounded (are_in_order (order_by c.args.way) c.args.fc c.args.firsts.now.rows c.as_slice.result.now c.as_slice.ensures up) (are_in_order (other_order_by c.args.way) c.args.oc c.args.others.now.rows c.as_slice-2.result.now c.as_slice-2.ensures (bounded_rise c.args.way c.args.oc c.args.others.now.rows bounded rise)),
      ap length c.as_slice.ensures,
      ap length c.as_slice-2.ensures,
      length-map c.as_slice.result.now (entry c.args.fc),
      length-map c.as_slice-2.result.now (entry c.args.oc),
      length_permutation _ _ (pairs_are c.args.way c.args.fc c.args.oc c.args.firsts.now.rows c.args.others.now.rows c.as_slice.result.now c.as_slice-2.result.now c.as_slice.ensures c.as_slice-2.ensures),
    )

pub returns-in_err-put-clause-bound_in_any_order : goal.returns-in_err-put-clause-bound_in_any_order
returns-in_err-put-clause-bound_in_any_order g c bounded =
    omega (
      arith,
      c.in_err-put.ensures.bound_in_any_order bounded,
      ap length c.as_slice.ensures,
      ap length c.as_slice-2.ensures,
      length-map c.as_slice.result.now (entry c.args.fc),
      length-map c.as_slice-2.result.now (entry c.args.oc),
      length_permutation _ _ (pairs_are c.args.way c.args.fc c.args.oc c.args.firsts.now.rows c.args.others.now.rows c.as_slice.result.now c.as_slice-2.result.now c.as_slice.ensures c.as_slice-2.ensures),
    )

pub returns-clause-rows : goal.returns-clause-rows
returns-clause-rows g c =
    SameBag-trans _ _ _ c.in_ok-put.ensures.pairs
    (pairs_are c.args.way c.args.fc c.args.oc c.args.firsts.now.rows c.args.others.now.rows c.as_slice.result.now c.as_slice-2.result.now c.as_slice.ensures c.as_slice-2.ensures)

pub returns-clause-bound : goal.returns-clause-bound
returns-clause-bound g c bounded up rise =
    omega (
      arith,
      c.in_ok-put.ensures.bound bounded (are_in_order (order_by c.args.way) c.args.fc c.args.firsts.now.rows c.as_slice.result.now c.as_slice.ensures up) (are_in_order (other_order_by c.args.way) c.args.oc c.args.others.now.rows c.as_slice-2.result.now c.as_slice-2.ensures (bounded_rise c.args.way c.args.oc c.args.others.now.rows bounded rise)),
      ap length c.as_slice.ensures,
      ap length c.as_slice-2.ensures,
      length-map c.as_slice.result.now (entry c.args.fc),
      length-map c.as_slice-2.result.now (entry c.args.oc),
      length_permutation _ _ (pairs_are c.args.way c.args.fc c.args.oc c.args.firsts.now.rows c.args.others.now.rows c.as_slice.result.now c.as_slice-2.result.now c.as_slice.ensures c.as_slice-2.ensures),
    )

pub returns-clause-bound_in_any_order : goal.returns-clause-bound_in_any_order
returns-clause-bound_in_any_order g c bounded =
    omega (
      arith,
      c.in_ok-put.ensures.bound_in_any_order bounded,
      ap length c.as_slice.ensures,
      ap length c.as_slice-2.ensures,
      length-map c.as_slice.result.now (entry c.args.fc),
      length-map c.as_slice-2.result.now (entry c.args.oc),
      length_permutation _ _ (pairs_are c.args.way c.args.fc c.args.oc c.args.firsts.now.rows c.args.others.now.rows c.as_slice.result.now c.as_slice-2.result.now c.as_slice.ensures c.as_slice-2.ensures),
    )
