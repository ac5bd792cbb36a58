use Rattle.std.proofs.Common.{◌≡◌, IsTrue, ◌++◌, List, All, ap, sym, subst, ◌∙◌, length, arith}
use Rattle.std.proofs.lemmas.Result.{IfOk-weaker, on_ok_weaker}
use Rattle.aql_base.specs.Bags.{SameBag}
use Rattle.aql_base.specs.BagLaws.{SameBag-is, SameBag-append, SameBag-refl, SameBag-trans}
use Rattle.row_values.specs.Datums.{Datum}
use Rattle.span_joins.specs.declared.rule.Rule.{Rule}
use Rattle.span_joins.specs.declared.rule.Rule.TheVariants.{OverlapsFromLeft, OverlapsFromRight}
use Rattle.span_joins.specs.declared.way.Way.{Way}
use Rattle.span_joins.specs.declared.way.Way.TheVariants.{Swept, Met}
use Rattle.span_joins.specs.Answers.{order_by, other_order_by, is_back, is_bounded, test_by}
use Rattle.span_joins.specs.Sweeps.{Entry, entries_of, pairs_of, all_pairs, AreInOrder, IsProper}
use Rattle.span_joins.proofs.PairLaws.{swept-pairs, exact-pairs, met-pairs}
use Rattle.span_joins.proofs.way.put_in_order.Goals as goal

-- the rows of a sweep, and of both sides at once, by the test of the way
swept : (way : Way) (rule : Rule) (ls rs : List Entry) (old new : List (List Datum)) → way ≡ Swept rule → All (λ r. IsProper r.span) rs → new ≡ old ++ all_pairs rule ls rs
    → SameBag new (old ++ pairs_of (test_by way) (is_back way) ls rs)
swept way rule ls rs old new is proper rows = SameBag-is _ _ (rows ∙ ap (λ (pairs : List (List Datum)). old ++ pairs) (swept-pairs way rule ls rs is proper))

met : (way : Way) (ls rs : List Entry) (old new : List (List Datum)) → way ≡ Met → SameBag new (old ++ (all_pairs OverlapsFromLeft ls rs ++ all_pairs OverlapsFromRight rs ls)) → SameBag new (old ++ pairs_of (test_by way) (is_back way) ls rs)
met way ls rs old new is rows =
    subst (λ w. SameBag new (old ++ pairs_of (test_by w) (is_back w) ls rs)) (sym is) (SameBag-trans _ _ _ rows (SameBag-append old old _ _ (SameBag-refl old) (met-pairs ls rs)))

pub returns-in-Gap-InPlace-InPlace-clause-pairs : goal.returns-in-Gap-InPlace-InPlace-clause-pairs
returns-in-Gap-InPlace-InPlace-clause-pairs g c up rise proper =
    on_ok_weaker c.sweep.result (swept c.args.way c.in-Swept.rule (entries_of c.args.firsts) (entries_of c.args.others) c.args.out.now.rows c.sweep.new.out.rows c.in-Swept.is proper)
    (c.sweep.ensures.pairs (subst (λ w. AreInOrder (order_by w) (entries_of c.args.firsts)) c.in-Swept.is up) (subst (λ w. AreInOrder (other_order_by w) (entries_of c.args.others)) c.in-Swept.is rise))

pub returns-in-Gap-InPlace-InPlace-clause-bound : goal.returns-in-Gap-InPlace-InPlace-clause-bound
returns-in-Gap-InPlace-InPlace-clause-bound g c bounded =
    omega (arith, c.sweep.ensures.bound (subst (λ w. IsTrue (is_bounded w)) c.in-Swept.is bounded), ap length (exact-pairs c.args.way c.in-Swept.rule (entries_of c.args.firsts) (entries_of c.args.others) c.in-Swept.is bounded))

pub returns-in-Contains-InPlace-InPlace-clause-pairs : goal.returns-in-Contains-InPlace-InPlace-clause-pairs
returns-in-Contains-InPlace-InPlace-clause-pairs g c up rise proper =
    on_ok_weaker c.sweep-in-Contains-InPlace-InPlace.result (swept c.args.way c.in-Swept.rule (entries_of c.args.firsts) (entries_of c.args.others) c.args.out.now.rows c.sweep-in-Contains-InPlace-InPlace.new.out.rows c.in-Swept.is proper)
    (c.sweep-in-Contains-InPlace-InPlace.ensures.pairs (subst (λ w. AreInOrder (order_by w) (entries_of c.args.firsts)) c.in-Swept.is up) (subst (λ w. AreInOrder (other_order_by w) (entries_of c.args.others)) c.in-Swept.is rise))

pub returns-in-Contains-InPlace-InPlace-clause-firsts_seen : goal.returns-in-Contains-InPlace-InPlace-clause-firsts_seen
returns-in-Contains-InPlace-InPlace-clause-firsts_seen g c =
    IfOk-weaker c.sweep-in-Contains-InPlace-InPlace.result _ _ (λ seen h yes. subst (λ w. AreInOrder (order_by w) (entries_of c.args.firsts)) (sym c.in-Swept.is) (h yes)) c.sweep-in-Contains-InPlace-InPlace.ensures.firsts_seen

pub returns-in_default-clause-pairs : goal.returns-in_default-clause-pairs
returns-in_default-clause-pairs g c up rise proper =
    on_ok_weaker c.sweep-in_default.result (swept c.args.way c.in-Swept.rule (entries_of c.args.firsts) (entries_of c.args.others) c.args.out.now.rows c.sweep-in_default.new.out.rows c.in-Swept.is proper)
    (c.sweep-in_default.ensures.pairs (subst (λ w. AreInOrder (order_by w) (entries_of c.args.firsts)) c.in-Swept.is up) (subst (λ w. AreInOrder (other_order_by w) (entries_of c.args.others)) c.in-Swept.is rise))

pub returns-in_default-clause-bound : goal.returns-in_default-clause-bound
returns-in_default-clause-bound g c bounded =
    omega (arith, c.sweep-in_default.ensures.bound (subst (λ w. IsTrue (is_bounded w)) c.in-Swept.is bounded), ap length (exact-pairs c.args.way c.in-Swept.rule (entries_of c.args.firsts) (entries_of c.args.others) c.in-Swept.is bounded))

pub returns-in-InPlace-InPlace-clause-pairs : goal.returns-in-InPlace-InPlace-clause-pairs
returns-in-InPlace-InPlace-clause-pairs g c up rise proper =
    on_ok_weaker c.meet.result (met c.args.way (entries_of c.args.firsts) (entries_of c.args.others) c.args.out.now.rows c.meet.new.out.rows c.in-Met.is)
    (c.meet.ensures.pairs (subst (λ w. AreInOrder (order_by w) (entries_of c.args.firsts)) c.in-Met.is up) (subst (λ w. AreInOrder (other_order_by w) (entries_of c.args.others)) c.in-Met.is rise))

pub returns-in-InPlace-InPlace-clause-firsts_seen : goal.returns-in-InPlace-InPlace-clause-firsts_seen
returns-in-InPlace-InPlace-clause-firsts_seen g c =
    IfOk-weaker c.meet.result _ _ (λ seen h yes. subst (λ w. AreInOrder (order_by w) (entries_of c.args.firsts)) (sym c.in-Met.is) (h yes)) c.meet.ensures.lefts_seen

pub returns-in_default-2-clause-pairs : goal.returns-in_default-2-clause-pairs
returns-in_default-2-clause-pairs g c up rise proper =
    on_ok_weaker c.meet-in_default-2.result (met c.args.way (entries_of c.args.firsts) (entries_of c.args.others) c.args.out.now.rows c.meet-in_default-2.new.out.rows c.in-Met.is)
    (c.meet-in_default-2.ensures.pairs (subst (λ w. AreInOrder (order_by w) (entries_of c.args.firsts)) c.in-Met.is up) (subst (λ w. AreInOrder (other_order_by w) (entries_of c.args.others)) c.in-Met.is rise))

pub returns-in_default-2-clause-firsts_seen : goal.returns-in_default-2-clause-firsts_seen
returns-in_default-2-clause-firsts_seen g c =
    IfOk-weaker c.meet-in_default-2.result _ _ (λ seen h yes. subst (λ w. AreInOrder (order_by w) (entries_of c.args.firsts)) (sym c.in-Met.is) (h yes)) c.meet-in_default-2.ensures.lefts_seen

pub returns-in-Contains-InPlace-InPlace-clause-others_seen : goal.returns-in-Contains-InPlace-InPlace-clause-others_seen
returns-in-Contains-InPlace-InPlace-clause-others_seen g c =
    IfOk-weaker c.sweep-in-Contains-InPlace-InPlace.result _ _ (λ seen h yes. subst (λ w. AreInOrder (other_order_by w) (entries_of c.args.others)) (sym c.in-Swept.is) (h yes)) c.sweep-in-Contains-InPlace-InPlace.ensures.others_seen

pub returns-in-InPlace-InPlace-clause-others_seen : goal.returns-in-InPlace-InPlace-clause-others_seen
returns-in-InPlace-InPlace-clause-others_seen g c =
    IfOk-weaker c.meet.result _ _ (λ seen h yes. subst (λ w. AreInOrder (other_order_by w) (entries_of c.args.others)) (sym c.in-Met.is) (h yes)) c.meet.ensures.rights_seen

pub returns-in_default-2-clause-others_seen : goal.returns-in_default-2-clause-others_seen
returns-in_default-2-clause-others_seen g c =
    IfOk-weaker c.meet-in_default-2.result _ _ (λ seen h yes. subst (λ w. AreInOrder (other_order_by w) (entries_of c.args.others)) (sym c.in-Met.is) (h yes)) c.meet-in_default-2.ensures.rights_seen
