use Rattle.std.proofs.Common.{◌≡◌, ◌+◌, ◌<◌, length, sym, subst, ◌∙◌, arith, get_or, set, ap, All, []}
use Rattle.std.proofs.lemmas.List.{get_or_default, get_or-set_other}
use Rattle.group_agg.specs.Tallies.{added, best, IsBounded}
use Rattle.group_agg.specs.declared.agg.Agg.TheVariants.{Key, Count}
use Rattle.row_values.specs.Datums.{null}
use Rattle.group_agg.proofs.GroupKeys.{one_more_column}
use Rattle.group_agg.proofs.groups.add_row.Goals as goal

pub loop-j-preserved : goal.loop-j-preserved
loop-j-preserved c =
    let items = c.loop-j.columns.items in
    let first = c.args.columns.now.items in
    let aggs = c.args.aggs.now in
    let row = c.args.row.now in
    let n = c.args.number in
    let j = c.loop-j.j in
    let now = c.add.new.self in
    let inside : j < length items = omega arith in
    let among : j < length first = omega arith in
    let was : c.index_mut.result.now ≡ get_or first j [] = c.index_mut.ensures.value ∙ get_or_default items j c.index_mut.result.now [] inside ∙ c.loop-j.invariant.left j (omega arith) in
    let is : now ≡ set (get_or first j []) n (added (get_or aggs j Count) (get_or (get_or first j []) n (best null)) row) =
    c.add.ensures.value ∙ ap (λ s. set s n (added (get_or aggs j (Key 0)) (get_or s n (best null)) row)) was
    ∙ ap (λ a. set (get_or first j []) n (added a (get_or (get_or first j []) n (best null)) row)) (get_or_default aggs j (Key 0) Count c.loop-j-test.true) in
    record {
      len = omega arith;
      added = one_more_column (λ k s. s ≡ set (get_or first k []) n (added (get_or aggs k Count) (get_or (get_or first k []) n (best null)) row)) items j now inside c.loop-j.invariant.added is;
      left = λ k below. get_or-set_other items j k now [] (λ e. absurd (omega (arith, e, below))) ∙ c.loop-j.invariant.left k (omega (arith, below));
      bounded = λ m h. one_more_column (λ k s. All (IsBounded (m + 1)) s) items j now inside (c.loop-j.invariant.bounded m h) (c.add.ensures.bounded m (subst (All (IsBounded m)) (sym was) (h j [] among)));
    }

pub returns-clause-bounded : goal.returns-clause-bounded
returns-clause-bounded c = λ n h k d below. subst (All (IsBounded (n + 1))) (get_or_default c.loop-j.columns.items k [] d below) (c.loop-j.invariant.bounded n h k (omega (arith, below)))
