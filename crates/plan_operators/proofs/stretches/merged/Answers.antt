use Rattle.std.proofs.Common.{◌≡◌, ◌∙◌, ◌+◌, ◌≤◌, ◌++◌, ◌∷◌, [], max, List, Vec, Global, take, sym, ap, subst, arith}
use Rattle.std.proofs.lemmas.List.{take_all, take_more}
use Rattle.plan_operators.specs.declared.stretches.Stretch.{Stretch}
use Rattle.plan_operators.specs.Neighbourhoods.{FirstsRise, IsInSome, stretch_at}
use Rattle.plan_operators.proofs.StretchLemmas.{merged-grown, merged-pushed, merged-rise, merged-same}
use Rattle.plan_operators.proofs.stretches.merged.Goals as goal
use Rattle.plan_operators.proofs.stretches.merged.Goals.{then-stretch-saturating_add, else-stretch-saturating_add+in_ok-push}

pub loop-stretch-preserved : goal.loop-stretch-preserved
loop-stretch-preserved c =
    let none : Stretch = record { first = 0; past = 0 } in
    let xs = c.args.stretches.now in
    let i = c.loop-stretch.stretch-index in
    let all = c.loop-stretch.all.items in
    let last = c.loop-stretch.last in
    let s = stretch_at xs i in
    let invariant = c.loop-stretch.invariant in
    let more : take (i + 1) xs ≡ take i xs ++ s ∷ [] = take_more xs i none c.loop-stretch-test.true in
    let low : last.first ≤ s.first = invariant.before i (omega arith) c.loop-stretch-test.true in
    elim c.if-stretch-saturating_add.branch [
      | then-stretch-saturating_add w ↦
          let grown : Stretch = record { first = last.first; past = max last.past s.past } in
          let is : c.if-stretch-saturating_add.last ≡ grown = w.last-is ∙ ap (λ p. let wide : Stretch = record { first = last.first; past = p } in wide) w.max.ensures in
          record {
            merged = merged-same (take i xs ++ s ∷ []) (take (i + 1) xs) all c.if-stretch-saturating_add.all.items grown c.if-stretch-saturating_add.last more
                (ap (λ (v : Vec Stretch Global). v.items) w.all-is) is (merged-grown (take i xs) all last s invariant.merged low);
            before = λ n from there. omega (arith, invariant.before n (omega (arith, from)) there, ap (λ (t : Stretch). t.first) is);
          }
      | else-stretch-saturating_add+in_ok-push w ↦ record {
        merged = merged-same (take i xs ++ s ∷ []) (take (i + 1) xs) (all ++ last ∷ []) c.if-stretch-saturating_add.all.items s c.if-stretch-saturating_add.last more
            (ap (λ (v : Vec Stretch Global). v.items) w.all-is ∙ w.in_ok-push.ensures.items) w.last-is (merged-pushed (take i xs) all last s invariant.merged low);
        before = λ n from there. omega (arith, c.requires.rise i n none (omega (arith, from)) there, ap (λ (t : Stretch). t.first) w.last-is);
      }
    ]

pub returns-clause-rise : goal.returns-clause-rise
returns-clause-rise c =
    subst FirstsRise (sym c.in_ok-push-2.ensures.items)
    (merged-rise (take c.loop-stretch.stretch-index c.args.stretches.now) c.loop-stretch.all.items c.loop-stretch.last c.loop-stretch.invariant.merged)

pub returns-clause-same : goal.returns-clause-same
returns-clause-same c = λ i some.
    let seen = take_all c.loop-stretch.stretch-index c.args.stretches.now c.loop-stretch-test.false in
    subst (λ (ss : List Stretch). IsInSome ss i) (sym c.in_ok-push-2.ensures.items)
    (c.loop-stretch.invariant.merged.same i (subst (λ (ss : List Stretch). IsInSome ss i) (sym seen) some))
