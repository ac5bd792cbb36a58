use Rattle.std.proofs.Common.{◌≡◌, ℕ, ◌+◌, ◌*◌, ◌<◌, ◌≤◌, ◌^◌, List, length, get_or, arith, refl, ap, subst, ◌∙◌}
use Rattle.std.proofs.lemmas.List.{with_items_is}
use Rattle.std.proofs.lemmas.List.Elements.{All-same}
use Rattle.std.specs.Vec.{with_items}
use Rattle.demo_corpus.specs.Totals.{Tally, answer_of, size_at}
use Rattle.demo_corpus.proofs.Tallies.{tally-more, grown_within}
use Rattle.demo_corpus.proofs.totals.Totals.add.Goals as goal

pub invariant_of-self : goal.invariant_of-self
invariant_of-self c =
    let old = c.self.inside.totals.items in
    let new = c.add_sizes.new.totals in
    let given : c.as_mut_slice.result.now ≡ old = c.as_mut_slice.ensures.value in
    let same : length new ≡ length old = omega (arith, c.add_sizes.auto.totals, ap length given) in
    let long : length new ≡ c.self.inside.totals.len = omega (arith, same, c.self.inside.totals.ok.0) in
    let grown : (k : ℕ) → k < length new → get_or new k 0 < get_or old k 0 + 2 ^ 32 =
    λ k below. subst (λ (totals : List ℕ). get_or new k 0 < get_or totals k 0 + 2 ^ 32) given (c.add_sizes.ensures.grown k below) in
    All-same (λ total. total ≤ (c.self.inside.documents + 1) * 2 ^ 32) (with_items c.self.inside.totals new).items new (with_items_is c.self.inside.totals new long)
    (grown_within old new c.self.inside.documents same c.self.invariant grown)

pub returns-clause-counted : goal.returns-clause-counted
returns-clause-counted c = λ answers is.
    let old = c.self.inside.totals.items in
    let new = c.add_sizes.new.totals in
    let answer = answer_of c.args.rows.now in
    let documents = c.self.inside.documents in
    let given : c.as_mut_slice.result.now ≡ old = c.as_mut_slice.ensures.value in
    let same : length new ≡ length old = omega (arith, c.add_sizes.auto.totals, ap length given) in
    let long : length new ≡ c.self.inside.totals.len = omega (arith, same, c.self.inside.totals.ok.0) in
    let each_of : length new ≡ length c.args.rows.now = omega (arith, same, ap (λ (tally : Tally). length tally.totals) c.self.view_is, c.requires.one_of_each) in
    let added : (k : ℕ) → k < length c.args.rows.now → get_or new k 0 ≡ get_or old k 0 + size_at answer k =
    λ k below. subst (λ (totals : List ℕ). get_or new k 0 ≡ get_or totals k 0 + size_at answer k) given (c.add_sizes.ensures.added k (omega (arith, each_of, below))) in
    ap (λ (totals : List ℕ). let tally : Tally = record { documents = documents + 1; totals = totals } in tally) (with_items_is c.self.inside.totals new long)
    ∙ tally-more answers answer (record { documents = documents; totals = old }) (record { documents = documents + 1; totals = new }) (length c.args.rows.now) (c.self.view_is ∙ is) refl each_of added
