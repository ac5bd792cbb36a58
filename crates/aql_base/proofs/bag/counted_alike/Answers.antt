use Rattle.std.proofs.Common.{◌≡◌, sym, arith, true≢false, ◌<◌, length}
use Rattle.std.proofs.lemmas.List.Elements.{AllWithin-more, at_read}
use Rattle.aql_base.specs.Bags.{count_of}
use Rattle.aql_base.proofs.bag.counted_alike.Goals as goal

pub returns-then-count : goal.returns-then-count
returns-then-count g c = (
  λ e. absurd (true≢false (sym e)),
  λ all.
      let at : count_of g.T.Ord.cmp c.x-item.result c.args.a.now ≡ count_of g.T.Ord.cmp c.x-item.result c.args.b.now =
      rw (c.x-item.is) (all c.loop-x.x-index c.x-item.result (omega arith)) in
      let e : c.count.result ≡ c.count-in-loop-x.result = omega (arith, c.count.ensures, at, c.count-in-loop-x.ensures) in
      absurd (c.if-count.true e),
)

pub loop-x-preserved : goal.loop-x-preserved
loop-x-preserved g c =
    let below : c.loop-x.x-index < length c.args.items.now = omega arith in
    AllWithin-more (λ x. count_of g.T.Ord.cmp x c.args.a.now ≡ count_of g.T.Ord.cmp x c.args.b.now) c.args.items.now 0 c.loop-x.x-index c.loop-x.invariant
    (at_read c.args.items.now (λ x. count_of g.T.Ord.cmp x c.args.a.now ≡ count_of g.T.Ord.cmp x c.args.b.now) c.loop-x.x-index c.x-item.result below c.x-item.is
    (omega (arith, c.count.ensures, c.if-count.false, c.count-in-loop-x.ensures)))
