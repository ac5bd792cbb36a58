use Rattle.std.proofs.Common.{arith, sym, subst, ◌≡◌, ◌+◌, ◌≤◌, IfSome, length, take, drop}
use Rattle.line_sight.specs.Seen.{Shown}
use Rattle.line_sight.proofs.Looking.{front_none, left_seen}
use Rattle.line_sight.proofs.seen.Seen.look_into.Goals as goal

pub returns-else-at-self-clause-bytes : goal.returns-else-at-self-clause-bytes
returns-else-at-self-clause-bytes g c =
    let s = c.self.inside in
    subst (λ (v : Shown). IfSome v.all (λ whole. take c.look.result (drop c.args.at whole) ≡ take c.look.result c.look.new.buf)) c.self.view_is
    (left_seen (g.S.Source.looks s.corpus.now) s.ready.now (g.S.Source.left s.corpus.now) c.args.at c.look.result c.look.new.buf (omega (arith, c.if-at-self.false)) c.look.ensures.able c.look.ensures.bytes)

pub returns-else-at-self-clause-front : goal.returns-else-at-self-clause-front
returns-else-at-self-clause-front g c = λ k few inside.
    let s = c.self.inside in
    subst (λ (v : Shown). take k (drop c.args.at v.ready) ≡ take k c.look.new.buf) c.self.view_is
    (front_none s.ready.now c.look.new.buf c.args.at k (omega (arith, c.if-at-self.false)) (subst (λ (v : Shown). c.args.at + k ≤ length v.ready) (sym c.self.view_is) inside))
