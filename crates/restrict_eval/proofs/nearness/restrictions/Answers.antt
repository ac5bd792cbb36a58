use Rattle.std.proofs.Common.{◌≡◌, length, map, arith}
use Rattle.restrict_eval.proofs.Fates.{fates_more}
use Rattle.restrict_eval.proofs.nearness.restrictions.Goals as goal

pub loop-j-preserved : goal.loop-j-preserved
loop-j-preserved c =
    let outs = map (λ out. out.node) c.args.outputs.now in
    let long : length c.loop-j.found.items ≡ c.loop-j.j = omega (arith, c.loop-j.invariant.long, c.loop-j.found.ok.0) in
    record {
      long = omega (arith, c.in_ok-push.ensures.len, c.loop-j.invariant.long);
      each = fates_more c.args.nodes.now outs c.loop-j.found.items c.push.new.self.items c.in_ok-restriction.field-0 c.loop-j.j long c.in_ok-push.ensures.items c.loop-j.invariant.each
          (c.in_ok-restriction.ensures outs c.in_ok-readers.ensures);
    }
