use Rattle.std.proofs.Common.{◌∙◌, ◌<◌, [], length, get_or, refl, arith}
use Rattle.std.proofs.Math.ListN.{set, length-set}
use Rattle.dict_match.specs.Rows.{extents_of_rows}
use Rattle.dict_match.proofs.SplitLemmas.{rows-step, low-of}
use Rattle.dict_match.proofs.pass.put_rows.Goals as goal

pub loop-one-preserved : goal.loop-one-preserved
loop-one-preserved c =
    let now = c.loop-one.rows.items in
    let found = c.args.found.now in
    let idx = c.loop-one.one-index in
    let one = c.one-item.result in
    let lt : idx < length found = omega arith in
    let number = c.loop-one.invariant.number in
    let low : one.dict < length c.args.rows.now.items = low-of found (length c.args.rows.now.items) idx one lt c.one-item.is c.requires in
    let there : one.dict < length now = omega (arith, low, number) in
    record {
      number = length-set now one.dict c.push.new.self ∙ number;
      each = λ i within. rows-step (get_or (extents_of_rows c.args.rows.now.items) i []) now (set now one.dict c.push.new.self) found idx one c.index_mut.result.now c.push.new.self i
          lt c.one-item.is there c.index_mut.ensures.value c.in_ok-push.ensures.items refl (omega (arith, within, number)) (c.loop-one.invariant.each i within);
    }

pub index_mut-requires : goal.index_mut-requires
index_mut-requires c =
    let found = c.args.found.now in
    let idx = c.loop-one.one-index in
    let one = c.one-item.result in
    let lt : idx < length found = omega arith in
    let low : one.dict < length c.args.rows.now.items = low-of found (length c.args.rows.now.items) idx one lt c.one-item.is c.requires in
    omega (arith, low, c.loop-one.invariant.number, c.loop-one.rows.ok.0)
