use Rattle.std.proofs.Common.{◌≡◌, length, sym, ap, ◌∙◌, rules, Global}
use Rattle.std.proofs.lemmas.Iterator.Adapters.{YieldsList-from_vec}
use Rattle.std.proofs.lemmas.Iterator.Consumers.{YieldsList-turn}
use Rattle.group_agg.proofs.first_rows.rows_alone.Goals as goal

pub push-requires : goal.push-requires
push-requires c =
    let held = c.args.held.items in
    let list = YieldsList-from_vec {Z = Global} held (search rules) (search rules) in
    let turn = YieldsList-turn list c.loop-key.yielded c.loop-key._key-iterator c.loop-key.yielded_by c.next.result c.next.new.self (c.in-Some._key, c.in-Some.row) c.in-Some.is c.next.ensures.steps in
    let wide : length c.in-Some.row ≡ c.args.width = ap (λ p. length p.1) turn.1 ∙ c.requires (length c.loop-key.yielded) (c.in-Some._key, c.in-Some.row) turn.0 in
    record { width = wide ∙ sym (ap (λ out. out.width) c.loop-key.invariant) }
