use Rattle.std.proofs.Common.{ℕ, List, ◌≡◌, ◌+◌, ◌<◌, ◌^◌, length, sym, subst, ◌∙◌, arith, get_or, set, ap, map, All}
use Rattle.std.proofs.lemmas.List.{map-set, get_or-map, length-map}
use Rattle.std.proofs.lemmas.List.Elements.{All-set, All-weaker}
use Rattle.group_agg.specs.Tallies.{Sofar, sofar_of, added, best, IsBounded}
use Rattle.group_agg.specs.declared.tally.Tally.{Tally}
use Rattle.row_values.specs.Datums.{null}
use Rattle.group_agg.proofs.GroupKeys.{IsBounded-weaker}
use Rattle.group_agg.proofs.tallies.Tallies.add.Goals as goal

-- the tally that is read is the one that the list has
read : (items : List Tally) (sofars : List Sofar) (n : ℕ) (was : Tally) → map sofar_of items ≡ sofars → n < length sofars → was ≡ get_or items n was → get_or sofars n (best null) ≡ sofar_of was
read items sofars n was view below e =
    ap (λ xs. get_or xs n (best null)) (sym view) ∙ get_or-map sofar_of items n was (best null) (omega (arith, ap length view, length-map items sofar_of)) ∙ ap sofar_of (sym e)

pub with_row-requires-clause-room : goal.with_row-requires-clause-room
with_row-requires-clause-room c =
    subst (IsBounded (2 ^ 32)) (read c.self.inside.tallies.items c.args.self.now c.args.number c.index.result.now c.self.view_is c.requires.there c.index.ensures)
    (c.requires.room c.args.number (best null) c.requires.there)

pub returns-clause-value : goal.returns-clause-value
returns-clause-value c =
    let items = c.self.inside.tallies.items in
    let n = c.args.number in
    let was_is = read items c.args.self.now n c.index.result.now c.self.view_is c.requires.there c.index.ensures in
    map-set sofar_of items n c.with_row.result
    ∙ ap (λ xs. set xs n (sofar_of c.with_row.result)) c.self.view_is
    ∙ ap (set c.args.self.now n) (c.with_row.ensures.value ∙ ap (λ s. added c.args.agg s c.args.row.now) (sym was_is))

pub returns-clause-bounded : goal.returns-clause-bounded
returns-clause-bounded c = λ k h.
    let items = c.self.inside.tallies.items in
    let n = c.args.number in
    let was_is = read items c.args.self.now n c.index.result.now c.self.view_is c.requires.there c.index.ensures in
    subst (All (IsBounded (k + 1))) (sym (map-set sofar_of items n c.with_row.result ∙ ap (λ xs. set xs n (sofar_of c.with_row.result)) c.self.view_is))
    (All-set (IsBounded (k + 1)) c.args.self.now n (sofar_of c.with_row.result)
    (c.with_row.ensures.bounded k (subst (IsBounded k) was_is (h n (best null) c.requires.there)))
    (All-weaker (IsBounded k) (IsBounded (k + 1)) (λ s b. IsBounded-weaker k (k + 1) s (omega arith) b) c.args.self.now h))
