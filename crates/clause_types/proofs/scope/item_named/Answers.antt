use Rattle.std.proofs.Common.{◌≡◌, ◌∙◌, ◌<◌, ◌+◌, ◌∷◌, ℕ, List, Bool, true, cond, Some, length, drop, get_or, map, ap, sym}
use Rattle.std.specs.Str.{bytes_eq}
use Rattle.std.proofs.lemmas.List.{at_drop_more}
use Rattle.clause_types.specs.declared.item.CheckedItem.{CheckedItem}
use Rattle.clause_types.specs.Scopes.{item_named}
use Rattle.clause_types.specs.Views.{item_seen}
use Rattle.clause_types.proofs.scope.item_named.Goals as goal

found : (name : List ℕ) (items : List CheckedItem) (i : ℕ) (x : CheckedItem) → x ≡ get_or items i x → i < length items → bytes_eq x.name.text name ≡ true
    → item_named name (map item_seen (drop i items)) ≡ Some (item_seen x)
found name items i x is within same =
    at_drop_more (λ (xs : List CheckedItem). item_named name (map item_seen xs)) items i x within
    ∙ (ap (λ (y : CheckedItem). item_named name (map item_seen (y ∷ drop (i + 1) items))) (sym is)
    ∙ ap (λ (b : Bool). cond b (Some (item_seen x)) (item_named name (map item_seen (drop (i + 1) items)))) same)

pub returns-then-eq : goal.returns-then-eq
returns-then-eq c =
    sym c.loop-item.invariant
    ∙ found c.args.name.now c.args.items.now c.loop-item.item-index c.item-item.result c.item-item.is c.loop-item-test.true
    (ap (λ (t : List ℕ). bytes_eq t c.args.name.now) (sym c.as_str.ensures) ∙ (sym c.eq.ensures ∙ c.if-eq.true))
