use Rattle.std.proofs.Common.{◌≡◌, ◌++◌, ◌∷◌, [], ◌-◌, false, sym, subst, ap, ◌∙◌, arith, get_or}
use Rattle.std.specs.Ordering.{is_lt}
use Rattle.std.proofs.lemmas.List.{get_or_default}
use Rattle.group_agg.specs.Candidates.{keyed, pair_cmp, IsHeld}
use Rattle.group_agg.specs.LawProofs.Pairs.{IsHeld-push, IsHeld-pass}
use Rattle.group_agg.proofs.first_rows.consider.Goals as goal

pub returns-then-not-comes_before : goal.returns-then-not-comes_before
returns-then-not-comes_before c = λ seen h.
    let keys = c.args.keys.now in
    let n = c.args.n in
    let held = c.args.held.now.items in
    let x = keyed keys c.args.row.now in
    let at : get_or held (n - 1) ([], []) ≡ c.index.result.now = get_or_default held (n - 1) ([], []) c.index.result.now (omega (arith, h.enough c.if-settled.true)) ∙ sym c.index.ensures in
    let past : is_lt (pair_cmp x (get_or held (n - 1) ([], []))) ≡ false = ap (λ p. is_lt (pair_cmp x p)) at ∙ sym c.comes_before.ensures ∙ c.if-not-comes_before.true in
    subst (IsHeld keys n (seen ++ x ∷ []) held) c.if-settled.true (IsHeld-pass keys n seen held c.args.settled x c.requires.some h c.if-settled.true past)

pub returns : goal.returns
returns c = λ seen h.
    let keys = c.args.keys.now in
    let n = c.args.n in
    let held = c.args.held.now.items in
    let pushed = IsHeld-push keys n seen held c.args.settled c.args.row.now c.requires.some h in
    c.settle_if_many.ensures keys (seen ++ keyed keys c.args.row.now ∷ []) (subst (λ xs. IsHeld keys n (seen ++ keyed keys c.args.row.now ∷ []) xs c.args.settled) (sym c.in_ok-hold.ensures) pushed)
