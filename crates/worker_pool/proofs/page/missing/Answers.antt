use Rattle.std.proofs.Common.{◌≡◌, ◌≢◌, ◌∙◌, ℕ, [], Option, Some, sym, subst, true, true≢false, ap}
use Rattle.run_core.specs.Wanted.{given}
use Rattle.algebra.specs.Inputs.{left_input, right_input, is_conditional, IsAmong}
use Rattle.worker_pool.specs.Pages.{IsSeen, rows_on}
use Rattle.worker_pool.proofs.Paging.{node-at, ready-both, ready-left, missing-right, no-row}
use Rattle.worker_pool.proofs.page.missing.Goals as goal
use Rattle.worker_pool.proofs.page.missing.Goals.{else-is_conditional-via-then-is_conditional+else-not-has_row, else-is_conditional-via-else-is_conditional}

pub returns-then-not-has_row-clause-ready : goal.returns-then-not-has_row-clause-ready
returns-then-not-has_row-clause-ready g c =
    let plan = c.args.plan.now in
    let known = c.args.known.now.items in
    let node = c.get-node.result.now in
    let at = node-at plan.nodes c.nodes.result.now c.args.n node c.nodes.ensures c.requires.there c.get-node.ensures.node in
    let left = subst (IsSeen known) c.inputs-left.ensures.left c.in-None.ensures.seen in
    let conditional : is_conditional node ≡ true = sym c.is_conditional.ensures ∙ c.if-is_conditional.true in
    let none = no-row (given plan (rows_on known) c.inputs-left.result.0) c.has_row.result (c.has_row.ensures plan) c.if-not-has_row.true in
    ready-left plan known c.args.n node at left conditional (ap (given plan (rows_on known)) (sym c.inputs-left.ensures.left) ∙ none)

pub returns-else-is_conditional-clause-missing : goal.returns-else-is_conditional-clause-missing
returns-else-is_conditional-clause-missing g c =
    let plan = c.args.plan.now in
    let known = c.args.known.now.items in
    let node = c.get-node.result.now in
    let i = c.in-Some-unseen.i in
    let at = node-at plan.nodes c.nodes.result.now c.args.n node c.nodes.ensures c.requires.there c.get-node.ensures.node in
    let right : right_input node ≡ Some i = sym c.inputs-left.ensures.right ∙ c.in-Some-unseen.ensures.unseen.0 in
    let some : is_conditional node ≡ true → given plan (rows_on known) (left_input node) ≢ [] = elim c.else-is_conditional.branch [
      | else-is_conditional-via-then-is_conditional+else-not-has_row w ↦ λ yes.
          subst (λ (o : Option ℕ). given plan (rows_on known) o ≢ []) c.inputs-left.ensures.left ((w.has_row.ensures plan).0 w.if-not-has_row.false)
      | else-is_conditional-via-else-is_conditional w ↦ λ yes. absurd (true≢false (sym yes ∙ (sym c.is_conditional.ensures ∙ w.if-is_conditional.false)))
    ] in
    missing-right plan known c.args.n node at i right (subst (IsAmong c.args.n) right c.get-node.ensures.at.right_lower) c.in-Some-unseen.ensures.unseen.1 some

pub returns-in-None-unseen-clause-ready : goal.returns-in-None-unseen-clause-ready
returns-in-None-unseen-clause-ready g c =
    let plan = c.args.plan.now in
    let known = c.args.known.now.items in
    let node = c.get-node.result.now in
    let at = node-at plan.nodes c.nodes.result.now c.args.n node c.nodes.ensures c.requires.there c.get-node.ensures.node in
    let left = subst (IsSeen known) c.inputs-left.ensures.left c.in-None.ensures.seen in
    let right = subst (IsSeen known) c.inputs-left.ensures.right c.in-None-unseen.ensures.seen in
    ready-both plan known c.args.n node at left right
