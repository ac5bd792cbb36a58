use Rattle.std.proofs.Common.{◌≡◌, ◌+◌, ◌<◌, List, ℕ, arith, ap, map, get_or, length, ◌∙◌}
use Rattle.row_values.specs.Outputs.{OutputNames}
use Rattle.demo_corpus.specs.NamedTotals.{named_total}
use Rattle.demo_corpus.specs.Summaries.{put_total}
use Rattle.demo_corpus.proofs.NamedTotals.{named_total-insert_entry, with_rest, with_one_more}
use Rattle.demo_corpus.proofs.summary.named.Goals as goal

pub outputs-preserved : goal.outputs-preserved
outputs-preserved c =
    let i = c.outputs.index in
    let outputs = c.args.outputs.now in
    let totals = c.args.totals.now in
    let output = c.index-outputs-index.result in
    let total = get_or totals i 0 in
    let before = c.outputs.named.entries in
    let within : i < length totals = omega (arith, c.requires) in
    let put : map named_total c.insert.new.self.entries ≡ put_total (map named_total before) (c.name.result.now, total) =
    ap (map named_total) c.in_ok-insert.ensures.entries ∙ named_total-insert_entry before c.name.result total in
    let named = ap (λ (name : List ℕ). put_total (map named_total before) (name, total)) (c.name.ensures ∙ ap (λ (o : OutputNames). o.name) c.index-outputs-index.is) in
    ap (λ (so_far : List (List ℕ × ℕ)). with_rest so_far outputs totals (i + 1)) (put ∙ named) ∙ with_one_more outputs totals i output (map named_total before) c.outputs-test.true within ∙ c.outputs.invariant
