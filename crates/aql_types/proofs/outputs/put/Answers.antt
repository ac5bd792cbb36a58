use Rattle.std.proofs.Common.{◌∙◌, ℕ, List, ap, sym}
use Rattle.std.specs.List.{prefix_len, insert}
use Rattle.std.specs.Ordering.{is_lt}
use Rattle.aql_typed.specs.declared.tree.Output.{Output}
use Rattle.aql_types.specs.Programs.{by_name}
use Rattle.aql_types.proofs.Sorting.{put_is}
use Rattle.aql_types.proofs.outputs.put.Goals as goal

pub returns : goal.returns
returns c =
    let xs = c.args.outputs.now.items in
    c.in_ok-insert.ensures.items
    ∙ (ap (λ (n : ℕ). insert xs n c.args.output)
    (c.outputs_before-index.ensures ∙ ap (λ (ys : List Output). prefix_len (λ other. is_lt (by_name other c.args.output)) ys) c.deref.ensures.value)
    ∙ sym (put_is by_name c.args.output xs))
