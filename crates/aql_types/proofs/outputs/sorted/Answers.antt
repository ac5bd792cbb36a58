use Rattle.std.proofs.Common.{◌∙◌, List, ap, sym}
use Rattle.aql_typed.specs.declared.tree.Output.{Output}
use Rattle.aql_types.specs.Programs.{by_name}
use Rattle.aql_types.proofs.Sorting.{put_all, put_last, sorted_is}
use Rattle.aql_types.proofs.outputs.sorted.Goals as goal

pub loop-output-init : goal.loop-output-init
loop-output-init c =
    ap (λ (ys : List Output). put_all by_name c.args.listed.items ys) c.new-outputs.ensures.items ∙ sorted_is by_name c.args.listed.items

pub loop-output-preserved : goal.loop-output-preserved
loop-output-preserved c =
    let rest = c.pop.new.self.items in
    ap (λ (ys : List Output). put_all by_name rest ys) c.in_ok-put.ensures
    ∙ (sym (put_last by_name rest c.in-Some.output c.loop-output.outputs.items)
    ∙ (ap (λ (xs : List Output). put_all by_name xs c.loop-output.outputs.items) (sym c.in-Some.ensures.items) ∙ c.loop-output.invariant))
