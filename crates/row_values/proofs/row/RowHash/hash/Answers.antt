use Rattle.std.proofs.Common.{ap, ◌∙◌, fold}
use Rattle.std.specs.Hash as fed
use Rattle.row_values.specs.declared.value.Value.{Value}
use Rattle.row_values.specs.Datums.{datum_of}
use Rattle.row_values.specs.Hashing.{datum_input}
use Rattle.row_values.proofs.Kept.{row_input-values}
use Rattle.row_values.proofs.row.RowHash.hash.Goals as goal

pub returns : goal.returns
returns g c = rw (← c.self.view_is)
    (c.hash.ensures ∙ ap (fold g.H.Hasher.write c.args.state.now)
    (ap (fed.slice (λ (v : Value). datum_input (datum_of v))) c.as_slice.ensures ∙ row_input-values c.self.inside.values.items))
