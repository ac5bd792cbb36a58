use Rattle.std.proofs.Common.{List, ℕ, subst}
use Rattle.std.specs.Str.{bytes_eq}
use Rattle.std.specs.String.{string_bytes}
use Rattle.std.proofs.lemmas.Map.Text.{hash_map_updates_text}
use Rattle.aql_tables.specs.Kept.{entry_of, IsSet}
use Rattle.aql_tables.proofs.entries.set_entry.Goals as goal

pub returns : goal.returns
returns g c =
    subst (λ (text : List ℕ). IsSet bytes_eq (entry_of c.args.entries.now) (entry_of c.insert.new.self) text c.args.value) c.in_ok-key.ensures.ok
    (hash_map_updates_text (string_bytes c.in_ok-key.key) c.args.entries.now c.insert.new.self _ c.in_ok-insert.ensures.updates)
