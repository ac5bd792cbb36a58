use Rattle.std.proofs.Common.{◌∙◌, sym, subst, List, ℕ}
use Rattle.std.specs.String.{string_bytes}
use Rattle.std.proofs.lemmas.Map.Text.{hash_map_updates_text}
use Rattle.view_graph.specs.Indexes.{entry_of, Adds}
use Rattle.std.proofs.Common.{true}
use Rattle.view_graph.proofs.index.add_dictionary.Goals as goal

pub returns-in-None : goal.returns-in-None
returns-in-None c =
    subst (λ (text : List ℕ). Adds (entry_of c.args.dictionaries.now) (entry_of c.insert.new.self) text c.args.index true) c.in_ok-key.ensures.ok
    (sym c.in_ok-insert.ensures.old ∙ c.in-None.is, hash_map_updates_text (string_bytes c.in_ok-key.key) c.args.dictionaries.now c.insert.new.self _ c.in_ok-insert.ensures.updates)
