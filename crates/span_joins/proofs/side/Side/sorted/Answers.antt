use Rattle.std.proofs.Common.{ℕ, List, map, subst, rules}
use Rattle.std.specs.List.Sorted.{IsPermutation}
use Rattle.std.specs.Option.{option_map}
use Rattle.std.proofs.lemmas.List.Sorted.{IsPermutation-map, IsNonDecreasingBy-from_sort_by_key}
use Rattle.span_token.specs.Extents.{extent_of}
use Rattle.span_joins.specs.Joins.{rank}
use Rattle.span_joins.specs.Answers.{number_of}
use Rattle.span_joins.specs.Sweeps.{Entry, entry_of}
use Rattle.span_joins.specs.declared.side.Key.{Key}
use Rattle.span_joins.proofs.OrderLaws.{rise_mapped, proper_keys}
use Rattle.span_joins.proofs.side.Side.sorted.Goals as goal

pub returns-clause-same : goal.returns-clause-same
returns-clause-same c =
    subst (λ (es : List Entry). IsPermutation es (map entry_of c.sort_unstable_by_key.new.self.items)) c.in_ok-keys.ensures
    (IsPermutation-map entry_of c.in_ok-keys.keys.items c.sort_unstable_by_key.new.self.items c.sort_unstable_by_key.ensures.permutation)

pub returns-clause-sorted : goal.returns-clause-sorted
returns-clause-sorted c =
    let k : Key → ℕ = λ key. rank (number_of c.args.by) (option_map extent_of key.span) in
    let n : Entry → ℕ = λ e. rank (number_of c.args.by) e.span in
    rise_mapped n entry_of _ (IsNonDecreasingBy-from_sort_by_key k _ c.sort_unstable_by_key.ensures.sorted (λ a r f h. search rules))

pub returns-clause-proper : goal.returns-clause-proper
returns-clause-proper c = proper_keys c.sort_unstable_by_key.new.self.items
