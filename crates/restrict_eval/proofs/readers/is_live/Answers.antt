use Rattle.std.proofs.Common.{rules, ◌≡◌, ◌∙◌, false, nat_eq, List, [], ℕ, ap, length}
use Rattle.std.proofs.lemmas.List.{get_or_default}
use Rattle.restrict_eval.specs.Readers.{is_shown, readers_in}
use Rattle.restrict_eval.proofs.Reading.{some_told}
use Rattle.restrict_eval.proofs.readers.is_live.Goals as goal

pub returns-else-shown-n : goal.returns-else-shown-n
returns-else-shown-n c =
    let dark : is_shown c.args.shown.now c.args.n ≡ false = search rules in
    let list_is : c.as_slice.result.now ≡ readers_in c.args.lists.now c.args.n =
    c.as_slice.ensures ∙ (c.index-lists-n.is ∙ get_or_default c.args.lists.now c.args.n _ [] c.requires.in_lists) in
    some_told (is_shown c.args.shown.now c.args.n) (readers_in c.args.lists.now c.args.n) c.is_empty.result dark
    (c.is_empty.ensures ∙ ap (λ (xs : List ℕ). nat_eq (length xs) 0) list_is)
