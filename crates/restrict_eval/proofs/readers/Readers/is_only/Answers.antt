use Rattle.std.proofs.Common.{rules, ◌≡◌, ◌∙◌, ◌<◌, ℕ, false, List, [], length, get_or, ap, arith}
use Rattle.std.proofs.lemmas.List.{get_or_default}
use Rattle.restrict_eval.specs.Readers.{is_shown, readers_in}
use Rattle.restrict_eval.proofs.Reading.{only_iff}
use Rattle.restrict_eval.proofs.readers.Readers.is_only.Goals as goal

pub returns-then-not-as_slice-n : goal.returns-then-not-as_slice-n
returns-then-not-as_slice-n c nodes outputs are =
    let dark : is_shown c.args.self.now.shown.items c.args.n ≡ false = search rules in
    let there : c.args.n < length c.args.self.now.lists.items = omega (arith, c.requires.3, c.requires.2.lists_long) in
    let list_is : c.as_slice-then-not-as_slice-n-2.result.now ≡ readers_in c.args.self.now.lists.items c.args.n =
    c.as_slice-then-not-as_slice-n-2.ensures
    ∙ (c.index-as_slice-n.is
    ∙ (ap (λ (ls : List (List ℕ)). get_or ls c.args.n c.index-as_slice-n.result) c.as_slice-then-not-as_slice-n.ensures.value ∙ get_or_default c.args.self.now.lists.items c.args.n c.index-as_slice-n.result [] there)) in
    only_iff nodes outputs c.args.self.now.shown.items c.args.n c.args.a c.args.b c.args.self.now.lists.items c.are_these.result c.as_slice-then-not-as_slice-n-2.result.now list_is are dark c.are_these.ensures
