use Rattle.std.proofs.Common.{rules, ◌≡◌, ◌++◌, ◌∷◌, [], pos}
use Rattle.share_plan.proofs.Pushing.{parts_pushed}
use Rattle.share_plan.proofs.words.push_parts.Goals as goal

pub returns : goal.returns
returns c =
    let first : c.push_pair.new.words.items ≡ c.args.words.now.items ++ pos 6 ∷ c.args.low ∷ [] = search rules in
    let second : c.push_pair-2.new.words.items ≡ c.push_pair.new.words.items ++ pos 7 ∷ c.args.high ∷ [] = search rules in
    let third : c.push_pair-3.new.words.items ≡ c.push_pair-2.new.words.items ++ pos 8 ∷ c.args.tag ∷ [] = search rules in
    parts_pushed _ _ _ _ c.args.tag c.args.low c.args.high first second third
