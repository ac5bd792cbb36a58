use Rattle.std.proofs.Common.{◌≡◌, ℕ, ◌≤◌, List, [], ◌∷◌, ◌++◌, sym, subst}
use Rattle.algebra.specs.declared.node.Local.{Local}
use Rattle.algebra.specs.declared.node.Node.TheVariants.{TokenRegex, Dict, DictPart}
use Rattle.algebra.specs.Growth.{Stands}
use Rattle.algebra.specs.Shapes.{IsSought}
use Rattle.push_select.specs.Replacing.{IsPushed, Searches}
use Rattle.push_select.proofs.Searching.{runs-valid, runs-searched, dict-valid, part-valid, part-searched}
use Rattle.push_select.proofs.Standing.{pushed-add}
use Rattle.push_select.proofs.unrestricting.searched.Goals as goal

pub returns-in_ok-n-in-TokenRegex-clause-searches : goal.returns-in_ok-n-in-TokenRegex-clause-searches
returns-in_ok-n-in-TokenRegex-clause-searches c =
    subst (λ (part : Local). Searches c.args.nodes.now c.add.new.self c.args.source c.in_ok-n-in-TokenRegex.n part) (sym c.in-TokenRegex.is)
    (runs-searched c.args.nodes.now c.args.source c.requires.there c.requires.document c.in-TokenRegex.low c.in-TokenRegex.high c.in-TokenRegex.pattern c.add.new.self c.in_ok-n-in-TokenRegex.n
    (subst (λ (groups : List ℕ). Stands c.args.nodes.now c.add.new.self c.in_ok-n-in-TokenRegex.n (TokenRegex c.args.source 0 c.in-TokenRegex.low c.in-TokenRegex.high c.in-TokenRegex.pattern groups))
    c.in_ok-groups-in-TokenRegex.ensures c.in_ok-n-in-TokenRegex.ensures.stands))

pub returns-in_ok-n-in-TokenRegex-clause-pushed : goal.returns-in_ok-n-in-TokenRegex-clause-pushed
returns-in_ok-n-in-TokenRegex-clause-pushed c =
    let some : 1 ≤ c.in-TokenRegex.low = subst IsSought c.in-TokenRegex.is c.requires.sought in
    pushed-add c.args.nodes.now c.add.new.self (TokenRegex c.args.source 0 c.in-TokenRegex.low c.in-TokenRegex.high c.in-TokenRegex.pattern (0 ∷ []))
    (subst (λ (groups : List ℕ). c.add.new.self ≡ c.args.nodes.now ++ TokenRegex c.args.source 0 c.in-TokenRegex.low c.in-TokenRegex.high c.in-TokenRegex.pattern groups ∷ [])
    c.in_ok-groups-in-TokenRegex.ensures c.in_ok-n-in-TokenRegex.ensures.ok.1)
    (runs-valid c.args.nodes.now c.args.source c.requires.there c.requires.document c.in-TokenRegex.low c.in-TokenRegex.high c.in-TokenRegex.pattern some) c.requires.pushed tt tt

pub returns-in_ok-n-in-Dict-clause-searches : goal.returns-in_ok-n-in-Dict-clause-searches
returns-in_ok-n-in-Dict-clause-searches c =
    let both : Stands c.args.nodes.now c.add-in-Dict.new.self c.in_ok-both-in-Dict.both (Dict c.args.source 0 (c.in-Dict.dict ∷ [])) =
    subst (λ (dicts : List ℕ). Stands c.args.nodes.now c.add-in-Dict.new.self c.in_ok-both-in-Dict.both (Dict c.args.source 0 dicts)) c.in_ok-dicts-in-Dict.ensures c.in_ok-both-in-Dict.ensures.stands in
    subst (λ (part : Local). Searches c.args.nodes.now c.add-in-Dict-2.new.self c.args.source c.in_ok-n-in-Dict.n part) (sym c.in-Dict.is)
    (part-searched c.args.nodes.now c.args.source c.requires.there c.requires.document c.in-Dict.dict c.add-in-Dict.new.self c.in_ok-both-in-Dict.both both
    c.add-in-Dict-2.new.self c.in_ok-n-in-Dict.n c.in_ok-n-in-Dict.ensures.stands)

pub returns-in_ok-n-in-Dict-clause-pushed : goal.returns-in_ok-n-in-Dict-clause-pushed
returns-in_ok-n-in-Dict-clause-pushed c =
    let both : Stands c.args.nodes.now c.add-in-Dict.new.self c.in_ok-both-in-Dict.both (Dict c.args.source 0 (c.in-Dict.dict ∷ [])) =
    subst (λ (dicts : List ℕ). Stands c.args.nodes.now c.add-in-Dict.new.self c.in_ok-both-in-Dict.both (Dict c.args.source 0 dicts)) c.in_ok-dicts-in-Dict.ensures c.in_ok-both-in-Dict.ensures.stands in
    let before : IsPushed c.add-in-Dict.new.self =
    pushed-add c.args.nodes.now c.add-in-Dict.new.self (Dict c.args.source 0 (c.in-Dict.dict ∷ []))
    (subst (λ (dicts : List ℕ). c.add-in-Dict.new.self ≡ c.args.nodes.now ++ Dict c.args.source 0 dicts ∷ []) c.in_ok-dicts-in-Dict.ensures c.in_ok-both-in-Dict.ensures.ok.1)
    (dict-valid c.args.nodes.now c.args.source c.requires.there c.requires.document c.in-Dict.dict) c.requires.pushed tt tt in
    pushed-add c.add-in-Dict.new.self c.add-in-Dict-2.new.self (DictPart c.in_ok-both-in-Dict.both 0) c.in_ok-n-in-Dict.ensures.ok.1
    (part-valid c.args.nodes.now c.args.source c.requires.there c.requires.document c.in-Dict.dict c.add-in-Dict.new.self c.in_ok-both-in-Dict.both both) before tt tt
