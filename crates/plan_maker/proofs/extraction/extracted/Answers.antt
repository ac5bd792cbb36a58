use Rattle.std.proofs.Common.{rules, ap, sym, subst}
use Rattle.aql_typed.specs.Fitting.{FitsExtraction}
use Rattle.aql_typed.specs.Views.{extraction_of, extract_clauses_of}
use Rattle.plan_maker.specs.Grounds.{IsSearched}
use Rattle.plan_maker.proofs.Clauses.{blocks_gives, each_gives}
use Rattle.plan_maker.proofs.extraction.extracted.Goals as goal

pub returns-in_ok-n-in-Blocks-clause-gives : goal.returns-in_ok-n-in-Blocks-clause-gives
returns-in_ok-n-in-Blocks-clause-gives c =
    blocks_gives c.args.nodes.now c.args.input (extract_clauses_of c.args.clauses.now) _ _ _ _ _ _ _ _ (ap extraction_of c.in-Blocks.is) _ _ c.in_ok-n-in-Blocks.ensures.stands (search rules) (search rules)

pub returns-in_ok-n-in-Regex-clause-gives : goal.returns-in_ok-n-in-Regex-clause-gives
returns-in_ok-n-in-Regex-clause-gives c =
    each_gives c.args.nodes.now c.args.input (extract_clauses_of c.args.clauses.now) (λ fits. subst IsSearched (sym (ap extraction_of c.in-Regex.is)) tt) _ _ c.in_ok-n-in-Regex.ensures.gives

pub returns-in_ok-n-in-TokenRegex-clause-gives : goal.returns-in_ok-n-in-TokenRegex-clause-gives
returns-in_ok-n-in-TokenRegex-clause-gives c =
    let is = ap extraction_of c.in-TokenRegex.is in
    each_gives c.args.nodes.now c.args.input (extract_clauses_of c.args.clauses.now)
    (λ fits. subst IsSearched (sym is) (subst (FitsExtraction (extract_clauses_of c.args.clauses.now)) is fits)) _ _ c.in_ok-n-in-TokenRegex.ensures.gives

pub returns-in_ok-n-in-Dict-clause-gives : goal.returns-in_ok-n-in-Dict-clause-gives
returns-in_ok-n-in-Dict-clause-gives c =
    each_gives c.args.nodes.now c.args.input (extract_clauses_of c.args.clauses.now) (λ fits. subst IsSearched (sym (ap extraction_of c.in-Dict.is)) tt) _ _ c.in_ok-n-in-Dict.ensures.gives
