use Rattle.std.proofs.Common.{◌≡◌, ℕ, true, subst, arith, rules, w64, SFits, inl, inr}
use Rattle.std.proofs.lemmas.Int.{to_z-of_z}
use Rattle.span_token.specs.Contexts.{how_many}
use Rattle.span_token.specs.Documents.{characters}
use Rattle.span_token.specs.Extents.{extent_of}
use Rattle.span_token.specs.Relations.{does_follow, does_follow_tok}
use Rattle.span_token.specs.Tokens.{tokens_of}
use Rattle.algebra.specs.declared.node.JoinKind.{JoinKind}
use Rattle.algebra.specs.Operators.{does_join}
use Rattle.plan_operators.specs.Neighbourhoods.{AreBegun}
use Rattle.plan_operators.proofs.Nearness.{follow-bounds, follow_tok-bounds, overlap-bounds, contain-bounds, behind-begins, behind-ends, front-begins, front-ends}
use Rattle.plan_operators.proofs.TokenNumbers.{tokens-in-order}
use Rattle.plan_operators.proofs.near.where_near.Goals as goal

pub returns-in-Follows : goal.returns-in-Follows
returns-in-Follows c = λ first past e run joins.
    let low_fits : SFits w64 c.in-Follows.min = search rules in
    let high_fits : SFits w64 c.in-Follows.max = search rules in
    let outer = extent_of c.args.outer in
    let test : does_follow outer e c.in-Follows.min c.in-Follows.max ≡ true = subst (λ (k : JoinKind). does_join c.args.doc.now k outer e ≡ true) c.in-Follows.is joins in
    let bounds = follow-bounds outer e c.in-Follows.min c.in-Follows.max test in
    c.within.ensures first past e.begin e.begin e run (let at = simp to_z-of_z at c.later.ensures.place in omega (arith, at, bounds.0)) run.ends.begin_to run.ends.begin_from (let at = simp to_z-of_z at c.later-in-Follows.ensures.place in omega (arith, at, bounds.1))

pub returns-in-FollowsTok : goal.returns-in-FollowsTok
returns-in-FollowsTok c = λ first past e run joins.
    let low_fits : SFits w64 c.in-FollowsTok.min = search rules in
    let high_fits : SFits w64 c.in-FollowsTok.max = search rules in
    let cs = characters c.args.doc.now in
    let outer = extent_of c.args.outer in
    let min = c.in-FollowsTok.min in
    let max = c.in-FollowsTok.max in
    let test : does_follow_tok (tokens_of cs) outer e min max ≡ true = subst (λ (k : JoinKind). does_join c.args.doc.now k outer e ≡ true) c.in-FollowsTok.is joins in
    let gap = follow_tok-bounds (tokens_of cs) outer e min max test in
    let begun = subst (λ (place : ℕ). AreBegun (tokens_of cs) place c.begun_before-begun.result) c.from.ensures c.begun_before-begun.ensures.begun in
    let number = c.begun_before-begun.result in
    let begins = behind-begins (tokens_of cs) (tokens-in-order cs) first past e run outer.end number (how_many min) (how_many max) begun gap in
    let ends = behind-ends (tokens_of cs) (tokens-in-order cs) first past e run outer.end number (how_many min) (how_many max) begun gap in
    let upper = simp to_z-of_z at c.most.ensures.number in
    let lower = simp to_z-of_z at c.most-in-FollowsTok.ensures.number in
    record { begins = omega (arith, begins, upper); ends = omega (arith, ends, lower) }

pub returns-in-FollowsBack : goal.returns-in-FollowsBack
returns-in-FollowsBack c = λ first past e run joins.
    let low_fits : SFits w64 c.in-FollowsBack.min = search rules in
    let high_fits : SFits w64 c.in-FollowsBack.max = search rules in
    let outer = extent_of c.args.outer in
    let min = c.in-FollowsBack.min in
    let max = c.in-FollowsBack.max in
    let test : does_follow e outer min max ≡ true = subst (λ (k : JoinKind). does_join c.args.doc.now k outer e ≡ true) c.in-FollowsBack.is joins in
    let bounds = follow-bounds e outer min max test in
    c.within-in-FollowsBack.ensures first past e.end e.end e run (let at = simp to_z-of_z at c.earlier.ensures in omega (arith, at, bounds.1)) run.ends.end_to run.ends.end_from (let at = simp to_z-of_z at c.earlier-in-FollowsBack.ensures in omega (arith, at, bounds.0))

pub returns-in-FollowsTokBack : goal.returns-in-FollowsTokBack
returns-in-FollowsTokBack c = λ first past e run joins.
    let low_fits : SFits w64 c.in-FollowsTokBack.min = search rules in
    let high_fits : SFits w64 c.in-FollowsTokBack.max = search rules in
    let cs = characters c.args.doc.now in
    let outer = extent_of c.args.outer in
    let min = c.in-FollowsTokBack.min in
    let max = c.in-FollowsTokBack.max in
    let test : does_follow_tok (tokens_of cs) e outer min max ≡ true = subst (λ (k : JoinKind). does_join c.args.doc.now k outer e ≡ true) c.in-FollowsTokBack.is joins in
    let gap = follow_tok-bounds (tokens_of cs) e outer min max test in
    let begun = subst (λ (place : ℕ). AreBegun (tokens_of cs) place c.begun_before-begun-in-FollowsTokBack.result) c.from-in-FollowsTokBack.ensures c.begun_before-begun-in-FollowsTokBack.ensures.begun in
    let number = c.begun_before-begun-in-FollowsTokBack.result in
    let begins = front-begins (tokens_of cs) (tokens-in-order cs) first past e run outer.begin number (how_many min) (how_many max) begun gap in
    let ends = front-ends (tokens_of cs) (tokens-in-order cs) first past e run outer.begin number (how_many min) (how_many max) begun gap in
    let lower = simp to_z-of_z at c.most-in-FollowsTokBack.ensures.number in
    let upper = simp to_z-of_z at c.most-in-FollowsTokBack-2.ensures.number in
    record { begins = omega (arith, begins, lower, c.saturating_sub.ensures); ends = omega (arith, ends, upper, c.saturating_sub-in-FollowsTokBack.ensures) }

pub returns-in-Overlaps : goal.returns-in-Overlaps
returns-in-Overlaps c = λ first past e run joins.
    let outer = extent_of c.args.outer in
    let doc = c.args.doc.now in
    let ordered = c.args.outer.ordered in
    elim c.in-Overlaps.is [
      | inl is ↦
          let bounds = overlap-bounds outer e ordered (subst (λ (k : JoinKind). does_join doc k outer e ≡ true) is joins) in
          c.within-in-Overlaps.ensures first past e.end e.begin e run (omega (arith, c.from-in-Overlaps.ensures, bounds.0)) run.ends.end_to run.ends.begin_from (omega (arith, c.from-in-Overlaps-2.ensures, bounds.1))
      | inr (inl is) ↦
          let bounds = contain-bounds outer e (subst (λ (k : JoinKind). does_join doc k outer e ≡ true) is joins) in
          c.within-in-Overlaps.ensures first past e.begin e.end e run (omega (arith, c.from-in-Overlaps.ensures, bounds.0)) run.ends.begin_to run.ends.end_from (omega (arith, c.from-in-Overlaps-2.ensures, bounds.1))
      | inr (inr is) ↦
          let bounds = contain-bounds e outer (subst (λ (k : JoinKind). does_join doc k outer e ≡ true) is joins) in
          c.within-in-Overlaps.ensures first past e.end e.begin e run (omega (arith, c.from-in-Overlaps.ensures, bounds.1, ordered)) run.ends.end_to run.ends.begin_from (omega (arith, c.from-in-Overlaps-2.ensures, bounds.0, ordered))
    ]
