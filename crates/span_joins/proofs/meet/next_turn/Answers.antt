use Rattle.std.proofs.Common.{◌<◌, Option, length, sym, ap, ◌∙◌, arith}
use Rattle.std.proofs.lemmas.List.{get_or_default}
use Rattle.span_token.specs.Extents.{Extent, extent_of}
use Rattle.span_joins.specs.declared.rule.Rule.TheVariants.{OverlapsFromLeft}
use Rattle.span_joins.specs.Sweeps.{Entry, entries_of, entry_at, no_entry, answer_at, pairs_from}
use Rattle.span_joins.proofs.SweepLaws.{pairs_none, pairs_beyond}
use Rattle.span_joins.proofs.meet.next_turn.Goals as goal

pub returns-in-Beyond-clause-alone_pairs : goal.returns-in-Beyond-clause-alone_pairs
returns-in-Beyond-clause-alone_pairs g c _ rise known =
    let left : Entry = entry_at c.args.lefts c.args.i in
    let rights = entries_of c.args.rights in
    let j = c.args.j in
    let right : Entry = entry_at c.args.rights j in
    let a = extent_of c.in-Some.left in
    let at = c.in-Some.ensures.span in
    let below : j < length rights = omega (arith, c.requires.right_in_list, c.if-j-len.false, c.len.ensures) in
    let answer = c.in-Beyond.ensures.answer ∙ ap (answer_at OverlapsFromLeft a) c.span-2.ensures.span in
    ap (λ (o : Option Extent). pairs_from OverlapsFromLeft o left.values rights) (sym at)
    ∙ sym (pairs_beyond OverlapsFromLeft a left.values rights j right below (get_or_default rights j no_entry right below) rise answer)
    ∙ pairs_none OverlapsFromLeft a left.values rights j (known a (sym at))
